use Prim.Native.Nat.{◌+◌}
use mathlib.Core.List.{[], ◌∷◌}
use borrow.Author.Tests.{ne_eqb}
use Rattle.transmission.specs.Phasing.{characters_of, heard}
use Rattle.transmission.specs.Copies.{symbol_at}
use Rattle.transmission.proofs.SymbolLaws.{good-of-both}
use Rattle.receiving.proofs.copies.Heard.format.Goals as goal

pub returns-then-symbol : goal.returns-then-symbol
unfolding symbol_at
returns-then-symbol c = let s = c.args in
    let t = heard (characters_of s.self.now.characters.now) in
    let e = good-of-both t ((s.start + 12) ∷ (s.start + 14) ∷ []) ((s.start + 17) ∷ (s.start + 19) ∷ []) in
    rw (e, ← c.first_good-symbol.ensures, c.if-symbol.true) c.first_good.ensures

pub returns : goal.returns
unfolding symbol_at
returns c = let s = c.args in
    let t = heard (characters_of s.self.now.characters.now) in
    let e = good-of-both t ((s.start + 12) ∷ (s.start + 14) ∷ []) ((s.start + 17) ∷ (s.start + 19) ∷ []) in
    rw (e, ← c.first_good-symbol.ensures, ne_eqb _ _ c.if-symbol.false)
