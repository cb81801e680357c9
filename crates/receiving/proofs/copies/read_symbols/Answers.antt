use mathlib.Core.Path.{◌≡◌, sym, ◌∙◌}
use native.Mathlib.Omega.{arith}
use Rattle.sequence.specs.Figures.{longest}
use Rattle.sequence.proofs.Paste.{front-turn, paste-whole}
use Rattle.transmission.specs.Phasing.{characters_of, heard}
use Rattle.transmission.specs.Copies.{symbols_from}
use Rattle.transmission.proofs.SymbolLaws.{symbols-length, symbol-there}
use Rattle.receiving.proofs.copies.read_symbols.Goals as goal

pub loop-k-preserved : goal.loop-k-preserved
loop-k-preserved c = let s = c.args in
    let l = c.loop-k in
    let t = heard (characters_of s.characters.now) in
    let m = symbols-length t s.start in
    rw (l.invariant, c.symbol.ensures ∙ sym (symbol-there t s.start l.k c.loop-k-test.true))
    (front-turn _ (symbols_from t s.start) l.k (omega arith) (omega arith))

pub returns : goal.returns
returns c = let s = c.args in
    let e : c.loop-k.k ≡ longest = omega arith in
    rw (c.loop-k.invariant, e)
    (paste-whole s.symbols.now _ longest (symbols-length (heard (characters_of s.characters.now)) s.start) c.told-symbols)
