use mathlib.Core.Bool.{Bool, ◌&&◌}
use mathlib.Core.List.{List, [], ◌∷◌}
use mathlib.Core.Path.{◌≡◌, refl, ap, ◌∙◌}
use Prim.Native.Nat.{ℕ}
use Rattle.std.specs.List.{list_all}
use Rattle.std.proofs.Common.{rules, tests}
use Rattle.std.proofs.lemmas.Iterator.{YieldsList-from_slice}
use Rattle.std.proofs.lemmas.Iterator.Search.{all_from_yields_List}
use Rattle.rules.specs.Rules.Places.{all}
use Rattle.lines.specs.Lines.{is_symbol}
use Rattle.lines.proofs.commands.are_symbols.Goals as goal

-- std's test of a list is the rules' own
all-listed : (p : ℕ → Bool) (l : List ℕ) → list_all p l ≡ all p l
all-listed p [] = refl
all-listed p (x ∷ l) = ap (λ b. p x && b) (all-listed p l)

pub returns : goal.returns
returns c =
    all_from_yields_List is_symbol _ _ _ c.all.ensures.ran (YieldsList-from_slice c.args.numbers.now cc) (λ x b q k. search (rules, tests))
    ∙ all-listed is_symbol c.args.numbers.now
