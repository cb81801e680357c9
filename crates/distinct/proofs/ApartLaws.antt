-- A pass over all of a list, and "it stands there".
use Prim.Native.Nat.{ℕ}
use mathlib.Core.Bool.{Bool, ◌||◌}
use mathlib.Core.List.{List, [], ◌∷◌}
use mathlib.Core.Path.{◌≡◌, sym, ◌∙◌}
use lib.Dec.{eqb}
use Rattle.std.proofs.Math.Bool.{or-false, or_assoc}
use Rattle.std.specs.List.{fold}
use Rattle.rules.specs.Rules.Places.{elem}

pub fold-among : (x : ℕ) (b : Bool) (l : List ℕ) → fold (λ b y. b || eqb x y) b l ≡ (b || elem eqb x l)
fold-among x b [] = sym (or-false b)
fold-among x b (y ∷ l) = fold-among x (b || eqb x y) l ∙ or_assoc b (eqb x y) (elem eqb x l)
