-- The digits in use, and two numbers compared.
use Prim.Native.Nat.{ℕ, min}
use mathlib.Core.Bool.{◌&&◌}
use mathlib.Core.List.{List, [], ◌∷◌, map-id}
use mathlib.Core.Path.{◌≡◌, refl, sym, ap, ◌∙◌}
use denote.Enum.Bare.{sameb}
use lib.Dec.{eqb}
use lib.ListN.{length, take}
use lib.Pointwise.{pointwise}
use Rattle.sequence.specs.declared.Number.{Number}
use Rattle.rules.specs.Rules.Requests.{same_number, same_mode}
use Rattle.requests.specs.contracts.Mode.{the_type}
use Rattle.requests.specs.declared.Mode.{Mode}
use Rattle.requests.specs.declared.Mode.TheVariants.{Simplex, Duplex}
use Rattle.requests.specs.Views.{viewed, itself, digits_of, mode_of}
use Rattle.requests.proofs.ArrayLaws.{viewed-min}

pub by_digit : (x y : List ℕ) → pointwise eqb x y ≡ same_number x y
by_digit [] [] = refl
by_digit [] (y ∷ ys) = refl
by_digit (x ∷ xs) [] = refl
by_digit (x ∷ xs) (y ∷ ys) = ap (λ r. eqb x y && r) (by_digit xs ys)

-- they are the front of the array
pub digits-front : (n : Number) → length n.digits ≡ 16 → take (min n.count 16) n.digits ≡ digits_of n
unfolding digits_of viewed
digits-front n w = sym (map-id (take (min n.count 16) n.digits)) ∙ rw (← w) (viewed-min itself n.count n.digits)

-- modes compared as the derived equality does
pub modes : (a b : Mode) → sameb the_type a b ≡ same_mode (mode_of a) (mode_of b)
modes Simplex Simplex = refl
modes Simplex Duplex = refl
modes Duplex Simplex = refl
modes Duplex Duplex = refl
