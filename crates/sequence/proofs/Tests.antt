-- Tests of numbers from facts: what `search tests` rewrites a goal by.
use mathlib.Core.Path.{◌≡◌, refl}
use mathlib.Core.Bool.{Bool, true, false, ◌&&◌, ◌||◌}
use mathlib.Core.Logic.{◌⊎◌, inl, inr}
use borrow.Author.Tests.{lt-ltb, le-ltb, le-leb, lt-leb, eq-eqb, ne_eqb}

pub ruleset tests = (tt, lt-ltb, le-ltb, le-leb, lt-leb, eq-eqb, ne_eqb)

-- both tests hold where their conjunction does
pub both_true : (a b : Bool) → (a && b) ≡ true → (a ≡ true) × (b ≡ true)
both_true true b e = (refl, e)
both_true false b e = let z : false ≡ true = e in (e, cc)

-- one of two tests holds where their disjunction does
pub either_true : (a b : Bool) → (a || b) ≡ true → (a ≡ true) ⊎ (b ≡ true)
either_true true b e = inl refl
either_true false b e = inr e

-- a test is true or false
pub data Either (b : Bool) : Type 0 where
  yes! : b ≡ true → Either b
  no! : b ≡ false → Either b

pub which : (b : Bool) → Either b
which true = yes! refl
which false = no! refl
