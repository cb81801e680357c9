-- A table held to what it expects by a test, which computes quicker than the equation.
use mathlib.Core.Path.{◌≡◌, refl}
use mathlib.Core.Bool.{Bool, true, false, ◌&&◌}
use mathlib.Core.List.{List, [], ◌∷◌, map}
use lib.Dec.{eqb}
use borrow.Author.Tests.{eqb-true}
use Rattle.sequence.proofs.Tests.{both_true}
use Rattle.rules.specs.Tables.Cases.{Row}

abbrev alike : {A : Type 0} → (A → A → Bool) → List A → List A → Bool
alike t [] [] = true
alike t [] (y ∷ ys) = false
alike t (x ∷ xs) [] = false
alike t (x ∷ xs) (y ∷ ys) = t x y && alike t xs ys

alike_same : {A : Type 0} (t : A → A → Bool) → ((x y : A) → t x y ≡ true → x ≡ y) → (l m : List A) → alike t l m ≡ true → l ≡ m
alike_same t h [] [] e = refl
alike_same t h [] (y ∷ ys) e = cc
alike_same t h (x ∷ xs) [] e = cc
alike_same t h (x ∷ xs) (y ∷ ys) e = let p = both_true (t x y) (alike t xs ys) e in rw (h x y p.0, alike_same t h xs ys p.1)

abbrev held : Row → Bool
held r = alike (alike eqb) r.computed r.expected

abbrev held_all : List Row → Bool
held_all [] = true
held_all (r ∷ rs) = held r && held_all rs

pub as-expected : (rs : List Row) → held_all rs ≡ true → map (λ r. r.computed) rs ≡ map (λ r. r.expected) rs
as-expected [] e = refl
as-expected (r ∷ rs) e =
    let p = both_true (held r) (held_all rs) e in
    rw (alike_same (alike eqb) (alike_same eqb eqb-true) r.computed r.expected p.0, as-expected rs p.1)
