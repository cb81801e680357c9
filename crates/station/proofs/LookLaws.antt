-- What is seen of whole slices, and of a station by the slices of its arrays.
use Prim.Native.Nat.{ℕ, ◌+◌, ◌-◌, ◌<◌, ◌≤◌, min}
use mathlib.Core.Bool.{Bool, true, false, ◌&&◌}
use mathlib.Core.List.{List, map}
use mathlib.Core.Path.{◌≡◌, refl, sym, ap, ◌∙◌}
use native.Mathlib.Omega.{arith}
use lib.ListN.{length, get_or, take}
use lib.Seq.{take_all}
use Rattle.rules.specs.Rules.Places.{all}
use Rattle.requests.specs.Views.{viewed, left, itself}
use Rattle.requests.proofs.ArrayLaws.{left-all, left-more, viewed-min}
use Rattle.slots.proofs.ImageLaws.{map-itself}

pub viewed-all : {A B : Type 0} (v : A → B) (l : List A) → viewed v (length l) l ≡ map v l
unfolding viewed
viewed-all v l = ap (map v) (take_all (length l) l (omega arith))

pub itself-all : {A : Type 0} (l : List A) → viewed itself (length l) l ≡ l
itself-all l = viewed-all itself l ∙ map-itself l

turned : (a b : Bool) → (a && b) ≡ (b && a)
turned true true = refl
turned true false = refl
turned false true = refl
turned false false = refl

-- a test of every record, from the last to the first
module _ {A : Type 0} (f : A → Bool) (l : List A) where
  pub one-tested : (i : ℕ) (d : A) → 0 < i → i ≤ length l → {s : Bool} → s ≡ all f (left itself (length l) l i) → (s && f (get_or l (i - 1) d)) ≡ all f (left itself (length l) l (i - 1))
  one-tested i d p h {s} e =
      let j : i - 1 + 1 ≡ i = omega arith in
      turned s (f (get_or l (i - 1) d))
      ∙ ap (λ z. f (get_or l (i - 1) d) && z) (e ∙ ap (λ z. all f (left itself (length l) l z)) (sym j))
      ∙ ap (all f) (sym (left-more itself (length l) l (i - 1) d (omega arith) (omega arith)))

  pub all-tested : (i : ℕ) → i ≡ 0 → {s : Bool} → s ≡ all f (left itself (length l) l i) → s ≡ all f l
  all-tested i e h = h ∙ ap (λ z. all f (left itself (length l) l z)) e ∙ ap (all f) (left-all itself (length l) l ∙ itself-all l)

-- the slice of as many as are in use
pub seen-slice : {A B : Type 0} (v : A → B) (n m k : ℕ) (l : List A) → length l ≡ k → m ≡ min n k → map v (take m l) ≡ viewed v n l
unfolding viewed
seen-slice v n m k l h e = ap (λ z. map v (take z l)) (e ∙ ap (min n) (sym h)) ∙ viewed-min v n l

pub taken : {A : Type 0} (n m k : ℕ) (l : List A) → length l ≡ k → m ≡ min n k → take m l ≡ viewed itself n l
taken n m k l h e = sym (map-itself (take m l)) ∙ seen-slice itself n m k l h e

pub four-parts : (h a b c d : Bool) → (((h && a) && b) && (c && d)) ≡ (d && (c && (b && (a && h))))
four-parts h a b c d =
    turned ((h && a) && b) (c && d)
    ∙ ap (λ z. z && ((h && a) && b)) (turned c d)
    ∙ behind d c ((h && a) && b)
    ∙ ap (λ z. d && (c && z)) (turned (h && a) b ∙ ap (λ z. b && z) (turned h a))
  where
    behind : (a b x : Bool) → ((a && b) && x) ≡ (a && (b && x))
    behind true b x = refl
    behind false b x = refl
