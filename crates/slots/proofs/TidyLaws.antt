-- An array laid out anew in place, from its last element to its first; a digit of a number laid out anew.
use Prim.Native.Nat.{ℕ, zero, suc, ◌-◌, ◌<◌, ◌≤◌}
use mathlib.Core.Bool.{Bool, true, false, cond}
use mathlib.Core.List.{List, [], ◌∷◌}
use mathlib.Core.Path.{◌≡◌, refl, ap, ◌∙◌}
use native.Mathlib.Nat.{le_of_suc-le-suc, not-suc-le-zero}
use native.Mathlib.Omega.{arith}
use lib.Dec.{ltb}
use lib.ListN.{length, get_or, set}
use Rattle.rules.specs.Rules.Bytes.{padded}
use Rattle.requests.specs.Views.{viewed, itself}
use Rattle.requests.proofs.ArrayLaws.{viewed-at, viewed-past}
use borrow.Author.Tests.{ltb-true, ltb-false}

module _ {A : Type 0} (f : A → A) (b : A) where
  -- the array l of which the first n are in use, laid out anew from the place i on
  unfoldable pub done_from : ℕ → List A → ℕ → List A
  done_from n [] i = []
  done_from zero (x ∷ l) zero = b ∷ done_from zero l zero
  done_from (suc n) (x ∷ l) zero = f x ∷ done_from n l zero
  done_from zero (x ∷ l) (suc i) = x ∷ done_from zero l i
  done_from (suc n) (x ∷ l) (suc i) = x ∷ done_from n l i

  pub all_done : (n : ℕ) (l : List A) → done_from n l 0 ≡ padded b (length l) (viewed f n l)
  unfolding done_from padded viewed
  all_done n [] = refl
  all_done zero (x ∷ l) = ap (λ r. b ∷ r) (all_done zero l)
  all_done (suc n) (x ∷ l) = ap (λ r. f x ∷ r) (all_done n l)

  at : (n : ℕ) (l : List A) (i : ℕ) (d : A) → get_or (done_from n l (suc i)) i d ≡ get_or l i d
  unfolding done_from
  at n [] i d = refl
  at zero (x ∷ l) zero d = refl
  at zero (x ∷ l) (suc i) d = at zero l i d
  at (suc n) (x ∷ l) zero d = refl
  at (suc n) (x ∷ l) (suc i) d = at n l i d

  used : (n : ℕ) (l : List A) (i : ℕ) (d : A) → i < n → i < length l → set (done_from n l (suc i)) i (f (get_or l i d)) ≡ done_from n l i
  unfolding done_from
  used n [] i d h k = absurd (not-suc-le-zero k)
  used zero (x ∷ l) i d h k = absurd (not-suc-le-zero h)
  used (suc n) (x ∷ l) zero d h k = refl
  used (suc n) (x ∷ l) (suc i) d h k = ap (λ r. x ∷ r) (used n l i d (le_of_suc-le-suc h) (le_of_suc-le-suc k))

  module _ (n : ℕ) (l : List A) (i : ℕ) (z : 0 < i) where
    -- what is yet to come stands as it stood
    pub done_at : (d : A) → get_or (done_from n l i) (i - 1) d ≡ get_or l (i - 1) d
    done_at d = let s : suc (i - 1) ≡ i = omega arith in rw s at (at n l (i - 1) d)

    pub done-used : (d : A) → i ≤ n → i ≤ length l → set (done_from n l i) (i - 1) (f (get_or l (i - 1) d)) ≡ done_from n l (i - 1)
    done-used d h k = let s : suc (i - 1) ≡ i = omega arith in rw s at (used n l (i - 1) d (omega arith) (omega arith))

-- a digit of a number laid out anew
padded-at : (m : ℕ) (l : List ℕ) (i : ℕ) → i < m → get_or (padded 0 m l) i 0 ≡ get_or l i 0
unfolding padded
padded-at zero l i h = absurd (not-suc-le-zero h)
padded-at (suc m) [] zero h = refl
padded-at (suc m) [] (suc i) h = padded-at m [] i (le_of_suc-le-suc h)
padded-at (suc m) (x ∷ l) zero h = refl
padded-at (suc m) (x ∷ l) (suc i) h = padded-at m l i (le_of_suc-le-suc h)

pub digit-at : (m n : ℕ) (l : List ℕ) (i : ℕ) → length l ≡ m → i < m → get_or (padded 0 m (viewed itself n l)) i 0 ≡ cond (ltb i n) (get_or l i 0) 0
digit-at m n l i e h = padded-at m (viewed itself n l) i h ∙ go (ltb i n) refl
  where
    go : (b : Bool) → ltb i n ≡ b → get_or (viewed itself n l) i 0 ≡ cond b (get_or l i 0) 0
    go true t = viewed-at itself n l i 0 0 (ltb-true i n t) (omega arith)
    go false t = viewed-past itself n l i 0 (omega (arith, ltb-false i n t))
