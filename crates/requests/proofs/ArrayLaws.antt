-- The laws that join an array with a count to the list that it stands for, and to the list that is laid out again.
use Prim.Native.Nat.{ℕ, zero, suc, ◌+◌, ◌<◌, ◌≤◌, min}
use mathlib.Core.Bool.{Bool, true, false}
use mathlib.Core.List.{List, [], ◌∷◌, ◌++◌, map}
use mathlib.Core.Path.{◌≡◌, refl, sym, ap, ◌∙◌}
use native.Mathlib.Omega.{arith}
use native.Mathlib.Nat.{le_of_suc-le-suc, not-suc-le-zero}
use native.Mathlib.Numerals.{add-one}
use lib.ListN.{length, take, drop, get_or, set, length-take, length-map, get_or-eq_default, drop_of_length-le}
use lib.Seq.{drop-cons}
use Rattle.std.proofs.lemmas.List.{take_min}
use Rattle.rules.specs.Rules.Places.{all, mod_at}
use Rattle.rules.specs.Rules.Bytes.{padded}
use Rattle.requests.specs.Views.{viewed, left}

pub padded-front : {B : Type 0} (b : B) (m : ℕ) (l : List B) → length l ≤ m → take (length l) (padded b m l) ≡ l
unfolding padded
padded-front b m [] h = refl
padded-front b zero (x ∷ l) h = absurd (not-suc-le-zero h)
padded-front b (suc m) (x ∷ l) h = ap (λ r. x ∷ r) (padded-front b m l (le_of_suc-le-suc h))

pub padded-snoc : {B : Type 0} (b : B) (m : ℕ) (l : List B) (x : B) → length l < m → set (padded b m l) (length l) x ≡ padded b m (l ++ (x ∷ []))
unfolding padded
padded-snoc b zero l x h = absurd (not-suc-le-zero h)
padded-snoc b (suc m) [] x h = refl
padded-snoc b (suc m) (y ∷ l) x h = ap (λ r. y ∷ r) (padded-snoc b m l x (le_of_suc-le-suc h))

module _ {A B : Type 0} (v : A → B) where
  pub viewed-length : (n : ℕ) (l : List A) → length (viewed v n l) ≡ min n (length l)
  unfolding viewed
  viewed-length n l = simp (length-map, length-take)

  -- a store in the array is a change of the list, wherever the place is
  pub viewed-set : (n : ℕ) (l : List A) (i : ℕ) (x : A) → viewed v n (set l i x) ≡ mod_at (λ y. v x) i (viewed v n l)
  unfolding viewed
  viewed-set zero l i x = refl
  viewed-set (suc n) [] i x = refl
  viewed-set (suc n) (y ∷ l) zero x = refl
  viewed-set (suc n) (y ∷ l) (suc i) x = ap (λ r. v y ∷ r) (viewed-set n l i x)

  pub viewed-at : (n : ℕ) (l : List A) (i : ℕ) (d : A) (z : B) → i < n → i < length l → get_or (viewed v n l) i z ≡ v (get_or l i d)
  unfolding viewed
  viewed-at zero l i d z h k = absurd (not-suc-le-zero h)
  viewed-at (suc n) [] i d z h k = absurd (not-suc-le-zero k)
  viewed-at (suc n) (y ∷ l) zero d z h k = refl
  viewed-at (suc n) (y ∷ l) (suc i) d z h k = viewed-at n l i d z (le_of_suc-le-suc h) (le_of_suc-le-suc k)

  pub viewed-past : (n : ℕ) (l : List A) (i : ℕ) (z : B) → min n (length l) ≤ i → get_or (viewed v n l) i z ≡ z
  viewed-past n l i z h = get_or-eq_default (viewed v n l) z {n = i} (omega (arith, viewed-length n l))

  -- what is left from a place on: the steps of every scan, upward or downward
  pub left-all : (n : ℕ) (l : List A) → left v n l 0 ≡ viewed v n l
  unfolding left
  left-all n l = refl

  pub left-more : (n : ℕ) (l : List A) (i : ℕ) (d : A) → i < n → i < length l → left v n l i ≡ v (get_or l i d) ∷ left v n l (i + 1)
  unfolding left
  left-more n l i d h k =
      let e : drop i (viewed v n l) ≡ get_or (viewed v n l) i (v d) ∷ drop (suc i) (viewed v n l) = drop-cons (viewed v n l) i (v d) (omega (arith, viewed-length n l)) in
      rw (add-one i) (e ∙ ap (λ z. z ∷ drop (suc i) (viewed v n l)) (viewed-at n l i d (v d) h k))

  pub left-none : (n : ℕ) (l : List A) (i : ℕ) → min n (length l) ≤ i → left v n l i ≡ []
  unfolding left
  left-none n l i h = drop_of_length-le (viewed v n l) {i = i} (omega (arith, viewed-length n l))

  -- a count past the array's end reads the whole array
  pub viewed-min : (n : ℕ) (l : List A) → viewed v (min n (length l)) l ≡ viewed v n l
  unfolding viewed
  viewed-min n l = rw take_min

  -- one element more
  pub viewed-more : (n : ℕ) (l : List A) (d : A) → n < length l → viewed v (n + 1) l ≡ viewed v n l ++ (v (get_or l n d) ∷ [])
  unfolding viewed
  viewed-more n l d h = rw (add-one n) (go n l h)
    where
      go : (n : ℕ) (l : List A) → n < length l → viewed v (suc n) l ≡ viewed v n l ++ (v (get_or l n d) ∷ [])
      go n [] h = absurd (not-suc-le-zero h)
      go zero (x ∷ l) h = refl
      go (suc n) (x ∷ l) h = ap (λ r. v x ∷ r) (go n l (le_of_suc-le-suc h))

  -- the loop that lays an array out: one store more
  pub laid_more : (b : B) (m : ℕ) (n : ℕ) (l : List A) (d : A) → n < m → n < length l → set (padded b m (viewed v n l)) n (v (get_or l n d)) ≡ padded b m (viewed v (n + 1) l)
  laid_more b m n l d h k =
      let e : length (viewed v n l) ≡ n = omega (arith, viewed-length n l) in
      rw (viewed-more n l d k) (ap (λ j. set (padded b m (viewed v n l)) j (v (get_or l n d))) (sym e) ∙ padded-snoc b m (viewed v n l) (v (get_or l n d)) (omega arith))

  -- a store that changes nothing of what is seen
  pub viewed-same : (n : ℕ) (l : List A) (i : ℕ) (x d : A) → v x ≡ v (get_or l i d) → viewed v n (set l i x) ≡ viewed v n l
  unfolding viewed
  viewed-same zero l i x d h = refl
  viewed-same (suc n) [] i x d h = refl
  viewed-same (suc n) (y ∷ l) zero x d h = ap (λ z. z ∷ map v (take n l)) h
  viewed-same (suc n) (y ∷ l) (suc i) x d h = ap (λ r. v y ∷ r) (viewed-same n l i x d h)

  -- one element more, stored at the end
  pub viewed-push : (n : ℕ) (l : List A) (x : A) → n < length l → viewed v (n + 1) (set l n x) ≡ viewed v n l ++ (v x ∷ [])
  unfolding viewed
  viewed-push n l x h = rw (add-one n) (go n l h)
    where
      go : (n : ℕ) (l : List A) → n < length l → map v (take (suc n) (set l n x)) ≡ map v (take n l) ++ (v x ∷ [])
      go n [] h = absurd (not-suc-le-zero h)
      go zero (y ∷ l) h = refl
      go (suc n) (y ∷ l) h = ap (λ r. v y ∷ r) (go n l (le_of_suc-le-suc h))

pub mod_at-past : {A : Type 0} (f : A → A) (i : ℕ) (l : List A) → length l ≤ i → mod_at f i l ≡ l
mod_at-past f i [] h = refl
mod_at-past f zero (x ∷ l) h = absurd (not-suc-le-zero h)
mod_at-past f (suc i) (x ∷ l) h = ap (λ r. x ∷ r) (mod_at-past f i l (le_of_suc-le-suc h))

-- upward: a test of every element
module _ {A B : Type 0} (v : A → B) (f : B → Bool) (n : ℕ) (l : List A) (i : ℕ) (d : A) (h : i < n) (k : i < length l) where
  pub all-on : f (v (get_or l i d)) ≡ true → all f (left v n l i) ≡ all f (left v n l (i + 1))
  all-on t = rw (left-more v n l i d h k, t)

  pub all-off : f (v (get_or l i d)) ≡ false → all f (left v n l i) ≡ false
  all-off t = rw (left-more v n l i d h k, t)
