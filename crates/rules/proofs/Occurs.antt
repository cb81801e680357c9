-- No element stands twice in a list, by counting: of any elements, with any test of sameness.
use mathlib.Core.Path.{◌≡◌, refl}
use mathlib.Core.List.{List, [], ◌∷◌, ◌++◌}
use mathlib.Core.Bool.{Bool, true, false, not}
use Prim.Native.Nat.{ℕ, ◌+◌, ◌≤◌}
use native.Mathlib.Omega.{arith}
use borrow.Author.Tests.{not-true}
use Rattle.rules.specs.Rules.Places.{elem, distinct}
use Rattle.sequence.proofs.Tests.{both_true}
use Rattle.rules.proofs.PlaceLaws.{or-false}

abbrev pub bit : Bool → ℕ
bit true = 1
bit false = 0

module _ {A : Type 0} (same : A → A → Bool) where
  -- how often x stands there
  abbrev pub occurs : A → List A → ℕ
  occurs x [] = 0
  occurs x (y ∷ l) = bit (same x y) + occurs x l

  pub occurs-append : (x : A) (a b : List A) → occurs x (a ++ b) ≡ occurs x a + occurs x b
  occurs-append x [] b = omega arith
  occurs-append x (y ∷ a) b = omega (arith, occurs-append x a b)

  elem-occurs : (x : A) (l : List A) → elem same x l ≡ false → occurs x l ≡ 0
  elem-occurs x [] h = refl
  elem-occurs x (y ∷ l) h = let w = or-false (same x y) (elem same x l) h in rw (w.0, elem-occurs x l w.1) refl

  occurs-elem : (x : A) (l : List A) → occurs x l ≡ 0 → elem same x l ≡ false
  occurs-elem x [] h = refl
  occurs-elem x (y ∷ l) h = go (same x y) refl (λ k. occurs-elem x l k)
    where
      go : (b : Bool) → same x y ≡ b → (occurs x l ≡ 0 → elem same x l ≡ false) → elem same x (y ∷ l) ≡ false
      go true e ih = let k : 1 + occurs x l ≡ 0 = rw e at h in absurd (omega arith)
      go false e ih = let k : 0 + occurs x l ≡ 0 = rw e at h in rw e (ih (omega arith))

  pub distinct-occurs : ((x y : A) → same x y ≡ true → x ≡ y) → (x : A) (l : List A) → distinct same l ≡ true → occurs x l ≤ 1
  distinct-occurs equal x [] h = omega arith
  distinct-occurs equal x (y ∷ l) h = let w = both_true (not (elem same y l)) (distinct same l) h in go (same x y) refl (elem-occurs y l (not-true (elem same y l) w.0)) (distinct-occurs equal x l w.1)
    where
      go : (b : Bool) → same x y ≡ b → occurs y l ≡ 0 → occurs x l ≤ 1 → bit (same x y) + occurs x l ≤ 1
      go true e k ih = rw (e, equal x y e) (omega arith)
      go false e k ih = rw e (omega arith)

  pub occurs-distinct : ((x : A) → same x x ≡ true) → (l : List A) → ((x : A) → occurs x l ≤ 1) → distinct same l ≡ true
  occurs-distinct itself [] h = refl
  occurs-distinct itself (y ∷ l) h = let k : 1 + occurs y l ≤ 1 = rw (itself y) at (h y) in rw (occurs-elem y l (omega arith), occurs-distinct itself l (λ x. tail (bit (same x y)) (occurs x l) (h x))) refl
    where
      tail : (a b : ℕ) → a + b ≤ 1 → b ≤ 1
      tail a b p = omega arith
