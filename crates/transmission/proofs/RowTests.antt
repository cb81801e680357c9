-- A test holds in a row of places exactly where it holds at each of them.
use Prim.Native.Nat.{ℕ, zero, suc, ◌+◌, ◌-◌, ◌≤◌, ◌<◌}
use mathlib.Core.Path.{◌≡◌, refl, sym, ap, ◌∙◌}
use mathlib.Core.Bool.{Bool, true, false}
use native.Mathlib.Omega.{arith}
use native.Mathlib.Nat.{add-zero, zero-add, add-suc, suc-add}
use Rattle.sequence.proofs.Tests.{both_true, Either, yes!, no!, which}
use Rattle.transmission.specs.Reading.{all_in_row}

holds-in-row : (test : ℕ → Bool) (k n : ℕ) → ((i : ℕ) → i < n → test (k + i) ≡ true) → all_in_row test k n ≡ true
holds-in-row test k zero h = refl
holds-in-row test k (suc n) h =
    rw (ap test (sym (add-zero k)) ∙ h 0 (omega arith))
    (holds-in-row test (suc k) n (λ i l. ap test (suc-add k i ∙ sym (add-suc k i)) ∙ h (suc i) (omega arith)))

row-holds : (test : ℕ → Bool) (k n i : ℕ) → all_in_row test k n ≡ true → i < n → test (k + i) ≡ true
row-holds test k zero i e h = absurd (omega arith)
row-holds test k (suc n) zero e h = ap test (add-zero k) ∙ (both_true (test k) (all_in_row test (suc k) n) e).0
row-holds test k (suc n) (suc i) e h =
    ap test (add-suc k i ∙ sym (suc-add k i)) ∙ row-holds test (suc k) n i (both_true (test k) (all_in_row test (suc k) n) e).1 (omega arith)

pub in_row : (test : ℕ → Bool) (k n i : ℕ) → all_in_row test k n ≡ true → k ≤ i → i < k + n → test i ≡ true
in_row test k n i e least most =
    let p : k + (i - k) ≡ i = omega arith in
    rw p at (row-holds test k n (i - k) e (omega arith))

-- in a row from 0 on
pub holds-from-0 : (test : ℕ → Bool) (n : ℕ) → ((i : ℕ) → i < n → test i ≡ true) → all_in_row test 0 n ≡ true
holds-from-0 test n h = holds-in-row test 0 n (λ i l. ap test (zero-add i) ∙ h i l)

pub fails-from-0 : (test : ℕ → Bool) (n i : ℕ) → i < n → test i ≡ false → all_in_row test 0 n ≡ false
fails-from-0 test n i h e = go (which (all_in_row test 0 n))
  where
    go : Either (all_in_row test 0 n) → all_in_row test 0 n ≡ false
    go (no! f) = f
    go (yes! f) = let z : true ≡ false = sym (in_row test 0 n i f (omega arith) (omega arith)) ∙ e in (cc)
