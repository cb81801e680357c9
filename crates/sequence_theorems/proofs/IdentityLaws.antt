-- An identity's five pairs and its number: each gives the other back.
use Prim.Native.Nat.{ℕ, ◌+◌, ◌*◌, ◌/◌, ◌%◌, ◌≤◌}
use mathlib.Core.Path.{◌≡◌}
use mathlib.Core.Bool.{true}
use mathlib.Core.List.{List, ◌∷◌}
use native.Mathlib.Omega.{arith}
use lib.Dec.{leb}
use borrow.Author.Tests.{le-leb, eq-eqb, leb-true, eqb-true}
use Rattle.sequence.specs.Identity.{identity_of, identity_pairs, identity_symbols}
use Rattle.sequence.proofs.Tests.{both_true}

-- `omega` takes too long at five quotients and remainders at once: each is split off by itself, and the sum is put together over plain unknowns
sum : (n a b c d q r s z t : ℕ) → n ≡ q * 10 + z → q ≡ r * 100 + d → r ≡ s * 100 + c → s ≡ a * 100 + b → t ≡ z
    → a * 10000000 + b * 100000 + c * 1000 + d * 10 + t ≡ n
sum n a b c d q r s z t e f g h k = omega arith

split-10 : (n : ℕ) → n ≡ n / 10 * 10 + n % 10
split-10 n = omega arith

split-1000 : (n : ℕ) → n / 10 ≡ n / 1000 * 100 + n / 10 % 100
split-1000 n = omega arith

split-100000 : (n : ℕ) → n / 1000 ≡ n / 100000 * 100 + n / 1000 % 100
split-100000 n = omega arith

split-10000000 : (n : ℕ) → n / 100000 ≡ n / 10000000 * 100 + n / 100000 % 100
split-10000000 n = omega arith

tens : (z : ℕ) → z * 10 / 10 ≡ z
tens z = omega arith

pub identity-value : (n : ℕ) → identity_of (n / 10000000) (n / 100000 % 100) (n / 1000 % 100) (n / 10 % 100) (n % 10 * 10) ≡ n
unfolding identity_of
identity-value n = sum n _ _ _ _ (n / 10) (n / 1000) (n / 100000) (n % 10) _ (split-10 n) (split-1000 n) (split-100000 n) (split-10000000 n) (tens (n % 10))

pub identity-pairs : (n : ℕ) → n ≤ 999999999 → identity_pairs (n / 10000000) (n / 100000 % 100) (n / 1000 % 100) (n / 10 % 100) (n % 10 * 10) ≡ true
unfolding identity_pairs
identity-pairs n h =
    rw (
      le-leb (n / 10000000) 99 (omega arith),
      le-leb (n / 100000 % 100) 99 (omega arith),
      le-leb (n / 1000 % 100) 99 (omega arith),
      le-leb (n / 10 % 100) 99 (omega arith),
      le-leb (n % 10 * 10) 99 (omega arith),
      eq-eqb (n % 10 * 10 % 10) 0 (omega arith),
    )

-- five pairs
pub record Pairs (a b c d e : ℕ) : Type 0 where
  pub a≤ : a ≤ 99
  pub b≤ : b ≤ 99
  pub c≤ : c ≤ 99
  pub d≤ : d ≤ 99
  pub e≤ : e ≤ 99
  pub last : e % 10 ≡ 0

pub pairs : (a b c d e : ℕ) → identity_pairs a b c d e ≡ true → Pairs a b c d e
unfolding identity_pairs
pairs a b c d e t =
    let h = both_true (leb a 99) _ t in
    let i = both_true (leb b 99) _ h.1 in
    let j = both_true (leb c 99) _ i.1 in
    let k = both_true (leb d 99) _ j.1 in
    let l = both_true (leb e 99) _ k.1 in
    record {
      a≤ = leb-true _ _ h.0;
      b≤ = leb-true _ _ i.0;
      c≤ = leb-true _ _ j.0;
      d≤ = leb-true _ _ k.0;
      e≤ = leb-true _ _ l.0;
      last = eqb-true _ _ l.1;
    }

pub identity-back : (a b c d e : ℕ) (l : List ℕ) → identity_pairs a b c d e ≡ true → identity_symbols (identity_of a b c d e) l ≡ a ∷ b ∷ c ∷ d ∷ e ∷ l
unfolding identity_of
identity-back a b c d e l t =
    let p = pairs a b c d e t in
    let n = a * 10000000 + b * 100000 + c * 1000 + d * 10 + e / 10 in
    let ea : n / 10000000 ≡ a = omega arith in
    let eb : n / 100000 % 100 ≡ b = omega arith in
    let ec : n / 1000 % 100 ≡ c = omega arith in
    let ed : n / 10 % 100 ≡ d = omega arith in
    let ee : n % 10 * 10 ≡ e = omega arith in
    rw (ea, eb, ec, ed, ee)
