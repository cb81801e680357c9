-- The text of a number is decimal, without a 0 before it, and says that number.
use mathlib.Core.Bool.{Bool, true, false, cond}
use mathlib.Core.List.{List, [], ◌∷◌}
use mathlib.Core.Path.{◌≡◌, refl, ◌∙◌}
use Prim.Native.Nat.{ℕ, ◌+◌, ◌-◌, ◌*◌, ◌/◌, ◌%◌, ◌≤◌}
use native.Mathlib.Omega.{arith}
use lib.Dec.{eqb}
use borrow.Author.Tests.{le-leb, eqb-true}
use Rattle.sequence.proofs.Tests.{both_true, Either, yes!, no!, which}
use Rattle.rules.specs.Rules.Places.{all}
use Rattle.lines.specs.Decimal.{is_digit, is_decimal, value_of}
use Rattle.printing.specs.Texts.{ten_digits, shortened, decimal}
use Rattle.printing.specs.Statement.{DecimalSaysIt}

-- ── zeros before a number ────────────────────────────────────────────────────

shortened-digits : (l : List ℕ) → is_decimal l ≡ true → is_decimal (shortened l) ≡ true
unfolding is_decimal shortened
shortened-digits [] h = h
shortened-digits (d ∷ []) h = h
shortened-digits (d ∷ e ∷ l) h = go (eqb d 48) (shortened-digits (e ∷ l) (both_true (is_digit d) (all is_digit (e ∷ l)) h).1)
  where
    go : (b : Bool) → is_decimal (shortened (e ∷ l)) ≡ true → is_decimal (cond b (shortened (e ∷ l)) (d ∷ e ∷ l)) ≡ true
    go true r = r
    go false r = h

shortened-twice : (l : List ℕ) → shortened (shortened l) ≡ shortened l
unfolding shortened
shortened-twice [] = refl
shortened-twice (d ∷ []) = refl
shortened-twice (d ∷ e ∷ l) = go (which (eqb d 48)) (shortened-twice (e ∷ l))
  where
    go : Either (eqb d 48) → shortened (shortened (e ∷ l)) ≡ shortened (e ∷ l) → shortened (cond (eqb d 48) (shortened (e ∷ l)) (d ∷ e ∷ l)) ≡ cond (eqb d 48) (shortened (e ∷ l)) (d ∷ e ∷ l)
    go (yes! h) r = rw h r
    go (no! h) r = rw (h, h) refl

value-shortened : (l : List ℕ) → value_of (shortened l) ≡ value_of l
unfolding value_of shortened
value-shortened [] = refl
value-shortened (d ∷ []) = refl
value-shortened (d ∷ e ∷ l) = go (which (eqb d 48)) (value-shortened (e ∷ l))
  where
    go : Either (eqb d 48) → value_of (shortened (e ∷ l)) ≡ value_of (e ∷ l) → value_of (cond (eqb d 48) (shortened (e ∷ l)) (d ∷ e ∷ l)) ≡ value_of (d ∷ e ∷ l)
    go (yes! h) r =
        let z : (d - 48) * 10 + (e - 48) ≡ e - 48 = omega (arith, eqb-true d 48 h) in
        rw (h, z) r
    go (no! h) r = rw h refl

-- ── ten digits ───────────────────────────────────────────────────────────────

digit : (n : ℕ) → is_digit (48 + n % 10) ≡ true
unfolding is_digit
digit n = rw (le-leb 48 (48 + n % 10) (omega arith), le-leb (48 + n % 10) 57 (omega arith))

ten-digits : (n : ℕ) → is_decimal (ten_digits n) ≡ true
unfolding is_decimal ten_digits
ten-digits n =
    rw (digit (n / 1000000000), digit (n / 100000000), digit (n / 10000000), digit (n / 1000000), digit (n / 100000), digit (n / 10000), digit (n / 1000), digit (n / 100), digit (n / 10), digit n)

-- what the digits up to a place say, and one digit more
more : (v d w : ℕ) → v * 10 + d ≡ w → v * 10 + (48 + d - 48) ≡ w
more v d w h = omega arith

ten-value : (n : ℕ) → n ≤ 4294967295 → value_of (ten_digits n) ≡ n
unfolding value_of ten_digits
ten-value n h =
    let a : 48 + n / 1000000000 % 10 - 48 ≡ n / 1000000000 = omega arith in
    let b = more (n / 1000000000) (n / 100000000 % 10) (n / 100000000) (omega arith) in
    let c = more (n / 100000000) (n / 10000000 % 10) (n / 10000000) (omega arith) in
    let d = more (n / 10000000) (n / 1000000 % 10) (n / 1000000) (omega arith) in
    let e = more (n / 1000000) (n / 100000 % 10) (n / 100000) (omega arith) in
    let f = more (n / 100000) (n / 10000 % 10) (n / 10000) (omega arith) in
    let g = more (n / 10000) (n / 1000 % 10) (n / 1000) (omega arith) in
    let i = more (n / 1000) (n / 100 % 10) (n / 100) (omega arith) in
    let j = more (n / 100) (n / 10 % 10) (n / 10) (omega arith) in
    let k = more (n / 10) (n % 10) n (omega arith) in
    rw (a, b, c, d, e, f, g, i, j, k)

pub decimal-says-it : DecimalSaysIt
unfolding decimal
decimal-says-it n h =
    (shortened-digits (ten_digits n) (ten-digits n), shortened-twice (ten_digits n), value-shortened (ten_digits n) ∙ ten-value n h)
