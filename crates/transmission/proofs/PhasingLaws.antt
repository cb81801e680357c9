-- What makes a start: how many phasing characters it needs, the RX character that every start has, and that none has more than fourteen.
use Prim.Native.Nat.{ℕ, suc, ◌+◌, ◌-◌, ◌*◌, ◌≤◌, ◌<◌}
use mathlib.Core.Path.{◌≡◌, ◌∙◌}
use mathlib.Core.Bool.{Bool, true, false, cond, ◌||◌, and-true, and-false, or-true, or-false}
use mathlib.Core.List.{List, [], ◌∷◌}
use native.Mathlib.Omega.{arith}
use lib.Dec.{leb, eqb}
use lib.ListN.{length, get_or, drop}
use borrow.Author.Tests.{le-leb, leb-true, leb-false, eqb-true}
use Rattle.sequence.proofs.Tests.{Either, yes!, no!, which}
use Rattle.characters.proofs.RowLaws.{at_place}
use Rattle.transmission.specs.Layout.{dx_phasing, rx_phasing}
use Rattle.transmission.specs.Phasing.{heard_at, in_place, dx_good, rx_good, is_phasing, phasing_at}
use Rattle.transmission.proofs.HeardLaws.{good-is-there}

-- ── "two DX and one RX, or one DX and two RX, or three RX", by the count of RX ─

module _ (dx : ℕ) where
  pub no-rx : is_phasing dx 0 ≡ false
  unfolding is_phasing
  no-rx = rw (and-false (leb 2 dx), and-false (leb 1 dx))

  pub one-rx : is_phasing dx 1 ≡ leb 2 dx
  unfolding is_phasing
  one-rx = rw (and-true (leb 2 dx), and-false (leb 1 dx), or-false (leb 2 dx))

  -- two DX are one and more
  pub two-rx : is_phasing dx 2 ≡ leb 1 dx
  unfolding is_phasing
  two-rx = rw (and-true (leb 2 dx), and-true (leb 1 dx), or-false (leb 1 dx)) (go (which (leb 2 dx)))
    where
      go : Either (leb 2 dx) → (leb 2 dx || leb 1 dx) ≡ leb 1 dx
      go (yes! e) = rw (e, le-leb 1 dx (omega (arith, leb-true 2 dx e)))
      go (no! e) = rw e

  pub three-rx : (rx : ℕ) → 3 ≤ rx → is_phasing dx rx ≡ true
  unfolding is_phasing
  three-rx rx h = rw (le-leb 3 rx h, or-true _, or-true _)

-- ── every start has an RX character in its place ─────────────────────────────

-- one of the symbols wanted, in its place from a place on
pub record Stands (t wanted : List ℕ) (place : ℕ) : Type 0 where
  pub number : ℕ
  pub is-wanted : number < length wanted
  pub there : heard_at t (place + 2 * number) ≡ get_or wanted number 0

one-stands : (t wanted : List ℕ) (place : ℕ) → 1 ≤ in_place t wanted place → Stands t wanted place
one-stands t [] place h = absurd (omega arith)
one-stands t (symbol ∷ wanted) place h = go (which (eqb (heard_at t place) symbol)) (one-stands t wanted (place + 2)) h
  where
    go : Either (eqb (heard_at t place) symbol) → (1 ≤ in_place t wanted (place + 2) → Stands t wanted (place + 2))
        → 1 ≤ in_place t (symbol ∷ wanted) place → Stands t (symbol ∷ wanted) place
    go (yes! e) later k =
        let f : place + 2 * 0 ≡ place = omega arith in
        record { number = 0; is-wanted = omega arith; there = rw f (eqb-true _ _ e) }
    go (no! e) later k =
        let s = later (omega (arith, rw e at k)) in
        let f : place + 2 * suc s.number ≡ place + 2 + 2 * s.number = omega arith in
        record { number = suc s.number; is-wanted = omega (arith, s.is-wanted); there = rw f s.there }

-- RX place number, from 0 on, of a start before an end of what was heard
pub record HasRx (t : List ℕ) (end start : ℕ) : Type 0 where
  pub number : ℕ
  pub of-eight : number < 8
  pub before-end : start + 1 + 2 * number < end
  pub there : heard_at t (start + 1 + 2 * number) ≡ 111 - number

needs-rx : (t : List ℕ) (start : ℕ) → 1 ≤ phasing_at t start → 1 ≤ rx_good t start
unfolding phasing_at
needs-rx t start h = go (which (leb 1 (rx_good t start)))
  where
    go : Either (leb 1 (rx_good t start)) → 1 ≤ rx_good t start
    go (yes! e) = leb-true _ _ e
    go (no! e) =
        let z : rx_good t start ≡ 0 = omega (arith, leb-false 1 (rx_good t start) e) in
        absurd (omega (arith, rw (z, no-rx (dx_good t start)) at h))

pub start-has-rx : (t : List ℕ) (start : ℕ) → 1 ≤ phasing_at t start → HasRx t (length t) start
unfolding rx_good rx_phasing
start-has-rx t start h =
    let s = one-stands t rx_phasing (start + 1) (needs-rx t start h) in
    let e = s.there ∙ at_place (λ j. 111 - j) 8 s.number s.is-wanted in
    record {
      number = s.number;
      of-eight = s.is-wanted;
      before-end = good-is-there t (start + 1 + 2 * s.number) (λ n. omega (arith, e, n));
      there = e;
    }

-- ── no start has more than fourteen ──────────────────────────────────────────

pub one_at_most : (b : Bool) → cond b 1 0 ≤ 1
one_at_most true = omega arith
one_at_most false = omega arith

pub in-place-most : (t wanted : List ℕ) (place : ℕ) → in_place t wanted place ≤ length wanted
in-place-most t [] place = omega arith
in-place-most t (symbol ∷ wanted) place =
    omega (arith, one_at_most (eqb (heard_at t place) symbol), in-place-most t wanted (place + 2))

module _ (t : List ℕ) (start : ℕ) where
  dx-most : dx_good t start ≤ 6
  unfolding dx_good dx_phasing
  dx-most = in-place-most t dx_phasing start

  pub rx-most : rx_good t start ≤ 8
  unfolding rx_good rx_phasing
  rx-most = in-place-most t rx_phasing (start + 1)

  pub phasing-most : phasing_at t start ≤ dx_good t start + rx_good t start
  unfolding phasing_at
  phasing-most = go (is_phasing (dx_good t start) (rx_good t start))
    where
      go : (b : Bool) → cond b (dx_good t start + rx_good t start) 0 ≤ dx_good t start + rx_good t start
      go true = omega arith
      go false = omega arith

  pub at-most-14 : phasing_at t start ≤ 14
  at-most-14 = omega (arith, phasing-most, dx-most, rx-most)

  -- one that has them all has its first RX character
  first-rx : 8 ≤ rx_good t start → heard_at t (start + 1) ≡ 111
  unfolding rx_good rx_phasing
  first-rx h = go (which (eqb (heard_at t (start + 1)) 111))
    where
      go : Either (eqb (heard_at t (start + 1)) 111) → heard_at t (start + 1) ≡ 111
      go (yes! e) = eqb-true _ _ e
      go (no! e) = absurd (omega (arith, rw e at h, in-place-most t (drop 1 rx_phasing) (start + 1 + 2)))

  pub whole-has-first : (end : ℕ) → phasing_at t start ≡ 14 → start + 1 < end → HasRx t end start
  whole-has-first end e h =
      let f : start + 1 + 2 * 0 ≡ start + 1 = omega arith in
      record {
        number = 0;
        of-eight = omega arith;
        before-end = omega arith;
        there = rw f (first-rx (omega (arith, e, phasing-most, dx-most)));
      }
