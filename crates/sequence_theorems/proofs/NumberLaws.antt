-- A number and its parity and pairs give each other back.
use Prim.Native.Nat.{ℕ, zero, suc, ◌+◌, ◌-◌, ◌*◌, ◌/◌, ◌%◌, ◌<◌, ◌≤◌}
use mathlib.Core.Path.{◌≡◌, refl, sym, ap, ◌∙◌}
use mathlib.Core.Bool.{true, cond}
use mathlib.Core.List.{List, [], ◌∷◌, ◌++◌}
use native.Mathlib.Omega.{arith}
use lib.Dec.{leb, eqb}
use lib.ListN.{length, take, drop, get_or, length-take, length-drop, replicate, get_or-eq_default}
use lib.Seq.{ext_get_or, get_or-take, get_or-drop, take-append-le, take-length, take-take}
use borrow.Author.Tests.{le-leb, eq-eqb, ne_eqb, leb-true, leb-false, eqb-true, eqb-false}
use Rattle.sequence.specs.declared.Number.{Number}
use Rattle.sequence.specs.Symbols.{all_at_most}
use Rattle.sequence.specs.Number.{number_ok, parity, evened, pairs_of}
use Rattle.sequence.specs.Reading.{parity_ok, pairs_ok, digits_of, zero_before, sixteen, number_of}
use Rattle.sequence.proofs.Tests.{both_true, Either, yes!, no!, which}
use Rattle.reading.proofs.DigitLaws.{digits-length, sixteen-at, sixteen-length, zero-before-le}
use Rattle.writing.proofs.EvenedLaws.{fit, all-at, evened-0, evened-le, evened-all, evened-length, pair-at, pairs-length}

-- digits of pairs, and pairs of digits
pub pairs-digits : (ps : List ℕ) → pairs_of (digits_of ps) ≡ ps
pairs-digits [] = refl
pairs-digits (p ∷ ps) =
    let e : p / 10 * 10 + p % 10 ≡ p = omega arith in
    rw (e, pairs-digits ps)

pub digits-pairs : (l : List ℕ) → length l % 2 ≡ 0 → all_at_most 9 l ≡ true → digits_of (pairs_of l) ≡ l
digits-pairs [] e a = refl
digits-pairs (x ∷ []) e a = absurd (omega arith)
digits-pairs (x ∷ y ∷ l) e a =
    let h = both_true (leb x 9) _ a in
    let k = both_true (leb y 9) (all_at_most 9 l) h.1 in
    let hx = leb-true x 9 h.0 in
    let hy = leb-true y 9 k.0 in
    let ex : (x * 10 + y) / 10 ≡ x = omega arith in
    let ey : (x * 10 + y) % 10 ≡ y = omega arith in
    rw (ex, ey, digits-pairs l (omega arith) k.1)

pub digits-all : (ps : List ℕ) → all_at_most 99 ps ≡ true → all_at_most 9 (digits_of ps) ≡ true
digits-all [] e = refl
digits-all (p ∷ ps) e =
    let h = both_true (leb p 99) (all_at_most 99 ps) e in
    let k = leb-true p 99 h.0 in
    rw (le-leb (p / 10) 9 (omega arith), le-leb (p % 10) 9 (omega arith)) (digits-all ps h.1)

pub pairs-all : (l : List ℕ) → all_at_most 9 l ≡ true → all_at_most 99 (pairs_of l) ≡ true
pairs-all [] e = refl
pairs-all (x ∷ []) e = refl
pairs-all (x ∷ y ∷ l) e =
    let h = both_true (leb x 9) _ e in
    let k = both_true (leb y 9) (all_at_most 9 l) h.1 in
    let hx = leb-true x 9 h.0 in
    let hy = leb-true y 9 k.0 in
    rw (le-leb (x * 10 + y) 99 (omega arith)) (pairs-all l k.1)

zero_of : (x : ℕ) → x ≤ 0 → 0 ≡ x
zero_of x h = omega arith

-- sixteen places whose unused ones are 0 are the used ones and zeros
pub pad-used : (d : List ℕ) (n : ℕ) → length d ≡ 16 → all_at_most 0 (drop n d) ≡ true → sixteen (take n d) ≡ d
pad-used d n w z = ext_get_or 0 (sixteen (take n d)) d (sixteen-length (take n d) ∙ sym w) each
  where
    used : (i : ℕ) → Either (leb (suc i) n) → get_or (take n d) i 0 ≡ get_or d i 0
    used i (yes! p) = get_or-take n d i 0 (leb-true _ _ p)
    used i (no! p) =
        let l : n ≤ i = omega (arith, leb-false (suc i) n p) in
        let o : n + (i - n) ≡ i = omega arith in
        let v = all-at 0 (drop n d) (i - n) z in
        let u : get_or d i 0 ≤ 0 = rw (get_or-drop n d (i - n) 0, o) at v in
        get_or-eq_default (take n d) 0 {n = i} (simp length-take (omega arith)) ∙ zero_of (get_or d i 0) u

    each : (i : ℕ) → i < length (sixteen (take n d)) → get_or (sixteen (take n d)) i 0 ≡ get_or d i 0
    each i h = sixteen-at (take n d) i (omega (arith, sixteen-length (take n d))) ∙ used i (which (leb (suc i) n))

-- and the other way round
pub take-pad : (l : List ℕ) → length l ≤ 16 → take (length l) (sixteen l) ≡ l
unfolding sixteen
take-pad l h = take-take (length l) 16 (l ++ replicate 16 0) h ∙ take-append-le (length l) l (replicate 16 0) (omega arith) ∙ take-length l

-- a list whose elements are at most m at every place
pub all_from : (m : ℕ) (l : List ℕ) → ((i : ℕ) → get_or l i 0 ≤ m) → all_at_most m l ≡ true
all_from m [] h = refl
all_from m (a ∷ l) h = rw (le-leb a m (h 0)) (all_from m l (λ i. h (suc i)))

-- sixteen places, one by one, also past their end
pad-le : (m : ℕ) (l : List ℕ) (i : ℕ) → get_or l i 0 ≤ m → get_or (sixteen l) i 0 ≤ m
pad-le m l i h = go (which (leb (suc i) 16))
  where
    go : Either (leb (suc i) 16) → get_or (sixteen l) i 0 ≤ m
    go (yes! p) = rw (sixteen-at l i (leb-true _ _ p)) h
    go (no! p) = rw (get_or-eq_default (sixteen l) 0 {n = i} (omega (arith, sixteen-length l, leb-false (suc i) 16 p))) (omega arith)

pub pad-all : (m : ℕ) (l : List ℕ) → all_at_most m l ≡ true → all_at_most m (sixteen l) ≡ true
pad-all m l h = all_from m (sixteen l) (λ i. pad-le m l i (all-at m l i h))

pub drop-pad : (l : List ℕ) → all_at_most 0 (drop (length l) (sixteen l)) ≡ true
drop-pad l =
    all_from 0 (drop (length l) (sixteen l))
    (λ i.
    rw (get_or-drop (length l) (sixteen l) i 0)
    (pad-le 0 l (length l + i) (rw (get_or-eq_default l 0 {n = length l + i} (omega arith)) (omega arith))))

pub all_drop : (m n : ℕ) (l : List ℕ) → all_at_most m l ≡ true → all_at_most m (drop n l) ≡ true
all_drop m zero l e = e
all_drop m (suc n) [] e = refl
all_drop m (suc n) (a ∷ l) e = all_drop m n l (both_true (leb a m) (all_at_most m l) e).1

-- the marker says whether the count is odd
odd-cases : (n : ℕ) → Either (eqb (n % 2) 1)
odd-cases n = which (eqb (n % 2) 1)

pub odd-marker : (n : ℕ) → zero_before (parity n) ≡ n % 2
unfolding zero_before parity
odd-marker n = go (odd-cases n)
  where
    go : Either (eqb (n % 2) 1) → cond (eqb (cond (eqb (n % 2) 1) 105 106) 105) 1 0 ≡ n % 2
    go (yes! p) = rw p (sym (eqb-true (n % 2) 1 p))
    go (no! p) = rw p (omega (arith, eqb-false (n % 2) 1 p))

pub drop-evened : (d : Number) → drop (d.count % 2) (evened d) ≡ take d.count d.digits
unfolding evened
drop-evened d = go (odd-cases d.count)
  where
    go : Either (eqb (d.count % 2) 1)
        → drop (d.count % 2) (cond (eqb (d.count % 2) 1) (0 ∷ take d.count d.digits) (take d.count d.digits)) ≡ take d.count d.digits
    go (yes! p) = rw (p, eqb-true (d.count % 2) 1 p)
    go (no! p) =
        let e : d.count % 2 ≡ 0 = omega (arith, eqb-false (d.count % 2) 1 p) in
        rw (p, e)

-- a number that may be written is read back
module _ (d : Number) (ok : number_ok d ≡ true) where
  even : length (evened d) % 2 ≡ 0
  even = let h = evened-length d ok in omega arith

  counted : 2 * length (pairs_of (evened d)) - d.count % 2 ≡ d.count
  counted =
      let h = evened-length d ok in
      let g = pairs-length (evened d) in
      omega arith

  pub number_same : number_of (parity d.count) (pairs_of (evened d)) ≡ d
  unfolding number_of
  number_same =
      rw (
        odd-marker d.count,
        digits-pairs (evened d) even (evened-all d ok),
        drop-evened d,
        pad-used d.digits d.count (fit d ok).wide (fit d ok).unused,
        counted,
      )

  first-digit : Either (eqb (d.count % 2) 1) → parity_ok (parity d.count) (get_or (pairs_of (evened d)) 0 0) ≡ true
  unfolding parity_ok parity
  first-digit (yes! p) =
      let a = evened-0 d 0 (eqb-true (d.count % 2) 1 p) refl in
      let b = evened-le d 1 ok in
      let e = pair-at (evened d) 0 even in
      rw p (le-leb (get_or (pairs_of (evened d)) 0 0) 9 (omega arith))
  first-digit (no! p) = rw p

  pub number-reads : pairs_ok (parity d.count) (pairs_of (evened d)) ≡ true
  unfolding pairs_ok
  number-reads = rw (first-digit (odd-cases d.count)) (pairs-all (evened d) (evened-all d ok))

-- a marker and pairs that may be read are written back
pub record Again (m : ℕ) (ps : List ℕ) : Type 0 where
  pub writes : number_ok (number_of m ps) ≡ true
  pub marker : parity (number_of m ps).count ≡ m
  pub same : pairs_of (evened (number_of m ps)) ≡ ps

zero-first : (ps : List ℕ) → 1 ≤ length ps → get_or ps 0 0 ≤ 9 → 0 ∷ drop 1 (digits_of ps) ≡ digits_of ps
zero-first [] h l = absurd (omega arith)
zero-first (p ∷ ps) h l =
    let e : p / 10 ≡ 0 = omega arith in
    rw e

module _ (m : ℕ) (ps : List ℕ) (ok : pairs_ok m ps ≡ true) (least : 1 ≤ length ps) (most : length ps ≤ 8) where
  all : all_at_most 99 ps ≡ true
  unfolding pairs_ok
  all = (both_true (parity_ok m (get_or ps 0 0)) (all_at_most 99 ps) ok).1

  left : length (drop (zero_before m) (digits_of ps)) ≡ 2 * length ps - zero_before m
  left = simp length-drop (ap (λ (n : ℕ). n - zero_before m) (digits-length ps))

  used : take (2 * length ps - zero_before m) (sixteen (drop (zero_before m) (digits_of ps))) ≡ drop (zero_before m) (digits_of ps)
  used = rw (← left) (take-pad (drop (zero_before m) (digits_of ps)) (omega (arith, left)))

  fine : number_ok (number_of m ps) ≡ true
  unfolding number_ok number_of
  fine =
      let o = zero-before-le m in
      rw (
        le-leb 1 (2 * length ps - zero_before m) (omega arith),
        le-leb (2 * length ps - zero_before m) 16 (omega arith),
        eq-eqb (length (sixteen (drop (zero_before m) (digits_of ps)))) 16 (sixteen-length (drop (zero_before m) (digits_of ps))),
        pad-all 9 (drop (zero_before m) (digits_of ps)) (all_drop 9 (zero_before m) (digits_of ps) (digits-all ps all)),
      )
      (rw left at (drop-pad (drop (zero_before m) (digits_of ps))))

  again_by : Either (eqb m 105) → parity_ok m (get_or ps 0 0) ≡ true → Again m ps
  unfolding number_of parity evened parity_ok zero_before
  again_by (yes! p) t =
      let e = eqb-true m 105 p in
      let o : zero_before m ≡ 1 = rw p in
      let r : (2 * length ps - zero_before m) % 2 ≡ 1 = rw o (omega arith) in
      let f = leb-true (get_or ps 0 0) 9 (rw p at t) in
      record {
        writes = fine;
        marker = rw (eq-eqb ((2 * length ps - zero_before m) % 2) 1 r) (sym e);
        same =
            rw (eq-eqb ((2 * length ps - zero_before m) % 2) 1 r, used, o, zero-first ps least f) (pairs-digits ps);
      }
  again_by (no! p) t =
      let e = eqb-true m 106 (rw p at t) in
      let o : zero_before m ≡ 0 = rw p in
      let r : (2 * length ps - zero_before m) % 2 ≡ 1 → ⊥ = rw o (omega arith) in
      record {
        writes = fine;
        marker = rw (ne_eqb ((2 * length ps - zero_before m) % 2) 1 r) (sym e);
        same = rw (ne_eqb ((2 * length ps - zero_before m) % 2) 1 r, used, o) (pairs-digits ps);
      }

  pub again : Again m ps
  unfolding pairs_ok
  again = again_by (which (eqb m 105)) (both_true (parity_ok m (get_or ps 0 0)) (all_at_most 99 ps) ok).0
