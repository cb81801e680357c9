-- The digits with a 0 before an odd count of them, and their pairs.
use Prim.Native.Nat.{ℕ, zero, suc, ◌+◌, ◌-◌, ◌*◌, ◌/◌, ◌%◌, ◌<◌, ◌≤◌}
use mathlib.Core.Path.{◌≡◌, refl, sym, ap, ◌∙◌}
use mathlib.Core.Bool.{Bool, true, false, cond}
use mathlib.Core.List.{List, [], ◌∷◌}
use native.Mathlib.Omega.{arith}
use lib.Dec.{leb, eqb}
use lib.ListN.{length, take, drop, get_or, length-take}
use lib.Seq.{get_or-take}
use borrow.Author.Tests.{eq-eqb, ne_eqb, eqb-true, eqb-false, leb-true}
use Rattle.sequence.specs.declared.Number.{Number}
use Rattle.sequence.specs.Symbols.{within, all_at_most}
use Rattle.sequence.specs.Number.{evened, pairs_of, number_ok}
use Rattle.sequence.proofs.Tests.{both_true, Either, yes!, no!, which}

pub evened-0 : (n : Number) (i : ℕ) → n.count % 2 ≡ 1 → i ≡ 0 → 0 ≡ get_or (evened n) i 0
unfolding evened
evened-0 n i e f = rw (eq-eqb _ _ e, f)

evened-odd : (n : Number) (i : ℕ) → n.count % 2 ≡ 1 → (i ≡ 0 → ⊥) → get_or (take n.count n.digits) (i - 1) 0 ≡ get_or (evened n) i 0
unfolding evened
evened-odd n i e f =
    let k : i ≡ suc (i - 1) = omega arith in
    rw (eq-eqb _ _ e) (ap (λ (m : ℕ). get_or (0 ∷ take n.count n.digits) m 0) (sym k))

evened-even : (n : Number) (i : ℕ) → (n.count % 2 ≡ 1 → ⊥) → get_or (take n.count n.digits) i 0 ≡ get_or (evened n) i 0
unfolding evened
evened-even n i e = rw (ne_eqb _ _ e)

-- elements of a list that are all at most m
pub all-at : (m : ℕ) (l : List ℕ) (i : ℕ) → all_at_most m l ≡ true → get_or l i 0 ≤ m
all-at m [] i e = omega arith
all-at m (a ∷ l) zero e = leb-true a m (both_true (leb a m) (all_at_most m l) e).0
all-at m (a ∷ l) (suc i) e = all-at m l i (both_true (leb a m) (all_at_most m l) e).1

pub all_take : (m n : ℕ) (l : List ℕ) → all_at_most m l ≡ true → all_at_most m (take n l) ≡ true
all_take m zero l e = refl
all_take m (suc n) [] e = refl
all_take m (suc n) (a ∷ l) e =
    let h = both_true (leb a m) (all_at_most m l) e in
    rw h.0 (all_take m n l h.1)

-- what is known of a number that passes its test
pub record Fit (n : Number) : Type 0 where
  pub some : 1 ≤ n.count
  pub most : n.count ≤ 16
  pub wide : length n.digits ≡ 16
  pub each : all_at_most 9 n.digits ≡ true
  pub unused : all_at_most 0 (drop n.count n.digits) ≡ true

pub fit : (n : Number) → number_ok n ≡ true → Fit n
unfolding number_ok
fit n e =
    let a = both_true (within 1 16 n.count) _ e in
    let b = both_true (leb 1 n.count) (leb n.count 16) a.0 in
    let f = both_true (eqb (length n.digits) 16) _ a.1 in
    let g = both_true (all_at_most 9 n.digits) _ f.1 in
    record { some = leb-true _ _ b.0; most = leb-true _ _ b.1; wide = eqb-true _ _ f.0; each = g.0; unused = g.1 }

pub evened-all : (n : Number) → number_ok n ≡ true → all_at_most 9 (evened n) ≡ true
unfolding evened
evened-all n e = go (eqb (n.count % 2) 1)
  where
    go : (t : Bool) → all_at_most 9 (cond t (0 ∷ take n.count n.digits) (take n.count n.digits)) ≡ true
    go true = all_take 9 n.count n.digits (fit n e).each
    go false = all_take 9 n.count n.digits (fit n e).each

pub evened-le : (n : Number) (i : ℕ) → number_ok n ≡ true → get_or (evened n) i 0 ≤ 9
evened-le n i e = all-at 9 (evened n) i (evened-all n e)

pub evened-length : (n : Number) → number_ok n ≡ true → length (evened n) ≡ n.count + n.count % 2
unfolding evened
evened-length n e = go (eqb (n.count % 2) 1) refl
  where
    go : (t : Bool) → eqb (n.count % 2) 1 ≡ t → length (cond t (0 ∷ take n.count n.digits) (take n.count n.digits)) ≡ n.count + n.count % 2
    go true z =
        let h = fit n e in
        simp length-take (omega (arith, h.most, h.wide, eqb-true (n.count % 2) 1 z))
    go false z =
        let h = fit n e in
        simp length-take (omega (arith, h.most, h.wide, eqb-false (n.count % 2) 1 z))

-- a pair of a list of even length
pub pair-at : (l : List ℕ) (j : ℕ) → length l % 2 ≡ 0 → get_or l (2 * j) 0 * 10 + get_or l (2 * j + 1) 0 ≡ get_or (pairs_of l) j 0
pair-at [] j e = refl
pair-at (a ∷ []) j e = absurd (omega arith)
pair-at (a ∷ b ∷ l) zero e = refl
pair-at (a ∷ b ∷ l) (suc j) e =
    let f : 2 * suc j ≡ suc (suc (2 * j)) = omega arith in
    let g : 2 * suc j + 1 ≡ suc (suc (2 * j + 1)) = omega arith in
    rw (g, f) (pair-at l j (omega arith))

pub pairs-length : (l : List ℕ) → length (pairs_of l) ≡ length l / 2
pairs-length [] = refl
pairs-length (a ∷ []) = refl
pairs-length (a ∷ b ∷ l) = let h = pairs-length l in omega arith

pub pairs-count : (n : Number) → number_ok n ≡ true → length (pairs_of (evened n)) ≡ (n.count + 1) / 2
pairs-count n e =
    let h = evened-length n e in
    let g = pairs-length (evened n) in
    omega arith

-- the digits behind the 0 put before an odd count, two by two
evened-at : (n : Number) (i : ℕ) → n.count % 2 ≤ i → i < n.count + n.count % 2 → get_or n.digits (i - n.count % 2) 0 ≡ get_or (evened n) i 0
evened-at n i low high = go (which (eqb (n.count % 2) 1))
  where
    go : Either (eqb (n.count % 2) 1) → get_or n.digits (i - n.count % 2) 0 ≡ get_or (evened n) i 0
    go (yes! p) =
        let o = eqb-true (n.count % 2) 1 p in
        let k : i - n.count % 2 ≡ i - 1 = omega arith in
        rw k (sym (get_or-take n.count n.digits (i - 1) 0 (omega arith)) ∙ evened-odd n i o (λ z. omega arith))
    go (no! p) =
        let o = eqb-false (n.count % 2) 1 p in
        let k : i - n.count % 2 ≡ i = omega arith in
        rw k (sym (get_or-take n.count n.digits i 0 (omega arith)) ∙ evened-even n i o)

module _ (n : Number) (ok : number_ok n ≡ true) where
  pub digit-le : (i : ℕ) → get_or n.digits i 0 ≤ 9
  digit-le i = all-at 9 n.digits i (fit n ok).each

  pub pair-behind : (j : ℕ) → n.count % 2 ≤ j → j < (n.count + 1) / 2
      → get_or n.digits (2 * j - n.count % 2) 0 * 10 + get_or n.digits (2 * j + 1 - n.count % 2) 0 ≡ get_or (pairs_of (evened n)) j 0
  pair-behind j low high =
      let l = evened-length n ok in
      rw (evened-at n (2 * j) (omega arith) (omega arith), evened-at n (2 * j + 1) (omega arith) (omega arith))
      (pair-at (evened n) j (omega arith))

  -- the first pair of an odd count
  pub pair-first : (j : ℕ) → j < n.count % 2 → get_or n.digits (2 * j + 1 - n.count % 2) 0 ≡ get_or (pairs_of (evened n)) j 0
  pair-first j low =
      let o : n.count % 2 ≡ 1 = omega arith in
      let l = evened-length n ok in
      let some = (fit n ok).some in
      let z : 0 ≡ get_or (evened n) 0 0 = evened-0 n 0 o refl in
      let d : get_or n.digits 0 0 ≡ get_or (evened n) 1 0 = sym (get_or-take n.count n.digits 0 0 (omega arith)) ∙ evened-odd n 1 o (λ e. omega arith) in
      let p : get_or (evened n) 0 0 * 10 + get_or (evened n) 1 0 ≡ get_or (pairs_of (evened n)) 0 0 = pair-at (evened n) 0 (omega arith) in
      let k : j ≡ 0 = omega arith in
      rw (k, o) (omega arith)

  pub count-some : 1 ≤ n.count
  count-some = (fit n ok).some

  pub count-most : n.count ≤ 16
  count-most = (fit n ok).most

-- what the code that lays the pairs asks of a number
pub ruleset of_pairs = (count-some, count-most, digit-le, pair-behind, pair-first, pairs-count)
