-- What is stored keeps the rules of every station on the same mast; the digits of a number in one pass.
use Prim.Native.Nat.{ℕ, zero, suc, ◌-◌}
use mathlib.Core.Bool.{Bool, true, false, ◌&&◌}
use mathlib.Core.List.{List, [], ◌∷◌, map}
use mathlib.Core.Path.{◌≡◌, refl, sym, ap, ◌∙◌}
use native.Mathlib.Omega.{arith}
use native.Mathlib.Nat.{sub-zero}
use lib.Dec.{leb, ltb}
use lib.ListN.{length, take, drop}
use borrow.Author.Tests.{le-leb, lt-leb, leb-true, leb-false, ltb-true, ltb-false}
use Rattle.std.proofs.Math.Bool.{and_assoc, and-false}
use Rattle.std.proofs.lemmas.List.{map-id}
use Rattle.sequence.specs.Symbols.{all_at_most}
use Rattle.units.specs.declared.Channel.{Channel}
use Rattle.rules.specs.Rules.Places.{all}
use Rattle.sequence.specs.declared.Number.{Number}
use Rattle.rules.specs.Rules.Sound.{number_keeps, request_keeps, slot_keeps, waiting_keeps}
use Rattle.requests.specs.Views.{viewed, itself, digits_of}
use Rattle.requests.proofs.ArrayLaws.{viewed-length}
use Rattle.slots.specs.declared.Slot.{Slot}
use Rattle.slots.specs.declared.Waiting.{Waiting}
use Rattle.slots.specs.declared.mast.Mast.{Mast}
use Rattle.slots.specs.Views.{on_mast, dealing_of, slot_view, waiting_view}
use Rattle.slots.proofs.PhaseLaws.{keeps-view}
use Rattle.sound_records.specs.Kept.{digits_fit, number_exact}

module _ (mast : Mast) (c d : List Channel) where
  slot-alike : (s : Slot) → slot_keeps (on_mast mast c) (slot_view s) ≡ slot_keeps (on_mast mast d) (slot_view s)
  unfolding request_keeps
  slot-alike s = keeps-view (on_mast mast c) s.phase (dealing_of s) ∙ sym (keeps-view (on_mast mast d) s.phase (dealing_of s))

  pub slots-alike : (n : ℕ) (a : List Slot) → all (slot_keeps (on_mast mast c)) (viewed slot_view n a) ≡ all (slot_keeps (on_mast mast d)) (viewed slot_view n a)
  unfolding viewed
  slots-alike n a = go (take n a)
    where
      go : (l : List Slot) → all (slot_keeps (on_mast mast c)) (map slot_view l) ≡ all (slot_keeps (on_mast mast d)) (map slot_view l)
      go [] = refl
      go (s ∷ l) = rw (slot-alike s, go l)

  pub queue-alike : (n : ℕ) (a : List Waiting) → all (waiting_keeps (on_mast mast c)) (viewed waiting_view n a) ≡ all (waiting_keeps (on_mast mast d)) (viewed waiting_view n a)
  unfolding request_keeps viewed
  queue-alike n a = go (take n a)
    where
      go : (l : List Waiting) → all (waiting_keeps (on_mast mast c)) (map waiting_view l) ≡ all (waiting_keeps (on_mast mast d)) (map waiting_view l)
      go [] = refl
      go (w ∷ l) = rw (go l)

pub viewed-take : {A : Type 0} (n : ℕ) (l : List A) → viewed itself n l ≡ take n l
unfolding viewed
viewed-take n l = map-id (take n l)

-- ── the digits of a number in one pass ──

pub digits-parts : (count i : ℕ) (l : List ℕ) → digits_fit count i l ≡ (all_at_most 9 (take (count - i) l) && all_at_most 0 (drop (count - i) l))
digits-parts count i [] = none (count - i)
  where
    none : (k : ℕ) → true ≡ (all_at_most 9 (take k []) && all_at_most 0 (drop k []))
    none zero = refl
    none (suc k) = refl
digits-parts count i (d ∷ l) = go (ltb i count) refl (digits-parts count (suc i) l)
  where
    go : (b : Bool) → ltb i count ≡ b → digits_fit count (suc i) l ≡ (all_at_most 9 (take (count - suc i) l) && all_at_most 0 (drop (count - suc i) l)) → digits_fit count i (d ∷ l) ≡ (all_at_most 9 (take (count - i) (d ∷ l)) && all_at_most 0 (drop (count - i) (d ∷ l)))
    go true e ih = let h = ltb-true i count e in
        let k : count - i ≡ suc (count - suc i) = omega arith in
        rw (e, k, ih) (sym (and_assoc (leb d 9) (all_at_most 9 (take (count - suc i) l)) (all_at_most 0 (drop (count - suc i) l))))
    go false e ih = let h = ltb-false i count e in
        let k : count - i ≡ 0 = omega arith in
        let j : count - suc i ≡ 0 = omega arith in
        rw (e, k) (ap (λ x. leb d 0 && x) (rw j at ih))

-- a number whose digits are as many as may be, and each at most what may stand at its place
pub number_parts : (n : Number) → length n.digits ≡ 16 → (number_keeps (digits_of n) && number_exact n) ≡ (leb 1 n.count && (leb n.count 16 && digits_fit n.count 0 n.digits))
unfolding number_keeps number_exact digits_of
number_parts n e = go (leb 1 n.count) (leb n.count 16) refl refl
  where
    go : (a b : Bool) → leb 1 n.count ≡ a → leb n.count 16 ≡ b → (number_keeps (digits_of n) && (b && all_at_most 0 (drop n.count n.digits))) ≡ (a && (b && digits_fit n.count 0 n.digits))
    go a false p q = and-false (number_keeps (digits_of n)) ∙ sym (and-false a)
    go false true p q = let h = leb-false 1 n.count p in rw (lt-leb 1 (length (viewed itself n.count n.digits)) (omega (arith, viewed-length itself n.count n.digits)))
    go true true p q =
        let h = leb-true 1 n.count p in
        let k = leb-true n.count 16 q in
        let l = viewed-length itself n.count n.digits in
        rw (le-leb 1 (length (viewed itself n.count n.digits)) (omega (arith, l)), le-leb (length (viewed itself n.count n.digits)) 16 (omega (arith, l)), viewed-take n.count n.digits) (sym (rw sub-zero at (digits-parts n.count 0 n.digits)))
