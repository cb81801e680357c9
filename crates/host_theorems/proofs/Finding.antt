-- The finder that C calls: what its number says of the bytes.
use Prim.Native.Nat.{ℕ, ◌≤◌, ◌<◌}
use mathlib.Core.Path.{◌≡◌, refl, sym, ap, ◌∙◌}
use mathlib.Core.Logic.{◌↔◌}
use mathlib.Core.List.{List, ◌++◌}
use native.Mathlib.Omega.{arith}
use lib.ListN.{length, take, drop, replicate}
use Rattle.std.specs.Prelude.{Option as Optional}
use Rattle.receivers.specs.declared.Stretch.{Stretch}
use Rattle.receivers.specs.declared.Found.{Found}
use Rattle.receivers.specs.Finding.{found_in, handed}
use Rattle.receivers.specs.Statement as Said
use Rattle.receivers.specs.Statement.{Stands, IsFirst, Finds, in-the-first, in-the-second, in-neither}
use Rattle.receivers.proofs.Theorems.{finds-exactly, one-length, not-empty-first, sequences-found}
use Rattle.lent_layout.specs.Meanings.{meaning_size}
use Rattle.coast.specs.Finding.{receiver_number, found_returned}
use Rattle.coast.proofs.FindLaws.{all-in-reach, found-taken-apart}
use Rattle.host_theorems.specs.Sequences.{Passage, answer_of, written, ByWriter, CAnswersEveryInput}
use Rattle.host_theorems.specs.Finding.{Find, ByFinder, by-find, length_of, receiver_of, place_of, heard, ReadAt, HoldsNone}
use Rattle.host_theorems.specs.Finding.{CFoundIsRead, CNothingEarlier, CEmptyExactly, COneLength, CWrittenFound, CFindsInAll}
use Rattle.host_theorems.proofs.Sequences.{read_done, done-read, written-accepted, lives, slice, c-answers-every-input}

-- ── what is read by C is what the definitions accept ─────────────────────────

stands : {b : List ℕ} {place n : ℕ} → ReadAt b place n → Stands b place n
stands h =
    record {
      there = h.there;
      accepted = rw h.given at (read_done h.reads (rw h.answered refl));
    }

read_at : {b : List ℕ} {place n : ℕ} → Stands b place n → ReadAt b place n
unfolding CAnswersEveryInput
read_at {b} {place} {n} h =
    let x = (c-answers-every-input (take n (drop place b)) (replicate meaning_size 0)).0 in
    record {
      there = h.there;
      call = x.call;
      reads = x.is_call;
      given = x.is-given;
      answered = done-read x.is_call (rw x.is-given h.accepted) (rw x.is-lent (omega arith));
    }

none-stands : {b : List ℕ} → HoldsNone b → Said.HoldsNone b
none-stands none place n h = none place n (read_at h)

none_read : {b : List ℕ} → Said.HoldsNone b → HoldsNone b
none_read none place n h = none place n (stands h)

-- ── what a number tells ──────────────────────────────────────────────────────

abbrev told_by : Find → Stretch
told_by x = record { place = place_of x; count = length_of x }

data Outcome (x : Find) : Type 0 where
  by_first : receiver_of x ≡ 0 → IsFirst x.first (told_by x) → Outcome x
  by-second : receiver_of x ≡ 1 → Said.HoldsNone x.first → IsFirst x.second (told_by x) → Outcome x
  by-none : receiver_of x ≡ 1 → length_of x ≡ 0 → Said.HoldsNone x.first → Said.HoldsNone x.second → Outcome x

-- the number, taken apart, is what was found
record Told (x : Find) : Type 0 where
  length-is : length_of x ≡ (handed (found_in x.first x.second)).stretch.count
  receiver-is : receiver_of x ≡ receiver_number (handed (found_in x.first x.second)).receiver
  place_is : place_of x ≡ (handed (found_in x.first x.second)).stretch.place

told : {x : Find} → ByFinder x → Told x
told (by-find κs a r s p h k) =
    let first = a.0.now in
    let second = a.1.0.now in
    let e : r ≡ found_returned (found_in first second) = p ∙ (rw (all-in-reach first h, all-in-reach second k)) in
    let t = found-taken-apart first second in
    record { length-is = rw e t.0; receiver-is = rw e t.1; place_is = rw e t.2 }

outcome : {x : Find} → ByFinder x → Outcome x
outcome {x} f = go (found_in x.first x.second) refl ((finds-exactly x.first x.second _).0 refl)
  where
    go : (g : Optional Found) → found_in x.first x.second ≡ g → Finds x.first x.second g → Outcome x
    go g e (in-the-first w h) =
        let t = told f in
        let n = t.length-is ∙ ap (λ (y : Optional Found). (handed y).stretch.count) e in
        let p = t.place_is ∙ ap (λ (y : Optional Found). (handed y).stretch.place) e in
        by_first (t.receiver-is ∙ ap (λ (y : Optional Found). receiver_number (handed y).receiver) e) (rw (n, p) h)
    go g e (in-the-second w none h) =
        let t = told f in
        let n = t.length-is ∙ ap (λ (y : Optional Found). (handed y).stretch.count) e in
        let p = t.place_is ∙ ap (λ (y : Optional Found). (handed y).stretch.place) e in
        by-second (t.receiver-is ∙ ap (λ (y : Optional Found). receiver_number (handed y).receiver) e) none (rw (n, p) h)
    go g e (in-neither none other) =
        let t = told f in
        let n = t.length-is ∙ ap (λ (y : Optional Found). (handed y).stretch.count) e in
        by-none (t.receiver-is ∙ ap (λ (y : Optional Found). receiver_number (handed y).receiver) e) n none other

-- ── in the bytes of the receiver that is named ───────────────────────────────

first-heard : (x : Find) → receiver_of x ≡ 0 → heard x ≡ x.first
first-heard x e = rw e

second-heard : (x : Find) → receiver_of x ≡ 1 → heard x ≡ x.second
second-heard x e = rw e

-- something is found, and it is the first there
first_of : {x : Find} → ByFinder x → 0 < length_of x → IsFirst (heard x) (told_by x)
first_of {x} f some = go (outcome f)
  where
    go : Outcome x → IsFirst (heard x) (told_by x)
    go (by_first e h) = rw (first-heard x e) h
    go (by-second e none h) = rw (second-heard x e) h
    go (by-none e z none other) = absurd (omega (arith, some, z))

-- the second receiver is named only where the first holds none
none_before : {x : Find} → ByFinder x → receiver_of x ≡ 1 → Said.HoldsNone x.first
none_before {x} f e = go (outcome f)
  where
    go : Outcome x → Said.HoldsNone x.first
    go (by_first z h) = absurd (omega (arith, e, z))
    go (by-second z none h) = none
    go (by-none z l none other) = none

-- ── what is claimed ──────────────────────────────────────────────────────────

pub c-found-is-read : CFoundIsRead
unfolding CFoundIsRead
c-found-is-read x r f some reads given room =
    let h = first_of f some in
    (h.stands.there, done-read reads (rw given h.stands.accepted) room)

pub c-one-length : COneLength
unfolding COneLength
c-one-length b place m n h k = one-length b place m n (stands h) (stands k)

pub c-nothing-earlier : CNothingEarlier
unfolding CNothingEarlier
c-nothing-earlier x f some =
    let h = first_of f some in (
      λ place n k. (h.earliest place n (stands k), λ e. one-length (heard x) (place_of x) n (length_of x) (rw e at (stands k)) h.stands),
      λ e. none_read (none_before f e),
    )

pub c-empty-exactly : CEmptyExactly
unfolding CEmptyExactly
c-empty-exactly x f = go (outcome f)
  where
    go : Outcome x → (length_of x ≡ 0) ↔ (HoldsNone x.first × HoldsNone x.second)
    go (by_first e h) =
        (λ z. absurd (omega (arith, z, not-empty-first x.first (told_by x) h)), λ none. absurd (none.0 _ _ (read_at h.stands)))
    go (by-second e none h) =
        (λ z. absurd (omega (arith, z, not-empty-first x.second (told_by x) h)), λ none. absurd (none.1 _ _ (read_at h.stands)))
    go (by-none e z none other) = (λ z. (none_read none, none_read other), λ h. z)

-- ── what was written ─────────────────────────────────────────────────────────

module _ (w : Passage) (x : Find) (before after : List ℕ) (wrote : ByWriter w) (e : answer_of w ≡ 0) (f : ByFinder x) where
  t : Told x
  t = told f

  in-first : x.first ≡ before ++ (written w ++ after) → (receiver_of x ≡ 0) × (place_of x ≤ length before) × (0 < length_of x)
  in-first same =
      let h = rw (sym same) at (sequences-found (written w) before after x.second (written-accepted wrote e)).0 in
      (t.receiver-is ∙ ap receiver_number h.by, rw t.place_is h.no-later, rw t.length-is h.not-empty)

  in-second : x.second ≡ before ++ (written w ++ after) → HoldsNone x.first
      → (receiver_of x ≡ 1) × (place_of x ≤ length before) × (0 < length_of x)
  in-second same none =
      let found = rw (sym same) at (sequences-found (written w) before after x.first (written-accepted wrote e)).1 in
      let h = found.1 (none-stands none) in
      (t.receiver-is ∙ ap receiver_number h.by, rw t.place_is h.no-later, rw t.length-is h.not-empty)

pub c-written-found : CWrittenFound
unfolding CWrittenFound
c-written-found w x before after wrote e f = (
  in-first w x before after wrote e f,
  λ same. (
    (λ r. none_read (none_before f r), λ none. (in-second w x before after wrote e f same none).0),
    λ r. let h = in-second w x before after wrote e f same (none_read (none_before f r)) in (h.1, h.2),
  ),
)

-- ── and they are of something ────────────────────────────────────────────────

pub c-finds-in-all : CFindsInAll
unfolding CFindsInAll
c-finds-in-all first second h k = by-find lives (slice first, (slice second, tt)) _ (slice first, (slice second, tt)) refl h k
