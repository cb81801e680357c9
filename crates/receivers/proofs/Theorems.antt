-- The statements, proved.
use Prim.Native.Nat.{ℕ, ◌+◌, ◌<◌, ◌≤◌}
use mathlib.Core.Path.{◌≡◌, refl, sym, ap, ◌∙◌}
use mathlib.Core.Bool.{Bool, true, false, true≢false}
use mathlib.Core.List.{List, [], ◌++◌}
use mathlib.Core.Logic.{◌↔◌}
use native.Mathlib.Omega.{arith}
use lib.ListN.{length, take, drop, length-drop, length-append}
use lib.Seq.{length-take-le, take-append_seam, drop-append_seam}
use Rattle.std.specs.Prelude.{Option as Optional, Some, None}
use Rattle.sequence.specs.Answers.{done, is_done}
use Rattle.sequence.specs.Reading.{answer_of}
use Rattle.sequence.specs.Writing.{room_after}
use Rattle.sequence.proofs.AnswerLaws.{done-is, read-ok}
use Rattle.sequence_theorems.proofs.Theorems.{reads-what-was-written}
use Rattle.receivers.specs.declared.Stretch.{Stretch}
use Rattle.receivers.specs.declared.Receiver.{Receiver}
use Rattle.receivers.specs.declared.Receiver.TheVariants.{First, Second}
use Rattle.receivers.specs.declared.Found.{Found}
use Rattle.receivers.specs.Finding.{is_valid, length_at, first_in, found_in, handed, bytes_of, stretch_found}
use Rattle.receivers.specs.Statement.{Stands, HoldsNone, IsFirst, Finds, in-the-first, in-the-second, in-neither}
use Rattle.receivers.specs.Statement.{FindsExactly, EmptyExactly, FoundIsRead, OneLength, FoundBy, SequencesFound, WrittenFound}
use Rattle.receivers.proofs.LengthLaws.{Begins, long_of, length-begins, length-least, none-begins}
use Rattle.receivers.proofs.OneLength.{one-begins}
use Rattle.receivers.proofs.FoundLaws.{Which, in-first, in-second, in-none, found-which}
use Rattle.receivers.proofs.Search.{Search, nowhere, somewhere, search}

-- ── a sequence stands where the bytes from there on begin with it ────────────

begins-there : (b : List ℕ) (place n : ℕ) → Stands b place n → Begins n (drop place b)
unfolding is_valid
begins-there b place n h =
    record { fits = omega (arith, length-drop place b, h.there); valid = ap is_done h.accepted }

stands-there : (b : List ℕ) (place n : ℕ) → Begins n (drop place b) → Stands b place n
unfolding is_valid
stands-there b place n h =
    record {
      there = omega (arith, length-drop place b, h.fits, (long_of n (drop place b) h).0);
      accepted = done-is (answer_of (take n (drop place b))) h.valid;
    }

pub one-length : OneLength
one-length b place m n h k = one-begins (drop place b) m n (begins-there b place m h) (begins-there b place n k)

-- ── in one receiver's bytes ──────────────────────────────────────────────────

none-held : (b : List ℕ) → ((p : ℕ) → length_at (drop p b) ≡ None) → HoldsNone b
none-held b none place n h = none-begins n (drop place b) (none place) (begins-there b place n h)

module _ (b : List ℕ) (p n : ℕ) (some : length_at (drop p b) ≡ Some n) (none : (q : ℕ) → q < p → length_at (drop q b) ≡ None) where
  no-earlier : (place n : ℕ) → Stands b place n → place < p → ⊥
  no-earlier place n h l = none-begins n (drop place b) (none place l) (begins-there b place n h)

  first-there : IsFirst b (record { place = p; count = n })
  first-there =
      record {
        stands = stands-there b p n (length-begins n (drop p b) some);
        earliest = λ place m h. let not-before = no-earlier place m h in omega (arith, not-before);
        shortest = λ m h. length-least m n (drop p b) (begins-there b p m h) some;
      }

pub data Held (b : List ℕ) : Optional Stretch → Type 0 where
  none! : HoldsNone b → Held b None
  one! : (w : Stretch) → IsFirst b w → Held b (Some w)

held : (b : List ℕ) → Held b (first_in b)
held b = go (first_in b) (search b)
  where
    go : (w : Optional Stretch) → Search 0 b w → Held b w
    go _ (nowhere none) = none! (none-held b none)
    go _ (somewhere p n e none) =
        let same : 0 + p ≡ p = omega arith in
        rw same (one! _ (first-there b p n e none))

first-is-one : (b : List ℕ) (v w : Stretch) → IsFirst b v → IsFirst b w → v ≡ w
first-is-one b v w h k =
    let no-later = h.earliest w.place w.count k.stands in
    let no-earlier = k.earliest v.place v.count h.stands in
    let p : v.place ≡ w.place = omega (arith, no-later, no-earlier) in
    let q : v.count ≡ w.count = one-length b w.place v.count w.count (rw p at h.stands) k.stands in
    λ i. record { place = p i; count = q i }

first_found : (b : List ℕ) (w : Stretch) → IsFirst b w → first_in b ≡ Some w
first_found b w h = go (first_in b) (held b)
  where
    go : (o : Optional Stretch) → Held b o → o ≡ Some w
    go _ (none! none) = absurd (none w.place w.count h.stands)
    go _ (one! v first) = ap Some (first-is-one b v w first h)

none_found : (b : List ℕ) → HoldsNone b → first_in b ≡ None
none_found b none = go (first_in b) (held b)
  where
    go : (o : Optional Stretch) → Held b o → o ≡ None
    go _ (none! h) = refl
    go _ (one! w first) = absurd (none _ _ first.stands)

holds-none : (b : List ℕ) → first_in b ≡ None → HoldsNone b
holds-none b e = elim (rw e at (held b)) [ none! h ↦ h ]

is-first : (b : List ℕ) (w : Stretch) → first_in b ≡ Some w → IsFirst b w
is-first b w e = go w (rw e at (held b))
  where
    go : (w : Stretch) → Held b (Some w) → IsFirst b w
    go _ (one! w first) = first

-- ── in the two receivers' ────────────────────────────────────────────────────

finds : (first second : List ℕ) → Finds first second (found_in first second)
finds first second = go (found_in first second) (found-which first second)
  where
    go : (f : Optional Found) → Which first second f → Finds first second f
    go _ (in-first w e) = in-the-first w (is-first first w e)
    go _ (in-second w none e) = in-the-second w (holds-none first none) (is-first second w e)
    go _ (in-none e f) = in-neither (holds-none first e) (holds-none second f)

pub not-empty-first : (b : List ℕ) (w : Stretch) → IsFirst b w → 0 < w.count
not-empty-first b w h = omega (arith, (long_of w.count (drop w.place b) (begins-there b w.place w.count h.stands)).0)

found_as : (first second : List ℕ) (f : Optional Found) → Finds first second f → found_in first second ≡ f
unfolding found_in
found_as first second _ (in-the-first w h) = rw (first_found first w h)
found_as first second _ (in-the-second w none h) = rw (none_found first none, first_found second w h)
found_as first second _ (in-neither none other) = rw (none_found first none, none_found second other)

pub finds-exactly : FindsExactly
finds-exactly first second f = (λ e. rw e at (finds first second), found_as first second f)

-- ── the stretch itself ───────────────────────────────────────────────────────

bytes-of-empty : (b : List ℕ) → bytes_of (record { place = 0; count = 0 }) b ≡ []
unfolding bytes_of
bytes-of-empty b = refl

first-not-empty : (b : List ℕ) (w : Stretch) → IsFirst b w → bytes_of w b ≡ [] → ⊥
unfolding bytes_of
first-not-empty b w h e =
    let fits = (begins-there b w.place w.count h.stands).fits in
    let l = length-take-le w.count (drop w.place b) fits in
    omega (arith, l, ap length e, not-empty-first b w h)

first_read : (b : List ℕ) (w : Stretch) → IsFirst b w → answer_of (bytes_of w b) ≡ done
unfolding bytes_of
first_read b w h = h.stands.accepted

-- what the stretch of either way is
pub data Handed (first second : List ℕ) : Type 0 where
  empty : stretch_found first second ≡ [] → HoldsNone first → HoldsNone second → Handed first second
  held_by : (b : List ℕ) (w : Stretch) → IsFirst b w → stretch_found first second ≡ bytes_of w b
      → (HoldsNone first → HoldsNone second → ⊥) → Handed first second

handed-back : (first second : List ℕ) → Handed first second
unfolding stretch_found
handed-back first second = go (found_in first second) refl (finds first second)
  where
    go : (f : Optional Found) → found_in first second ≡ f → Finds first second f → Handed first second
    go _ e (in-the-first w h) = held_by first w h (rw e) (λ none other. none _ _ h.stands)
    go _ e (in-the-second w none h) = held_by second w h (rw e) (λ none other. other _ _ h.stands)
    go _ e (in-neither none other) = empty (rw e (bytes-of-empty second)) none other

pub empty-exactly : EmptyExactly
empty-exactly first second = go (handed-back first second)
  where
    go : Handed first second → (stretch_found first second ≡ []) ↔ (HoldsNone first × HoldsNone second)
    go (empty e none other) = (λ f. (none, other), λ h. e)
    go (held_by b w h e some) = (λ f. absurd (first-not-empty b w h (sym e ∙ f)), λ h. absurd (some h.0 h.1))

pub found-is-read : FoundIsRead
found-is-read first second not-empty = go (handed-back first second)
  where
    go : Handed first second → answer_of (stretch_found first second) ≡ done
    go (empty e none other) = absurd (not-empty e)
    go (held_by b w h e some) = rw e (first_read b w h)

-- ── what was sent ────────────────────────────────────────────────────────────

module _ (s before after other : List ℕ) (ok : answer_of s ≡ done) where
  abbrev b : List ℕ
  b = before ++ (s ++ after)

  stands : Stands b (length before) (length s)
  stands =
      record {
        there = omega (arith, length-append before (s ++ after), length-append s after);
        accepted = rw (drop-append_seam before (s ++ after), take-append_seam s after) ok;
      }

  -- one is found in them, at or before its place
  record Some-found : Type 0 where
    found : Stretch
    is : first_in b ≡ Some found
    no-later : found.place ≤ length before
    not-empty : 0 < found.count

  some_found : Some-found
  some_found = go (first_in b) refl (held b)
    where
      go : (o : Optional Stretch) → first_in b ≡ o → Held b o → Some-found
      go _ e (none! none) = absurd (none _ _ stands)
      go _ e (one! w first) =
          record { found = w; is = e; no-later = first.earliest (length before) (length s) stands; not-empty = not-empty-first b w first }

  by_first : FoundBy First (length before) (found_in b other)
  unfolding found_in
  by_first = let f = some_found in rw f.is (record { by = refl; no-later = f.no-later; not-empty = f.not-empty })

  by-second : HoldsNone other → FoundBy Second (length before) (found_in other b)
  unfolding found_in
  by-second none = let f = some_found in rw (none_found other none, f.is) (record { by = refl; no-later = f.no-later; not-empty = f.not-empty })

abbrev is_first : Receiver → Bool
is_first First = true
is_first Second = false

none-before-second : (first second : List ℕ) → (handed (found_in first second)).receiver ≡ Second → HoldsNone first
none-before-second first second = go (found_in first second) (found-which first second)
  where
    go : (f : Optional Found) → Which first second f → (handed f).receiver ≡ Second → HoldsNone first
    go _ (in-first w f) e = absurd (true≢false (ap is_first e))
    go _ (in-second w none f) e = holds-none first none
    go _ (in-none none f) e = holds-none first none

pub sequences-found : SequencesFound
sequences-found s before after other ok =
    (by_first s before after other ok, (λ h. none-before-second other (before ++ (s ++ after)) h.by, by-second s before after other ok))

pub written-found : WrittenFound
written-found m room before after other n e =
    sequences-found (take n (room_after m room)) before after other (read-ok _ m (reads-what-was-written m room n e)).0
