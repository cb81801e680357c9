-- What is claimed of the stretch that is found, over the definitions that the finder's contracts cite.
use Rattle.std.specs.Prelude.{ℕ, ◌+◌, ◌≤◌, ◌<◌, ◌≡◌, ◌↔◌, Option as Optional, Some, None, Ok, List, [], ◌++◌, length, take, drop}
use Rattle.sequence.specs.declared.Meaning.{Meaning}
use Rattle.sequence.specs.Answers.{done}
use Rattle.sequence.specs.Reading.{answer_of}
use Rattle.sequence.specs.Writing.{written_of, room_after}
use Rattle.receivers.specs.declared.Stretch.{Stretch}
use Rattle.receivers.specs.declared.Receiver.{Receiver}
use Rattle.receivers.specs.declared.Receiver.TheVariants.{First, Second}
use Rattle.receivers.specs.declared.Found.{Found}
use Rattle.receivers.specs.Finding.{found_in, handed, stretch_found}

-- ── what some bytes hold ─────────────────────────────────────────────────────

-- a sequence that the reader accepts, of so many bytes from a place on
pub record Stands (b : List ℕ) (place n : ℕ) : Type 0 where
  pub there : place + n ≤ length b
  pub accepted : answer_of (take n (drop place b)) ≡ done

-- none at all
abbrev pub HoldsNone : List ℕ → Type 0
HoldsNone b = (place n : ℕ) → Stands b place n → ⊥

-- "First means the earliest starting place, and at one place the shortest."
pub record IsFirst (b : List ℕ) (w : Stretch) : Type 0 where
  pub stands : Stands b w.place w.count
  pub earliest : (place n : ℕ) → Stands b place n → w.place ≤ place
  pub shortest : (n : ℕ) → Stands b w.place n → w.count ≤ n

-- ── what is found ────────────────────────────────────────────────────────────

-- "found in the first receiver's bytes or, failing that, in the second's", and else nothing
pub data Finds (first second : List ℕ) : Optional Found → Type 0 where
  in-the-first : (w : Stretch) → IsFirst first w → Finds first second (Some (record { receiver = First; stretch = w }))
  in-the-second : (w : Stretch) → HoldsNone first → IsFirst second w → Finds first second (Some (record { receiver = Second; stretch = w }))
  in-neither : HoldsNone first → HoldsNone second → Finds first second None

-- that, and nothing else
abbrev pub FindsExactly : Type 0
FindsExactly = (first second : List ℕ) (f : Optional Found) → (found_in first second ≡ f) ↔ Finds first second f

-- "54, handed back as the empty stretch, exactly when neither holds one"
abbrev pub EmptyExactly : Type 0
EmptyExactly = (first second : List ℕ) → (stretch_found first second ≡ []) ↔ (HoldsNone first × HoldsNone second)

-- what is returned is read by the reader, unless it is empty
abbrev pub FoundIsRead : Type 0
FoundIsRead = (first second : List ℕ) → (stretch_found first second ≡ [] → ⊥) → answer_of (stretch_found first second) ≡ done

-- at one place at most one length is valid, so that "the shortest" decides nothing
abbrev pub OneLength : Type 0
OneLength = (b : List ℕ) (place m n : ℕ) → Stands b place m → Stands b place n → m ≡ n

-- ── what was sent ────────────────────────────────────────────────────────────

-- something is found in a receiver's bytes, at or before a place
pub record FoundBy (receiver : Receiver) (place : ℕ) (f : Optional Found) : Type 0 where
  pub by : (handed f).receiver ≡ receiver
  pub no-later : (handed f).stretch.place ≤ place
  pub not-empty : 0 < (handed f).stretch.count

-- a sequence that the reader accepts, anywhere in one receiver's bytes, is found at or before its place there: in the second's only
-- where the first's hold none
abbrev pub SequencesFound : Type 0
SequencesFound =
    (s before after other : List ℕ) → answer_of s ≡ done
    → FoundBy First (length before) (found_in (before ++ (s ++ after)) other)
    × (FoundBy Second (length before) (found_in other (before ++ (s ++ after))) ↔ HoldsNone other)

-- and so is one that the writer wrote
abbrev pub WrittenFound : Type 0
WrittenFound =
    (m : Meaning) (room before after other : List ℕ) (n : ℕ) → written_of m (length room) ≡ Ok n
    → FoundBy First (length before) (found_in (before ++ (take n (room_after m room) ++ after)) other)
    × (FoundBy Second (length before) (found_in other (before ++ (take n (room_after m room) ++ after))) ↔ HoldsNone other)
