-- The first valid sequence in two receivers' bytes: of the finder that C calls, from the bytes alone.
use Rattle.std.specs.Prelude.{ℕ, ◌+◌, ◌/◌, ◌%◌, ◌≤◌, ◌<◌, ◌≡◌, ◌↔◌, cond, List, ◌++◌, eqb, length, take, drop}
use contract.Lifetimes.{Lfts}
use Rattle.lent_layout.specs.Meanings.{meaning_size}
use Rattle.receivers.specs.Finding.{found_in}
use Rattle.coast.specs.Finding.{reach, in_reach, found_returned}
use Rattle.coast.proofs.finding.coast_find_sequence.Reads as coast_find_sequence
use Rattle.host_theorems.specs.Sequences.{Passage, answer_of, written, ByReader, ByWriter}

-- ── a call ───────────────────────────────────────────────────────────────────

-- what either receiver heard, no more of it than a place can be told of, and what was returned
pub record Find : Type 0 where
  pub first : List ℕ
  pub second : List ℕ
  pub number : ℕ

pub data ByFinder : Find → Type 0 where
  by-find : (κs : Lfts 2) (a : _) (r : _) (s : _) → coast_find_sequence.Post κs a r s
      → length a.0.now ≤ reach → length a.1.0.now ≤ reach
      → ByFinder (record { first = a.0.now; second = a.1.0.now; number = r })

-- as `coast_found_length`, `coast_found_receiver` and `coast_found_place` take it apart
abbrev pub length_of : Find → ℕ
length_of x = x.number % 256

abbrev pub receiver_of : Find → ℕ
receiver_of x = x.number / 256 % 2

abbrev pub place_of : Find → ℕ
place_of x = x.number / 65536

-- the bytes of the receiver that is named, and the stretch of them
abbrev pub heard : Find → List ℕ
heard x = cond (eqb (receiver_of x) 0) x.first x.second

abbrev pub stretch : Find → List ℕ
stretch x = take (length_of x) (drop (place_of x) (heard x))

-- ── what some bytes hold ─────────────────────────────────────────────────────

-- so many of them, from a place on, were handed to the reader, and it answered 0
pub record ReadAt (b : List ℕ) (place n : ℕ) : Type 0 where
  pub there : place + n ≤ length b
  pub call : Passage
  pub reads : ByReader call
  pub given : call.given ≡ take n (drop place b)
  pub answered : call.number ≡ 0

-- it never does
abbrev pub HoldsNone : List ℕ → Type 0
HoldsNone b = (place n : ℕ) → ReadAt b place n → ⊥

-- ── what is claimed of it ────────────────────────────────────────────────────

-- what is found stands there, and is read
unfoldable pub CFoundIsRead : Type 0
CFoundIsRead = (x : Find) (r : Passage) → ByFinder x → 0 < length_of x → ByReader r → r.given ≡ stretch x → meaning_size ≤ length r.lent
    → (place_of x + length_of x ≤ length (heard x)) × (r.number ≡ 0)

-- nothing earlier is, and nothing else at its place; where it is the second receiver's, nothing at all in the first's
unfoldable pub CNothingEarlier : Type 0
CNothingEarlier = (x : Find) → ByFinder x → 0 < length_of x
    → ((place n : ℕ) → ReadAt (heard x) place n → (place_of x ≤ place) × (place ≡ place_of x → n ≡ length_of x))
    × (receiver_of x ≡ 1 → HoldsNone x.first)

-- "54, handed back as the empty stretch, exactly when neither holds one"
unfoldable pub CEmptyExactly : Type 0
CEmptyExactly = (x : Find) → ByFinder x → (length_of x ≡ 0) ↔ (HoldsNone x.first × HoldsNone x.second)

-- at one place at most one length is read
unfoldable pub COneLength : Type 0
COneLength = (b : List ℕ) (place m n : ℕ) → ReadAt b place m → ReadAt b place n → m ≡ n

-- a sequence that was written and stands anywhere in one receiver's bytes is found at or before its place there: in the second's only
-- where the first's hold none
unfoldable pub CWrittenFound : Type 0
CWrittenFound = (w : Passage) (x : Find) (before after : List ℕ) → ByWriter w → answer_of w ≡ 0 → ByFinder x
    → (x.first ≡ before ++ (written w ++ after) → (receiver_of x ≡ 0) × (place_of x ≤ length before) × (0 < length_of x))
    × (x.second ≡ before ++ (written w ++ after)
    → ((receiver_of x ≡ 1) ↔ HoldsNone x.first) × (receiver_of x ≡ 1 → (place_of x ≤ length before) × (0 < length_of x)))

-- ── and they are of something ────────────────────────────────────────────────

-- whatever either receiver heard
unfoldable pub CFindsInAll : Type 0
CFindsInAll = (first second : List ℕ) → length first ≤ reach → length second ≤ reach
    → ByFinder (record { first = first; second = second; number = found_returned (found_in (in_reach first) (in_reach second)) })
