-- "Each valid sequence has one meaning, each valid meaning one sequence": of the reader and the writer that C calls, from the bytes
-- alone.
use Rattle.std.specs.Prelude.{ℕ, ◌*◌, ◌/◌, ◌%◌, ◌≤◌, ◌≡◌, true, List, ◌++◌, length, take, drop}
use contract.Lifetimes.{Lfts}
use Rattle.sequence.specs.declared.Meaning.{Meaning}
use Rattle.sequence.specs.Figures.{longest}
use Rattle.sequence.specs.Symbols.{all_at_most}
use Rattle.sequence.specs.Layout.{valid, layout}
use Rattle.lent_layout.specs.Meanings.{meaning_bytes, meaning_size}
use Rattle.coast.proofs.sequences.coast_read_sequence.Reads as coast_read_sequence
use Rattle.coast.proofs.sequences.coast_write_sequence.Reads as coast_write_sequence

-- ── a call of either ─────────────────────────────────────────────────────────

-- what was handed in and lent, what was returned, and what was left
pub record Passage : Type 0 where
  pub given : List ℕ  -- the symbols to be read, or the meaning's bytes to be written
  pub lent : List ℕ  -- the room
  pub number : ℕ
  pub left : List ℕ  -- what the room then holds

abbrev pub passage : List ℕ → List ℕ → ℕ → List ℕ → Passage
passage given lent number left = record { given = given; lent = lent; number = number; left = left }

-- the contract of its entry allows it: `a` are the arguments, `r` is the result, `s` the parameters at exit
pub data ByReader : Passage → Type 0 where
  by_read : (κs : Lfts 2) (a : _) (r : _) (s : _) → coast_read_sequence.Post κs a r s
      → ByReader (passage a.0.now a.1.0.now r s.1.0.now)

pub data ByWriter : Passage → Type 0 where
  by-write : (κs : Lfts 2) (a : _) (r : _) (s : _) → coast_write_sequence.Post κs a r s
      → ByWriter (passage a.0.now a.1.0.now r s.1.0.now)

-- the answer and the count of symbols, as `coast_answer` and `coast_count` take them
abbrev pub answer_of : Passage → ℕ
answer_of x = x.number % 256

abbrev pub count_of : Passage → ℕ
count_of x = x.number / 256 % 256

-- the sequence that the writer left
abbrev pub written : Passage → List ℕ
written w = take (count_of w) w.left

-- the bytes that tell a meaning, whatever stands behind them
abbrev pub telling : List ℕ → List ℕ
telling b = take meaning_size b

-- what memory holds
abbrev pub InBytes : List ℕ → Type 0
InBytes b = all_at_most 255 b ≡ true

-- ── what is claimed of them ──────────────────────────────────────────────────

-- what was written is read back to the same bytes, every one of them, and those behind them stay
unfoldable pub CReadsWhatWasWritten : Type 0
CReadsWhatWasWritten = (w r : Passage) → ByWriter w → ByReader r → InBytes w.given
    → answer_of w ≡ 0 → r.given ≡ written w → meaning_size ≤ length r.lent
    → (r.number ≡ 0) × (r.left ≡ telling w.given ++ drop meaning_size r.lent)

-- what was read is written to the same symbols, and the bytes behind them stay
unfoldable pub CWritesWhatWasRead : Type 0
CWritesWhatWasRead = (r w : Passage) → ByReader r → ByWriter w
    → answer_of r ≡ 0 → telling w.given ≡ telling r.left → longest ≤ length w.lent
    → (w.number ≡ 256 * length r.given) × (w.left ≡ r.given ++ drop (length r.given) w.lent)

-- two meanings that are written as one sequence are one
unfoldable pub COneMeaning : Type 0
COneMeaning = (w v : Passage) → ByWriter w → ByWriter v → InBytes w.given → InBytes v.given
    → answer_of w ≡ 0 → answer_of v ≡ 0 → written w ≡ written v
    → telling w.given ≡ telling v.given

-- two sequences that are read as one meaning are one
unfoldable pub COneSequence : Type 0
COneSequence = (r q : Passage) → ByReader r → ByReader q
    → answer_of r ≡ 0 → answer_of q ≡ 0 → telling r.left ≡ telling q.left
    → r.given ≡ q.given

-- and no valid meaning is refused: its sequence is read, its bytes are written
unfoldable pub CTakesEveryMeaning : Type 0
CTakesEveryMeaning = (m : Meaning) → valid m ≡ true
    → ((r : Passage) → ByReader r → r.given ≡ layout m → meaning_size ≤ length r.lent
    → (r.number ≡ 0) × (telling r.left ≡ meaning_bytes m))
    × ((w : Passage) → ByWriter w → telling w.given ≡ meaning_bytes m → longest ≤ length w.lent
    → (answer_of w ≡ 0) × (written w ≡ layout m))

-- ── and they are of something ────────────────────────────────────────────────

pub record Passes (By : Passage → Type 0) (given lent : List ℕ) : Type 0 where
  pub call : Passage
  pub is_call : By call
  pub is-given : call.given ≡ given
  pub is-lent : call.lent ≡ lent

-- whatever is handed in, in whatever room
unfoldable pub CAnswersEveryInput : Type 0
CAnswersEveryInput = (given lent : List ℕ) → Passes ByReader given lent × Passes ByWriter given lent
