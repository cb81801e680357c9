-- What was put on the air is read off it: of the writer and the reader of a transmission that C calls, from the bytes alone.
use Rattle.std.specs.Prelude.{ℕ, ◌+◌, ◌*◌, ◌≤◌, ◌<◌, ◌≡◌, ◌↔◌, ◌⊎◌, true, List, ◌++◌, length, get_or, take, drop}
use contract.Lifetimes.{Lfts}
use Rattle.sequence.specs.Figures.{last_symbol, longest}
use Rattle.sequence.specs.Symbols.{all_at_most}
use Rattle.sequence.specs.Reading.{length_in}
use Rattle.lent_layout.specs.Meanings.{meaning_size}
use Rattle.characters.specs.Code.{none}
use Rattle.transmission.specs.Layout.{transmission, bytes_of}
use Rattle.transmission.specs.Writing.{longest_transmission}
use Rattle.transmission.specs.Phasing.{characters_of, most_lost}
use Rattle.transmission.specs.Copies as Copies
use Rattle.transmission_theorems.specs.Statement.{Accepted, AllNone, replaced, Whole, EarlierWhole, StoodIn}
use Rattle.coast.proofs.transmissions.coast_write_transmission.Reads as coast_write_transmission
use Rattle.coast.proofs.transmissions.coast_read_transmission.Reads as coast_read_transmission
use Rattle.host_theorems.specs.Sequences.{Passage, passage, answer_of, count_of, written, telling, InBytes, ByReader, ByWriter, Passes}

-- ── a call of either ─────────────────────────────────────────────────────────

-- the contract of its entry allows it: given are the symbols to be sent, or the characters' bytes that were handed over
pub data BySender : Passage → Type 0 where
  by-send : (κs : Lfts 2) (a : _) (r : _) (s : _) → coast_write_transmission.Post κs a r s
      → BySender (passage a.0.now a.1.0.now r s.1.0.now)

pub data ByReceiver : Passage → Type 0 where
  by-receive : (κs : Lfts 2) (a : _) (r : _) (s : _) → coast_read_transmission.Post κs a r s
      → ByReceiver (passage a.0.now a.1.0.now r s.1.0.now)

-- the characters that the sender left, and those that the receiver was handed: two bytes each
abbrev pub on_air : Passage → List ℕ
on_air w = characters_of (take (2 * count_of w) w.left)

abbrev pub off_air : Passage → List ℕ
off_air r = characters_of r.given

-- a sequence that the reader accepts went on the air
pub record Sent (w : Passage) : Type 0 where
  pub by : BySender w
  pub answered : answer_of w ≡ 0
  pub accepted : Accepted w.given

-- and something was received, in room enough
pub record Received (r : Passage) : Type 0 where
  pub by : ByReceiver r
  pub room : longest ≤ length r.lent

-- these symbols were read, and the bytes behind them stay
abbrev pub ReadOff : Passage → List ℕ → Type 0
ReadOff r s = (r.number ≡ 256 * length s) × (r.left ≡ s ++ drop (length s) r.lent)

-- ── what is claimed of them ──────────────────────────────────────────────────

-- 21 to 28 symbols, none over 127, are written as their transmission, and the bytes behind it stay
unfoldable pub CSendsAll : Type 0
CSendsAll = (w : Passage) → BySender w
    → length_in w.given ≡ true → all_at_most last_symbol w.given ≡ true → 2 * longest_transmission ≤ length w.lent
    → (w.number ≡ 256 * length (transmission w.given))
    × (w.left ≡ bytes_of (transmission w.given) ++ drop (2 * length (transmission w.given)) w.lent)

-- what was written is read back, exactly where the first 117, 122 or 127 from place 19 on stands last but one, or there are 28 symbols
-- and none stands before
unfoldable pub CReadsBack : Type 0
CReadsBack = (w r : Passage) → BySender w → answer_of w ≡ 0 → Received r → off_air r ≡ on_air w
    → ReadOff r w.given ↔ (Copies.count_of w.given ≡ length w.given)

-- and so is every sequence that the reader accepts
unfoldable pub CSequencesReadBack : Type 0
CSequencesReadBack = (w r : Passage) → Sent w → Received r → off_air r ≡ on_air w → ReadOff r w.given

-- "up to five characters in a row turned none, anywhere, are made good"
unfoldable pub CFiveMadeGood : Type 0
CFiveMadeGood = (w r : Passage) → Sent w → Received r
    → (place : ℕ) (spoiled : List ℕ) → AllNone spoiled → length spoiled ≤ 5 → place + length spoiled ≤ length (on_air w)
    → off_air r ≡ replaced (on_air w) place spoiled → ReadOff r w.given

-- "up to eleven lost at the beginning change nothing"
unfoldable pub CElevenLost : Type 0
CElevenLost = (w r : Passage) → Sent w → Received r
    → (lost : ℕ) → lost ≤ most_lost → off_air r ≡ drop lost (on_air w) → ReadOff r w.given

-- one that stands whole in what was received is read, whatever stands before and behind it, unless another whole phasing stands before
-- it
unfoldable pub CWholeRead : Type 0
CWholeRead = (w r : Passage) → Sent w → Received r
    → (before after : List ℕ) → off_air r ≡ before ++ (on_air w ++ after)
    → ReadOff r w.given ⊎ EarlierWhole (off_air r) (most_lost + length before)

-- "reading gives nothing but what stood in good characters"
unfoldable pub CNothingElse : Type 0
CNothingElse = (r : Passage) → ByReceiver r → answer_of r ≡ 0
    → (k : ℕ) → k < count_of r → StoodIn (off_air r) k (get_or r.left k none)

-- ── a meaning over the air ───────────────────────────────────────────────────

-- what may become of characters on their way, and is made good
pub data Withstood (sent : List ℕ) : List ℕ → Type 0 where
  spoiled : (place : ℕ) (others : List ℕ) → AllNone others → length others ≤ 5 → place + length others ≤ length sent
      → Withstood sent (replaced sent place others)
  cut : (lost : ℕ) → lost ≤ most_lost → Withstood sent (drop lost sent)
  amid : (before after : List ℕ)
      → ((start : ℕ) → start < most_lost + length before → Whole (before ++ (sent ++ after)) start → ⊥)
      → Withstood sent (before ++ (sent ++ after))

-- by all four entries: a meaning that is written, sent, received and read has the same bytes
unfoldable pub CMeaningOnAir : Type 0
CMeaningOnAir = (m w r q : Passage) → ByWriter m → BySender w → Received r → ByReader q → InBytes m.given
    → answer_of m ≡ 0 → w.given ≡ written m → answer_of w ≡ 0
    → Withstood (on_air w) (off_air r) → q.given ≡ written r → meaning_size ≤ length q.lent
    → (q.number ≡ 0) × (q.left ≡ telling m.given ++ drop meaning_size q.lent)

-- ── and they are of something ────────────────────────────────────────────────

-- whatever is handed in, in whatever room
unfoldable pub CAnswersOnAir : Type 0
CAnswersOnAir = (given lent : List ℕ) → Passes BySender given lent × Passes ByReceiver given lent
