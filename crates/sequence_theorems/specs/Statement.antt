-- "Each valid sequence has one meaning, each valid meaning one sequence",
-- over the definitions that the reader's and the writer's contracts cite.
use Rattle.std.specs.Prelude.{ℕ, ◌≤◌, ◌≡◌, ◌↔◌, true, List, length, take, Ok}
use Rattle.sequence.specs.Figures.{longest}
use Rattle.sequence.specs.declared.Meaning.{Meaning}
use Rattle.sequence.specs.Layout.{valid, layout}
use Rattle.sequence.specs.Reading.{reading_of}
use Rattle.sequence.specs.Writing.{written_of, room_after}

-- the reader gives a meaning exactly where the meaning is valid and the symbols are its layout
abbrev pub ReadsExactly : Type 0
ReadsExactly = (s : List ℕ) (m : Meaning) → (reading_of s ≡ Ok m) ↔ ((valid m ≡ true) × (s ≡ layout m))

-- so two valid meanings with one sequence are one meaning
abbrev pub OneMeaning : Type 0
OneMeaning = (m n : Meaning) → valid m ≡ true → valid n ≡ true → layout m ≡ layout n → m ≡ n

-- and two sequences that are read as one meaning are one sequence
abbrev pub OneSequence : Type 0
OneSequence = (m : Meaning) (s t : List ℕ) → reading_of s ≡ Ok m → reading_of t ≡ Ok m → s ≡ t

-- reading the bytes that were written gives the meaning back
abbrev pub ReadsWhatWasWritten : Type 0
ReadsWhatWasWritten =
    (m : Meaning) (room : List ℕ) (n : ℕ) → written_of m (length room) ≡ Ok n → reading_of (take n (room_after m room)) ≡ Ok m

-- writing a meaning that was read gives the same symbols back
abbrev pub WritesWhatWasRead : Type 0
WritesWhatWasRead =
    (s room : List ℕ) (m : Meaning) → reading_of s ≡ Ok m → longest ≤ length room
    → (written_of m (length room) ≡ Ok (length s)) × (take (length s) (room_after m room) ≡ s)
