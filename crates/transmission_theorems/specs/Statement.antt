-- What a character and a transmission withstand, over the definitions that the contracts of `characters`, `sending` and `receiving` cite.
use Rattle.std.specs.Prelude.{ℕ, ◌+◌, ◌^◌, ◌≤◌, ◌<◌, ◌≡◌, ◌↔◌, ◌⊎◌, true, List, [], ◌∷◌, ◌++◌, length, get_or, take, drop}
use Rattle.std.specs.Int.Bits.{bit_xor}
use Rattle.sequence.specs.Figures.{last_symbol, longest}
use Rattle.sequence.specs.Answers as sequence-answers
use Rattle.sequence.specs.Symbols.{all_at_most}
use Rattle.sequence.specs.Reading.{length_in, answer_of}
use Rattle.characters.specs.Code.{character_of, symbol_of, none, no_character}
use Rattle.transmission.specs.Answers.{done}
use Rattle.transmission.specs.Layout.{transmission, bytes_of}
use Rattle.transmission.specs.Phasing.{characters_of, heard, heard_at, most_lost, phasing_at}
use Rattle.transmission.specs.Copies.{copies_of, count_of}
use Rattle.transmission.specs.Reading.{start_in, symbols_in, phasing_in, reading_answer}

-- ── one character ────────────────────────────────────────────────────────────

-- the table and the writing of a character are inverse
abbrev pub CharactersReadBack : Type 0
CharactersReadBack = (symbol : ℕ) → symbol ≤ last_symbol → symbol_of (character_of symbol) ≡ symbol

abbrev pub SymbolsWriteBack : Type 0
SymbolsWriteBack =
    (character : ℕ) → (symbol_of character ≡ none) ⊎ ((symbol_of character ≤ last_symbol) × (character_of (symbol_of character) ≡ character))

-- "Any one bit changed in a symbol's character gives none."
abbrev pub OneBitGivesNone : Type 0
OneBitGivesNone =
    (symbol bit : ℕ) → symbol ≤ last_symbol → bit < 10 → symbol_of (bit_xor (character_of symbol) (2 ^ bit)) ≡ none

-- ── a transmission ───────────────────────────────────────────────────────────

-- these characters are read, as these symbols
abbrev pub ReadAs : List ℕ → List ℕ → Type 0
ReadAs characters s = (reading_answer (heard characters) longest ≡ done) × (symbols_in (heard characters) ≡ s)

-- a sequence that the reader accepts
abbrev pub Accepted : List ℕ → Type 0
Accepted s = answer_of s ≡ sequence-answers.done

-- what was written in bytes is handed in again as the same characters
abbrev pub BytesReadBack : Type 0
BytesReadBack = (s : List ℕ) → characters_of (bytes_of (transmission s)) ≡ transmission s

-- what was written is read back, exactly where the first 117, 122 or 127 from place 19 on stands last but one, or there are 28 symbols
-- and none stands before
abbrev pub ReadsBack : Type 0
ReadsBack =
    (s : List ℕ) → length_in s ≡ true → all_at_most last_symbol s ≡ true → ReadAs (transmission s) s ↔ (count_of s ≡ length s)

-- and so is every sequence that the reader accepts
abbrev pub SequencesReadBack : Type 0
SequencesReadBack = (s : List ℕ) → Accepted s → ReadAs (transmission s) s

-- characters that are no symbol's
pub data AllNone : List ℕ → Type 0 where
  no_more : AllNone []
  one_more : {c : ℕ} {cs : List ℕ} → symbol_of c ≡ none → AllNone cs → AllNone (c ∷ cs)

-- other characters in the places from one on
abbrev pub replaced : List ℕ → ℕ → List ℕ → List ℕ
replaced characters place others = take place characters ++ (others ++ drop (place + length others) characters)

-- "up to five characters in a row turned none, anywhere, are made good"
abbrev pub FiveMadeGood : Type 0
FiveMadeGood =
    (s : List ℕ) → Accepted s → (place : ℕ) (spoiled : List ℕ) → AllNone spoiled → length spoiled ≤ 5
    → place + length spoiled ≤ length (transmission s) → ReadAs (replaced (transmission s) place spoiled) s

-- "up to eleven lost at the beginning change nothing"
abbrev pub ElevenLost : Type 0
ElevenLost = (s : List ℕ) → Accepted s → (lost : ℕ) → lost ≤ most_lost → ReadAs (drop lost (transmission s)) s

-- six DX and eight RX phasing characters stand in their places
abbrev pub Whole : List ℕ → ℕ → Type 0
Whole characters start = phasing_at (heard characters) start ≡ 14

-- the start found is an earlier one, and whole
abbrev pub EarlierWhole : List ℕ → ℕ → Type 0
EarlierWhole characters start = (start_in (heard characters) < start) × Whole characters (start_in (heard characters))

-- "a whole phasing is found whatever stands before it, unless another whole one does"
abbrev pub WholePhasingFound : Type 0
WholePhasingFound =
    (characters : List ℕ) (start : ℕ) → Whole characters start
    → (phasing_in (heard characters) ≡ true) × ((start_in (heard characters) ≡ start) ⊎ EarlierWhole characters start)

-- and so a transmission that stands whole in what was handed in is read, whatever stands before and behind it, unless another whole
-- phasing stands before it
abbrev pub WholeRead : Type 0
WholeRead =
    (s : List ℕ) → length_in s ≡ true → all_at_most last_symbol s ≡ true → count_of s ≡ length s → (before after : List ℕ)
    → ReadAs (before ++ (transmission s ++ after)) s ⊎ EarlierWhole (before ++ (transmission s ++ after)) (most_lost + length before)

-- one of some places, and those before it hold none
pub data FirstOf (t : List ℕ) (place : ℕ) : List ℕ → Type 0 where
  here : {places : List ℕ} → FirstOf t place (place ∷ places)
  behind : {other : ℕ} {places : List ℕ} → heard_at t other ≡ none → FirstOf t place places → FirstOf t place (other ∷ places)

-- the character that symbol k was read from: the first good one of its copies, in its place among those handed in
pub record StoodIn (characters : List ℕ) (k symbol : ℕ) : Type 0 where
  pub place : ℕ
  pub there : place < length characters
  pub first_good : FirstOf (heard characters) (most_lost + place) (copies_of (start_in (heard characters)) k)
  pub its-character : get_or characters place no_character ≡ character_of symbol
  pub is-symbol : symbol ≤ last_symbol

-- "reading gives nothing but what stood in good characters"
abbrev pub NothingElse : Type 0
NothingElse =
    (characters : List ℕ) → reading_answer (heard characters) longest ≡ done
    → (k : ℕ) → k < length (symbols_in (heard characters)) → StoodIn characters k (get_or (symbols_in (heard characters)) k none)
