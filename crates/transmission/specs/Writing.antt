-- What the writer of a transmission answers, and what the room then holds.
use Rattle.std.specs.Prelude.{ℕ, ◌*◌, cond, Result, Some, List, [], ◌∷◌, ◌++◌, leb, length, drop}
use Rattle.sequence.specs.Figures.{last_symbol}
use Rattle.sequence.specs.Refusals.{Row, row, first_refusal}
use Rattle.sequence.specs.Symbols.{all_at_most}
use Rattle.sequence.specs.Reading.{length_in}
use Rattle.transmission.specs.declared.Refusal.{Refusal}
use Rattle.transmission.specs.declared.Refusal.TheVariants.{BadLength, BadSymbol, ShortRoom}
use Rattle.transmission.specs.Answers.{Answer, done, is_done, answered}
use Rattle.transmission.specs.Layout.{transmission, bytes_of}

-- characters of the longest transmission
abbrev pub longest_transmission : ℕ
longest_transmission = 74

-- 21, a room under 74 characters, each of two bytes; then the symbols' 11 and 12, and nothing else
unfoldable pub writing_refusals : List ℕ → ℕ → List (Row Answer)
writing_refusals s room =
    row (leb (2 * longest_transmission) room) (Some ShortRoom)
    ∷ row (length_in s) (Some BadLength)
    ∷ row (all_at_most last_symbol s) (Some BadSymbol)
    ∷ []

unfoldable pub writing_answer : List ℕ → ℕ → Answer
writing_answer s room = first_refusal (writing_refusals s room) done

-- the count of characters written, or the refusal
unfoldable pub transmission_written : List ℕ → ℕ → Result ℕ Refusal
transmission_written s room = answered (writing_answer s room) (length (transmission s))

unfoldable pub transmission_laid : List ℕ → List ℕ → List ℕ
transmission_laid s room = bytes_of (transmission s) ++ drop (length (bytes_of (transmission s))) room

-- a refusal leaves the room untouched
unfoldable pub room_after_writing : List ℕ → List ℕ → List ℕ
room_after_writing s room = cond (is_done (writing_answer s (length room))) (transmission_laid s room) room
