-- What the writer answers, and what the room then holds.
use Rattle.std.specs.Prelude.{ℕ, cond, List, [], ◌∷◌, ◌++◌, leb, length, drop, Some, Result}
use Rattle.sequence.specs.declared.Refusal.{Refusal}
use Rattle.sequence.specs.declared.Refusal.TheVariants.{BadIdentities, BadTelecommands, BadField, BadNumber, BadEnd, ShortRoom}
use Rattle.sequence.specs.declared.Meaning.{Meaning}
use Rattle.sequence.specs.Refusals.{Row, row, first_refusal}
use Rattle.sequence.specs.Answers.{Answer, done, is_done, answered}
use Rattle.sequence.specs.Figures.{longest}
use Rattle.sequence.specs.Identity.{identities_ok}
use Rattle.sequence.specs.Field.{telecommands_ok, field_ok}
use Rattle.sequence.specs.Number.{number_ok}
use Rattle.sequence.specs.Layout.{end_ok, layout}

-- "The writer gives 21, 15, 17, 18, 19, 20": the part behind the room, and the whole
unfoldable pub meaning_refusals : Meaning → List (Row Answer)
meaning_refusals m =
    row (identities_ok m.address m.sender) (Some BadIdentities)
    ∷ row (telecommands_ok m.first m.second) (Some BadTelecommands)
    ∷ row (field_ok m.first m.field) (Some BadField)
    ∷ row (number_ok m.number) (Some BadNumber)
    ∷ row (end_ok m.end) (Some BadEnd)
    ∷ []

unfoldable pub writing_answer : Meaning → ℕ → Answer
writing_answer m room = first_refusal (row (leb longest room) (Some ShortRoom) ∷ meaning_refusals m) done

-- the first refusal, or with none the count of bytes written
unfoldable pub written_of : Meaning → ℕ → Result ℕ Refusal
written_of m room = answered (writing_answer m room) (length (layout m))

-- "it writes only the sequence's own bytes"; a refusal "leaves lent bytes untouched"
unfoldable pub room_after : Meaning → List ℕ → List ℕ
room_after m room =
    cond (is_done (writing_answer m (length room))) (layout m ++ drop (length (layout m)) room) room
