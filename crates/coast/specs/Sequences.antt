-- What the reader and the writer for a host in C answer, over the definitions of `sequence`.
use Rattle.std.specs.Prelude.{ℕ, ◌*◌, cond, ◌&&◌, Result, Ok, Err, List, leb, eqb, length}
use Rattle.sequence.specs.declared.Refusal.{Refusal}
use Rattle.sequence.specs.Figures.{longest}
use Rattle.sequence.specs.Answers.{refusal_number, answer_number}
use Rattle.sequence.specs.Reading.{answer_of, meaning_read}
use Rattle.sequence.specs.Writing.{written_of, room_after}
use Rattle.lent_layout.specs.Meanings.{meaning_from, meaning_laid, meaning_size}

-- refused, 22, where the room for the meaning is short, which is tested first
unfoldable pub read_answer : List ℕ → ℕ → ℕ
read_answer s size = cond (leb meaning_size size) (answer_number (answer_of s)) 22

unfoldable pub meaning_after : List ℕ → List ℕ → List ℕ
meaning_after s room = cond (eqb (read_answer s (length room)) 0) (meaning_laid (meaning_read s) room) room

-- refused, 21, where the room is short, which is tested first; then 22, where the meaning is; then the writer's answer and 256
-- times its count
abbrev pub answer_and_count : Result ℕ Refusal → ℕ
answer_and_count (Ok count) = 256 * count
answer_and_count (Err refusal) = refusal_number refusal

unfoldable pub write_answer : List ℕ → ℕ → ℕ
write_answer b room = cond (leb longest room) (cond (leb meaning_size (length b)) (answer_and_count (written_of (meaning_from b) room)) 22) 21

unfoldable pub room_after_writing : List ℕ → List ℕ → List ℕ
room_after_writing b room = cond (leb longest (length room) && leb meaning_size (length b)) (room_after (meaning_from b) room) room
