-- "The script program reads standard input": what a whole script prints.
use Rattle.std.specs.Prelude.{cond, List, [], ◌∷◌, ◌++◌, ◌≡◌, ℕ, ◌≤◌, eqb, ltb, length, take, drop}
use Rattle.lines.specs.Readable.{reads_as}
use Rattle.printing.specs.Replies.{answer_room}
use Rattle.script.specs.Answering.{Desk, desk_after, reply_to}
use Rattle.script.specs.declared.Fed.{Fed}
use Rattle.script.specs.declared.Session.{Session}
use Rattle.script.specs.Session.{no_text, add_bytes, before_feed, begun, fed_with, room_with, ended, room_ended}

-- a last line without a line feed is answered; nothing after the last line feed is no line
abbrev pub last_words : Desk → List ℕ → List ℕ
last_words d [] = []
last_words d (b ∷ l) = reply_to d (reads_as (b ∷ l))

-- with a line so far
unfoldable pub answers_from : Desk → List ℕ → List ℕ → List ℕ
answers_from d line [] = last_words d line
answers_from d line (b ∷ script) =
    cond (eqb b 10)
    (reply_to d (reads_as line) ++ answers_from (desk_after d (reads_as line)) [] script)
    (answers_from d (line ++ (b ∷ [])) script)

unfoldable pub transcript : List ℕ → List ℕ
transcript script = answers_from begun.desk [] script

-- ── a session that is fed with a script prints its transcript ────────────────

-- with a desk and a line so far
abbrev pub session_of : Desk → List ℕ → Session
session_of d line = record { desk = d; text = add_bytes no_text line }

abbrev pub line_after : List ℕ → List ℕ → List ℕ
line_after line bytes = cond (ltb (before_feed bytes) (length bytes)) [] (line ++ bytes)

abbrev pub fed_on : Desk → List ℕ → List ℕ → List ℕ → Fed
fed_on d line bytes room = fed_with (session_of d line) bytes room

-- what is answered to some bytes, and then what is said to the rest
abbrev pub Feeds : Type 0
Feeds =
    (d : Desk) (line bytes more room : List ℕ) → answer_room ≤ length room
    → (answers_from d line (bytes ++ more)
    ≡ take (fed_on d line bytes room).count (room_with (session_of d line) bytes room)
    ++ answers_from (fed_on d line bytes room).session.desk (line_after line bytes) (drop (fed_on d line bytes room).used bytes ++ more))
    × ((fed_on d line bytes room).session ≡ session_of (fed_on d line bytes room).session.desk (line_after line bytes))

-- at the end of the input
abbrev pub Ends : Type 0
Ends =
    (d : Desk) (line room : List ℕ) → answer_room ≤ length room
    → answers_from d line [] ≡ take (ended (session_of d line) room).count (room_ended (session_of d line) room)

-- and a session begins with no line
abbrev pub Begins : Type 0
Begins = (script : List ℕ) → (transcript script ≡ answers_from begun.desk [] script) × (begun ≡ session_of begun.desk [])

-- what a session prints of an input that comes in pieces, each fed into a room of its own
pub data Prints : Session → List ℕ → List ℕ → Type 0 where
  fed : (s : Session) (bytes more room rest : List ℕ) → answer_room ≤ length room
      → Prints (fed_with s bytes room).session (drop (fed_with s bytes room).used bytes ++ more) rest
      → Prints s (bytes ++ more) (take (fed_with s bytes room).count (room_with s bytes room) ++ rest)
  over : (s : Session) (room : List ℕ) → answer_room ≤ length room → Prints s [] (take (ended s room).count (room_ended s room))

-- however the input is cut, that is its transcript
abbrev pub PrintsTranscript : Type 0
PrintsTranscript = (script printed : List ℕ) → Prints begun script printed → printed ≡ transcript script
