-- The line so far, and what bytes make of a session.
use Rattle.std.specs.Prelude.{None, cond, List, [], ◌∷◌, ℕ, suc, ◌+◌, leb, ltb, eqb, length, set, take, replicate}
use Rattle.std.proofs.Math.Option.{Option}
use Rattle.lines.specs.Lines.{Said}
use Rattle.lines.specs.Readable.{reads_as, longest_line}
use Rattle.printing.specs.Replies.{put_text, put_length, answer_room}
use Rattle.script.specs.declared.Text.{Text}
use Rattle.script.specs.declared.Session.{Session}
use Rattle.script.specs.declared.Fed.{Fed}
use Rattle.script.specs.Answering.{Desk, desk_after, reply_to}

-- ── the line so far ──────────────────────────────────────────────────────────

-- "one over 200 characters": so many bytes of a line tell whether it is, and no further one is kept
abbrev pub kept_bytes : ℕ
kept_bytes = longest_line + 1

abbrev pub no_text : Text
no_text = record { length = 0; bytes = replicate kept_bytes 0 }

unfoldable pub add_byte : Text → ℕ → Text
add_byte text byte =
    cond (leb kept_bytes text.length)
    text
    (record { length = text.length + 1; bytes = set text.bytes text.length byte })

abbrev pub add_bytes : Text → List ℕ → Text
add_bytes text [] = text
add_bytes text (byte ∷ more) = add_bytes (add_byte text byte) more

unfoldable pub says_text : Text → Option Said
says_text text = reads_as (take text.length text.bytes)

-- how many bytes stand before the first line feed
abbrev pub before_feed : List ℕ → ℕ
before_feed [] = 0
before_feed (byte ∷ more) = cond (eqb byte 10) 0 (suc (before_feed more))

-- ── a session ────────────────────────────────────────────────────────────────

-- "No station yet"
unfoldable pub begun : Session
begun = record { desk = None; text = no_text }

abbrev pub untaken : Session → Fed
untaken s = record { used = 0; count = 0; session = s }

abbrev pub answered : ℕ → Desk → Text → List ℕ → Fed
answered used d text room =
    record {
      used = used;
      count = put_length room (reply_to d (says_text text));
      session = record { desk = desk_after d (says_text text); text = no_text };
    }

-- the line so far with the bytes before a line feed
abbrev pub text_with : Session → List ℕ → Text
text_with s bytes = add_bytes s.text (take (before_feed bytes) bytes)

abbrev pub fed_for : Session → List ℕ → List ℕ → Fed
fed_for s bytes room =
    cond (ltb (before_feed bytes) (length bytes))
    (answered (before_feed bytes + 1) s.desk (text_with s bytes) room)
    (record { used = before_feed bytes; count = 0; session = record { desk = s.desk; text = text_with s bytes } })

abbrev pub room_for : Session → List ℕ → List ℕ → List ℕ
room_for s bytes room =
    cond (ltb (before_feed bytes) (length bytes))
    (put_text room (reply_to s.desk (says_text (text_with s bytes))))
    room

-- nothing is taken where the room for an answer is short
unfoldable pub fed_with : Session → List ℕ → List ℕ → Fed
fed_with s bytes room = cond (leb answer_room (length room)) (fed_for s bytes room) (untaken s)

unfoldable pub room_with : Session → List ℕ → List ℕ → List ℕ
room_with s bytes room = cond (leb answer_room (length room)) (room_for s bytes room) room

-- at the end of the input
abbrev pub end_for : Session → List ℕ → Fed
end_for s room = cond (eqb s.text.length 0) (untaken s) (answered 0 s.desk s.text room)

unfoldable pub ended : Session → List ℕ → Fed
ended s room = cond (leb answer_room (length room)) (end_for s room) (untaken s)

unfoldable pub room_ended : Session → List ℕ → List ℕ
room_ended s room =
    cond (leb answer_room (length room))
    (cond (eqb s.text.length 0) room (put_text room (reply_to s.desk (says_text s.text))))
    room
