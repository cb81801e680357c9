-- A session that is fed with a script prints its transcript.
use mathlib.Core.Bool.{false}
use mathlib.Core.List.{List, [], ◌∷◌, ◌++◌, append_assoc, append-nil}
use mathlib.Core.Option.{Option}
use mathlib.Core.Path.{◌≡◌, refl, sym, ◌∙◌, ap}
use Prim.Native.Nat.{ℕ, suc, ◌+◌, ◌<◌, ◌≤◌}
use native.Mathlib.Omega.{arith}
use native.Mathlib.Nat.{zero-add}
use lib.Dec.{leb, ltb, eqb}
use lib.ListN.{length, take, drop, length-append, length-take, take-append-drop, drop_of_length-le}
use lib.Seq.{take_at, take_all}
use borrow.Author.Tests.{le-leb, lt-leb, ltb-true, ltb-false, leb-true, leb-false, eqb-true, ne_eqb}
use Rattle.sequence.proofs.Tests.{Either, yes!, no!, which}
use Rattle.rules.specs.Rules.Bytes.{padded}
use Rattle.requests.proofs.ArrayLaws.{padded-front, padded-snoc}
use Rattle.lines.specs.Lines.{Said}
use Rattle.lines.specs.Readable.{reads_as}
use Rattle.lines.proofs.ReadLaws.{too_long}
use Rattle.printing.specs.Texts.{put_at}
use Rattle.printing.specs.Replies.{put_text, put_length}
use Rattle.printing.proofs.ReplyLaws.{reply-length}
use Rattle.script.specs.declared.Session.{Session}
use Rattle.script.specs.declared.Text.{Text}
use Rattle.script.specs.Answering.{Desk, handled_for, blocks_for, clock_of, due_of, no_blocks, desk_after, reply_to}
use Rattle.script.specs.Session.{no_text, add_byte, add_bytes, says_text, before_feed, begun, fed_for, room_for, fed_with, room_with, ended, room_ended}
use Rattle.script.specs.Transcript.{answers_from, transcript, session_of, line_after, Feeds, Ends, Begins, Prints, fed, over, PrintsTranscript}

-- ── the line so far says what the line says ──────────────────────────────────

text_of : List ℕ → Text
text_of l = record { length = length l; bytes = padded 0 201 l }

keeps-more : (l m : List ℕ) → length l + length m ≤ 201 → add_bytes (text_of l) m ≡ text_of (l ++ m)
unfolding text_of add_byte
keeps-more l [] h = rw (append-nil l)
keeps-more l (b ∷ m) h =
    let e : add_byte (text_of l) b ≡ text_of (l ++ (b ∷ [])) =
    rw (lt-leb 201 (length l) (omega arith), padded-snoc 0 201 l b (omega arith)) (ap (λ n. record { length = n; bytes = padded 0 201 (l ++ (b ∷ [])) }) (sym (length-append l (b ∷ [])))) in
    ap (λ t. add_bytes t m) e ∙ keeps-more (l ++ (b ∷ [])) m (omega (arith, length-append l (b ∷ []))) ∙ ap text_of (append_assoc l (b ∷ []) m)

keeps-no-more : (t : Text) (m : List ℕ) → 201 ≤ t.length → add_bytes t m ≡ t
unfolding add_byte
keeps-no-more t [] h = refl
keeps-no-more t (b ∷ m) h = rw (le-leb 201 t.length h) (keeps-no-more t m h)

add-append : (t : Text) (l m : List ℕ) → add_bytes t (l ++ m) ≡ add_bytes (add_bytes t l) m
add-append t [] m = refl
add-append t (b ∷ l) m = add-append (add_byte t b) l m

-- of a line its first 201 bytes are kept
first-kept : (line : List ℕ) → add_bytes no_text line ≡ text_of (take 201 line)
unfolding text_of padded
first-kept line =
    let first : add_bytes no_text (take 201 line) ≡ text_of (take 201 line) = keeps-more [] (take 201 line) (omega (arith, length-take 201 line)) in
    let rest = ap (add_bytes no_text) (sym (take-append-drop 201 line)) ∙ add-append no_text (take 201 line) (drop 201 line) ∙ ap (λ t. add_bytes t (drop 201 line)) first in
    go rest (which (leb (length line) 201))
  where
    go : add_bytes no_text line ≡ add_bytes (text_of (take 201 line)) (drop 201 line) → Either (leb (length line) 201) → add_bytes no_text line ≡ text_of (take 201 line)
    go r (yes! e) = r ∙ ap (add_bytes (text_of (take 201 line))) (drop_of_length-le line {i = 201} (leb-true (length line) 201 e))
    go r (no! e) = r ∙ keeps-no-more (text_of (take 201 line)) (drop 201 line) (omega (arith, length-take 201 line, leb-false (length line) 201 e))

-- and they tell what the line says: one over 200 characters says nothing
first_says : (line : List ℕ) → reads_as (take 201 line) ≡ reads_as line
first_says line = go (which (leb (length line) 201))
  where
    go : Either (leb (length line) 201) → reads_as (take 201 line) ≡ reads_as line
    go (yes! e) = ap reads_as (take_all 201 line (leb-true (length line) 201 e))
    go (no! e) =
        let h = leb-false (length line) 201 e in
        too_long (take 201 line) (omega (arith, length-take 201 line)) ∙ sym (too_long line (omega arith))

says-line : (line : List ℕ) → says_text (add_bytes no_text line) ≡ reads_as line
unfolding says_text text_of
says-line line =
    rw (first-kept line, padded-front 0 201 (take 201 line) (omega (arith, length-take 201 line))) (first_says line)

-- ── an answer stands in the room ─────────────────────────────────────────────

stands-there : (room t : List ℕ) → length t ≤ 4096 → 4096 ≤ length room → take (put_length room t) (put_text room t) ≡ t
unfolding put_length put_text put_at
stands-there room t h k = rw (le-leb 4096 (length room) k, zero-add (length t)) (take_at t (drop (length t) room) (length t) refl)

reply-short : (d : Desk) (o : Option Said) → length (reply_to d o) ≤ 4096
unfolding reply_to
reply-short d o =
    let h = handled_for d no_blocks o in
    reply-length h.answer (clock_of h.desk).0 h.count (due_of h.desk) (blocks_for d no_blocks o)

-- ── up to the line feed ──────────────────────────────────────────────────────

up-to-feed : (d : Desk) (line bytes more : List ℕ)
    → answers_from d line (bytes ++ more) ≡ answers_from d (line ++ take (before_feed bytes) bytes) (drop (before_feed bytes) bytes ++ more)
unfolding answers_from
up-to-feed d line [] more = rw (append-nil line)
up-to-feed d line (b ∷ bytes) more = go (which (eqb b 10)) (up-to-feed d (line ++ (b ∷ [])) bytes more)
  where
    go : Either (eqb b 10) → answers_from d (line ++ (b ∷ [])) (bytes ++ more) ≡ answers_from d ((line ++ (b ∷ [])) ++ take (before_feed bytes) bytes) (drop (before_feed bytes) bytes ++ more)
        → answers_from d line (b ∷ (bytes ++ more)) ≡ answers_from d (line ++ take (before_feed (b ∷ bytes)) (b ∷ bytes)) (drop (before_feed (b ∷ bytes)) (b ∷ bytes) ++ more)
    go (yes! e) f = rw (e, append-nil line, e)
    go (no! e) f = rw e (f ∙ ap (λ l. answers_from d l (drop (before_feed bytes) bytes ++ more)) (append_assoc line (b ∷ []) (take (before_feed bytes) bytes)))

feed-at : (bytes : List ℕ) → before_feed bytes < length bytes → drop (before_feed bytes) bytes ≡ 10 ∷ drop (before_feed bytes + 1) bytes
feed-at [] h = absurd (omega arith)
feed-at (b ∷ bytes) h = go (which (eqb b 10)) (feed-at bytes) h
  where
    go : Either (eqb b 10) → (before_feed bytes < length bytes → drop (before_feed bytes) bytes ≡ 10 ∷ drop (before_feed bytes + 1) bytes)
        → before_feed (b ∷ bytes) < length (b ∷ bytes) → drop (before_feed (b ∷ bytes)) (b ∷ bytes) ≡ 10 ∷ drop (before_feed (b ∷ bytes) + 1) (b ∷ bytes)
    go (yes! e) f h = rw e (ap (λ x. x ∷ bytes) (eqb-true b 10 e))
    go (no! e) f h =
        let k : suc (before_feed bytes) < suc (length bytes) = rw e at h in
        let n : suc (before_feed bytes) + 1 ≡ suc (before_feed bytes + 1) = omega arith in
        rw (e, n) (f (omega arith))

-- ── feeding ──────────────────────────────────────────────────────────────────

fed-line : (d : Desk) (line script : List ℕ) → answers_from d line (10 ∷ script) ≡ reply_to d (reads_as line) ++ answers_from (desk_after d (reads_as line)) [] script
unfolding answers_from
fed-line d line script = refl

module _ (d : Desk) (line bytes : List ℕ) where
  whole-line : says_text (add_bytes (add_bytes no_text line) (take (before_feed bytes) bytes)) ≡ reads_as (line ++ take (before_feed bytes) bytes)
  whole-line = ap says_text (sym (add-append no_text line (take (before_feed bytes) bytes))) ∙ says-line (line ++ take (before_feed bytes) bytes)

  answers : (more : List ℕ) → before_feed bytes < length bytes
      → answers_from d line (bytes ++ more)
      ≡ reply_to d (reads_as (line ++ take (before_feed bytes) bytes))
      ++ answers_from (desk_after d (reads_as (line ++ take (before_feed bytes) bytes))) [] (drop (before_feed bytes + 1) bytes ++ more)
  answers more h = up-to-feed d line bytes more ∙ ap (λ l. answers_from d (line ++ take (before_feed bytes) bytes) (l ++ more)) (feed-at bytes h) ∙ spoken
    where
      spoken : answers_from d (line ++ take (before_feed bytes) bytes) (10 ∷ (drop (before_feed bytes + 1) bytes ++ more))
          ≡ reply_to d (reads_as (line ++ take (before_feed bytes) bytes))
          ++ answers_from (desk_after d (reads_as (line ++ take (before_feed bytes) bytes))) [] (drop (before_feed bytes + 1) bytes ++ more)
      spoken = fed-line d (line ++ take (before_feed bytes) bytes) (drop (before_feed bytes + 1) bytes ++ more)

pub feeds : Feeds
unfolding fed_with room_with
feeds d line bytes more room h = rw (le-leb 4096 (length room) h) (go (which (ltb (before_feed bytes) (length bytes))))
  where
    go : Either (ltb (before_feed bytes) (length bytes))
        → (answers_from d line (bytes ++ more) ≡ take (fed_for (session_of d line) bytes room).count (room_for (session_of d line) bytes room)
        ++ answers_from (fed_for (session_of d line) bytes room).session.desk (line_after line bytes) (drop (fed_for (session_of d line) bytes room).used bytes ++ more))
        × ((fed_for (session_of d line) bytes room).session ≡ session_of (fed_for (session_of d line) bytes room).session.desk (line_after line bytes))
    go (yes! e) = (
      rw (e, whole-line d line bytes, stands-there room (reply_to d (reads_as (line ++ take (before_feed bytes) bytes))) (reply-short d (reads_as (line ++ take (before_feed bytes) bytes))) h)
          (answers d line bytes more (ltb-true _ _ e)),
      rw e refl,
    )
    go (no! e) =
        let k : take (before_feed bytes) bytes ≡ bytes = take_all (before_feed bytes) bytes (ltb-false _ _ e) in
        (rw e (up-to-feed d line bytes more ∙ ap (λ l. answers_from d (line ++ l) (drop (before_feed bytes) bytes ++ more)) k), rw (e, k) (ap (λ t. record { desk = d; text = t }) (sym (add-append no_text line bytes))))

-- ── the end ──────────────────────────────────────────────────────────────────

some-text : (b : ℕ) (l : List ℕ) → eqb (add_bytes no_text (b ∷ l)).length 0 ≡ false
unfolding text_of
some-text b l =
    ne_eqb (add_bytes no_text (b ∷ l)).length 0 (λ q. absurd (omega (arith, ap (λ t. t.length) (first-kept (b ∷ l)), q)))

pub ends : Ends
unfolding ended room_ended answers_from
ends d [] room h = rw (le-leb 4096 (length room) h)
ends d (b ∷ l) room h =
    rw (le-leb 4096 (length room) h, some-text b l, says-line (b ∷ l)) (sym (stands-there room (reply_to d (reads_as (b ∷ l))) (reply-short d (reads_as (b ∷ l))) h))

pub begins : Begins
unfolding transcript begun
begins script = (refl, refl)

-- ── the whole ────────────────────────────────────────────────────────────────

as_said : {s : Session} {script printed : List ℕ} → Prints s script printed → (d : Desk) (line : List ℕ) → s ≡ session_of d line → printed ≡ answers_from d line script
as_said (fed s bytes more room rest h p) d line e =
    let f = feeds d line bytes more room h in
    let i : rest ≡ answers_from (fed_with s bytes room).session.desk (line_after line bytes) (drop (fed_with s bytes room).used bytes ++ more) =
    as_said p (fed_with s bytes room).session.desk (line_after line bytes) (rw e f.1) in
    rw (i, e) (sym f.0)
as_said (over s room h) d line e = rw e (sym (ends d line room h))

pub prints-transcript : PrintsTranscript
prints-transcript script printed p = as_said p begun.desk [] (begins script).1 ∙ sym (begins script).0
