-- The statements, proved.
use Prim.Native.Nat.{ℕ, ◌≤◌}
use mathlib.Core.Path.{◌≡◌, refl, sym, ap, ◌∙◌}
use mathlib.Core.Bool.{true}
use mathlib.Core.List.{List}
use lib.ListN.{length, take, drop}
use lib.Seq.{take_at}
use borrow.Author.Tests.{le-leb}
use Rattle.std.specs.Prelude.{Ok}
use Rattle.sequence.specs.declared.Meaning.{Meaning}
use Rattle.sequence.specs.Answers.{done, is_done}
use Rattle.sequence.specs.Layout.{valid, layout}
use Rattle.sequence.specs.Reading.{answer_of, meaning_of, reading_of}
use Rattle.sequence.specs.Writing.{writing_answer, written_of, room_after}
use Rattle.sequence.proofs.AnswerLaws.{answered-ok}
use Rattle.writing.proofs.Valid.{valid-done, accepted}
use Rattle.sequence_theorems.specs.Statement.{ReadsExactly, OneMeaning, OneSequence, ReadsWhatWasWritten, WritesWhatWasRead}
use Rattle.sequence_theorems.proofs.RoundTrip.{reads-back, lays_back, reads-valid}

-- a meaning that was read: nothing is refused, and it is what the symbols mean
meant : (s : List ℕ) (m : Meaning) → reading_of s ≡ Ok m → (answer_of s ≡ done) × (meaning_of s ≡ m)
unfolding reading_of
meant s m e = answered-ok (answer_of s) (meaning_of s) m e

read : (s : List ℕ) (m : Meaning) → reading_of s ≡ Ok m → (valid m ≡ true) × (s ≡ layout m)
read s m e =
    let a = meant s m e in
    let d = ap is_done a.0 in
    (rw a.1 at (reads-valid s d), sym (rw a.1 at (lays_back s d)))

pub reads-exactly : ReadsExactly
reads-exactly s m = (read s m, λ h. rw h.1 (reads-back m h.0))

pub one-meaning : OneMeaning
one-meaning m n v w e =
    let same : Ok m ≡ reading_of (layout n) = sym (reads-back m v) ∙ ap reading_of e in
    let read_n = reads-back n w in
    cc

pub one-sequence : OneSequence
one-sequence m s t e f = (read s m e).1 ∙ sym (read t m f).1

-- a valid meaning with room enough is written, and its sequence then stands at the front of the room
laid : (m : Meaning) (room : List ℕ) → valid m ≡ true → 28 ≤ length room
    → (written_of m (length room) ≡ Ok (length (layout m))) × (take (length (layout m)) (room_after m room) ≡ layout m)
unfolding written_of room_after writing_answer
laid m room v h =
    let e : writing_answer m (length room) ≡ done = rw (le-leb 28 (length room) h) (valid-done m v) in
    (rw e, rw e (take_at (layout m) (drop (length (layout m)) room) (length (layout m)) refl))

pub reads-what-was-written : ReadsWhatWasWritten
unfolding written_of
reads-what-was-written m room n e =
    let a = answered-ok (writing_answer m (length room)) (length (layout m)) n e in
    let v = accepted m (length room) a.0 in
    rw (← a.1, (laid m room v.0 v.1).1) (reads-back m v.0)

pub writes-what-was-read : WritesWhatWasRead
writes-what-was-read s room m e h =
    let r = read s m e in
    rw r.1 (laid m room r.0 h)
