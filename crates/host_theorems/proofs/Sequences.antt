-- The reader and the writer that C calls: what an answer of 0 says of the bytes, and both round trips.
use Prim.Native.Nat.{ℕ, ◌*◌, ◌/◌, ◌%◌, ◌≤◌}
use mathlib.Core.Path.{◌≡◌, refl, sym, ap, ◌∙◌}
use mathlib.Core.Bool.{true, cond}
use mathlib.Core.List.{List, [], ◌++◌}
use native.Mathlib.Omega.{arith}
use lib.Dec.{leb}
use lib.ListN.{length, take, drop, replicate, length-take, take-append-drop}
use lib.Seq.{take_at}
use borrow.Author.Tests.{le-leb, leb-true}
use contract.Lifetimes.{Lfts}
use denote.Ref.{Bor}
use Rattle.std.specs.Prelude.{Some, None, Result, Ok, Err}
use Rattle.sequence.specs.declared.Refusal.{Refusal}
use Rattle.sequence.specs.declared.Refusal.TheVariants.{BadLength, BadSymbol, BadCheck, BadFormat, BadIdentities, BadCategory, BadTelecommands, BadField, BadNumber, BadEnd, ShortRoom}
use Rattle.sequence.specs.declared.Meaning.{Meaning}
use Rattle.sequence.specs.Figures.{longest}
use Rattle.sequence.specs.Answers.{Answer, done, refusal_number, answer_number}
use Rattle.sequence.specs.Layout.{valid, layout}
use Rattle.sequence.specs.Reading.{answer_of as answer_to, meaning_read}
use Rattle.sequence.specs.Writing.{writing_answer, written_of, room_after}
use Rattle.sequence.proofs.AnswerLaws.{answered-ok, read-ok, read-done}
use Rattle.sequence.proofs.Tests.{Either, yes!, no!, which}
use Rattle.sequence.proofs.Paste.{paste-front}
use Rattle.station_theorems.proofs.Steps.{lent_mut}
use Rattle.sequence_theorems.proofs.Theorems.{reads-exactly, one-meaning, reads-what-was-written, writes-what-was-read}
use Rattle.layouts.specs.Fields.{laid}
use Rattle.lent_layout.specs.Meanings.{meaning_bytes, meaning_from, meaning_laid, meaning_size}
use Rattle.lent_layout.proofs.MeaningBack.{meaning-is-found-again, meaning-is-laid-again}
use Rattle.coast.proofs.WriteLaws.{written-le}
use Rattle.coast.specs.Sequences.{read_answer, meaning_after, answer_and_count, write_answer, room_after_writing}
use Rattle.host_theorems.specs.Sequences.{Passage, passage, ByReader, by_read, ByWriter, by-write, answer_of, written, telling, InBytes, CReadsWhatWasWritten, CWritesWhatWasRead, COneMeaning, COneSequence, CTakesEveryMeaning, CAnswersEveryInput}

-- no refusal has the number 0
not_zero : (r : Refusal) → refusal_number r % 256 ≡ 0 → ⊥
not_zero BadLength e = omega (arith, e)
not_zero BadSymbol e = omega (arith, e)
not_zero BadCheck e = omega (arith, e)
not_zero BadFormat e = omega (arith, e)
not_zero BadIdentities e = omega (arith, e)
not_zero BadCategory e = omega (arith, e)
not_zero BadTelecommands e = omega (arith, e)
not_zero BadField e = omega (arith, e)
not_zero BadNumber e = omega (arith, e)
not_zero BadEnd e = omega (arith, e)
not_zero ShortRoom e = omega (arith, e)

done-is : (a : Answer) → answer_number a % 256 ≡ 0 → a ≡ done
done-is None e = refl
done-is (Some r) e = absurd (not_zero r e)

size : (m : Meaning) → length (meaning_bytes m) ≡ meaning_size
size m = (meaning-is-found-again m []).0

-- bytes whose first 32 are a valid meaning's
found : (m : Meaning) → valid m ≡ true → (b : List ℕ) → telling b ≡ meaning_bytes m → (meaning_size ≤ length b) × (meaning_from b ≡ m)
found m v b e =
    let whole : b ≡ meaning_bytes m ++ drop meaning_size b = sym (take-append-drop meaning_size b) ∙ (rw e) in
    let long : length (take meaning_size b) ≡ meaning_size = rw e (size m) in
    (omega (arith, long, length-take meaning_size b), rw whole ((meaning-is-found-again m (drop meaning_size b)).1 v))

-- ── the reader ───────────────────────────────────────────────────────────────

module _ (s room : List ℕ) where
  reads_as : (m : Meaning) → valid m ≡ true → s ≡ layout m → meaning_size ≤ length room
      → (read_answer s (length room) ≡ 0) × (meaning_after s room ≡ meaning_bytes m ++ drop meaning_size room)
  unfolding read_answer meaning_after meaning_laid laid
  reads_as m v e h =
      let r = read-ok s m ((reads-exactly s m).1 (v, e)) in
      (rw (le-leb meaning_size (length room) h, r.0) refl, rw (le-leb meaning_size (length room) h, r.0, r.1, size m) (paste-front room (meaning_bytes m) meaning_size (size m)))

  answered : read_answer s (length room) % 256 ≡ 0 → (meaning_size ≤ length room) × (answer_to s ≡ done)
  unfolding read_answer
  answered e = go (which (leb meaning_size (length room))) e
    where
      go : Either (leb meaning_size (length room)) → cond (leb meaning_size (length room)) (answer_number (answer_to s)) 22 % 256 ≡ 0 → (meaning_size ≤ length room) × (answer_to s ≡ done)
      go (yes! h) f = (leb-true meaning_size (length room) h, done-is (answer_to s) (rw h at f))
      go (no! h) f = let q : 22 % 256 ≡ 0 = rw h at f in absurd (omega (arith, q))

read_as : {r : Passage} → ByReader r → (m : Meaning) → valid m ≡ true → r.given ≡ layout m → meaning_size ≤ length r.lent
    → (r.number ≡ 0) × (r.left ≡ meaning_bytes m ++ drop meaning_size r.lent)
read_as (by_read κs a n s p) m v e h = let w = reads_as a.0.now a.1.0.now m v e h in (p.0 ∙ w.0, p.1 ∙ w.1)

-- 0 is answered exactly to what the definitions accept, in room enough
pub read_done : {r : Passage} → ByReader r → answer_of r ≡ 0 → answer_to r.given ≡ done
read_done (by_read κs a n s p) e = (answered a.0.now a.1.0.now (rw p.0 at e)).1

pub done-read : {r : Passage} → ByReader r → answer_to r.given ≡ done → meaning_size ≤ length r.lent → r.number ≡ 0
done-read {r} reads e h =
    let m = meaning_read r.given in
    let x = (reads-exactly r.given m).0 (read-done r.given e) in
    (read_as reads m x.0 x.1 h).0

-- what an answer of 0 says
record WasRead (r : Passage) : Type 0 where
  meaning : Meaning
  is-valid : valid meaning ≡ true
  symbols : r.given ≡ layout meaning
  bytes : telling r.left ≡ meaning_bytes meaning

-- at the front of a room
front : (m : Meaning) (left rest : List ℕ) → left ≡ meaning_bytes m ++ rest → telling left ≡ meaning_bytes m
front m left rest e = rw e (take_at (meaning_bytes m) rest meaning_size (size m))

was_read : {r : Passage} → ByReader r → answer_of r ≡ 0 → WasRead r
was_read (by_read κs a n s p) e =
    let read = answered a.0.now a.1.0.now (rw p.0 at e) in
    let m = meaning_read a.0.now in
    let x = (reads-exactly a.0.now m).0 (read-done a.0.now read.1) in
    let w = reads_as a.0.now a.1.0.now m x.0 x.1 read.0 in
    record { meaning = m; is-valid = x.0; symbols = x.1; bytes = front m s.1.0.now (drop meaning_size a.1.0.now) (p.1 ∙ w.1) }

-- ── the writer ───────────────────────────────────────────────────────────────

written_is : (m : Meaning) → valid m ≡ true → (room : List ℕ) → longest ≤ length room → written_of m (length room) ≡ Ok (length (layout m))
written_is m v room h = (writes-what-was-read (layout m) room m ((reads-exactly (layout m) m).1 (v, refl)) h).0

short : (m : Meaning) → valid m ≡ true → length (layout m) ≤ longest
short m v = written-le m longest (length (layout m)) (sym (written_is m v (replicate longest 0) (omega arith)))

module _ (b room : List ℕ) where
  writes_as : (m : Meaning) → valid m ≡ true → meaning_from b ≡ m → meaning_size ≤ length b → longest ≤ length room
      → (write_answer b (length room) ≡ 256 * length (layout m)) × (room_after_writing b room ≡ layout m ++ drop (length (layout m)) room)
  unfolding write_answer room_after_writing room_after
  writes_as m v e h k =
      let w = written_is m v room k in
      let accepted : writing_answer m (length room) ≡ done = unfold written_of in (answered-ok (writing_answer m (length room)) _ _ w).0 in
      (rw (le-leb longest (length room) k, le-leb meaning_size (length b) h, e, w), rw (le-leb longest (length room) k, le-leb meaning_size (length b) h, e, accepted) refl)

  -- so many bytes were written
  abbrev Writes : ℕ → Type 0
  Writes n = written_of (meaning_from b) (length room) ≡ Ok n

  accepted : write_answer b (length room) % 256 ≡ 0 → (longest ≤ length room) × (meaning_size ≤ length b) × ((n : ℕ) × Writes n)
  unfolding write_answer
  accepted e = go (which (leb longest (length room))) (which (leb meaning_size (length b))) e
    where
      written_so : (w : Result ℕ Refusal) → answer_and_count w % 256 ≡ 0 → written_of (meaning_from b) (length room) ≡ w → (n : ℕ) × Writes n
      written_so (Ok n) f is = (n, is)
      written_so (Err r) f is = absurd (not_zero r f)

      go : Either (leb longest (length room)) → Either (leb meaning_size (length b)) → write_answer b (length room) % 256 ≡ 0
          → (longest ≤ length room) × (meaning_size ≤ length b) × ((n : ℕ) × Writes n)
      go (yes! h) (yes! k) f =
          let q : answer_and_count (written_of (meaning_from b) (length room)) % 256 ≡ 0 = rw (h, k) at f in
          (leb-true longest (length room) h, leb-true meaning_size (length b) k, written_so _ q refl)
      go (yes! h) (no! k) f = let q : 22 % 256 ≡ 0 = rw (h, k) at f in absurd (omega (arith, q))
      go (no! h) k f = let q : 21 % 256 ≡ 0 = rw h at f in absurd (omega (arith, q))

write_as : {w : Passage} → ByWriter w → (m : Meaning) → valid m ≡ true → telling w.given ≡ meaning_bytes m → longest ≤ length w.lent
    → (w.number ≡ 256 * length (layout m)) × (w.left ≡ layout m ++ drop (length (layout m)) w.lent)
write_as (by-write κs a n s p) m v e h =
    let f = found m v a.0.now e in
    let w = writes_as a.0.now a.1.0.now m v f.1 f.0 h in
    (p.0 ∙ w.0, p.1 ∙ w.1)

-- the count in the number, and the sequence that it tells
counted : (w : Passage) (m : Meaning) (rest : List ℕ) → valid m ≡ true → w.number ≡ 256 * length (layout m) → w.left ≡ layout m ++ rest → written w ≡ layout m
counted w m rest v e f =
    let n : w.number / 256 % 256 ≡ length (layout m) = rw e (omega (arith, short m v)) in
    rw (n, f) (take_at (layout m) rest (length (layout m)) refl)

-- what an answer of 0 says
pub record WasWritten (w : Passage) : Type 0 where
  pub meaning : Meaning
  pub is-valid : valid meaning ≡ true
  pub symbols : written w ≡ layout meaning
  pub bytes : InBytes w.given → telling w.given ≡ meaning_bytes meaning

pub was-written : {w : Passage} → ByWriter w → answer_of w ≡ 0 → WasWritten w
was-written (by-write κs a n s p) e =
    let b = a.0.now in
    let room = a.1.0.now in
    let wrote = accepted b room (rw p.0 at e) in
    let m = meaning_from b in
    let x = (reads-exactly _ m).0 (reads-what-was-written m room wrote.2.0 wrote.2.1) in
    let w = writes_as b room m x.0 refl wrote.1 wrote.0 in
    record {
      meaning = m;
      is-valid = x.0;
      symbols = counted (passage b room n s.1.0.now) m (drop (length (layout m)) room) x.0 (p.0 ∙ w.0) (p.1 ∙ w.1);
      bytes = λ small. sym (meaning-is-laid-again b small x.0).1;
    }

-- what was written is read
pub written-accepted : {w : Passage} → ByWriter w → answer_of w ≡ 0 → answer_to (written w) ≡ done
written-accepted {w} wrote e =
    let x = was-written wrote e in
    (read-ok (written w) x.meaning ((reads-exactly _ x.meaning).1 (x.is-valid, x.symbols))).0

-- ── both ─────────────────────────────────────────────────────────────────────

pub c-reads-what-was-written : CReadsWhatWasWritten
unfolding CReadsWhatWasWritten
c-reads-what-was-written w r wrote reads small e same h =
    let x = was-written wrote e in
    rw (x.bytes small) (read_as reads x.meaning x.is-valid (same ∙ x.symbols) h)

pub c-writes-what-was-read : CWritesWhatWasRead
unfolding CWritesWhatWasRead
c-writes-what-was-read r w reads wrote e same h =
    let x = was_read reads e in
    rw x.symbols (write_as wrote x.meaning x.is-valid (same ∙ x.bytes) h)

pub c-one-meaning : COneMeaning
unfolding COneMeaning
c-one-meaning w v wrote written-too small small-too e f same =
    let x = was-written wrote e in
    let y = was-written written-too f in
    let one = one-meaning x.meaning y.meaning x.is-valid y.is-valid (sym x.symbols ∙ same ∙ y.symbols) in
    x.bytes small ∙ ap meaning_bytes one ∙ sym (y.bytes small-too)

pub c-one-sequence : COneSequence
unfolding COneSequence
c-one-sequence r q reads reads-too e f same =
    let x = was_read reads e in
    let y = was_read reads-too f in
    let mine = (found x.meaning x.is-valid r.left x.bytes).1 in
    let its = (found y.meaning y.is-valid r.left (same ∙ y.bytes)).1 in
    x.symbols ∙ ap layout (sym mine ∙ its) ∙ sym y.symbols

pub c-takes-every-meaning : CTakesEveryMeaning
unfolding CTakesEveryMeaning
c-takes-every-meaning m v = (
  λ r reads e h. let x = read_as reads m v e h in (x.0, front m r.left (drop meaning_size r.lent) x.1),
  λ w wrote e h.
      let x = write_as wrote m v e h in
      (rw x.0 (omega arith), counted w m (drop (length (layout m)) w.lent) v x.0 x.1),
)

-- ── and they are of something ────────────────────────────────────────────────

pub lives : Lfts 2
lives = ([], ([], tt))

abbrev pub slice : List ℕ → Bor (List ℕ)
slice l = record { ref_ptr = (0, 0); now = l }

pub c-answers-every-input : CAnswersEveryInput
unfolding CAnswersEveryInput
c-answers-every-input given lent = (
  record { call = _; is_call = by_read lives (slice given, (lent_mut lent, tt)) _ (slice given, (lent_mut _, tt)) (refl, refl); is-given = refl; is-lent = refl },
  record { call = _; is_call = by-write lives (slice given, (lent_mut lent, tt)) _ (slice given, (lent_mut _, tt)) (refl, refl); is-given = refl; is-lent = refl },
)
