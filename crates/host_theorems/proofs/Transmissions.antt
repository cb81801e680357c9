-- The sender and the receiver of a transmission that C calls: what an answer of 0 says of the bytes, and what comes over the air.
use Prim.Native.Nat.{ℕ, ◌+◌, ◌*◌, ◌%◌, ◌≤◌, ◌<◌}
use mathlib.Core.Path.{◌≡◌, refl, sym, ap, ◌∙◌}
use mathlib.Core.Logic.{◌⊎◌, inl, inr}
use mathlib.Core.List.{List, ◌++◌}
use native.Mathlib.Omega.{arith}
use lib.ListN.{length, get_or, take, drop, get_or-append}
use lib.Seq.{take_at}
use Rattle.sequence.specs.Figures.{longest}
use Rattle.reading.proofs.Passed.{long}
use Rattle.characters.specs.Code.{none}
use Rattle.station_theorems.proofs.Steps.{lent_mut}
use Rattle.std.specs.Prelude.{Some, None, Result, Ok}
use Rattle.transmission.specs.declared.Refusal.{Refusal}
use Rattle.transmission.specs.declared.Refusal.TheVariants.{BadLength, BadSymbol, ShortRoom, NoPhasing, CopiesBad, EndsEarly}
use Rattle.transmission.specs.Answers.{Answer, done, refusal_number, is_done, answered as answered_with}
use Rattle.transmission.specs.Layout.{transmission, bytes_of}
use Rattle.transmission.specs.Phasing.{most_lost, heard}
use Rattle.transmission.specs.Writing.{transmission_written}
use Rattle.transmission.specs.Reading.{symbols_in, reading_answer, transmission_read}
use Rattle.transmission.proofs.LayoutLaws.{bytes-length, transmission-length}
use Rattle.transmission.proofs.WritingLaws.{Writable, done-writable}
use Rattle.transmission_theorems.specs.Statement.{ReadAs, replaced, EarlierWhole}
use Rattle.transmission_theorems.proofs.InRoom.{written-in-room, symbols-at-most, answer-in-room, done-in-longest, read-in-room}
use Rattle.transmission_theorems.proofs.Theorems.{bytes-read-back, reads-back, sequences-read-back}
use Rattle.transmission_theorems.proofs.Theorems.{five-made-good, eleven-lost, whole-read, nothing-else}
use Rattle.coast.specs.Transmissions.{answer_with_count}
use Rattle.host_theorems.specs.Sequences.{Passage, answer_of, count_of, written, CReadsWhatWasWritten}
use Rattle.host_theorems.specs.Transmissions.{BySender, by-send, ByReceiver, by-receive, on_air, off_air, Sent, Received, ReadOff}
use Rattle.host_theorems.specs.Transmissions.{CSendsAll, CReadsBack, CSequencesReadBack, CFiveMadeGood, CElevenLost}
use Rattle.host_theorems.specs.Transmissions.{CWholeRead, CNothingElse, Withstood, spoiled, cut, amid, CMeaningOnAir, CAnswersOnAir}
use Rattle.host_theorems.proofs.Sequences.{written-accepted, c-reads-what-was-written, lives, slice}

-- no refusal has the number 0
not_zero : (r : Refusal) → refusal_number r % 256 ≡ 0 → ⊥
not_zero BadLength e = omega (arith, e)
not_zero BadSymbol e = omega (arith, e)
not_zero ShortRoom e = omega (arith, e)
not_zero NoPhasing e = omega (arith, e)
not_zero CopiesBad e = omega (arith, e)
not_zero EndsEarly e = omega (arith, e)

-- so an answer of 0 refuses nothing
pub done-is : (a : Answer) (n : ℕ) → answer_with_count (answered_with a n) % 256 ≡ 0 → a ≡ done
done-is None n e = refl
done-is (Some r) n e = absurd (not_zero r e)

counted : (told : Result ℕ Refusal) (n : ℕ) → told ≡ Ok n → answer_with_count told ≡ 256 * n
counted told n e = rw e

-- ── the sender ───────────────────────────────────────────────────────────────

pub c-sends-all : CSendsAll
unfolding CSendsAll
c-sends-all _ (by-send κs a r s p) size small wide =
    let w = written-in-room a.0.now a.1.0.now (record { size = size; small = small; wide = wide }) in
    (p.0 ∙ counted _ _ w.0, p.1 ∙ w.1)

was-sent : {w : Passage} → BySender w → answer_of w ≡ 0 → Writable w.given w.lent
unfolding transmission_written
was-sent (by-send κs a r s p) e = done-writable a.0.now a.1.0.now (ap is_done (done-is _ _ (rw p.0 at e)))

module _ {w : Passage} (by : BySender w) (e : answer_of w ≡ 0) where
  sent-as : (w.number ≡ 256 * length (transmission w.given))
      × (w.left ≡ bytes_of (transmission w.given) ++ drop (2 * length (transmission w.given)) w.lent)
  unfolding CSendsAll
  sent-as = let x = was-sent by e in c-sends-all w by x.size x.small x.wide

  -- the characters on the air are the transmission's
  sent_is : on_air w ≡ transmission w.given
  sent_is =
      let l = long w.given (was-sent by e).size in
      let n : count_of w ≡ length (transmission w.given) = rw sent-as.0 (omega (arith, transmission-length w.given)) in
      let bytes : take (2 * count_of w) w.left ≡ bytes_of (transmission w.given) =
      rw (n, sent-as.1) (take_at _ _ _ (bytes-length (transmission w.given))) in
      rw bytes (bytes-read-back w.given)

-- ── the receiver ─────────────────────────────────────────────────────────────

-- what was heard, in a passage
abbrev heard_by : Passage → List ℕ
heard_by r = heard (off_air r)

-- what an answer of 0 says
record WasRead (r : Passage) : Type 0 where
  is-done : reading_answer (heard_by r) longest ≡ done
  read : ReadOff r (symbols_in (heard_by r))

was_read : {r : Passage} → ByReceiver r → reading_answer (heard_by r) (length r.lent) ≡ done → WasRead r
was_read (by-receive κs a r s p) e =
    let x = read-in-room a.0.now a.1.0.now e in
    record { is-done = done-in-longest a.0.now a.1.0.now e; read = (p.0 ∙ counted _ _ x.0, p.1 ∙ x.1) }

was-answered : {r : Passage} → ByReceiver r → answer_of r ≡ 0 → WasRead r
unfolding transmission_read
was-answered (by-receive κs a r s p) e = was_read (by-receive κs a r s p) (done-is _ _ (rw p.0 at e))

read_off : {r : Passage} → Received r → (s : List ℕ) → ReadAs (off_air r) s → ReadOff r s
read_off {r} t s h = rw h.1 at (was_read t.by (answer-in-room r.given r.lent t.room ∙ h.0)).read

-- the symbols read, by their count
symbols-are : (r : Passage) (s : List ℕ) → length s ≤ longest → ReadOff r s → (count_of r ≡ length s) × (written r ≡ s)
symbols-are r s h e =
    let n : count_of r ≡ length s = rw e.0 (omega (arith, h)) in
    (n, rw (n, e.1) (take_at s _ (length s) refl))

read_as : {r : Passage} → Received r → (s : List ℕ) → length s ≤ longest → ReadOff r s → ReadAs (off_air r) s
read_as {r} t s h e =
    let x = was-answered t.by (rw e.0 (omega arith)) in
    let same = symbols-are r _ (symbols-at-most (heard_by r)) x.read in
    (x.is-done, sym same.1 ∙ (symbols-are r s h e).1)

-- ── both ─────────────────────────────────────────────────────────────────────

pub c-reads-back : CReadsBack
unfolding CReadsBack
c-reads-back w r by e t same =
    let x = was-sent by e in
    let l = long w.given x.size in
    let back = reads-back w.given x.size x.small in
    let air : off_air r ≡ transmission w.given = same ∙ sent_is by e in
    (λ h. back.0 (rw air at (read_as t w.given l.1 h)), λ h. read_off t w.given (rw air (back.1 h)))

-- what the definitions make of the transmission, the receiver does
comes-over : {w r : Passage} → Sent w → Received r → (f : List ℕ → List ℕ) → ReadAs (f (transmission w.given)) w.given
    → off_air r ≡ f (on_air w) → ReadOff r w.given
comes-over {w} x t f h e = read_off t w.given (rw (e ∙ ap f (sent_is x.by x.answered)) h)

pub c-sequences-read-back : CSequencesReadBack
unfolding CSequencesReadBack
c-sequences-read-back w r x t = comes-over x t (λ c. c) (sequences-read-back w.given x.accepted)

pub c-five-made-good : CFiveMadeGood
unfolding CFiveMadeGood
c-five-made-good w r x t place others nones most fits =
    let within : place + length others ≤ length (transmission w.given) = rw (← sent_is x.by x.answered) fits in
    comes-over x t (λ c. replaced c place others) (five-made-good w.given x.accepted place others nones most within)

pub c-eleven-lost : CElevenLost
unfolding CElevenLost
c-eleven-lost w r x t lost most = comes-over x t (drop lost) (eleven-lost w.given x.accepted lost most)

pub c-whole-read : CWholeRead
unfolding CWholeRead
c-whole-read w r x t before after e =
    let y = was-sent x.by x.answered in
    let ends = (reads-back w.given y.size y.small).0 (sequences-read-back w.given x.accepted) in
    go (whole-read w.given y.size y.small ends before after)
  where
    amidst : List ℕ → List ℕ
    amidst c = before ++ (c ++ after)

    go : ReadAs (amidst (transmission w.given)) w.given ⊎ EarlierWhole (amidst (transmission w.given)) (most_lost + length before)
        → ReadOff r w.given ⊎ EarlierWhole (off_air r) (most_lost + length before)
    go (inl h) = inl (comes-over x t amidst h e)
    go (inr h) = inr (rw (e ∙ ap amidst (sent_is x.by x.answered)) h)

pub c-nothing-else : CNothingElse
unfolding CNothingElse
c-nothing-else r by e k h =
    let x = was-answered by e in
    let symbols = symbols_in (heard_by r) in
    let n : count_of r ≡ length symbols = (symbols-are r symbols (symbols-at-most (heard_by r)) x.read).0 in
    let within : k < length symbols = rw (← n) h in
    let there : get_or r.left k none ≡ get_or symbols k none = rw x.read.1 (get_or-append symbols _ none k within) in
    rw there (nothing-else (off_air r) x.is-done k within)

-- ── a meaning over the air ───────────────────────────────────────────────────

withstood : {w r : Passage} {air : List ℕ} → Sent w → Received r → Withstood (on_air w) air → off_air r ≡ air → ReadOff r w.given
unfolding CFiveMadeGood CElevenLost CWholeRead
withstood {w} {r} x t (spoiled place others nones most fits) e = c-five-made-good w r x t place others nones most fits e
withstood {w} {r} x t (cut lost most) e = c-eleven-lost w r x t lost most e
withstood {w} {r} x t (amid before after alone) e = go (c-whole-read w r x t before after e)
  where
    go : ReadOff r w.given ⊎ EarlierWhole (off_air r) (most_lost + length before) → ReadOff r w.given
    go (inl h) = h
    go (inr h) = let earlier = rw e at h in absurd (alone _ earlier.0 earlier.1)

pub c-meaning-on-air : CMeaningOnAir
unfolding CMeaningOnAir CReadsWhatWasWritten
c-meaning-on-air m w r q wrote sends t reads small e given f air same h =
    let x : Sent w = record { by = sends; answered = f; accepted = rw given (written-accepted wrote e) } in
    let l = long w.given (was-sent sends f).size in
    let back = (symbols-are r w.given l.1 (withstood x t air refl)).1 in
    c-reads-what-was-written m q wrote reads small e (same ∙ back ∙ given) h

-- ── and they are of something ────────────────────────────────────────────────

pub c-answers-on-air : CAnswersOnAir
unfolding CAnswersOnAir
c-answers-on-air given lent = (
  record {
    call = _;
    is_call = by-send lives (slice given, (lent_mut lent, tt)) _ (slice given, (lent_mut _, tt)) (refl, refl);
    is-given = refl;
    is-lent = refl;
  },
  record {
    call = _;
    is_call = by-receive lives (slice given, (lent_mut lent, tt)) _ (slice given, (lent_mut _, tt)) (refl, refl);
    is-given = refl;
    is-lent = refl;
  },
)
