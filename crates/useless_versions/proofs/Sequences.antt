-- The reader and the writer: the request P1 is read and written, an empty list and an empty room are refused.
use Prim.Native.Nat.{ℕ, zero, suc, ◌/◌, ◌%◌, ◌<◌, ◌≤◌}
use mathlib.Core.Path.{◌≡◌, refl, sym, ap, ◌∙◌}
use mathlib.Core.Bool.{true, false, true≢false}
use mathlib.Core.List.{List, [], ◌∷◌, ◌++◌, append-nil}
use native.Mathlib.Omega.{arith}
use lib.Dec.{leb}
use lib.ListN.{length, get_or, drop, replicate, length-replicate}
use borrow.Author.Tests.{le-leb}
use Rattle.std.specs.Prelude.{Some, None, Result, Ok, Err}
use Rattle.sequence.specs.declared.Refusal.{Refusal}
use Rattle.sequence.specs.declared.Refusal.TheVariants.{BadLength, BadSymbol, BadCheck, BadFormat, BadIdentities, BadCategory, BadTelecommands, BadField, BadNumber, BadEnd, ShortRoom}
use Rattle.sequence.specs.declared.Field.TheVariants.{Blank}
use Rattle.sequence.specs.declared.Meaning.{Meaning}
use Rattle.sequence.specs.Figures.{longest}
use Rattle.sequence.specs.Symbols.{all_at_most}
use Rattle.sequence.specs.Identity.{is_ship, is_coast, identities_ok}
use Rattle.sequence.specs.Field.{is_call, unable_second, telecommands_ok, field_ok}
use Rattle.sequence.specs.Number.{number_ok}
use Rattle.sequence.specs.Layout.{end_ok, valid, front, body, layout}
use Rattle.sequence.specs.Answers.{Answer, done, refusal_number, is_done, answered}
use Rattle.sequence.specs.Reading as Reader
use Rattle.sequence.specs.Reading.{answer_of, meaning_of, meaning_read, reading_of, blank_meaning}
use Rattle.sequence.specs.Writing.{writing_answer, written_of, room_after}
use Rattle.sequence.proofs.Tests.{both_true, Either, yes!, no!, which}
use Rattle.sequence.proofs.AnswerLaws.{done-is, answered-ok}
use Rattle.writing.proofs.Valid.{valid-done, written}
use Rattle.sequence_theorems.proofs.RoundTrip.{all-passed, reads-back}
use Rattle.rules.specs.Rules.Bytes.{padded, number_of}
use Rattle.rules.specs.Tables.Runs.{usual}
use Rattle.layouts.specs.Fields.{laid}
use Rattle.lent_layout.specs.Meanings.{meaning_numbers, meaning_bytes, meaning_from, meaning_laid, meaning_size}
use Rattle.lent_layout.proofs.MeaningBack.{meaning-is-found-again}
use Rattle.coast.specs.Sequences.{read_answer, meaning_after, answer_and_count, write_answer, room_after_writing}
use Rattle.useless_versions.specs.Versions.{Anything}
use Rattle.useless_versions.specs.Sequences.{number_told, ReadBy, by_read, meaning_told, reader_signs, NoUselessReader, ToWrite, Wrote, WrittenBy, by-write, length_told, symbols_in, writer_signs, NoUselessWriter, Lent, Left, ReadInC, by-coast-read-sequence, read_signs, NoUselessReadInC, WrittenInC, by-coast-write-sequence, write_signs, NoUselessWriteInC}
use Rattle.useless_versions.proofs.ShutOut.{one, shut_out}
use Rattle.useless_versions.proofs.Events.{blank-behind}

-- what P1 says
abbrev pub asked : Meaning
asked = record { address = 2001234; sender = 200056789; first = 101; second = 126; field = Blank; number = number_of usual; end = 117 }

asked-valid : valid asked ≡ true
unfolding valid identities_ok is_ship is_coast telecommands_ok is_call unable_second field_ok number_ok end_ok padded
asked-valid = refl

read_asked : reading_of (layout asked) ≡ Ok asked
read_asked = reads-back asked asked-valid

asked-means : (answer_of (layout asked) ≡ done) × (meaning_of (layout asked) ≡ asked)
unfolding reading_of
asked-means = answered-ok (answer_of (layout asked)) (meaning_of (layout asked)) asked read_asked

pub asked-accepted : answer_of (layout asked) ≡ done
asked-accepted = asked-means.0

-- ── the reader ───────────────────────────────────────────────────────────────

read_is : (s : List ℕ) (y : Result Meaning Refusal) → ReadBy s y → y ≡ reading_of s
read_is _ _ (by_read κs a r s p) = p

not-blank : asked ≡ blank_meaning → ⊥
unfolding blank_meaning
not-blank e = let q : ◌≡◌ {A = ℕ} 2001234 0 = ap (λ (m : Meaning). m.address) e in omega (arith, q)

none_read : reading_of [] ≡ Err BadLength
unfolding reading_of Reader.answer_of Reader.refusals Reader.length_in
none_read = refl

pub no-useless-reader : NoUselessReader
unfolding NoUselessReader
no-useless-reader =
    shut_out Anything reader_signs ReadBy (record {
      past = layout asked ∷ [];
      begun = one;
      doable = layout asked;
      doable-comes = tt;
      done = λ y m. ap number_told (read_is _ y m ∙ read_asked);
      busy = λ y m i. not-blank (sym (ap meaning_told (read_is _ y m ∙ read_asked)) ∙ i);
      later = layout asked ∷ [];
      begun-later = one;
      bad = [];
      bad-comes = tt;
      refused = λ y m. let q = ap number_told (read_is [] y m ∙ none_read) in omega (arith, q);
      counted = λ x y m u. u;
    })

-- ── the writer ───────────────────────────────────────────────────────────────

written_is : (x : ToWrite) (y : Wrote) → WrittenBy x y → (y.written ≡ written_of x.meaning (length x.room)) × (y.left ≡ room_after x.meaning x.room)
written_is _ _ (by-write κs a r s p) = (p.0, p.1)

write_done : (n : ℕ) → longest ≤ n → writing_answer asked n ≡ done
unfolding writing_answer
write_done n h = rw (le-leb longest n h) (valid-done asked asked-valid)

first-written : (room : List ℕ) → longest ≤ length room → get_or (room_after asked room) 0 0 ≡ 123
unfolding room_after layout body front
first-written room h = rw (write_done (length room) h) refl

-- symbols, and behind them invalid bytes
pub no-symbols : (size : ℕ) → symbols_in (replicate size 255) ≡ 0
no-symbols zero = refl
no-symbols (suc size) = refl

pub symbols-laid : (l : List ℕ) (size : ℕ) → all_at_most 127 l ≡ true → symbols_in (l ++ replicate size 255) ≡ length l
symbols-laid [] size e = no-symbols size
symbols-laid (x ∷ l) size e = let p = both_true (leb x 127) (all_at_most 127 l) e in rw p.0 (ap suc (symbols-laid l size p.1))

small : (m : Meaning) → valid m ≡ true → all_at_most 127 (layout m) ≡ true
small m v = (all-passed m v).symbols

-- beside a refusal no count is told
no-length : (a : Answer) (n : ℕ) → is_done a ≡ false → length_told (answered a n) ≡ 0
no-length None n e = absurd (true≢false e)
no-length (Some r) n e = refl

write-counted : (m : Meaning) (room : List ℕ) (size : ℕ) → room ≡ replicate size 255 → length_told (written_of m (length room)) ≡ symbols_in (room_after m room)
unfolding written_of room_after
write-counted m room size e = go (which (is_done (writing_answer m (length room))))
  where
    go : Either (is_done (writing_answer m (length room))) → length_told (written_of m (length room)) ≡ symbols_in (room_after m room)
    go (yes! d) =
        let more = blank-behind 255 (length (layout m)) size in
        let rest : drop (length (layout m)) room ≡ replicate more.0 255 = ap (drop (length (layout m))) e ∙ more.1 in
        rw (done-is _ d, rest) (sym (symbols-laid (layout m) more.0 (small m (written m (length room) d).0)))
    go (no! d) = no-length _ _ d ∙ rw d (sym (ap symbols_in e ∙ no-symbols size))

pub long : longest ≤ length (replicate {A = ℕ} longest 0)
long = rw (length-replicate {A = ℕ} longest 0) (omega arith)

short : (m : Meaning) → writing_answer m 0 ≡ Some ShortRoom
unfolding writing_answer
short m = refl

-- the first byte of a room of zeros is not a sequence's
pub not_zeros : (left : List ℕ) → get_or left 0 0 ≡ 123 → left ≡ replicate longest 0 → ⊥
not_zeros left f e = let q : ◌≡◌ {A = ℕ} 123 0 = sym f ∙ ap (λ (l : List ℕ). get_or l 0 0) e in omega (arith, q)

pub no-useless-writer : NoUselessWriter
unfolding NoUselessWriter written_of
no-useless-writer =
    let ask : List ℕ → ToWrite = λ room. record { meaning = asked; room = room } in
    shut_out Anything writer_signs WrittenBy (record {
      past = ask (replicate longest 0) ∷ [];
      begun = one;
      doable = ask (replicate longest 0);
      doable-comes = tt;
      done = λ y m. ap number_told ((written_is _ y m).0 ∙ ap (λ (a : Answer). answered a (length (layout asked))) (write_done _ long));
      busy = λ y m i. not_zeros y.left (ap (λ (l : List ℕ). get_or l 0 0) (written_is _ y m).1 ∙ first-written (replicate longest 0) long) i;
      later = ask (replicate longest 0) ∷ [];
      begun-later = one;
      bad = ask [];
      bad-comes = tt;
      refused = λ y m. let q = ap number_told ((written_is (ask []) y m).0 ∙ ap (λ (a : Answer). answered a (length (layout asked))) (short asked)) in omega (arith, q);
      counted = λ x y m u. u.other (ap length_told (written_is x y m).0 ∙ write-counted x.meaning x.room u.size u.none ∙ sym (ap symbols_in (written_is x y m).1));
    })

-- ── the reader in C ──────────────────────────────────────────────────────────

c-read-is : (x : Lent) (y : Left) → ReadInC x y → (y.number ≡ read_answer x.given (length x.room)) × (y.left ≡ meaning_after x.given x.room)
c-read-is _ _ (by-coast-read-sequence κs a r s p) = (p.0, p.1)

c-read-done : (n : ℕ) → meaning_size ≤ n → read_answer (layout asked) n ≡ 0
unfolding read_answer
c-read-done n h = rw (le-leb meaning_size n h, asked-accepted)

enough : meaning_size ≤ length (replicate {A = ℕ} meaning_size 0)
enough = rw (length-replicate {A = ℕ} meaning_size 0) (omega arith)

-- the lowest byte of the address
first-laid : get_or (meaning_laid asked (replicate meaning_size 0)) 0 0 ≡ 82
unfolding meaning_laid laid meaning_bytes meaning_numbers padded
first-laid = refl

c-first-read : get_or (meaning_after (layout asked) (replicate meaning_size 0)) 0 0 ≡ 82
unfolding meaning_after meaning_read
c-first-read = rw (c-read-done (length (replicate {A = ℕ} meaning_size 0)) enough, asked-accepted, asked-means.1) first-laid

c-read-short : (s : List ℕ) → read_answer s 0 ≡ 22
unfolding read_answer
c-read-short s = refl

pub no-useless-read-in-c : NoUselessReadInC
unfolding NoUselessReadInC
no-useless-read-in-c =
    let lend : List ℕ → Lent = λ room. record { given = layout asked; room = room } in
    shut_out Anything read_signs ReadInC (record {
      past = lend (replicate meaning_size 0) ∷ [];
      begun = one;
      doable = lend (replicate meaning_size 0);
      doable-comes = tt;
      done = λ y m. (c-read-is _ y m).0 ∙ c-read-done _ enough;
      busy = λ y m i. let q : ◌≡◌ {A = ℕ} 0 82 = ap (λ (l : List ℕ). get_or l 0 0) (sym i ∙ (c-read-is _ y m).1) ∙ c-first-read in omega (arith, q);
      later = lend (replicate meaning_size 0) ∷ [];
      begun-later = one;
      bad = lend [];
      bad-comes = tt;
      refused = λ y m. let q = (c-read-is (lend []) y m).0 ∙ c-read-short (layout asked) in omega (arith, q);
      counted = λ x y m u. u;
    })

-- ── the writer in C ──────────────────────────────────────────────────────────

c-written-is : (x : Lent) (y : Left) → WrittenInC x y → (y.number ≡ write_answer x.given (length x.room)) × (y.left ≡ room_after_writing x.given x.room)
c-written-is _ _ (by-coast-write-sequence κs a r s p) = (p.0, p.1)

asked-found : meaning_from (meaning_bytes asked) ≡ asked
asked-found = rw (append-nil (meaning_bytes asked)) at ((meaning-is-found-again asked []).1 asked-valid)

whole : meaning_size ≤ length (meaning_bytes asked)
whole = rw (meaning-is-found-again asked []).0 (omega arith)

c-write-done : (n : ℕ) → longest ≤ n → write_answer (meaning_bytes asked) n % 256 ≡ 0
unfolding write_answer written_of
c-write-done n h = rw (le-leb longest n h, le-leb meaning_size _ whole, asked-found, write_done n h) (omega arith)

c-first-written : (room : List ℕ) → longest ≤ length room → get_or (room_after_writing (meaning_bytes asked) room) 0 0 ≡ 123
unfolding room_after_writing
c-first-written room h = rw (le-leb longest _ h, le-leb meaning_size _ whole, asked-found) (first-written room h)

answer-in-byte : (r : Refusal) → refusal_number r < 256
answer-in-byte BadLength = omega arith
answer-in-byte BadSymbol = omega arith
answer-in-byte BadCheck = omega arith
answer-in-byte BadFormat = omega arith
answer-in-byte BadIdentities = omega arith
answer-in-byte BadCategory = omega arith
answer-in-byte BadTelecommands = omega arith
answer-in-byte BadField = omega arith
answer-in-byte BadNumber = omega arith
answer-in-byte BadEnd = omega arith
answer-in-byte ShortRoom = omega arith

count_of : (w : Result ℕ Refusal) → answer_and_count w / 256 ≡ length_told w
count_of (Ok n) = omega arith
count_of (Err r) = omega (arith, answer-in-byte r)

c-write-counted : (b room : List ℕ) (size : ℕ) → room ≡ replicate size 255 → write_answer b (length room) / 256 ≡ symbols_in (room_after_writing b room)
unfolding write_answer room_after_writing
c-write-counted b room size e = go (which (leb longest (length room))) (which (leb meaning_size (length b)))
  where
    go : Either (leb longest (length room)) → Either (leb meaning_size (length b)) → write_answer b (length room) / 256 ≡ symbols_in (room_after_writing b room)
    go (yes! p) (yes! q) = rw (p, q) (count_of (written_of (meaning_from b) (length room)) ∙ write-counted (meaning_from b) room size e)
    go (yes! p) (no! q) = rw (p, q) (sym (ap symbols_in e ∙ no-symbols size))
    go (no! p) q = rw p (sym (ap symbols_in e ∙ no-symbols size))

c-write-short : (b : List ℕ) → write_answer b 0 ≡ 21
unfolding write_answer
c-write-short b = refl

pub no-useless-write-in-c : NoUselessWriteInC
unfolding NoUselessWriteInC
no-useless-write-in-c =
    let lend : List ℕ → Lent = λ room. record { given = meaning_bytes asked; room = room } in
    shut_out Anything write_signs WrittenInC (record {
      past = lend (replicate longest 0) ∷ [];
      begun = one;
      doable = lend (replicate longest 0);
      doable-comes = tt;
      done = λ y m. ap (λ n. n % 256) (c-written-is _ y m).0 ∙ c-write-done _ long;
      busy = λ y m i. not_zeros y.left (ap (λ (l : List ℕ). get_or l 0 0) (c-written-is _ y m).1 ∙ c-first-written (replicate longest 0) long) i;
      later = lend (replicate longest 0) ∷ [];
      begun-later = one;
      bad = lend [];
      bad-comes = tt;
      refused = λ y m. let q = ap (λ n. n % 256) ((c-written-is (lend []) y m).0 ∙ c-write-short (meaning_bytes asked)) in omega (arith, q);
      counted = λ x y m u. u.other (ap (λ n. n / 256) (c-written-is x y m).0 ∙ c-write-counted x.given x.room u.size u.none ∙ sym (ap symbols_in (c-written-is x y m).1));
    })
