-- The transmission of P1 is written and read, an empty room is refused; 0 has a character, 128 has none.
use Prim.Native.Nat.{ℕ, zero, suc, ◌+◌, ◌*◌, ◌/◌, ◌%◌, ◌<◌, ◌≤◌}
use mathlib.Core.Path.{◌≡◌, refl, sym, ap, ◌∙◌}
use mathlib.Core.Bool.{true, false, true≢false}
use mathlib.Core.List.{List, [], ◌∷◌, ◌++◌, map}
use native.Mathlib.Omega.{arith}
use lib.Count.{ones, ones_in}
use lib.Dec.{leb, ltb}
use lib.ListN.{length, get_or, drop, replicate, length-map, length-replicate, get_or-eq_default}
use borrow.Author.Tests.{leb-true, eqb-true, ltb-true, ltb-false}
use Rattle.std.specs.Prelude.{Some, None, Result, Ok, Err}
use Rattle.sequence.specs.Figures.{longest}
use Rattle.sequence.specs.Symbols.{all_at_most}
use Rattle.sequence.specs.Layout.{front, body, layout}
use Rattle.sequence.proofs.Tests.{both_true, Either, yes!, no!, which}
use Rattle.reading.proofs.Passed.{passed}
use Rattle.sequence_theorems.proofs.NumberLaws.{all_from}
use Rattle.characters.specs.Code.{none, zeros, ten_units, character_of, symbol_of}
use Rattle.characters.proofs.CodeLaws.{symbol-of-its-own}
use Rattle.transmission.specs.declared.Refusal.{Refusal}
use Rattle.transmission.specs.declared.Refusal.TheVariants.{BadLength, BadSymbol, ShortRoom, NoPhasing, CopiesBad, EndsEarly}
use Rattle.transmission.specs.Answers.{Answer, done, refusal_number, answer_number, is_done, answered, answer_told, count_told}
use Rattle.transmission.proofs.AnswerLaws.{done-is}
use Rattle.sequence.specs.Answers as SequenceAnswers
use Rattle.transmission.specs.Layout.{dx_phasing, rx_phasing, dx, rx, sent, transmission, bytes_of}
use Rattle.transmission.specs.Writing.{longest_transmission, writing_refusals, writing_answer, transmission_written, room_after_writing}
use Rattle.transmission.specs.Phasing.{characters_of, heard}
use Rattle.transmission.specs.Reading as Reader
use Rattle.transmission.specs.Reading.{reading_refusals, reading_answer, transmission_read, room_after_reading}
use Rattle.transmission.proofs.LayoutLaws.{any-default}
use Rattle.transmission.proofs.WritingLaws.{Writable, done-writable}
use Rattle.transmission_theorems.specs.Statement.{Accepted}
use Rattle.transmission_theorems.proofs.SentLaws.{sent-small}
use Rattle.transmission_theorems.proofs.InRoom.{written-in-room, answer-in-room, done-in-longest, read-in-room}
use Rattle.transmission_theorems.proofs.Theorems.{bytes-read-back, sequences-read-back, nothing-else}
use Rattle.coast.specs.Transmissions.{answer_with_count}
use Rattle.useless_versions.specs.Versions.{Anything, NoUselessVersion}
use Rattle.useless_versions.specs.Sequences.{symbols_in, Lent}
use Rattle.useless_versions.specs.Transmissions.{Seen, seen, seen_in_c, signs, characters_in}
use Rattle.useless_versions.specs.Transmissions.{SentBy, by-write-transmission, NoUselessSender}
use Rattle.useless_versions.specs.Transmissions.{SentInC, by-coast-write-transmission, NoUselessSendInC}
use Rattle.useless_versions.specs.Transmissions.{ReceivedBy, by-read-transmission, NoUselessReceiver}
use Rattle.useless_versions.specs.Transmissions.{ReceivedInC, by-coast-read-transmission, NoUselessReceiveInC}
use Rattle.useless_versions.specs.Transmissions.{CharacterBy, by-character-of, NoUselessCharacter}
use Rattle.useless_versions.specs.Transmissions.{CharacterInC, by-coast-write-character, NoUselessCharacterInC}
use Rattle.useless_versions.specs.Transmissions.{SymbolBy, by-symbol-of, NoUselessSymbol}
use Rattle.useless_versions.specs.Transmissions.{SymbolInC, by-coast-read-character, NoUselessSymbolInC}
use Rattle.useless_versions.proofs.ShutOut.{one, shut_out, no-fixed-reply}
use Rattle.useless_versions.proofs.Events.{blank-behind}
use Rattle.useless_versions.proofs.Sequences.{asked, asked-accepted, no-symbols, symbols-laid, long, not_zeros}

-- ── what is seen of a call, for Rattle and for C ─────────────────────────────

in-byte : (r : Refusal) → refusal_number r < 256
in-byte BadLength = omega arith
in-byte BadSymbol = omega arith
in-byte ShortRoom = omega arith
in-byte NoPhasing = omega arith
in-byte CopiesBad = omega arith
in-byte EndsEarly = omega arith

same_seen : (told : Result ℕ Refusal) (left : List ℕ) → seen_in_c (answer_with_count told) left ≡ seen told left
same_seen (Ok n) left =
    let a : 256 * n % 256 ≡ 0 = omega arith in
    let c : 256 * n / 256 ≡ n = omega arith in
    rw (a, c)
same_seen (Err r) left =
    let a : refusal_number r % 256 ≡ refusal_number r = omega (arith, in-byte r) in
    let c : refusal_number r / 256 ≡ 0 = omega (arith, in-byte r) in
    rw (a, c)

-- beside a refusal no count is told
no-count : (a : Answer) (n : ℕ) → is_done a ≡ false → count_told (answered a n) ≡ 0
no-count None n e = absurd (true≢false e)
no-count (Some r) n e = refl

-- told in so much room, and left in it
abbrev Telling : Type 0
Telling = List ℕ → ℕ → Result ℕ Refusal

abbrev Leaving : Type 0
Leaving = List ℕ → List ℕ → List ℕ

-- a contract that names this, and nothing else
abbrev Names : (Lent → Seen → Type 0) → Telling → Leaving → Type 0
Names meets told left =
    (x : Lent) (y : Seen) → meets x y → y ≡ seen (told x.given (length x.room)) (left x.given x.room)

-- in a room of 255s the count told is that of what is laid
abbrev Counts : Telling → Leaving → (List ℕ → ℕ) → Type 0
Counts told left laid_in =
    (given room : List ℕ) (size : ℕ) → room ≡ replicate size 255 → count_told (told given (length room)) ≡ laid_in (left given room)

behind : (room : List ℕ) (size n : ℕ) → room ≡ replicate size 255 → (m : ℕ) × (drop n room ≡ replicate m 255)
behind room size n e = rw e (blank-behind 255 n size)

-- it is done in this room and changes it, and is refused in an empty one
module _ (told : Telling) (left : Leaving) (laid_in : List ℕ → ℕ) (counts : Counts told left laid_in) (given room : List ℕ)
    (is_told : answer_told (told given (length room)) ≡ done) (changes : left given room ≡ room → ⊥) (short : answer_told (told given 0) ≡ Some ShortRoom)
    (meets : Lent → Seen → Type 0) (names : Names meets told left) where
  no-useless : NoUselessVersion Anything (signs laid_in) meets
  no-useless =
      let lend : List ℕ → Lent = λ room. record { given = given; room = room } in
      shut_out Anything (signs laid_in) meets (record {
        past = lend room ∷ [];
        begun = one;
        doable = lend room;
        doable-comes = tt;
        done = λ y m. ap (λ (s : Seen). s.answer) (names (lend room) y m) ∙ ap answer_number is_told;
        busy = λ y m i. changes (sym (ap (λ (s : Seen). s.left) (names (lend room) y m)) ∙ i);
        later = lend room ∷ [];
        begun-later = one;
        bad = lend [];
        bad-comes = tt;
        refused = λ y m. let q = ap (λ (s : Seen). s.answer) (names (lend []) y m) ∙ ap answer_number short in omega (arith, q);
        counted = λ x y m u. u.other (rw (names x y m) (counts x.given x.room u.size u.none));
      })

abbrev p1 : List ℕ
p1 = layout asked

accepted : Accepted p1
accepted = asked-accepted

-- ── writing one ──────────────────────────────────────────────────────────────

abbrev zeros_to_send : List ℕ
zeros_to_send = replicate (2 * longest_transmission) 0

writable : Writable p1 zeros_to_send
writable =
    let p = passed p1 (ap SequenceAnswers.is_done accepted) in
    record { size = p.long; small = p.symbols; wide = rw (length-replicate {A = ℕ} (2 * longest_transmission) 0) (omega arith) }

-- the low byte of 125's character
first-sent : (s rest : List ℕ) → get_or (bytes_of (transmission s) ++ rest) 0 0 ≡ 125
unfolding transmission dx dx_phasing rx rx_phasing character_of ten_units zeros ones ones_in
first-sent s rest = refl

sending-changes : room_after_writing p1 zeros_to_send ≡ zeros_to_send → ⊥
sending-changes e =
    let same = sym (written-in-room p1 zeros_to_send writable).1 ∙ e in
    let q : ◌≡◌ {A = ℕ} 125 0 = sym (first-sent p1 _) ∙ ap (λ (l : List ℕ). get_or l 0 0) same in
    omega (arith, q)

sending-short : answer_told (transmission_written p1 0) ≡ Some ShortRoom
unfolding transmission_written writing_answer writing_refusals
sending-short = refl

-- 65,535 is no character
no-characters : (size : ℕ) → characters_in (replicate size 255) ≡ 0
unfolding symbol_of character_of ten_units zeros ones ones_in
no-characters zero = refl
no-characters (suc zero) = refl
no-characters (suc (suc size)) = refl

characters-laid : (l : List ℕ) (size : ℕ) → all_at_most 127 l ≡ true
    → characters_in (bytes_of (map character_of l) ++ replicate size 255) ≡ length l
characters-laid [] size e = no-characters size
characters-laid (x ∷ l) size e =
    let p = both_true (leb x 127) (all_at_most 127 l) e in
    let c : character_of x % 256 + 256 * (character_of x / 256) ≡ character_of x = omega arith in
    rw (c, symbol-of-its-own x (leb-true x 127 p.0), p.0) (ap suc (characters-laid l size p.1))

sending-counts : Counts transmission_written room_after_writing characters_in
unfolding transmission_written room_after_writing transmission
sending-counts s room size e = go (which (is_done (writing_answer s (length room))))
  where
    go : Either (is_done (writing_answer s (length room)))
        → count_told (transmission_written s (length room)) ≡ characters_in (room_after_writing s room)
    go (yes! d) =
        let w = done-writable s room d in
        let x = written-in-room s room w in
        let rest = behind room size (2 * length (transmission s)) e in
        let laid = x.1 ∙ ap (◌++◌ (bytes_of (transmission s))) rest.1 in
        ap count_told x.0 ∙ length-map (sent s) character_of
        ∙ sym (ap characters_in laid ∙ characters-laid (sent s) rest.0 (sent-small s w.small))
    go (no! d) = no-count _ _ d ∙ rw d (sym (ap characters_in e ∙ no-characters size))

no-useless-sending : (meets : Lent → Seen → Type 0) → Names meets transmission_written room_after_writing
    → NoUselessVersion Anything (signs characters_in) meets
no-useless-sending =
    let is_told = ap answer_told (written-in-room p1 zeros_to_send writable).0 in
    no-useless transmission_written room_after_writing characters_in sending-counts p1 zeros_to_send is_told sending-changes sending-short

sent_is : Names SentBy transmission_written room_after_writing
sent_is _ _ (by-write-transmission κs a r s p) = rw (p.0, p.1)

c-sent-is : Names SentInC transmission_written room_after_writing
c-sent-is _ _ (by-coast-write-transmission κs a r s p) = rw (p.0, p.1) (same_seen _ _)

pub no-useless-sender : NoUselessSender
unfolding NoUselessSender
no-useless-sender = no-useless-sending SentBy sent_is

pub no-useless-send-in-c : NoUselessSendInC
unfolding NoUselessSendInC
no-useless-send-in-c = no-useless-sending SentInC c-sent-is

-- ── reading one ──────────────────────────────────────────────────────────────

abbrev zeros_to_receive : List ℕ
zeros_to_receive = replicate longest 0

abbrev on_air : List ℕ
on_air = bytes_of (transmission p1)

record ReadOff : Type 0 where
  is_told : answer_told (transmission_read on_air (length zeros_to_receive)) ≡ done
  left : room_after_reading on_air zeros_to_receive ≡ p1 ++ drop (length p1) zeros_to_receive

read_off : ReadOff
read_off =
    let back = rw (← bytes-read-back p1) at (sequences-read-back p1 accepted) in
    let x = read-in-room on_air zeros_to_receive (answer-in-room on_air zeros_to_receive long ∙ back.0) in
    record { is_told = ap answer_told x.0; left = rw back.1 at x.1 }

first_read : (rest : List ℕ) → get_or (p1 ++ rest) 0 0 ≡ 123
unfolding layout body front
first_read rest = refl

receiving-changes : room_after_reading on_air zeros_to_receive ≡ zeros_to_receive → ⊥
receiving-changes e = not_zeros zeros_to_receive (ap (λ (l : List ℕ). get_or l 0 0) (sym e ∙ read_off.left) ∙ first_read _) refl

receiving-short : answer_told (transmission_read on_air 0) ≡ Some ShortRoom
unfolding transmission_read reading_answer reading_refusals
receiving-short = refl

-- what is read is symbols
module _ (characters : List ℕ) (is_read : reading_answer (heard characters) longest ≡ done) where
  abbrev symbols : List ℕ
  symbols = Reader.symbols_in (heard characters)

  read_small : all_at_most 127 symbols ≡ true
  read_small = all_from 127 symbols (λ k. go k (which (ltb k (length symbols))))
    where
      go : (k : ℕ) → Either (ltb k (length symbols)) → get_or symbols k 0 ≤ 127
      go k (yes! l) =
          let within = ltb-true k (length symbols) l in
          rw (any-default symbols k 0 none within) (nothing-else characters is_read k within).is-symbol
      go k (no! l) = rw (get_or-eq_default symbols 0 (ltb-false k (length symbols) l)) (omega arith)

receiving-counts : Counts transmission_read room_after_reading symbols_in
unfolding transmission_read room_after_reading
receiving-counts bytes room size e = go (which (is_done (reading_answer (heard (characters_of bytes)) (length room))))
  where
    go : Either (is_done (reading_answer (heard (characters_of bytes)) (length room)))
        → count_told (transmission_read bytes (length room)) ≡ symbols_in (room_after_reading bytes room)
    go (yes! d) =
        let is_read = done-is _ d in
        let x = read-in-room bytes room is_read in
        let read : List ℕ = Reader.symbols_in (heard (characters_of bytes)) in
        let rest = behind room size (length read) e in
        let laid = x.1 ∙ ap (◌++◌ read) rest.1 in
        let small = read_small (characters_of bytes) (done-in-longest bytes room is_read) in
        ap count_told x.0 ∙ sym (ap symbols_in laid ∙ symbols-laid read rest.0 small)
    go (no! d) = no-count _ _ d ∙ rw d (sym (ap symbols_in e ∙ no-symbols size))

no-useless-receiving : (meets : Lent → Seen → Type 0) → Names meets transmission_read room_after_reading
    → NoUselessVersion Anything (signs symbols_in) meets
no-useless-receiving =
    no-useless transmission_read room_after_reading symbols_in receiving-counts on_air zeros_to_receive read_off.is_told receiving-changes
    receiving-short

received_is : Names ReceivedBy transmission_read room_after_reading
received_is _ _ (by-read-transmission κs a r s p) = rw (p.0, p.1)

c-received-is : Names ReceivedInC transmission_read room_after_reading
c-received-is _ _ (by-coast-read-transmission κs a r s p) = rw (p.0, p.1) (same_seen _ _)

pub no-useless-receiver : NoUselessReceiver
unfolding NoUselessReceiver
no-useless-receiver = no-useless-receiving ReceivedBy received_is

pub no-useless-receive-in-c : NoUselessReceiveInC
unfolding NoUselessReceiveInC
no-useless-receive-in-c = no-useless-receiving ReceivedInC c-received-is

-- ── one character ────────────────────────────────────────────────────────────

character-is : (x y : ℕ) → CharacterBy x y → y ≡ character_of x
character-is _ _ (by-character-of κs a r s p) = p

c-character-is : (x y : ℕ) → CharacterInC x y → y ≡ character_of x
c-character-is _ _ (by-coast-write-character κs a r s p) = p

-- 896 and 1024
characters-differ : character_of 0 ≡ character_of 128 → ⊥
unfolding character_of ten_units zeros ones ones_in
characters-differ e = omega (arith, e)

pub no-useless-character : NoUselessCharacter
unfolding NoUselessCharacter
no-useless-character = no-fixed-reply character_of 0 128 characters-differ CharacterBy character-is

pub no-useless-character-in-c : NoUselessCharacterInC
unfolding NoUselessCharacterInC
no-useless-character-in-c = no-fixed-reply character_of 0 128 characters-differ CharacterInC c-character-is

symbol-is : (x y : ℕ) → SymbolBy x y → y ≡ symbol_of x
symbol-is _ _ (by-symbol-of κs a r s p) = p

c-symbol-is : (x y : ℕ) → SymbolInC x y → y ≡ symbol_of x
c-symbol-is _ _ (by-coast-read-character κs a r s p) = p

-- 0 and 128
symbols-differ : symbol_of 896 ≡ symbol_of 1024 → ⊥
unfolding symbol_of character_of ten_units zeros ones ones_in
symbols-differ e = omega (arith, e)

pub no-useless-symbol : NoUselessSymbol
unfolding NoUselessSymbol
no-useless-symbol = no-fixed-reply symbol_of 896 1024 symbols-differ SymbolBy symbol-is

pub no-useless-symbol-in-c : NoUselessSymbolInC
unfolding NoUselessSymbolInC
no-useless-symbol-in-c = no-fixed-reply symbol_of 896 1024 symbols-differ SymbolInC c-symbol-is
