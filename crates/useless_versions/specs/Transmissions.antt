-- The writer and the reader of a transmission, and those of one character, for Rattle and for C: none of the eight has a useless version.
use Rattle.std.specs.Prelude.{ℕ, ◌/◌, ◌%◌, ◌≡◌, List, map, Result}
use contract.Lifetimes.{Lfts}
use Rattle.characters.specs.Code.{symbol_of}
use Rattle.characters.proofs.character_of.Reads as character_of
use Rattle.characters.proofs.symbol_of.Reads as symbol_of
use Rattle.transmission.specs.declared.Refusal.{Refusal}
use Rattle.transmission.specs.Answers.{answer_number, answer_told, count_told}
use Rattle.transmission.specs.Phasing.{characters_of}
use Rattle.sending.proofs.write_transmission.Reads as write_transmission
use Rattle.receiving.proofs.read_transmission.Reads as read_transmission
use Rattle.coast.proofs.transmissions.coast_write_transmission.Reads as coast_write_transmission
use Rattle.coast.proofs.transmissions.coast_read_transmission.Reads as coast_read_transmission
use Rattle.coast.proofs.transmissions.coast_write_character.Reads as coast_write_character
use Rattle.coast.proofs.transmissions.coast_read_character.Reads as coast_read_character
use Rattle.useless_versions.specs.Versions.{Signs, NoUselessVersion, Anything, NoFixedReply}
use Rattle.useless_versions.specs.Sequences.{symbols_in, Miscounted, Lent}

-- ── a transmission ───────────────────────────────────────────────────────────

-- what is seen of a call
pub record Seen : Type 0 where
  pub answer : ℕ
  pub count : ℕ
  pub left : List ℕ  -- what the room then holds

abbrev pub seen : Result ℕ Refusal → List ℕ → Seen
seen told left = record { answer = answer_number (answer_told told); count = count_told told; left = left }

-- answer and count as the header takes them
abbrev pub seen_in_c : ℕ → List ℕ → Seen
seen_in_c number left = record { answer = number % 256; count = number / 256; left = left }

abbrev pub signs : (List ℕ → ℕ) → Signs Lent Seen
signs laid_in = record {
  answer = λ y. y.answer;
  idle = λ x y. y.left ≡ x.room;
  miscounted = λ x y. Miscounted laid_in x.room y.count y.left;
}

-- ── writing one ──────────────────────────────────────────────────────────────

-- the characters at the front of a room that are a symbol's
abbrev pub characters_in : List ℕ → ℕ
characters_in bytes = symbols_in (map symbol_of (characters_of bytes))

pub data SentBy : Lent → Seen → Type 0 where
  by-write-transmission : (κs : Lfts 2) (a : _) (r : _) (s : _) → write_transmission.Post κs a r s
      → SentBy (record { given = a.0.now; room = a.1.0.now }) (seen r s.1.0.now)

unfoldable pub NoUselessSender : Type 0
NoUselessSender = NoUselessVersion Anything (signs characters_in) SentBy

pub data SentInC : Lent → Seen → Type 0 where
  by-coast-write-transmission : (κs : Lfts 2) (a : _) (r : _) (s : _) → coast_write_transmission.Post κs a r s
      → SentInC (record { given = a.0.now; room = a.1.0.now }) (seen_in_c r s.1.0.now)

unfoldable pub NoUselessSendInC : Type 0
NoUselessSendInC = NoUselessVersion Anything (signs characters_in) SentInC

-- ── reading one ──────────────────────────────────────────────────────────────

pub data ReceivedBy : Lent → Seen → Type 0 where
  by-read-transmission : (κs : Lfts 2) (a : _) (r : _) (s : _) → read_transmission.Post κs a r s
      → ReceivedBy (record { given = a.0.now; room = a.1.0.now }) (seen r s.1.0.now)

unfoldable pub NoUselessReceiver : Type 0
NoUselessReceiver = NoUselessVersion Anything (signs symbols_in) ReceivedBy

pub data ReceivedInC : Lent → Seen → Type 0 where
  by-coast-read-transmission : (κs : Lfts 2) (a : _) (r : _) (s : _) → coast_read_transmission.Post κs a r s
      → ReceivedInC (record { given = a.0.now; room = a.1.0.now }) (seen_in_c r s.1.0.now)

unfoldable pub NoUselessReceiveInC : Type 0
NoUselessReceiveInC = NoUselessVersion Anything (signs symbols_in) ReceivedInC

-- ── one character: it changes nothing and tells no count; "none" is the refusal ──

pub data CharacterBy : ℕ → ℕ → Type 0 where
  by-character-of : (κs : Lfts 0) (a : _) (r : _) (s : _) → character_of.Post κs a r s → CharacterBy a.0 r

unfoldable pub NoUselessCharacter : Type 0
NoUselessCharacter = NoFixedReply CharacterBy

pub data CharacterInC : ℕ → ℕ → Type 0 where
  by-coast-write-character : (κs : Lfts 0) (a : _) (r : _) (s : _) → coast_write_character.Post κs a r s → CharacterInC a.0 r

unfoldable pub NoUselessCharacterInC : Type 0
NoUselessCharacterInC = NoFixedReply CharacterInC

pub data SymbolBy : ℕ → ℕ → Type 0 where
  by-symbol-of : (κs : Lfts 0) (a : _) (r : _) (s : _) → symbol_of.Post κs a r s → SymbolBy a.0 r

unfoldable pub NoUselessSymbol : Type 0
NoUselessSymbol = NoFixedReply SymbolBy

pub data SymbolInC : ℕ → ℕ → Type 0 where
  by-coast-read-character : (κs : Lfts 0) (a : _) (r : _) (s : _) → coast_read_character.Post κs a r s → SymbolInC a.0 r

unfoldable pub NoUselessSymbolInC : Type 0
NoUselessSymbolInC = NoFixedReply SymbolInC
