-- One symbol on the air: of the writer and the reader of a character that C calls.
use Rattle.std.specs.Prelude.{ℕ, ◌^◌, ◌≤◌, ◌<◌, ◌≡◌, ◌⊎◌}
use Rattle.std.specs.Int.Bits.{bit_xor}
use contract.Lifetimes.{Lfts}
use Rattle.sequence.specs.Figures.{last_symbol}
use Rattle.characters.specs.Code.{none, character_of, symbol_of}
use Rattle.coast.proofs.transmissions.coast_write_character.Reads as coast_write_character
use Rattle.coast.proofs.transmissions.coast_read_character.Reads as coast_read_character

-- what the entry was given and what it returned, as its contract allows
pub data CharacterWritten : ℕ → ℕ → Type 0 where
  by-write : (κs : Lfts 0) (a : _) (r : _) (s : _) → coast_write_character.Post κs a r s → CharacterWritten a.0 r

pub data CharacterRead : ℕ → ℕ → Type 0 where
  by_read : (κs : Lfts 0) (a : _) (r : _) (s : _) → coast_read_character.Post κs a r s → CharacterRead a.0 r

-- what was written for a symbol is read as that symbol
unfoldable pub CCharactersReadBack : Type 0
CCharactersReadBack = (symbol character back : ℕ) → symbol ≤ last_symbol
    → CharacterWritten symbol character → CharacterRead character back → back ≡ symbol

-- and what was read is none, or written as that character
unfoldable pub CSymbolsWriteBack : Type 0
CSymbolsWriteBack = (character symbol back : ℕ)
    → CharacterRead character symbol → CharacterWritten symbol back → (symbol ≡ none) ⊎ (back ≡ character)

-- "Any one bit changed in a symbol's character gives none."
unfoldable pub COneBitGivesNone : Type 0
COneBitGivesNone = (symbol bit character back : ℕ) → symbol ≤ last_symbol → bit < 10
    → CharacterWritten symbol character → CharacterRead (bit_xor character (2 ^ bit)) back → back ≡ none

-- and they are of something: whatever number is handed in
unfoldable pub CAnswersCharacters : Type 0
CAnswersCharacters = (n : ℕ) → CharacterWritten n (character_of n) × CharacterRead n (symbol_of n)
