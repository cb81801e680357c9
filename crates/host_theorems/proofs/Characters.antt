-- The writer and the reader of a character that C calls.
use Prim.Native.Nat.{ℕ, ◌≤◌}
use mathlib.Core.Path.{◌≡◌, refl, ◌∙◌}
use mathlib.Core.Logic.{◌⊎◌, inl, inr}
use Rattle.sequence.specs.Figures.{last_symbol}
use Rattle.characters.specs.Code.{none, character_of, symbol_of}
use Rattle.transmission_theorems.proofs.Characters.{characters-read-back, symbols-write-back, one-bit-gives-none}
use Rattle.host_theorems.specs.Characters.{CharacterWritten, by-write, CharacterRead, by_read}
use Rattle.host_theorems.specs.Characters.{CCharactersReadBack, CSymbolsWriteBack, COneBitGivesNone, CAnswersCharacters}

written_as : {symbol character : ℕ} → CharacterWritten symbol character → character ≡ character_of symbol
written_as (by-write κs a r s p) = p

read_as : {character symbol : ℕ} → CharacterRead character symbol → symbol ≡ symbol_of character
read_as (by_read κs a r s p) = p

pub c-characters-read-back : CCharactersReadBack
unfolding CCharactersReadBack
c-characters-read-back symbol character back h w r = rw (read_as r, written_as w) (characters-read-back symbol h)

pub c-symbols-write-back : CSymbolsWriteBack
unfolding CSymbolsWriteBack
c-symbols-write-back character symbol back r w = go (symbols-write-back character)
  where
    go : (symbol_of character ≡ none) ⊎ ((symbol_of character ≤ last_symbol) × (character_of (symbol_of character) ≡ character))
        → (symbol ≡ none) ⊎ (back ≡ character)
    go (inl e) = inl (read_as r ∙ e)
    go (inr e) = inr (rw (written_as w, read_as r) e.1)

pub c-one-bit-gives-none : COneBitGivesNone
unfolding COneBitGivesNone
c-one-bit-gives-none symbol bit character back h k w r = rw (read_as r, written_as w) (one-bit-gives-none symbol bit h k)

pub c-answers-characters : CAnswersCharacters
unfolding CAnswersCharacters
c-answers-characters n = (by-write tt (n, tt) _ (n, tt) refl, by_read tt (n, tt) _ (n, tt) refl)
