-- What one character withstands.
use Prim.Native.Nat.{ℕ, ◌+◌, ◌*◌, ◌/◌, ◌%◌, ◌^◌}
use mathlib.Core.Path.{◌≡◌, refl, sym, ◌∙◌}
use native.Mathlib.Omega.{arith}
use lib.Bits.{bit_xor}
use lib.Count.{ones, ones_in}
use lib.ListN.{replicate, get_or-replicate}
use Rattle.characters.specs.Rows.{in_row}
use Rattle.characters.specs.Code.{zeros, ten_units, character_of, symbol_of, none}
use Rattle.characters.proofs.RowLaws.{at_place}
use Rattle.characters.proofs.CodeLaws.{symbol-of-its-own, none-or-good}
use Rattle.transmission_theorems.specs.Statement.{CharactersReadBack, SymbolsWriteBack, OneBitGivesNone}

pub characters-read-back : CharactersReadBack
characters-read-back symbol h = symbol-of-its-own symbol h

pub symbols-write-back : SymbolsWriteBack
symbols-write-back character = none-or-good character

-- the symbols of all ten neighbours of all 128 characters, one after the other
neighbour : ℕ → ℕ → ℕ
neighbour symbol bit = symbol_of (bit_xor (character_of symbol) (2 ^ bit))

nth-neighbour : ℕ → ℕ
nth-neighbour i = neighbour (i / 10) (i % 10)

neighbours-none : in_row nth-neighbour 0 1280 ≡ replicate 1280 none
unfolding nth-neighbour neighbour symbol_of character_of ten_units zeros ones ones_in
neighbours-none = refl

pub one-bit-gives-none : OneBitGivesNone
unfolding nth-neighbour neighbour
one-bit-gives-none symbol bit s b =
    let i = 10 * symbol + bit in
    let symbol-there : i / 10 ≡ symbol = omega arith in
    let bit-there : i % 10 ≡ bit = omega arith in
    sym (rw (symbol-there, bit-there) at (at_place nth-neighbour 1280 i (omega arith)))
    ∙ rw neighbours-none (get_or-replicate 1280 i none 0 (omega arith))
