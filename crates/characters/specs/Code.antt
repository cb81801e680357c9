-- The ten-unit code: a symbol as it goes on the air, and what a character that was received stands for.
use Rattle.std.specs.Prelude.{ℕ, ◌+◌, ◌-◌, ◌*◌, ◌/◌, ◌%◌, cond, leb, eqb}
use Rattle.std.specs.Int.Count.{ones}
use Rattle.sequence.specs.Figures.{last_symbol}

-- "the count of zeros among the seven"
unfoldable pub zeros : ℕ → ℕ
zeros symbol = 7 - ones symbol

-- "seven bits carry the symbol, low bit first, and three bits, high bit first, give the count of zeros", "the first unit lowest"
unfoldable pub ten_units : ℕ → ℕ
ten_units symbol = symbol + 128 * (zeros symbol / 4) + 256 * (zeros symbol / 2 % 2) + 512 * (zeros symbol % 2)

-- the first number that is no character, for what is no symbol
abbrev pub no_character : ℕ
no_character = 1024

unfoldable pub character_of : ℕ → ℕ
character_of symbol = cond (leb symbol last_symbol) (ten_units symbol) no_character

-- "none": the first number that is no symbol
abbrev pub none : ℕ
none = 128

-- "for each ten-bit character its symbol or none"
unfoldable pub symbol_of : ℕ → ℕ
symbol_of character = cond (eqb (character_of (character % 128)) character) (character % 128) none
