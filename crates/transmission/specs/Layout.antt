-- "the whole transmission as M.493 has it": its symbols in the order sent, and its characters in bytes.
use Rattle.std.specs.Prelude.{ℕ, ◌-◌, ◌%◌, ◌/◌, List, [], ◌∷◌, ◌++◌, map, length, get_or, replicate}
use Rattle.characters.specs.Code.{character_of}

-- "Phasing has 125 in six DX places and 111, 110, 109, 108, 107, 106, 105, 104 in eight RX places"
unfoldable pub dx_phasing : List ℕ
dx_phasing = replicate 6 125

unfoldable pub rx_phasing : List ℕ
rx_phasing = 111 ∷ 110 ∷ 109 ∷ 108 ∷ 107 ∷ 106 ∷ 105 ∷ 104 ∷ []

-- "The format specifier stands twice."
abbrev pub format_twice : List ℕ → List ℕ
format_twice s = get_or s 0 0 ∷ s

-- the end of sequence, last but one
abbrev pub end_of : List ℕ → ℕ
end_of s = get_or s (length s - 2) 0

-- "The end of sequence stands three times in DX and once in RX; the error check once in each: at the end DX has end, check, end, end and
-- RX end, check."
unfoldable pub dx : List ℕ → List ℕ
dx s = dx_phasing ++ (format_twice s ++ (end_of s ∷ end_of s ∷ []))

-- "the RX of the character in DX place n stands in the RX place after DX place n + 2": the eight phasing characters stand two places longer
unfoldable pub rx : List ℕ → List ℕ
rx s = rx_phasing ++ format_twice s

-- "the two interleaved DX, RX, DX, RX, .."
abbrev pub in_turn : List ℕ → List ℕ → List ℕ
in_turn [] ys = []
in_turn (x ∷ xs) [] = []
in_turn (x ∷ xs) (y ∷ ys) = x ∷ y ∷ in_turn xs ys

-- the symbols in the order sent
abbrev pub sent : List ℕ → List ℕ
sent s = in_turn (dx s) (rx s)

unfoldable pub transmission : List ℕ → List ℕ
transmission s = map character_of (sent s)

-- each character in two bytes, low byte first
abbrev pub bytes_of : List ℕ → List ℕ
bytes_of [] = []
bytes_of (c ∷ cs) = c % 256 ∷ c / 256 ∷ bytes_of cs
