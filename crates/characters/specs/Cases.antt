-- Characters worked out by hand, unit by unit in the order sent: cases.
use Rattle.std.specs.Prelude.{ℕ, ◌+◌, ◌*◌, List, [], ◌∷◌}
use Rattle.characters.specs.Code.{character_of, symbol_of}

-- Y is 1 and B is 0
pub data Unit : Type 0 where
  Y : Unit
  B : Unit

abbrev pub bit : Unit → ℕ
bit Y = 1
bit B = 0

-- "the first unit lowest"
abbrev pub number_of : List Unit → ℕ
number_of [] = 0
number_of (unit ∷ units) = bit unit + 2 * number_of units

abbrev pub ten : Unit → Unit → Unit → Unit → Unit → Unit → Unit → Unit → Unit → Unit → List Unit
ten a b c d e f g h i j = a ∷ b ∷ c ∷ d ∷ e ∷ f ∷ g ∷ h ∷ i ∷ j ∷ []

pub record Case : Type 0 where
  pub computed : List ℕ
  pub expected : List ℕ

abbrev pub gives : List ℕ → List ℕ → Case
gives computed expected = record { computed = computed; expected = expected }

-- a symbol's character is these units, and they are read as that symbol
abbrev pub sends : ℕ → List Unit → Case
sends symbol units = gives (character_of symbol ∷ symbol_of (number_of units) ∷ []) (number_of units ∷ symbol ∷ [])

-- no symbol's character is these units
abbrev pub is_none : List Unit → Case
is_none units = gives (symbol_of (number_of units) ∷ []) (128 ∷ [])

abbrev pub cases : List Case
cases =
    -- pairs of digits
    sends 0 (ten B B B B B B B Y Y Y)
    ∷ sends 1 (ten Y B B B B B B Y Y B)
    ∷ sends 2 (ten B Y B B B B B Y Y B)
    ∷ sends 3 (ten Y Y B B B B B Y B Y)
    ∷ sends 99 (ten Y Y B B B Y Y B Y Y)
    -- commands
    ∷ sends 100 (ten B B Y B B Y Y Y B B)
    ∷ sends 117 (ten Y B Y B Y Y Y B Y B)
    ∷ sends 122 (ten B Y B Y Y Y Y B Y B)
    ∷ sends 127 (ten Y Y Y Y Y Y Y B B B)
    -- phasing
    ∷ sends 125 (ten Y B Y Y Y Y Y B B Y)
    ∷ sends 111 (ten Y Y Y Y B Y Y B B Y)
    ∷ sends 110 (ten B Y Y Y B Y Y B Y B)
    ∷ sends 109 (ten Y B Y Y B Y Y B Y B)
    ∷ sends 108 (ten B B Y Y B Y Y B Y Y)
    ∷ sends 107 (ten Y Y B Y B Y Y B Y B)
    ∷ sends 106 (ten B Y B Y B Y Y B Y Y)
    ∷ sends 105 (ten Y B B Y B Y Y B Y Y)
    ∷ sends 104 (ten B B B Y B Y Y Y B B)
    -- 127 with a zero too many in its count; 1 with its count low bit first
    ∷ is_none (ten Y Y Y Y Y Y Y B B Y)
    ∷ is_none (ten Y B B B B B B B Y Y)
    -- nothing but B, nothing but Y
    ∷ is_none (ten B B B B B B B B B B)
    ∷ is_none (ten Y Y Y Y Y Y Y Y Y Y)
    -- 128 is no symbol; 1,024 and 127 with an eleventh unit are no characters
    ∷ gives (character_of 128 ∷ symbol_of 1024 ∷ symbol_of 1151 ∷ []) (1024 ∷ 128 ∷ 128 ∷ [])
    ∷ []
