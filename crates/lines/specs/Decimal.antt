-- "Fields are decimal": numbers as a script writes them, in bytes of ASCII.
use Rattle.std.specs.Prelude.{Bool, false, ◌&&◌, List, [], ◌∷◌, ℕ, ◌+◌, ◌-◌, ◌*◌, leb}
use Rattle.rules.specs.Rules.Places.{all}

unfoldable pub is_digit : ℕ → Bool
is_digit b = leb 48 b && leb b 57

-- one or more digits, with any leading zeros
unfoldable pub is_decimal : List ℕ → Bool
is_decimal [] = false
is_decimal (b ∷ t) = all is_digit (b ∷ t)

-- what a number becomes with more digits behind it
abbrev pub value_from : ℕ → List ℕ → ℕ
value_from v [] = v
value_from v (b ∷ t) = value_from (v * 10 + (b - 48)) t

unfoldable pub value_of : List ℕ → ℕ
value_of [] = 0
value_of (b ∷ t) = value_from (b - 48) t
