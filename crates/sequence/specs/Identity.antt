-- "An identity is nine digits and a final 0, in pairs."
use Rattle.std.specs.Prelude.{ℕ, ◌+◌, ◌*◌, ◌/◌, ◌%◌, Bool, cond, ◌&&◌, List, ◌∷◌, leb, eqb}
use Rattle.sequence.specs.Figures.{last_pair}
use Rattle.sequence.specs.Symbols.{within}

-- "Ships: 200000000 to 799999999."
unfoldable pub is_ship : ℕ → Bool
is_ship n = within 200000000 799999999 n

-- "Coast stations: 002000000 to 007999999."
unfoldable pub is_coast : ℕ → Bool
is_coast n = within 2000000 7999999 n

-- "One of the two identities is a ship's, the other a coast station's."
unfoldable pub identities_ok : ℕ → ℕ → Bool
identities_ok address sender = cond (is_ship address) (is_coast sender) (is_coast address && is_ship sender)

-- the five pairs of an identity, before what follows
abbrev pub identity_symbols : ℕ → List ℕ → List ℕ
identity_symbols n l = n / 10000000 ∷ n / 100000 % 100 ∷ n / 1000 % 100 ∷ n / 10 % 100 ∷ n % 10 * 10 ∷ l

-- five symbols are pairs of digits, the last digit 0
unfoldable pub identity_pairs : ℕ → ℕ → ℕ → ℕ → ℕ → Bool
identity_pairs a b c d e = leb a last_pair && (leb b last_pair && (leb c last_pair && (leb d last_pair && (leb e last_pair && eqb (e % 10) 0))))

-- the nine digits of five pairs, as a number
unfoldable pub identity_of : ℕ → ℕ → ℕ → ℕ → ℕ → ℕ
identity_of a b c d e = a * 10000000 + b * 100000 + c * 1000 + d * 10 + e / 10
