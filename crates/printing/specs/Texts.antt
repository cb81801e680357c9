-- Numbers as a script prints them, in bytes of ASCII: decimal, one space apart.
use Rattle.std.specs.Prelude.{cond, List, [], ◌∷◌, ◌++◌, map, ◌≡◌, ℕ, ◌+◌, ◌/◌, ◌%◌, eqb, length, take, drop}
use Rattle.lines.specs.Lines.{spaced}

-- every number up to 4,294,967,295 has ten digits at most
unfoldable pub ten_digits : ℕ → List ℕ
ten_digits n =
    (48 + n / 1000000000 % 10)
    ∷ (48 + n / 100000000 % 10)
    ∷ (48 + n / 10000000 % 10)
    ∷ (48 + n / 1000000 % 10)
    ∷ (48 + n / 100000 % 10)
    ∷ (48 + n / 10000 % 10)
    ∷ (48 + n / 1000 % 10)
    ∷ (48 + n / 100 % 10)
    ∷ (48 + n / 10 % 10)
    ∷ (48 + n % 10)
    ∷ []

-- without leading zeros; the last digit stays
unfoldable pub shortened : List ℕ → List ℕ
shortened [] = []
shortened (d ∷ []) = d ∷ []
shortened (d ∷ e ∷ l) = cond (eqb d 48) (shortened (e ∷ l)) (d ∷ e ∷ l)

unfoldable pub decimal : ℕ → List ℕ
decimal n = shortened (ten_digits n)

-- each number behind a space
unfoldable pub numbers_text : List ℕ → List ℕ
numbers_text l = spaced (map decimal l)

-- ── a text put into a room ───────────────────────────────────────────────────

unfoldable pub put_at : List ℕ → ℕ → List ℕ → List ℕ
put_at room at text = (take at room ++ text) ++ drop (at + length text) room

pub record Put (entry exit : List ℕ) (at next : ℕ) (text : List ℕ) : Type 0 where
  pub behind : next ≡ at + length text
  pub laid : exit ≡ put_at entry at text
