-- A function's values at places in a row.
use Rattle.std.specs.Prelude.{ℕ, zero, suc, List, [], ◌∷◌}

-- f at n places, from k on
abbrev pub in_row : (ℕ → ℕ) → ℕ → ℕ → List ℕ
in_row f k zero = []
in_row f k (suc n) = f k ∷ in_row f (suc k) n
