-- Symbols, one after the other.
use Rattle.std.specs.Prelude.{ℕ, Bool, true, ◌&&◌, List, [], ◌∷◌, leb}
use Rattle.std.specs.Int.Bits.{bit_xor}

-- a number from the least to the most, both included
abbrev pub within : ℕ → ℕ → ℕ → Bool
within least most n = leb least n && leb n most

abbrev pub all_at_most : ℕ → List ℕ → Bool
all_at_most most [] = true
all_at_most most (a ∷ l) = leb a most && all_at_most most l

-- "exclusive-or of all symbols before it", from x on
abbrev pub exclusive_or : ℕ → List ℕ → ℕ
exclusive_or x [] = x
exclusive_or x (a ∷ l) = exclusive_or (bit_xor x a) l
