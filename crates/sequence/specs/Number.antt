-- "A number has 1 to 16 digits; an odd one has a 0 put before it."
use Rattle.std.specs.Prelude.{ℕ, ◌+◌, ◌*◌, ◌%◌, Bool, cond, ◌&&◌, List, [], ◌∷◌, eqb, length, take, drop}
use Rattle.sequence.specs.declared.Number.{Number}
use Rattle.sequence.specs.Figures.{odd_count, even_count, most_digits}
use Rattle.sequence.specs.Symbols.{within, all_at_most}

-- 1 to 16 digits in sixteen places, each 0 to 9, "and the writer wants [the unused] 0"
unfoldable pub number_ok : Number → Bool
number_ok n =
    within 1 most_digits n.count
    && (eqb (length n.digits) most_digits
    && (all_at_most 9 n.digits && all_at_most 0 (drop n.count n.digits)))

-- "105 if the number has an odd count of digits, 106 if even"
unfoldable pub parity : ℕ → ℕ
parity count = cond (eqb (count % 2) 1) odd_count even_count

-- the digits that are used, an odd count of them with a 0 before it
unfoldable pub evened : Number → List ℕ
evened n = cond (eqb (n.count % 2) 1) (0 ∷ take n.count n.digits) (take n.count n.digits)

-- digits two by two
abbrev pub pairs_of : List ℕ → List ℕ
pairs_of [] = []
pairs_of (a ∷ []) = []
pairs_of (a ∷ b ∷ l) = (a * 10 + b) ∷ pairs_of l
