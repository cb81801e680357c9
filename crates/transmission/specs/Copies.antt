-- The symbols of a transmission that starts at a place of what was heard.
use Rattle.std.specs.Prelude.{ℕ, zero, suc, ◌+◌, ◌*◌, Bool, cond, List, [], ◌∷◌, ltb, eqb, length, take, drop}
use Rattle.characters.specs.Rows.{in_row}
use Rattle.characters.specs.Code.{none}
use Rattle.sequence.specs.Figures.{longest}
use Rattle.sequence.specs.Layout.{end_ok}
use Rattle.transmission.specs.Phasing.{heard_at}

-- "each symbol sent again after four other characters"; the format stands "in its four places in the order sent"
abbrev pub copies_of : ℕ → ℕ → List ℕ
copies_of start zero = (start + 12) ∷ (start + 14) ∷ (start + 17) ∷ (start + 19) ∷ []
copies_of start (suc k) = (start + 14 + 2 * suc k) ∷ (start + 19 + 2 * suc k) ∷ []

-- "the repeat used where the first copy is none"
abbrev pub first_good : List ℕ → List ℕ → ℕ
first_good t [] = none
first_good t (place ∷ places) = cond (eqb (heard_at t place) none) (first_good t places) (heard_at t place)

unfoldable pub symbol_at : List ℕ → ℕ → ℕ → ℕ
symbol_at t start k = first_good t (copies_of start k)

unfoldable pub symbols_from : List ℕ → ℕ → List ℕ
symbols_from t start = in_row (symbol_at t start) 0 longest

-- the count of symbols before the first 117, 122 or 127
abbrev pub before_end : List ℕ → ℕ
before_end [] = 0
before_end (s ∷ l) = cond (end_ok s) 0 (suc (before_end l))

-- "ends with the symbol after the first 117, 122 or 127 at a place from 19 on, and at place 27 at the latest"
unfoldable pub count_of : List ℕ → ℕ
count_of s = 21 + before_end (take 7 (drop 19 s))

-- all copies of a symbol lie within what was handed in
unfoldable pub copies_there : List ℕ → ℕ → ℕ → Bool
copies_there t start k = ltb (start + 19 + 2 * k) (length t)
