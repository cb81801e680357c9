-- Where a transmission starts in what was handed in.
use Rattle.std.specs.Prelude.{ℕ, zero, suc, ◌+◌, ◌*◌, Bool, cond, ◌&&◌, ◌||◌, Option as Optional, Some, None, List, [], ◌∷◌, ◌++◌, map, leb, eqb, length, get_or, replicate}
use Rattle.characters.specs.Code.{none, symbol_of}
use Rattle.transmission.specs.declared.Start.{Start}
use Rattle.transmission.specs.Layout.{dx_phasing, rx_phasing}

-- two bytes a character, low byte first; a last single byte is half of one, and not there
abbrev pub characters_of : List ℕ → List ℕ
characters_of [] = []
characters_of (low ∷ []) = []
characters_of (low ∷ high ∷ bytes) = (low + 256 * high) ∷ characters_of bytes

-- "up to eleven of its beginning lost"
abbrev pub most_lost : ℕ
most_lost = 11

-- what was handed in as symbols, each good or none, behind eleven that may have been lost: a start is a place of these
unfoldable pub heard : List ℕ → List ℕ
heard characters = replicate most_lost none ++ map symbol_of characters

abbrev pub heard_at : List ℕ → ℕ → ℕ
heard_at t place = get_or t place none

-- how many of the symbols wanted stand in their places, every second one from a place on
abbrev pub in_place : List ℕ → List ℕ → ℕ → ℕ
in_place t [] place = 0
in_place t (symbol ∷ wanted) place = cond (eqb (heard_at t place) symbol) 1 0 + in_place t wanted (place + 2)

unfoldable pub dx_good : List ℕ → ℕ → ℕ
dx_good t start = in_place t dx_phasing start

unfoldable pub rx_good : List ℕ → ℕ → ℕ
rx_good t start = in_place t rx_phasing (start + 1)

-- "two DX and one RX, or one DX and two RX, or three RX, in their places"
unfoldable pub is_phasing : ℕ → ℕ → Bool
is_phasing dx rx = (leb 2 dx && leb 1 rx) || ((leb 1 dx && leb 2 rx) || leb 3 rx)

-- how many phasing characters a start has, 0 where that is no phasing
unfoldable pub phasing_at : List ℕ → ℕ → ℕ
phasing_at t start = cond (is_phasing (dx_good t start) (rx_good t start)) (dx_good t start + rx_good t start) 0

abbrev pub start_at : List ℕ → ℕ → Start
start_at t place = record { place = place; phasing = phasing_at t place }

-- "the one with the most phasing characters counts, of equals the earliest"
abbrev pub better : Start → Start → Start
better earlier later = cond (leb later.phasing earlier.phasing) earlier later

-- the best of the first n places
abbrev pub best_of : List ℕ → ℕ → Start
best_of t zero = record { place = 0; phasing = 0 }
best_of t (suc n) = better (best_of t n) (start_at t n)

unfoldable pub best_start : List ℕ → Start
best_start t = best_of t (length t)

-- a start that has no phasing is none
abbrev pub found_start : Start → Optional Start
found_start s = cond (eqb s.phasing 0) None (Some s)
