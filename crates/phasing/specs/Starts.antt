-- The search for the best start.
use Rattle.std.specs.Prelude.{ℕ, ◌+◌, ◌<◌, ◌≡◌, cond, Option as Optional, Some, None, List, ltb}
use Rattle.transmission.specs.declared.Start.{Start}
use Rattle.transmission.specs.Phasing.{characters_of, heard, found_start}
use Rattle.transmission.proofs.PhasingLaws.{HasRx}
use Rattle.transmission.proofs.BestLaws.{Best}

-- "the one with the most phasing characters counts, of equals the earliest", in whichever order the two were found
abbrev pub better_of : Start → Start → Start
better_of one other =
    cond (ltb one.phasing other.phasing) other
    (cond (ltb other.phasing one.phasing) one (cond (ltb other.place one.place) other one))

-- of a start that may have been found, and of another
abbrev pub better_found : Optional Start → Optional Start → Optional Start
better_found one None = one
better_found None (Some other) = Some other
better_found (Some one) (Some other) = Some (better_of one other)

-- the start found, and where none was, one with no phasing
abbrev pub start_of : Optional Start → Start
start_of (Some s) = s
start_of None = record { place = 0; phasing = 0 }

-- the best of the starts that have an RX character before a place of what was heard, itself one of these
abbrev pub BestBefore : List ℕ → ℕ → Optional Start → Type 0
BestBefore bytes place best =
    Best (heard (characters_of bytes)) (HasRx (heard (characters_of bytes)) place) (start_of best)
    × ((start_of best).place + 1 < place)
    × (found_start (start_of best) ≡ best)
