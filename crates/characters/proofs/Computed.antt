-- The characters worked out by hand: computed.
use mathlib.Core.Path.{◌≡◌, refl}
use mathlib.Core.List.{map}
use lib.Count.{ones, ones_in}
use Rattle.characters.specs.Code.{zeros, ten_units, character_of, symbol_of}
use Rattle.characters.specs.Cases.{cases}

pub characters-computed : map (λ c. c.computed) cases ≡ map (λ c. c.expected) cases
unfolding zeros ten_units character_of symbol_of ones ones_in
characters-computed = refl
