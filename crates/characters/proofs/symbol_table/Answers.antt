use mathlib.Core.Path.{refl}
use lib.Count.{ones, ones_in}
use Rattle.characters.specs.Code.{zeros, ten_units, character_of, symbol_of}
use Rattle.characters.proofs.symbol_table.Goals as goal

-- The table's rule, computed once over all of it: the entries are `symbol_of` at 0 to 1,023.
pub returns : goal.returns
unfolding symbol_of character_of ten_units zeros ones ones_in
returns c = refl
