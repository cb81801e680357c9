use mathlib.Core.Path.{◌≡◌}
use lib.Seq.{paste}
use Rattle.transmission.specs.Phasing.{characters_of, heard}
use Rattle.transmission.specs.Copies.{symbols_from}
use Rattle.receiving.proofs.copies.read_symbols.Given as goal

abbrev pub invariant-loop-k : goal.invariant-loop-k
invariant-loop-k l = l.symbols ≡ paste l.initial.symbols 0 (symbols_from (heard (characters_of l.characters)) l.start) l.k
