use mathlib.Core.Path.{◌≡◌}
use Rattle.transmission.specs.Copies.{count_of}
use Rattle.transmission.proofs.SymbolLaws.{ends_from}
use Rattle.receiving.proofs.copies.count_of.Given as goal

abbrev pub invariant-loop-place : goal.invariant-loop-place
invariant-loop-place l = ends_from l.symbols l.place ≡ count_of l.symbols
