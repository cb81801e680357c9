use Rattle.rules.specs.Rules.Places.{distinct}
use lib.Dec.{eqb}
use lib.ListN.{drop}
use mathlib.Core.Path.{◌≡◌}
use Rattle.distinct.proofs.all_apart.Given as goal

abbrev pub invariant-loop-i : goal.invariant-loop-i
invariant-loop-i l = distinct eqb l.numbers ≡ distinct eqb (drop l.i l.numbers)
