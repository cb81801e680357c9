use Prim.Native.Nat.{◌+◌}
use Rattle.transmission.specs.Phasing.{most_lost}
use Rattle.phasing.specs.Starts.{BestBefore}
use Rattle.phasing.proofs.best_start.Given as goal

abbrev pub invariant-loop-i : goal.invariant-loop-i
invariant-loop-i l = BestBefore l.characters (most_lost + l.i) l.best
