use Prim.Native.Nat.{◌+◌, ◌≤◌}
use mathlib.Core.List.{◌++◌}
use lib.ListN.{length}
use Rattle.requests.specs.Views.{viewed, itself}
use Rattle.soundness.specs.Soundly.{ships_of, ship_at}
use Rattle.soundness.proofs.GatherLaws.{Filled}
use Rattle.station.proofs.look.ships_apart.Given as goal

abbrev pub invariant-loop-slot : goal.invariant-loop-slot
invariant-loop-slot l = record {
  few : l.count ≤ l.slot-index;
  filled : Filled (ships_of (viewed itself l.slot-index l.slots)) l.ships l.count;
}

abbrev pub invariant-loop-entry : goal.invariant-loop-entry
invariant-loop-entry l = record {
  few : l.count ≤ 16 + l.entry-index;
  filled : Filled (ships_of (viewed itself (length l.slots) l.slots) ++ viewed ship_at l.entry-index l.queue) l.ships l.count;
}
