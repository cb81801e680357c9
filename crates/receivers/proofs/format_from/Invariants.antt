use Prim.Native.Nat.{◌+◌, ◌-◌, ◌≤◌}
use mathlib.Core.Path.{◌≡◌}
use lib.ListN.{length}
use Rattle.receivers.specs.Finding.{found_from}
use Rattle.receivers.proofs.format_from.Given as goal

abbrev pub invariant-loop-place : goal.invariant-loop-place
invariant-loop-place l = (found_from l.place l.bytes ≡ found_from l.from l.bytes) × (l.from ≤ l.place) × (l.end + 3 ≤ length l.bytes)

abbrev pub decreases-loop-place : goal.decreases-loop-place
decreases-loop-place l = l.end - l.place
