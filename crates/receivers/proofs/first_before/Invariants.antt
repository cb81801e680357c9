use Prim.Native.Nat.{◌+◌, ◌-◌}
use mathlib.Core.Path.{◌≡◌}
use lib.ListN.{length}
use Rattle.receivers.specs.Finding.{found_from, first_in}
use Rattle.receivers.proofs.first_before.Given as goal

abbrev pub invariant-loop-place : goal.invariant-loop-place
invariant-loop-place l = (found_from l.place l.bytes ≡ first_in l.bytes) × (length l.bytes + 1 ≡ l.end + 21)

abbrev pub decreases-loop-place : goal.decreases-loop-place
decreases-loop-place l = l.end - l.place
