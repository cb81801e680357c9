use mathlib.Core.Path.{◌≡◌}
use Rattle.receivers.specs.Finding.{length_at}
use Rattle.receivers.proofs.LengthLaws.{length_from}
use Rattle.receivers.proofs.length_at.Given as goal

abbrev pub invariant-loop-count : goal.invariant-loop-count
invariant-loop-count l = length_from l.count l.bytes ≡ length_at l.bytes
