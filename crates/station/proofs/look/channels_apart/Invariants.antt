use mathlib.Core.Path.{◌≡◌}
use Rattle.rules.specs.Rules.Bytes.{padded}
use Rattle.requests.specs.Views.{viewed}
use Rattle.soundness.specs.Soundly.{number_of}
use Rattle.station.proofs.look.channels_apart.Given as goal

abbrev pub invariant-loop-i : goal.invariant-loop-i
invariant-loop-i l = l.channels ≡ padded 0 16 (viewed number_of l.i l.slots)
