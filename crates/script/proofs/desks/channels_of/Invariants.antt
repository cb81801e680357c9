use Prim.Native.Nat.{min}
use mathlib.Core.Path.{◌≡◌}
use lib.ListN.{length}
use Rattle.rules.specs.Rules.Bytes.{padded}
use Rattle.requests.specs.Views.{viewed}
use Rattle.station.specs.Step.{channel_number}
use Rattle.script.proofs.desks.channels_of.Given as goal

abbrev pub invariant-loop-i : goal.invariant-loop-i
invariant-loop-i l = (l.i-end ≡ min 16 (length l.numbers)) × (length l.channels ≡ 16) × (l.channels ≡ padded (channel_number 0) 16 (viewed channel_number l.i l.numbers))
