use mathlib.Core.Path.{◌≡◌}
use Rattle.rules.specs.Rules.Bytes.{padded}
use Rattle.requests.specs.Views.{viewed}
use Rattle.slots.specs.Images.{free_on, blank_slot}
use Rattle.station.proofs.setting.listed.Given as goal

abbrev pub invariant-loop-i : goal.invariant-loop-i
invariant-loop-i l = l.slots ≡ padded blank_slot 16 (viewed free_on l.i l.channels)
