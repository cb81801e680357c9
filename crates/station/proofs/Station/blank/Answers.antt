use mathlib.Core.Path.{refl}
use Rattle.rules.specs.Rules.Station.{fresh}
use Rattle.rules.specs.Rules.Bytes.{padded}
use Rattle.station.specs.Model.{image_of}
use Rattle.station.specs.Step.{blank_station}
use Rattle.station.proofs.Station.blank.Goals as goal

pub returns : goal.returns
unfolding blank_station image_of fresh padded
returns c = rw (c.blank_waiting.ensures, c.blank_slot.ensures) refl
