use mathlib.Core.Path.{refl}
use Rattle.rules.specs.Rules.Ashore.{engaged}
use Rattle.station.specs.Model.{model_of}
use Rattle.station.proofs.ShoreLaws.{slot-told, place-told}
use Rattle.station.proofs.Station.is_engaged.Goals as goal

pub returns-then-is_some : goal.returns-then-is_some
unfolding engaged model_of
returns-then-is_some c =
    rw (c.if-is_some.true, ← c.kept_for.ensures, ← slot-told c.kept_for.result, ← c.is_some.ensures, c.if-is_some.true) refl

pub returns-else-is_some : goal.returns-else-is_some
unfolding engaged model_of
returns-else-is_some c =
    rw (c.is_some-else-is_some.ensures, ← c.kept_for.ensures, ← c.place_of.ensures, ← slot-told c.kept_for.result, ← place-told c.place_of.result, ← c.is_some.ensures, c.if-is_some.false) refl
