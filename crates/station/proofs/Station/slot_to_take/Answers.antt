use mathlib.Core.Path.{sym, ◌∙◌}
use Rattle.rules.specs.Rules.Station.{used_up}
use Rattle.station.specs.Model.{model_of}
use Rattle.station.proofs.Station.slot_to_take.Goals as goal

pub returns-then-none_left : goal.returns-then-none_left
unfolding model_of used_up
returns-then-none_left c = rw (sym c.none_left.ensures ∙ c.if-none_left.true)

pub returns-else-none_left : goal.returns-else-none_left
unfolding model_of used_up
returns-else-none_left c = rw (sym c.none_left.ensures ∙ c.if-none_left.false) c.first_free.ensures
