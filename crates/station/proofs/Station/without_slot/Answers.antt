use mathlib.Core.Path.{ap, ◌∙◌}
use Rattle.rules.specs.Rules.Station.{set_clock}
use Rattle.rules.specs.Rules.Requests.{d_to_g}
use Rattle.requests.specs.Views.{request_of}
use Rattle.outcomes.specs.Does.{without_slot}
use Rattle.station.specs.Model.{model_of}
use Rattle.station.proofs.Station.without_slot.Goals as goal

pub returns : goal.returns
unfolding model_of set_clock request_of without_slot
returns c = let x = c.args in
    let q = request_of x.request in
    λ t own. c.d_to_g.ensures.by_index t own q ∙ ap (d_to_g (set_clock t (model_of x.self.now)) q) c.place_of-place.ensures
