use Rattle.rules.specs.Rules.Station.{set_clock}
use Rattle.rules.specs.Rules.Requests.{standing}
use Rattle.requests.specs.Views.{request_of}
use Rattle.station.specs.Model.{model_of}
use Rattle.station.proofs.Station.stands.Goals as goal

pub returns : goal.returns
unfolding model_of set_clock request_of standing
returns c = λ t. c.standing.ensures
