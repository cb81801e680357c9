use mathlib.Core.Path.{ap, ◌∙◌}
use Rattle.rules.specs.Rules.Station as R
use Rattle.rules.specs.Rules.Station.{set_clock}
use Rattle.rules.specs.Rules.Requests.{requested}
use Rattle.requests.specs.Views.{request_of}
use Rattle.station.specs.Model.{model_of}
use Rattle.station.specs.Pieces.{whole_at}
use Rattle.station.proofs.AskLaws.{ends_there}
use Rattle.station.proofs.Station.asked.Goals as goal

pub returns-in-Nowhere : goal.returns-in-Nowhere
unfolding requested whole_at
returns-in-Nowhere c = let x = c.args in
    let st : R.Station = set_clock x.time.0 (model_of x.self.now) in
    let h = rw c.in-Nowhere.is at (c.stands.ensures x.time.0) in
    ends_there _ _ _ _ st c.d_to_g.ensures.outcome_value ∙ c.d_to_g.ensures.by_index x.time.0 _ _ ∙ ap (requested st (request_of x.request)) h

pub returns-in-Holds : goal.returns-in-Holds
returns-in-Holds c = let x = c.args in
    let st : R.Station = set_clock x.time.0 (model_of x.self.now) in
    let h = rw c.in-Holds.is at (c.stands.ensures x.time.0) in
    c.asked_again.ensures ∙ ap (requested st (request_of x.request)) h

pub returns-in-Waits : goal.returns-in-Waits
unfolding requested whole_at
returns-in-Waits c = let x = c.args in
    let st : R.Station = set_clock x.time.0 (model_of x.self.now) in
    let h = rw c.in-Waits.is at (c.stands.ensures x.time.0) in
    ends_there _ _ _ _ st c.d_to_g-in-Waits.ensures.outcome_value ∙ c.d_to_g-in-Waits.ensures.by_index x.time.0 _ _ ∙ ap (requested st (request_of x.request)) h
