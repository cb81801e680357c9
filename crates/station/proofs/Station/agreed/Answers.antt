use mathlib.Core.Path.{refl, ap, ◌∙◌}
use Rattle.rules.specs.Rules.Words.{is}
use Rattle.rules.specs.Rules.Station as R
use Rattle.rules.specs.Rules.Station.{set_clock}
use Rattle.rules.specs.Rules.Calls.{bq_for}
use Rattle.requests.specs.Views.{request_of}
use Rattle.deciding.proofs.RuleLaws.{bq-is}
use Rattle.slots.specs.Views.{dealing_of}
use Rattle.station.specs.Model.{model_of}
use Rattle.station.specs.Pieces.{slot_of, own_of, whole_at}
use Rattle.station.proofs.AskLaws.{ends_there, bq-ends}
use Rattle.station.proofs.PlaceLaws.{slot-view}
use Rattle.station.proofs.Station.agreed.Goals as goal

pub returns : goal.returns
unfolding whole_at own_of set_clock request_of
returns c = let x = c.args in
    let i = x.slot.0 in
    let y = slot_of x.self.now i in
    let r = dealing_of y in
    let q = request_of x.request in
    let st : R.Station = set_clock x.now.time.0 (model_of x.self.now) in
    rw (c.bq.ensures, c.is_by-own.ensures, c.slot_there-the_slot.ensures)
    (ends_there i r q _ st (bq-ends (is q.who r.request.who) x.now.time y.phase)
    ∙ bq-is i st r q q.who (is q.who r.request.who) refl x.now.within y.phase
    ∙ ap (bq_for i q.who st) (slot-view x.self.now i))
