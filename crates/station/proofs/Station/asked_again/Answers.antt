use mathlib.Core.Path.{refl, ap, ◌∙◌}
use Rattle.rules.specs.Rules.Station as R
use Rattle.rules.specs.Rules.Station.{set_clock, none_left, used_up}
use Rattle.rules.specs.Rules.Requests.{same, b_or_c, requested}
use Rattle.requests.specs.Views.{request_of}
use Rattle.deciding.proofs.RuleLaws.{asked-again-is}
use Rattle.slots.specs.Views.{dealing_of}
use Rattle.station.specs.Model.{model_of}
use Rattle.station.specs.Pieces.{slot_of, own_of, whole_at}
use Rattle.station.proofs.PlaceLaws.{slot-view}
use Rattle.station.proofs.Station.asked_again.Goals as goal

pub returns : goal.returns
unfolding whole_at own_of requested set_clock used_up model_of request_of
returns c = let x = c.args in
    let i = x.slot.0 in
    let y = slot_of x.self.now i in
    let st : R.Station = set_clock x.time.0 (model_of x.self.now) in
    rw (c.asked_again.ensures, c.none_left-spent.ensures, c.same_request-same.ensures, c.slot_there-the_slot.ensures)
    (asked-again-is i st (dealing_of y) (request_of x.request) y.request.mode refl (same (request_of x.request) (request_of y.request)) (none_left x.self.now.last.0) refl refl y.phase
    ∙ ap (λ z. b_or_c i z st (request_of x.request)) (slot-view x.self.now i))
