use mathlib.Core.Logic.{inl, inr}
use mathlib.Core.Path.{refl, ap, ◌∙◌}
use Rattle.rules.specs.Rules.Station as R
use Rattle.rules.specs.Rules.Station.{set_clock}
use Rattle.rules.specs.Rules.Calls.{declined_on, declined_at, heard_on70}
use Rattle.requests.specs.Views.{request_of}
use Rattle.outcomes.specs.Does.{out_of, whole_of}
use Rattle.deciding.proofs.RuleLaws.{declined-is}
use Rattle.slots.specs.Views.{dealing_of}
use Rattle.station.specs.Model.{model_of}
use Rattle.station.specs.Pieces.{slot_of, own_of, whole_at}
use Rattle.station.proofs.AskLaws.{ends_there, declined-ends}
use Rattle.station.proofs.PlaceLaws.{slot-view}
use Rattle.station.proofs.Station.declined.Goals as goal

pub returns-in-Nowhere : goal.returns-in-Nowhere
unfolding heard_on70 declined_at whole_at whole_of out_of
returns-in-Nowhere c =
    elim c.in-Nowhere.is [
      | inl e ↦ let h = rw e at (c.stands.ensures c.args.time.0) in rw (c.of_none.ensures, ← h) refl
      | inr (k, e) ↦ let h = rw e at (c.stands.ensures c.args.time.0) in rw (c.of_none.ensures, ← h) refl
    ]

pub returns-in-Holds : goal.returns-in-Holds
unfolding heard_on70 declined_at whole_at own_of set_clock
returns-in-Holds c = let x = c.args in
    let i = c.in-Holds.slot.0 in
    let y = slot_of x.self.now i in
    let st : R.Station = set_clock x.time.0 (model_of x.self.now) in
    let q = request_of x.request in
    let h = rw c.in-Holds.is at (c.stands.ensures x.time.0) in
    rw (c.declined.ensures, c.slot_there.ensures)
    (ends_there i _ q _ st (declined-ends y.phase)
    ∙ declined-is i st (dealing_of y) q y.phase
    ∙ ap (declined_on i st) (slot-view x.self.now i)
    ∙ ap (declined_at st) h)
