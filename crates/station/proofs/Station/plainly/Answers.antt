use mathlib.Core.Path.{◌≡◌, refl, ◌∙◌}
use lib.ListN.{length}
use Rattle.rules.specs.Rules.Words.{Event}
use Rattle.rules.specs.Rules.Calls.{act}
use Rattle.requests.specs.Views.{request_of}
use Rattle.station.specs.Model.{model_of, config_of}
use Rattle.station.specs.Step.{slot_at}
use Rattle.station.specs.Pieces.{out_at, plain_view}
use Rattle.station.proofs.GateLaws.{passed}
use Rattle.station.proofs.StepLaws.{refused-is, queue-fits, accepted-is}
use Rattle.station.proofs.EventLaws.{plain-acts}
use Rattle.station.proofs.Station.plainly.Goals as goal
use Rattle.station.proofs.Station.plainly.Goals.{After-by_plain-outcome}

abbrev event : After-by_plain-outcome → Event
event b = slot_at b.args.time.0 b.args.slot.0 (plain_view b.args.what) b.args.room.now

decided : (b : After-by_plain-outcome)
    → out_at b.args.self b.args.time b.args.slot (request_of b.in-Ok.the_slot.request) b.by_plain-outcome.result
    ≡ act (config_of b.args.self) (model_of b.args.self) (event b)
decided b =
    let x = b.args in
    plain-acts x.self x.time (length x.room.now) x.slot _ b.in-Ok.ensures.1 _ (passed x.self (event b) b.in-Ok.ensures.0).time _ x.what b.by_plain-outcome.ensures

pub invariant_of-enact : goal.invariant_of-enact
invariant_of-enact c = let x = c.args in record { within = (passed x.self (slot_at x.time.0 x.slot.0 (plain_view x.what) x.room.now) c.in-Ok.ensures.0).time }

pub enact-told-requires : goal.enact-told-requires
enact-told-requires c = let b = (goal.at.enact-told-requires c).After-by_plain-outcome in
    let x = c.args in
    queue-fits x.self x.room.now (event b) refl c.in-Ok.ensures.0 _ (decided b)

pub returns-in-Err : goal.returns-in-Err
returns-in-Err c = let x = c.args in
    let r = refused-is _ _ c.looked-look.ensures _ (slot_at x.time.0 x.slot.0 (plain_view x.what) x.room.now) _ c.in-Err.ensures in
    record { value = c.refused.ensures ∙ r.0; room_written = r.1 }

pub returns-in-Ok : goal.returns-in-Ok
returns-in-Ok c = let b = (goal.at.returns-in-Ok c).After-by_plain-outcome in
    let x = c.args in
    let e = c.enact-told.ensures in
    let p = accepted-is x.self x.room.now (event b) refl c.in-Ok.ensures.0 _ (decided b) in
    record { value = c.beside.ensures ∙ (e.value ∙ p.0); room_written = e.room_written ∙ p.1 }
