use mathlib.Core.Path.{◌≡◌, refl, ◌∙◌}
use lib.ListN.{length}
use Rattle.rules.specs.Rules.Words.{Event}
use Rattle.rules.specs.Rules.Calls.{act}
use Rattle.rules.proofs.Accepted as rules
use Rattle.requests.specs.Views.{request_of}
use Rattle.outcomes.specs.declared.Outcome.TheVariants.{Calls}
use Rattle.station.specs.Model.{model_of, config_of}
use Rattle.station.specs.Step.{event_at, ashore_of}
use Rattle.station.specs.Pieces.{out_at}
use Rattle.station.proofs.GateLaws.{passed}
use Rattle.station.proofs.ShoreLaws.{shore-acts}
use Rattle.station.proofs.StepLaws.{refused-is, queue-fits, accepted-is}
use Rattle.station.proofs.Station.call_from_ashore.Goals as goal
use Rattle.station.proofs.Station.call_from_ashore.Goals.{After-request_from-request}

abbrev event : After-request_from-request → Event
event b = event_at b.args.time.0 (ashore_of b.args.ship b.args.mode b.args.digits.now) b.args.room.now

decided : (b : After-request_from-request)
    → out_at b.args.self b.args.time b.in-Ok.slot (request_of b.request_from-request.result) Calls
    ≡ act (config_of b.args.self) (model_of b.args.self) (event b)
decided b =
    let x = b.args in
    let p = passed x.self (event b) b.in-Ok.ensures.0 in
    shore-acts x.self x.time (length x.room.now) x.ship x.mode x.digits.now b.in-Ok.slot b.in-Ok.ensures.1 (rules.accepted (config_of x.self) (model_of x.self) (event b) p.judged).number
    _ b.request_from-request.ensures

pub invariant_of-enact : goal.invariant_of-enact
invariant_of-enact c = let x = c.args in record { within = (passed x.self (event_at x.time.0 (ashore_of x.ship x.mode x.digits.now) x.room.now) c.in-Ok.ensures.0).time }

pub enact-told-requires : goal.enact-told-requires
enact-told-requires c = let b = (goal.at.enact-told-requires c).After-request_from-request in
    let x = c.args in
    queue-fits x.self x.room.now (event b) refl c.in-Ok.ensures.0 _ (decided b)

pub returns-in-Err : goal.returns-in-Err
returns-in-Err c = let x = c.args in
    let r = refused-is _ _ c.looked-look.ensures _ (event_at x.time.0 (ashore_of x.ship x.mode x.digits.now) x.room.now) _ c.in-Err.ensures in
    record { value = c.refused.ensures ∙ r.0; room_written = r.1 }

pub returns-in-Ok : goal.returns-in-Ok
returns-in-Ok c = let b = (goal.at.returns-in-Ok c).After-request_from-request in
    let x = c.args in
    let e = c.enact-told.ensures in
    let p = accepted-is x.self x.room.now (event b) refl c.in-Ok.ensures.0 _ (decided b) in
    record { value = c.beside.ensures ∙ (e.value ∙ p.0); room_written = e.room_written ∙ p.1 }
