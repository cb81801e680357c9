use mathlib.Core.Path.{◌≡◌, refl, ap, ◌∙◌}
use Rattle.rules.specs.Rules.Words.{on_channel70, Event}
use Rattle.rules.specs.Rules.Station.{set_clock}
use Rattle.rules.specs.Rules.Calls.{heard_on70, act_at, act}
use Rattle.requests.specs.Views.{request_of}
use Rattle.station.specs.Model.{model_of, config_of}
use Rattle.station.specs.Step.{event_at}
use Rattle.station.specs.Pieces.{whole_at}
use Rattle.station.proofs.GateLaws.{passed}
use Rattle.station.proofs.StepLaws.{refused-is, queue-fits, accepted-is}
use Rattle.station.proofs.EventLaws.{heard-is}
use Rattle.station.proofs.Station.heard_on_channel_70.Goals as goal
use Rattle.station.proofs.Station.heard_on_channel_70.Goals.{After-choice-choice}

abbrev event : After-choice-choice → Event
event c = event_at c.args.time.0 (on_channel70 c.args.symbols.now) c.args.room.now

decided : (c : After-choice-choice)
    → whole_at c.args.self c.args.time c.choice-choice.result.slot (request_of c.in-Ok.heard.request) c.choice-choice.result.outcome
    ≡ act (config_of c.args.self) (model_of c.args.self) (event c)
unfolding act_at
decided c =
    let x = c.args in
    c.choice-choice.ensures ∙ ap (heard_on70 (set_clock x.time.0 (model_of x.self))) (heard-is x.self x.symbols.now _ c.in-Ok.ensures.1.1)

pub invariant_of-now : goal.invariant_of-now
invariant_of-now c = let x = c.args in record { within = (passed x.self (event_at x.time.0 (on_channel70 x.symbols.now) x.room.now) c.in-Ok.ensures.0).time }

pub enact_whole-told-requires : goal.enact_whole-told-requires
enact_whole-told-requires c = let x = c.args in
    let b = (goal.at.enact_whole-told-requires c).After-choice-choice in
    let a = c.in-Ok.ensures.0 in
    record { self_value = (passed x.self (event b) a).sounds; request_len_bound = queue-fits x.self x.room.now (event b) refl a _ (decided b) }

pub returns-in-Err : goal.returns-in-Err
returns-in-Err c = let x = c.args in
    let r = refused-is _ _ c.looked-look.ensures _ (event_at x.time.0 (on_channel70 x.symbols.now) x.room.now) _ c.in-Err.ensures in
    record { value = c.refused.ensures ∙ r.0; room_written = r.1 }

pub returns-in-Ok : goal.returns-in-Ok
returns-in-Ok c = let x = c.args in
    let b = (goal.at.returns-in-Ok c).After-choice-choice in
    let p = accepted-is x.self x.room.now (event b) refl c.in-Ok.ensures.0 _ (decided b) in
    record { value = c.beside.ensures ∙ (c.enact_whole-told.ensures.value ∙ p.0); room_written = c.enact_whole-told.ensures.room_written ∙ p.1 }
