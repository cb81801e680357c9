use Rattle.rules.specs.Rules.Words.{carrier_on, call_ship}
use Rattle.rules.specs.Rules.Actions.{does}
use Rattle.requests.specs.Views.{request_of}
use Rattle.actions.specs.Sent.{sent_payload, sent_on}
use Rattle.telling.specs.Tells.{scene_view}
use Rattle.telling.proofs.TellLaws.{tells_none, tells-one, tells_more, oldest-acts}
use Rattle.telling.proofs.Scene.free.Goals as goal

pub returns-then-ringable-ne0 : goal.returns-then-ringable-ne0
unfolding scene_view sent_on sent_payload request_of
returns-then-ringable-ne0 c = let s = c.args.self.now in
    rw (oldest-acts s.slot.0 (request_of s.oldest) s.ringable c.if-ringable-ne0.true)
    (tells_more s (does (carrier_on s.slot.0)) c.carrier_on.ensures.result_value c.lay.ensures
    (tells-one s (does (call_ship s.slot.0 (request_of s.oldest))) c.call.ensures c.lay-then-ringable-ne0.ensures))

pub returns-else-ringable-ne0 : goal.returns-else-ringable-ne0
unfolding scene_view
returns-else-ringable-ne0 c = rw c.if-ringable-ne0.false (tells_none _ _)
