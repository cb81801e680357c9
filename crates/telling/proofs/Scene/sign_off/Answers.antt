use Rattle.rules.specs.Rules.Words.{carrier_off}
use Rattle.rules.specs.Rules.Actions.{does, over}
use Rattle.requests.specs.Views.{request_of}
use Rattle.actions.specs.Sent.{ender_of, sent_payload, sent_on}
use Rattle.telling.specs.Tells.{scene_view}
use Rattle.telling.proofs.TellLaws.{tells-one, tells_more}
use Rattle.telling.proofs.Scene.sign_off.Goals as goal

pub returns : goal.returns
unfolding scene_view sent_on sent_payload request_of
returns c = let a = c.args in
    let q = request_of a.self.now.own in
    tells_more a.self.now (over a.self.now.slot.0 (ender_of a.by) q.who q.number a.lasted) c.over.ensures.result_value c.lay.ensures
    (tells-one a.self.now (does (carrier_off a.self.now.slot.0)) c.carrier_off.ensures.result_value c.lay-2.ensures)
