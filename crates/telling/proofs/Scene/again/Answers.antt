use Rattle.rules.specs.Rules.Words.{carrier_on}
use Rattle.rules.specs.Rules.Actions.{does}
use Rattle.actions.specs.Sent.{sent_payload, sent_on}
use Rattle.telling.specs.Tells.{scene_view}
use Rattle.telling.proofs.TellLaws.{tells_more}
use Rattle.telling.proofs.Scene.again.Goals as goal

pub returns : goal.returns
unfolding scene_view sent_on sent_payload
returns c = tells_more c.args.self.now (does (carrier_on c.args.self.now.slot.0)) c.carrier_on.ensures.result_value c.lay.ensures c.sign_off.ensures
