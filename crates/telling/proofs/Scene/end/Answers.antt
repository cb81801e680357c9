use Rattle.rules.specs.Rules.Words.{release_line}
use Rattle.rules.specs.Rules.Actions.{does}
use Rattle.actions.specs.Sent.{sent_payload, sent_on}
use Rattle.telling.specs.Tells.{scene_view}
use Rattle.telling.proofs.TellLaws.{tells_more, tells-append}
use Rattle.telling.proofs.Scene.end.Goals as goal

pub returns : goal.returns
unfolding scene_view sent_on sent_payload
returns c =
    tells-append c.args.self.now c.bill.ensures
    (tells_more c.args.self.now (does (release_line c.args.self.now.slot.0)) c.release_line.ensures.result_value c.lay.ensures
    (rw c.lasted_of.ensures at c.sign_off.ensures))
