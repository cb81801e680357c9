use Rattle.requests.specs.Views.{request_of}
use Rattle.actions.specs.Sent.{sent_payload, sent_on}
use Rattle.telling.specs.Tells.{scene_view}
use Rattle.telling.proofs.TellLaws.{tells_none, tells-one}
use Rattle.telling.proofs.Scene.bill.Goals as goal

pub returns-in-Unanswered : goal.returns-in-Unanswered
returns-in-Unanswered c = rw c.in-Unanswered.is (tells_none _ _)

pub returns-in-Since : goal.returns-in-Since
unfolding scene_view sent_on sent_payload request_of
returns-in-Since c = rw c.in-Since.is (tells-one c.args.self.now _ c.charge.ensures.result_value c.lay.ensures)
