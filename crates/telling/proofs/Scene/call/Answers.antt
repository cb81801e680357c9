use Rattle.requests.specs.Views.{request_of}
use Rattle.actions.specs.Sent.{sent_payload, sent_on}
use Rattle.telling.proofs.Scene.call.Goals as goal

pub returns : goal.returns
unfolding sent_on sent_payload request_of
returns c = c.call_ship.ensures.result_value
