use Rattle.requests.specs.Images.{tidy_request}
use Rattle.slots.specs.Images.{tidy_waiting, waiting_image}
use Rattle.slots.proofs.laying.tidy_waiting.Goals as goal

pub returns : goal.returns
unfolding tidy_waiting waiting_image tidy_request
returns c = rw c.tidy_request.ensures
