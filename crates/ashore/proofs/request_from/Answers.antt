use Rattle.rules.specs.Rules.Ashore.{ashore_request}
use Rattle.requests.specs.Images.{request_image}
use Rattle.ashore.specs.Stored.{request_from}
use Rattle.ashore.proofs.request_from.Goals as goal

pub returns : goal.returns
unfolding request_from ashore_request request_image
returns c = rw (c.mode_from.ensures, c.number_from.ensures)
