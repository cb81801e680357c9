use Rattle.slots.proofs.ViewLaws.{mode-back}
use Rattle.requests.proofs.ArrayLaws.{viewed-length}
use Rattle.requests.specs.Views.{request_of, digits_of, itself}
use Rattle.requests.specs.Images.{request_image, tidy_request}
use lib.ListN.{length}
use mathlib.Core.Path.{◌≡◌}
use borrow.Author.Rules.{rules}
use Rattle.slots.proofs.laying.tidy_request.Goals as goal

pub returns : goal.returns
unfolding tidy_request request_image request_of digits_of
returns c = let q = c.args.request in
    let wide : length q.number.digits ≡ 16 = search rules in
    rw (c.cleared.ensures, c.min.ensures, mode-back q.mode, viewed-length itself q.number.count q.number.digits, wide)
