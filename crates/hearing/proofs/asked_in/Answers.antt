use Rattle.hearing.specs.Said.{asked_in}
use Rattle.hearing.proofs.asked_in.Goals as goal

pub returns : goal.returns
unfolding asked_in
returns c = rw c.mode_in.ensures
