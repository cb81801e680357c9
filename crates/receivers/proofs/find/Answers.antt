use Rattle.receivers.specs.Finding.{found_in}
use Rattle.receivers.proofs.find.Goals as goal

pub returns-in-Some : goal.returns-in-Some
unfolding found_in
returns-in-Some c = rw (← c.in-Some.ensures)

pub returns-in_err-stretch : goal.returns-in_err-stretch
unfolding found_in
returns-in_err-stretch c = rw (c.from_residual.ensures, ← c.in_default.ensures, ← c.in_err-stretch.ensures)

pub returns : goal.returns
unfolding found_in
returns c = rw (← c.in_default.ensures, ← c.in_ok-stretch.ensures)
