use Rattle.rules.specs.Rules.Station.{next_due}
use Rattle.station.proofs.Station.next_due.Goals as goal

pub returns : goal.returns
unfolding next_due
returns c = rw (c.due_time.ensures, c.looked.ensures.first)
