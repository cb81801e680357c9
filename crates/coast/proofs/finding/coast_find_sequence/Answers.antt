use Rattle.coast.proofs.FindLaws.{found-fits}
use Rattle.coast.proofs.finding.coast_find_sequence.Goals as goal

pub in_one_number-requires : goal.in_one_number-requires
in_one_number-requires c =
    found-fits c.args.first.now c.args.second.now c.in-Some.found (rw (← c.in_reach.ensures, ← c.in_reach-2.ensures) c.in-Some.ensures)
