use Rattle.std.proofs.lemmas.List.{take_min}
use Rattle.coast.specs.Finding.{reach, in_reach}
use Rattle.coast.proofs.finding.in_reach.Goals as goal

pub returns : goal.returns
unfolding in_reach reach
returns c = rw c.min.ensures (take_min 281474976710656 c.args.bytes.now)
