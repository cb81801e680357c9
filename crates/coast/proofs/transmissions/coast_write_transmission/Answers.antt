use Rattle.coast.proofs.CountLaws.{characters-few}
use Rattle.coast.proofs.transmissions.coast_write_transmission.Goals as goal

pub in_one_number-requires : goal.in_one_number-requires
in_one_number-requires c = rw c.write_transmission.ensures.value (characters-few _ _)
