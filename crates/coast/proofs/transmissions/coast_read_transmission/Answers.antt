use Rattle.coast.proofs.CountLaws.{symbols-few}
use Rattle.coast.proofs.transmissions.coast_read_transmission.Goals as goal

pub in_one_number-requires : goal.in_one_number-requires
in_one_number-requires c = rw c.read_transmission.ensures.value (symbols-few _ _)
