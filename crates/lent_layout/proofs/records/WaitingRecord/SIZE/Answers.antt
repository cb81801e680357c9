use mathlib.Core.Path.{refl}
use Rattle.lent_layout.specs.Layout.{request_fields, waiting_fields}
use Rattle.lent_layout.proofs.records.WaitingRecord.SIZE.Goals as goal

pub returns : goal.returns
unfolding waiting_fields request_fields
returns c = refl
