use mathlib.Core.Path.{refl}
use Rattle.lent_layout.specs.Layout.{request_fields, slot_fields}
use Rattle.lent_layout.proofs.records.SlotRecord.SIZE.Goals as goal

pub returns : goal.returns
unfolding slot_fields request_fields
returns c = refl
