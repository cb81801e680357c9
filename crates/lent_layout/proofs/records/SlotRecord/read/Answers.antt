use Rattle.lent_layout.specs.Layout.{request_fields, slot_fields}
use Rattle.lent_layout.specs.Numbers.{slot_from}
use Rattle.layouts.proofs.RecordLaws.{decode-further}
use Rattle.lent_layout.proofs.records.SlotRecord.read.Goals as goal

pub returns : goal.returns
unfolding slot_from slot_fields
returns c = let a = c.args in
    rw (decode-further request_fields a.bytes.now a.place 22 0, c.four_at-2.ensures, c.four_at.ensures, c.request_at.ensures, c.phase_from.ensures, c.phase_at.ensures)
