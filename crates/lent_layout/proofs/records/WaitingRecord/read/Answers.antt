use native.Mathlib.Nat.{add-zero}
use Rattle.lent_layout.specs.Layout.{request_fields, waiting_fields}
use Rattle.lent_layout.specs.Numbers.{waiting_from}
use Rattle.layouts.proofs.RecordLaws.{decode-further}
use Rattle.lent_layout.proofs.records.WaitingRecord.read.Goals as goal

pub returns : goal.returns
unfolding waiting_from waiting_fields
returns c = rw (decode-further request_fields c.args.bytes.now c.args.place 4 0, add-zero c.args.place, c.four_at.ensures, c.request_at.ensures)
