use Rattle.printing.proofs.ReplyLaws.{head-put}
use native.Mathlib.Omega.{arith}
use Rattle.printing.proofs.rows.put_head.Goals as goal

pub returns : goal.returns
returns c = let a = c.args in head-put a.answer a.clock.0 a.count a.due (omega arith) c.put_number-next.ensures c.put_field-next.ensures c.put_field-next-2.ensures c.put_due-next.ensures c.put_byte.ensures
