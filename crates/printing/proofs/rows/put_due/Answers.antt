use native.Mathlib.Omega.{arith}
use Rattle.printing.proofs.PutLaws.{then}
use Rattle.printing.proofs.rows.put_due.Goals as goal

pub returns-in-None : goal.returns-in-None
returns-in-None c = rw c.in-None.is (then (omega arith) c.put_byte-next.ensures c.put_byte.ensures)
