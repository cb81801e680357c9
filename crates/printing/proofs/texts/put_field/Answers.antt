use Rattle.printing.proofs.PutLaws.{then, decimal-length}
use native.Mathlib.Omega.{arith}
use Rattle.printing.proofs.texts.put_field.Goals as goal

pub returns : goal.returns
returns c = then (omega (arith, decimal-length c.args.number)) c.put_byte-next.ensures c.put_number.ensures
