use Rattle.printing.proofs.PutLaws.{one_byte}
use native.Mathlib.Omega.{arith}
use Rattle.printing.proofs.texts.put_byte.Goals as goal

pub returns : goal.returns
returns c = one_byte _ _ _ (omega arith)
