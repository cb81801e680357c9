use mathlib.Core.Path.{sym}
use native.Mathlib.Omega.{arith}
use Rattle.transmission.proofs.PhasingLaws.{no-rx, one-rx, two-rx, three-rx}
use Rattle.phasing.proofs.is_phasing.Goals as goal

pub returns-in-0 : goal.returns-in-0
returns-in-0 c = rw c.in-0.is (sym (no-rx _))

pub returns-in-1 : goal.returns-in-1
returns-in-1 c = rw c.in-1.is (sym (one-rx _))

pub returns-in-2 : goal.returns-in-2
returns-in-2 c = rw c.in-2.is (sym (two-rx _))

pub returns-in_default : goal.returns-in_default
returns-in_default c = sym (three-rx _ _ (omega arith))
