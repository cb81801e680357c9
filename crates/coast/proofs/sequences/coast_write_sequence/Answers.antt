use native.Mathlib.Omega.{arith}
use Rattle.coast.proofs.WriteLaws.{written-le}
use Rattle.coast.proofs.sequences.coast_write_sequence.Goals as goal

pub overflow_cast-result : goal.overflow_cast-result
overflow_cast-result c = omega (arith, written-le _ _ c.in-Ok.count c.in-Ok.ensures.value)

pub overflow_mul-result : goal.overflow_mul-result
overflow_mul-result c = omega (arith, written-le _ _ c.in-Ok.count c.in-Ok.ensures.value)
