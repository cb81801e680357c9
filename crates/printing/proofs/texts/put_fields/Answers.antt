use mathlib.Core.Path.{refl}
use native.Mathlib.Omega.{arith}
use lib.ListN.{take, get_or}
use lib.Seq.{length-take-le}
use Rattle.printing.specs.Texts.{numbers_text}
use Rattle.printing.proofs.PutLaws.{then, nothing, number_more, numbers-length, decimal-length}
use Rattle.printing.proofs.texts.put_fields.Goals as goal

pub loop-number-init : goal.loop-number-init
unfolding numbers_text
loop-number-init c = (nothing _ _, refl)

pub put_field-next-requires : goal.put_field-next-requires
put_field-next-requires c = let s = c.args.numbers.now in
    let l = c.loop-number in
    omega (arith, l.invariant.0.behind, l.invariant.1, numbers-length (take l.number-index s), length-take-le l.number-index s (omega arith))

pub loop-number-preserved : goal.loop-number-preserved
loop-number-preserved c = let s = c.args.numbers.now in
    let l = c.loop-number in
    let w = length-take-le l.number-index s (omega arith) in
    (rw (number_more s l.number-index (omega arith)) (then (omega (arith, numbers-length (take l.number-index s), decimal-length (get_or s l.number-index 0))) l.invariant.0 c.put_field-next.ensures), omega (arith, l.invariant.1))
