use mathlib.Core.Path.{sym, ◌∙◌, ap}
use native.Mathlib.Omega.{arith}
use Rattle.rules.specs.Rules.Bytes.{padded}
use Rattle.lines.specs.Readable.{numbers_image}
use Rattle.lines.proofs.ScanLaws.{no-space, space-here}
use Rattle.lines.proofs.NumberLaws.{nothing, none_yet, got-more, got-all}
use Rattle.lines.proofs.fields.numbers_in.Goals as goal

pub loop-i-init : goal.loop-i-init
unfolding padded
loop-i-init c = none_yet _

pub returns-then-text-i-ne32 : goal.returns-then-text-i-ne32
returns-then-text-i-ne32 c = let e = nothing c.args.text.now c.loop-i.invariant (no-space c.args.text.now _ c.loop-i-test.true c.if-text-i-ne32.true) in
    record { value = ap numbers_image (sym e); count_bound = tt }

pub returns-in_err-value : goal.returns-in_err-value
returns-in_err-value c = let s = c.args.text.now in
    let e = nothing s c.loop-i.invariant (space-here s _ c.loop-i-test.true c.if-text-i-ne32.false ∙ c.in_err-value.ensures.text_value) in
    rw c.from_residual.ensures (record { value = ap numbers_image (sym e); count_bound = tt })

pub loop-i-preserved : goal.loop-i-preserved
loop-i-preserved c = let s = c.args.text.now in
    let w = c.in_ok-value.ensures.within in
    got-more s c.loop-i.invariant _ _ (omega arith) (omega (arith, w)) (omega (arith, w)) (space-here s _ c.loop-i-test.true c.if-text-i-ne32.false ∙ c.in_ok-value.ensures.text_value)

pub returns : goal.returns
returns c = let g = c.loop-i.invariant in record { value = got-all c.args.text.now g c.loop-i-test.false; count_bound = omega (arith, g.few, g.place) }
