use mathlib.Core.Path.{◌≡◌, sym, ◌∙◌}
use native.Mathlib.Omega.{arith}
use lib.ListN.{length}
use Rattle.lines.proofs.ScanLaws.{digit-within, end-here, stop-here, over-here, more-here}
use Rattle.lines.proofs.fields.digits_from.Goals as goal

pub returns-then-not-is_digit : goal.returns-then-not-is_digit
returns-then-not-is_digit c = let l = c.loop-i in
    record { text_value = sym l.invariant.0 ∙ stop-here l.value c.args.text.now l.i c.loop-i-test.true (sym c.is_digit.ensures ∙ c.if-not-is_digit.true); within = (omega arith, omega arith) }

pub overflow_sub-more : goal.overflow_sub-more
overflow_sub-more c = omega (arith, digit-within _ (sym c.is_digit.ensures ∙ c.if-not-is_digit.false))

pub returns-then-more-gt-LARGEST_NUMBER : goal.returns-then-more-gt-LARGEST_NUMBER
returns-then-more-gt-LARGEST_NUMBER c = let l = c.loop-i in
    record { text_value = sym l.invariant.0 ∙ over-here l.value c.args.text.now l.i c.loop-i-test.true (sym c.is_digit.ensures ∙ c.if-not-is_digit.false) c.if-more-gt-LARGEST_NUMBER.true; within = tt }

pub loop-i-preserved : goal.loop-i-preserved
loop-i-preserved c = let l = c.loop-i in
    (more-here l.value c.args.text.now l.i c.loop-i-test.true (sym c.is_digit.ensures ∙ c.if-not-is_digit.false) c.if-more-gt-LARGEST_NUMBER.false ∙ l.invariant.0, omega arith)

pub returns : goal.returns
returns c = let l = c.loop-i in
    let q : l.i ≡ length c.args.text.now = omega arith in
    record { text_value = sym l.invariant.0 ∙ rw q (end-here l.value c.args.text.now (length c.args.text.now) (omega arith)); within = (omega arith, omega arith) }
