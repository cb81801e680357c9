use mathlib.Core.Path.{sym, ◌∙◌}
use Rattle.receivers.proofs.LengthLaws.{from-21, is_later, no-category-there}
use Rattle.receivers.proofs.length_at.Goals as goal

pub returns-then-bytes-ne-CATEGORY : goal.returns-then-bytes-ne-CATEGORY
returns-then-bytes-ne-CATEGORY c = sym (no-category-there _ c.if-bytes-ne-CATEGORY.true)

pub loop-count-init : goal.loop-count-init
loop-count-init c = from-21 _

pub loop-count-preserved : goal.loop-count-preserved
loop-count-preserved c = let l = c.loop-count in
    sym (is_later l.count _ c.loop-count-test.true (sym c.if-begins_with.ensures)) ∙ l.invariant
