use mathlib.Core.Path.{sym, ◌∙◌}
use native.Mathlib.Omega.{arith}
use Rattle.receivers.proofs.FirstLaws.{to-the-format, all-four}
use Rattle.receivers.proofs.format_from.Goals as goal

pub returns-in-Some : goal.returns-in-Some
returns-in-Some c = let l = c.loop-place in
    (to-the-format _ l.place (omega arith) _ (sym c.in-Some.ensures) ∙ l.invariant.0, omega arith)

pub loop-place-preserved : goal.loop-place-preserved
loop-place-preserved c = let l = c.loop-place in
    (all-four _ l.place (omega arith) (sym c.in_default.ensures) ∙ l.invariant.0, omega arith, l.invariant.2)
