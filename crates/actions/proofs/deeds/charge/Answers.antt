use Rattle.actions.proofs.ActionLaws.{both}
use Rattle.actions.specs.Blocks.{action_of, span, charge_bytes}
use Rattle.units.specs.Units.{whole_seconds}
use Rattle.rules.specs.Rules.Bytes.{padded}
use native.Mathlib.Omega.{arith}
use borrow.Author.Rules.{rules}
use mathlib.Core.Path.{◌≡◌}
use Rattle.actions.proofs.deeds.charge.Goals as goal

pub returns-clause-value : goal.returns-clause-value
unfolding action_of padded
returns-clause-value c = let a = c.args in
    let e : c.count-seconds.result ≡ (whole_seconds (span a.start a.stop)).0 = rw (c.count-seconds.ensures, c.whole_seconds.ensures, c.span_of.ensures) in
    rw (c.copy_from_slice.ensures.after, c.copy_from_slice-2.ensures.after, c.copy_from_slice-3.ensures.after, c.copy_from_slice-4.ensures.after, c.copy_from_slice-5.ensures.after, ← e) (search rules)

pub returns-clause-result_value : goal.returns-clause-result_value
returns-clause-result_value c = let a = c.args in
    (both 7 a.slot.0 (charge_bytes a.ship a.start a.stop a.call) _ (omega arith) (returns-clause-value c)).1
