use Prim.Native.Nat.{◌-◌, ◌≤◌}
use mathlib.Core.Path.{◌≡◌, ap, ◌∙◌}
use native.Mathlib.Omega.{arith}
use lib.ListN.{get_or, set}
use borrow.Rule.Slice.PartMut.{mid_len}
use Rattle.rules.specs.Rules.Waits.{earliest, loss, main}
use Rattle.rules.specs.Rules.Station.{slot_table, loss_due, main_due}
use Rattle.requests.proofs.ArrayLaws.{left-all}
use Rattle.slots.specs.Views.{slot_view, due_view, no_slot}
use Rattle.slots.specs.Images.{tidy_slot, blank_slot}
use Rattle.slots.proofs.TidyLaws.{done_from, done_at, done-used}
use Rattle.due_times.specs.Joins.{join_due}
use Rattle.due_times.proofs.DueLaws.{slots-down, slots-none}
use Rattle.station.proofs.FinishLaws.{blanked, done-whole}
use Rattle.station.proofs.tidying.slots_anew.Goals as goal

pub loop-i-init : goal.loop-i-init
loop-i-init c =
    let l = c.args.slots.now in
    let n = c.args.count in
    record {
      laid = blanked tidy_slot blank_slot n (16 - n) _ l _ _ (omega arith) (c.fill.ensures.after (λ y h. h)) (mid_len n 16 l (omega arith)) c.blank_slot.ensures;
      first = slots-none n l n (omega arith);
    }

pub loop-i-preserved : goal.loop-i-preserved
loop-i-preserved c =
    let l = c.loop-i in
    let a = c.args.slots.now in
    let n = c.args.count in
    let h = c.loop-i-test.true in
    let k : l.i ≤ 16 = omega arith in
    let at = ap (λ z. get_or z (l.i - 1) no_slot) l.invariant.laid ∙ done_at tidy_slot blank_slot n a l.i h no_slot in
    record {
      laid =
          ap (λ z. set z (l.i - 1) c.tidy_slot.result) l.invariant.laid
          ∙ ap (λ z. set (done_from tidy_slot blank_slot n a l.i) (l.i - 1) z) (c.tidy_slot.ensures ∙ ap tidy_slot at)
          ∙ done-used tidy_slot blank_slot n a l.i h no_slot (omega arith) (omega arith);
      first =
          c.loss_due-first.ensures
          ∙ ap (λ z. join_due (loss (l.i - 1)) (loss_due (slot_view (get_or l.slots (l.i - 1) no_slot))) z) c.main_due-with_main.ensures
          ∙ ap (λ z. join_due (loss (l.i - 1)) (loss_due (slot_view z)) (join_due (main (l.i - 1)) (main_due (slot_view z)) (due_view l.first))) at
          ∙ slots-down n a l.i h (omega arith) (omega arith) l.invariant.first;
    }

pub returns-clause-laid : goal.returns-clause-laid
returns-clause-laid c = done-whole tidy_slot blank_slot c.args.count c.loop-i.i 16 c.args.slots.now c.loop-i.slots c.loop-i.invariant.laid (omega arith) c.told-slots

pub returns-clause-first : goal.returns-clause-first
returns-clause-first c =
    let e : c.loop-i.i ≡ 0 = omega arith in
    (rw e at c.loop-i.invariant.first) ∙ ap (λ l. earliest (slot_table 0 l)) (left-all slot_view c.args.count c.args.slots.now)
