use Prim.Native.Nat.{◌-◌, ◌≤◌}
use mathlib.Core.List.{map}
use mathlib.Core.Path.{◌≡◌, ap, ◌∙◌}
use native.Mathlib.Omega.{arith}
use lib.ListN.{get_or, set}
use borrow.Rule.Slice.PartMut.{mid_len}
use Rattle.rules.specs.Rules.Waits.{sooner, of_queue}
use Rattle.requests.proofs.ArrayLaws.{left-all}
use Rattle.slots.specs.declared.Waiting.{Waiting}
use Rattle.slots.specs.Views.{waiting_view, due_view, due_of, no_waiting}
use Rattle.slots.specs.Images.{tidy_waiting, blank_waiting}
use Rattle.slots.proofs.TidyLaws.{done_from, done_at, done-used}
use Rattle.due_times.specs.Joins.{queue_joined}
use Rattle.due_times.proofs.DueLaws.{queue-down, queue-none}
use Rattle.station.proofs.FinishLaws.{blanked, done-whole}
use Rattle.station.proofs.tidying.queue_anew.Goals as goal

pub loop-i-init : goal.loop-i-init
loop-i-init c =
    let l = c.args.queue.now in
    let n = c.args.waiting in
    record {
      laid = blanked tidy_waiting blank_waiting n (32 - n) _ l _ _ (omega arith) (c.fill.ensures.after (λ y h. h)) (mid_len n 32 l (omega arith)) c.blank_waiting.ensures;
      joined = queue-none n l n _ (omega arith);
    }

pub loop-i-preserved : goal.loop-i-preserved
loop-i-preserved c =
    let l = c.loop-i in
    let a = c.args.queue.now in
    let n = c.args.waiting in
    let h = c.loop-i-test.true in
    let k : l.i ≤ 32 = omega arith in
    let at = ap (λ z. get_or z (l.i - 1) no_waiting) l.invariant.laid ∙ done_at tidy_waiting blank_waiting n a l.i h no_waiting in
    record {
      laid =
          ap (λ z. set z (l.i - 1) c.tidy_waiting.result) l.invariant.laid
          ∙ ap (λ z. set (done_from tidy_waiting blank_waiting n a l.i) (l.i - 1) z) (c.tidy_waiting.ensures ∙ ap tidy_waiting at)
          ∙ done-used tidy_waiting blank_waiting n a l.i h no_waiting (omega arith) (omega arith);
      joined =
          c.sooner_of-first.ensures
          ∙ ap (λ (z : Waiting). sooner (record { what = of_queue (l.i - 1); at = z.due.0 }) (due_view l.first)) at
          ∙ queue-down n a l.i _ h (omega arith) (omega arith) l.invariant.joined;
    }

pub returns-clause-laid : goal.returns-clause-laid
returns-clause-laid c = done-whole tidy_waiting blank_waiting c.args.waiting c.loop-i.i 32 c.args.queue.now c.loop-i.queue c.loop-i.invariant.laid (omega arith) c.told-queue

pub returns-clause-joined : goal.returns-clause-joined
returns-clause-joined c =
    let e : c.loop-i.i ≡ 0 = omega arith in
    (rw e at c.loop-i.invariant.joined) ∙ ap (λ l. queue_joined 0 (map due_of l) (due_view c.args.first)) (left-all waiting_view c.args.waiting c.args.queue.now)
