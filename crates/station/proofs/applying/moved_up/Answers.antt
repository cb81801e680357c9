use native.Mathlib.Omega.{arith}
use Rattle.slots.specs.Views.{waiting_view}
use Rattle.slots.proofs.QueueLaws.{drop_at-past}
use Rattle.requests.proofs.ArrayLaws.{viewed-length}
use Rattle.station.proofs.ChangeLaws.{closed-up}
use Rattle.station.proofs.applying.moved_up.Goals as goal

pub returns-then-waiting-gap-clause-left : goal.returns-then-waiting-gap-clause-left
returns-then-waiting-gap-clause-left c = drop_at-past c.args.gap _ (omega (arith, viewed-length waiting_view c.args.waiting c.args.queue.now))

pub returns-clause-left : goal.returns-clause-left
returns-clause-left c = closed-up waiting_view c.args.gap c.args.waiting c.args.queue.now c.copy_within.new.self (omega arith) (omega arith) c.copy_within.ensures.after
