use mathlib.Core.Path.{refl, sym}
use native.Mathlib.Omega.{arith}
use Prim.Native.Nat.{◌<◌}
use lib.ListN.{length-append}
use Rattle.requests.specs.Views.{request_of}
use Rattle.requests.proofs.ArrayLaws.{viewed-length, viewed-push, mod_at-past}
use Rattle.slots.specs.Views.{waiting_view, no_waiting}
use Rattle.slots.proofs.QueueLaws.{viewed-mod}
use Rattle.station.proofs.applying.requeued.Goals as goal
use Rattle.station.proofs.applying.requeued.Goals.{After-entered}

pub bounds-queue-waiting-in-Joins : goal.bounds-queue-waiting-in-Joins
bounds-queue-waiting-in-Joins c = omega (arith, viewed-length waiting_view c.args.waiting c.args.queue.now, simp length-append at (rw c.in-Joins.is at c.requires.fits))

pub bounds-queue-waiting : goal.bounds-queue-waiting
bounds-queue-waiting c = omega (arith, viewed-length waiting_view c.args.waiting c.args.queue.now, simp length-append at (rw c.in-Joins.is at c.requires.fits))

-- one who joins has a place
placed : (c : After-entered) → c.args.waiting < 32
placed c = omega (arith, viewed-length waiting_view c.args.waiting c.args.queue.now, simp length-append at (rw c.in-Joins.is at c.requires.fits))

pub returns-in-Joins-clause-queue : goal.returns-in-Joins-clause-queue
returns-in-Joins-clause-queue c = rw (c.entered.ensures, c.in-Joins.is) (viewed-push waiting_view c.args.waiting c.args.queue.now _ (omega (arith, placed c)))

pub returns-in-Joins-clause-room : goal.returns-in-Joins-clause-room
returns-in-Joins-clause-room c = omega (arith, placed c)

pub returns-then-place-waiting-clause-queue : goal.returns-then-place-waiting-clause-queue
returns-then-place-waiting-clause-queue c =
    rw (c.entered-then-place-waiting.ensures, c.in-Replaces.is)
    (viewed-mod waiting_view (λ w. record { request = request_of c.args.request; due = w.due }) c.args.waiting c.args.queue.now c.in-Replaces.place.0 _ no_waiting refl)

pub returns-else-place-waiting-clause-queue : goal.returns-else-place-waiting-clause-queue
returns-else-place-waiting-clause-queue c =
    rw c.in-Replaces.is (sym (mod_at-past _ c.in-Replaces.place.0 _ (omega (arith, viewed-length waiting_view c.args.waiting c.args.queue.now))))
