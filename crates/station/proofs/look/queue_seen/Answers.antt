use mathlib.Core.List.{map}
use mathlib.Core.Path.{◌≡◌, ap, ◌∙◌}
use native.Mathlib.Omega.{arith}
use lib.ListN.{length}
use Rattle.requests.specs.Views.{itself}
use Rattle.requests.proofs.ArrayLaws.{left-all, left-none}
use Rattle.slots.specs.Views.{waiting_view, due_view, due_of, no_waiting}
use Rattle.due_times.specs.Joins.{queue_joined}
use Rattle.due_times.proofs.DueLaws.{queue-down, queue-none}
use Rattle.sound_records.specs.Kept.{waiting_sound}
use Rattle.station.proofs.LookLaws.{viewed-all, one-tested, all-tested}
use Rattle.station.proofs.look.queue_seen.Goals as goal

pub loop-i-init : goal.loop-i-init
loop-i-init c = let l = c.args.queue.now in
    record { sound = rw (left-none itself (length l) l (length l) (omega arith)); first = queue-none (length l) l (length l) _ (omega arith) }

pub loop-i-preserved : goal.loop-i-preserved
loop-i-preserved c = let a = c.args.queue.now in
    let l = c.loop-i in
    let n = length a in
    let f = waiting_sound c.args.mast c.args.clock in
    let told = c.waiting_sound-sound.ensures in
    record {
      sound = rw told (one-tested f a l.i no_waiting (omega arith) (omega arith) l.invariant.sound);
      first = rw c.sooner_of-first.ensures (queue-down n a l.i _ (omega arith) (omega arith) (omega arith) l.invariant.first);
    }

pub returns-clause-sound : goal.returns-clause-sound
returns-clause-sound c = let a = c.args.queue.now in
    let f = waiting_sound c.args.mast c.args.clock in
    all-tested f a c.loop-i.i (omega arith) c.loop-i.invariant.sound

pub returns-clause-first : goal.returns-clause-first
returns-clause-first c = let a = c.args.queue.now in
    let e : c.loop-i.i ≡ 0 = omega arith in
    (rw e at c.loop-i.invariant.first) ∙ ap (λ l. queue_joined 0 (map due_of l) (due_view c.args.first)) (left-all waiting_view (length a) a ∙ viewed-all waiting_view a)
