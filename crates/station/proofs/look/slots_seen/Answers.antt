use mathlib.Core.Path.{◌≡◌, ap, ◌∙◌}
use native.Mathlib.Omega.{arith}
use lib.ListN.{length}
use Rattle.rules.specs.Rules.Waits.{earliest}
use Rattle.rules.specs.Rules.Station.{slot_table}
use Rattle.requests.specs.Views.{itself}
use Rattle.requests.proofs.ArrayLaws.{left-all, left-none}
use Rattle.slots.specs.Views.{slot_view, no_slot}
use Rattle.due_times.proofs.DueLaws.{slots-down, slots-none}
use Rattle.sound_records.specs.Kept.{slot_sound}
use Rattle.station.proofs.LookLaws.{viewed-all, one-tested, all-tested}
use Rattle.station.proofs.look.slots_seen.Goals as goal

pub loop-i-init : goal.loop-i-init
loop-i-init c = let l = c.args.slots.now in
    record { sound = rw (left-none itself (length l) l (length l) (omega arith)); first = slots-none (length l) l (length l) (omega arith) }

pub loop-i-preserved : goal.loop-i-preserved
loop-i-preserved c = let a = c.args.slots.now in
    let l = c.loop-i in
    let n = length a in
    let f = slot_sound c.args.mast c.args.clock in
    let told = c.slot_sound-sound.ensures in
    record {
      sound = rw told (one-tested f a l.i no_slot (omega arith) (omega arith) l.invariant.sound);
      first = rw (c.loss_due-first.ensures, c.main_due-with_main.ensures) (slots-down n a l.i (omega arith) (omega arith) (omega arith) l.invariant.first);
    }

pub returns-clause-sound : goal.returns-clause-sound
returns-clause-sound c = let a = c.args.slots.now in
    let f = slot_sound c.args.mast c.args.clock in
    all-tested f a c.loop-i.i (omega arith) c.loop-i.invariant.sound

pub returns-clause-first : goal.returns-clause-first
returns-clause-first c = let a = c.args.slots.now in
    let e : c.loop-i.i ≡ 0 = omega arith in
    (rw e at c.loop-i.invariant.first) ∙ ap (λ l. earliest (slot_table 0 l)) (left-all slot_view (length a) a ∙ viewed-all slot_view a)
