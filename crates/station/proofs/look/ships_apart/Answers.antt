use mathlib.Core.List.{◌++◌, append-nil}
use mathlib.Core.Path.{◌≡◌, refl, sym, ap, ◌∙◌}
use native.Mathlib.Omega.{arith}
use lib.Dec.{eqb}
use lib.ListN.{length, get_or}
use Rattle.rules.specs.Rules.Places.{distinct}
use Rattle.rules.specs.Rules.Bytes.{padded}
use Rattle.requests.specs.Views.{viewed, itself}
use Rattle.slots.specs.Views.{no_slot, no_waiting}
use Rattle.soundness.specs.Soundly.{ships_of, ship_at}
use Rattle.soundness.proofs.GatherLaws.{filled_more, ship-more, ship-none, ship-waits, ships-front}
use Rattle.station.proofs.LookLaws.{viewed-all, itself-all}
use Rattle.station.proofs.look.ships_apart.Goals as goal
use Rattle.station.proofs.look.ships_apart.Goals.{then-has_ship, else-has_ship}

pub loop-slot-init : goal.loop-slot-init
unfolding viewed padded
loop-slot-init c = record { few = omega arith; filled = record { holds = refl; count = refl } }

pub loop-slot-preserved : goal.loop-slot-preserved
loop-slot-preserved c =
    let a = c.args.slots.now in
    let l = c.loop-slot in
    let i = l.slot-index in
    let owned = c.has_ship.ensures in
    record {
      few = elim c.if-has_ship.branch [ then-has_ship w ↦ rw w.count-is (omega arith) | else-has_ship w ↦ rw w.count-is (omega arith) ];
      filled = elim c.if-has_ship.branch [
        | then-has_ship w ↦ rw (w.ships-is, w.count-is, ship-more i a (omega arith) (sym owned ∙ w.if-has_ship.true))
            (filled_more (ships_of (viewed itself i a)) l.ships l.count (get_or a i no_slot).request.ship (omega (arith, l.invariant.filled.count)) l.invariant.filled)
        | else-has_ship w ↦ rw (w.ships-is, w.count-is, ship-none i a (omega arith) (sym owned ∙ w.if-has_ship.false)) l.invariant.filled
      ];
    }

pub loop-entry-init : goal.loop-entry-init
unfolding viewed
loop-entry-init c =
    let a = c.args.slots.now in
    let l = c.loop-slot in
    let e : l.slot-index ≡ length a = omega arith in
    record { few = omega arith; filled = rw (append-nil (ships_of (viewed itself (length a) a))) (rw e at l.invariant.filled) }

pub loop-entry-preserved : goal.loop-entry-preserved
loop-entry-preserved c =
    let b = c.args.queue.now in
    let l = c.loop-entry in
    let ships = ships_of (viewed itself (length c.args.slots.now) c.args.slots.now) in
    record {
      few = omega arith;
      filled = rw (ship-waits ships l.entry-index b (omega arith))
          (filled_more (ships ++ viewed ship_at l.entry-index b) l.ships l.count (get_or b l.entry-index no_waiting).request.ship (omega (arith, l.invariant.filled.count)) l.invariant.filled);
    }

pub returns : goal.returns
returns c =
    let a = c.args.slots.now in
    let b = c.args.queue.now in
    let l = c.loop-entry in
    let e : l.entry-index ≡ length b = omega arith in
    c.all_apart.ensures
    ∙ ap (distinct eqb) (ships-front (length a) (length a) a (length b) (length b) b l.ships l.count (omega arith) (omega arith) (omega arith) (rw e at l.invariant.filled))
    ∙ ap (λ z. distinct eqb (ships_of z ++ viewed ship_at (length b) b)) (itself-all a)
    ∙ ap (λ z. distinct eqb (ships_of a ++ z)) (viewed-all ship_at b)
