use mathlib.Core.Path.{refl}
use native.Mathlib.Omega.{arith}
use Rattle.rules.specs.Rules.Bytes.{padded}
use Rattle.requests.specs.Views.{viewed}
use Rattle.requests.proofs.ArrayLaws.{laid_more}
use Rattle.slots.specs.Images.{free_on, blank_slot}
use Rattle.station.proofs.setting.listed.Goals as goal

pub loop-i-init : goal.loop-i-init
unfolding padded viewed
loop-i-init c = rw c.blank_slot-slots.ensures refl

pub loop-i-preserved : goal.loop-i-preserved
loop-i-preserved c =
    let l = c.loop-i in
    rw (l.invariant, c.free_on.ensures) (laid_more free_on blank_slot 16 l.i c.args.channels.now (record { 0 = 0 }) (omega arith) (omega arith))
