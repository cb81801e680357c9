use mathlib.Core.Path.{◌≡◌, refl, ap, ◌∙◌}
use native.Mathlib.Omega.{arith}
use lib.Dec.{eqb}
use lib.ListN.{length}
use Rattle.rules.specs.Rules.Places.{distinct}
use Rattle.rules.specs.Rules.Bytes.{padded}
use Rattle.requests.specs.Views.{viewed}
use Rattle.requests.proofs.ArrayLaws.{laid_more}
use Rattle.slots.specs.Views.{no_slot}
use Rattle.soundness.specs.Soundly.{number_of}
use Rattle.soundness.proofs.GatherLaws.{channels-front}
use Rattle.station.proofs.LookLaws.{viewed-all}
use Rattle.station.proofs.look.channels_apart.Goals as goal

pub loop-i-init : goal.loop-i-init
unfolding viewed padded
loop-i-init c = refl

pub loop-i-preserved : goal.loop-i-preserved
loop-i-preserved c = rw c.loop-i.invariant (laid_more number_of 0 16 c.loop-i.i c.args.slots.now no_slot (omega arith) (omega arith))

pub returns : goal.returns
returns c = let a = c.args.slots.now in
    let e : c.loop-i.i ≡ length a = omega arith in
    c.all_apart.ensures ∙ ap (distinct eqb) (channels-front (length a) (length a) a c.loop-i.channels (omega arith) (omega arith) (rw e at c.loop-i.invariant) ∙ viewed-all number_of a)
