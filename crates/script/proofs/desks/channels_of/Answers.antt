use mathlib.Core.Path.{refl, ◌∙◌}
use native.Mathlib.Omega.{arith}
use lib.ListN.{length-set}
use Rattle.rules.specs.Rules.Bytes.{padded}
use Rattle.requests.specs.Views.{viewed}
use Rattle.requests.proofs.ArrayLaws.{laid_more}
use Rattle.station.specs.Step.{channel_number}
use Rattle.station.proofs.SetLaws.{all_laid}
use borrow.Author.Rules.{rules}
use Rattle.script.proofs.desks.channels_of.Goals as goal

pub loop-i-init : goal.loop-i-init
unfolding padded viewed
loop-i-init c = (c.min-i-end.ensures, search rules, refl)

pub loop-i-preserved : goal.loop-i-preserved
loop-i-preserved c = let l = c.loop-i in
    (l.invariant.0, simp length-set l.invariant.1, rw l.invariant.2 (laid_more channel_number (channel_number 0) 16 l.i c.args.numbers.now 0 (omega arith) (omega arith)))

pub returns : goal.returns
returns c = c.loop-i.invariant.2 ∙ all_laid c.args.numbers.now c.loop-i.i (omega arith)
