use Rattle.reading.proofs.DigitLaws.{first-pair, pair_turn}
use lib.Seq.{take_all}
use Rattle.reading.proofs.digits.sixteen_digits.Goals as goal

pub loop-i-init : goal.loop-i-init
loop-i-init c = first-pair c.args.pairs.now c.args.start c.requires.0 c.requires.1

pub loop-i-preserved : goal.loop-i-preserved
loop-i-preserved c = let l = c.loop-i in
    pair_turn c.args.pairs.now l.digits c.args.start l.i c.requires.0 l.auto.i c.loop-i-test.true c.requires.2 l.invariant

pub returns : goal.returns
returns c = let l = c.loop-i in
    rw (l.invariant, take_all l.i c.args.pairs.now c.loop-i-test.false)
