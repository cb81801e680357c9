use Rattle.writing.proofs.EvenedLaws.{pairs-count, count-most}
use Rattle.sequence.proofs.Paste.{paste-turn}
use Rattle.sequence.proofs.Rest.{or_turn}
use Rattle.sequence.specs.Number.{evened, pairs_of}
use lib.ListN.{length-set, drop_of_length-le}
use native.Mathlib.Omega.{arith}
use mathlib.Core.Path.{◌∙◌}
use Rattle.writing.proofs.pairs.lay_pairs.Goals as goal

pub loop-j-preserved : goal.loop-j-preserved
loop-j-preserved c = let l = c.loop-j in
    let pairs = pairs_of (evened c.args.number.now) in
    let count = pairs-count c.args.number.now c.requires.0 in
    let most = count-most c.args.number.now c.requires.0 in
    let pair = c.pair_at-pair.ensures in
    let laid = c.lay_symbol-check.ensures in record {
      laid = rw (laid.room_written, l.invariant.laid, pair) (paste-turn c.args.room.now 18 pairs l.j (omega arith) (omega arith));
      joined = rw (laid.value, pair) (or_turn l.check pairs l.j (omega arith) ∙ l.invariant.joined);
      wide = rw laid.room_written (simp length-set l.invariant.wide);
    }

pub returns-clause-value : goal.returns-clause-value
returns-clause-value c = let l = c.loop-j in
    let count = pairs-count c.args.number.now c.requires.0 in
    rw (drop_of_length-le (pairs_of (evened c.args.number.now)) {i = l.j} (omega arith)) at l.invariant.joined
