use Rattle.writing.proofs.Valid.{front_length}
use Rattle.sequence.proofs.Paste.{front-turn}
use Rattle.sequence.proofs.Rest.{or_turn}
use Rattle.sequence.specs.Layout.{front}
use lib.ListN.{length-set}
use native.Mathlib.Omega.{arith}
use mathlib.Core.Path.{◌∙◌}
use Rattle.writing.proofs.lay_front.Goals as goal

pub loop-i-preserved : goal.loop-i-preserved
loop-i-preserved c = let l = c.loop-i in
    let e = c.front_of-symbols.ensures in
    let laid = c.lay_symbol-check.ensures in
    let f = front_length c.args.meaning in record {
      laid = rw (laid.room_written, l.invariant.laid, e) (front-turn c.args.room.now (front c.args.meaning) l.i (omega arith) (omega arith));
      joined = rw laid.value (or_turn l.check _ l.i (rw e (omega arith)) ∙ l.invariant.joined);
      wide = rw laid.room_written (simp length-set l.invariant.wide);
    }
