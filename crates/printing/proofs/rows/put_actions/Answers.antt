use Prim.Native.Nat.{◌+◌, ◌*◌, ◌-◌}
use mathlib.Core.Path.{refl}
use native.Mathlib.Omega.{arith}
use lib.ListN.{take, drop, length-take, length-drop}
use Rattle.printing.specs.Replies.{action_texts}
use Rattle.printing.proofs.PutLaws.{then, nothing}
use Rattle.printing.proofs.ReplyLaws.{actions-length, actions-more, action-length}
use Rattle.printing.proofs.rows.put_actions.Goals as goal

pub loop-i-init : goal.loop-i-init
unfolding action_texts
loop-i-init c = (nothing _ _, refl)

pub put_action-next-requires : goal.put_action-next-requires
put_action-next-requires c = let s = c.args.blocks.now in
    let l = c.loop-i in
    let k = c.loop-i-test.true in
    (simp (length-take, length-drop) (omega (arith, c.requires.0, c.requires.1)), omega (arith, c.requires.2, c.requires.1, l.invariant.0.behind, l.invariant.1, actions-length l.i s))

pub loop-i-preserved : goal.loop-i-preserved
loop-i-preserved c = let s = c.args.blocks.now in
    let l = c.loop-i in
    let k = c.loop-i-test.true in
    (rw (actions-more l.i s) (then (omega (arith, c.requires.2, c.requires.1, actions-length l.i s, action-length (take (40 * l.i + 40 - 40 * l.i) (drop (40 * l.i) s)))) l.invariant.0 c.put_action-next.ensures), omega (arith, l.invariant.1))
