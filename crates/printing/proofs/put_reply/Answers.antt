use mathlib.Core.Path.{◌≡◌}
use lib.ListN.{length}
use Rattle.printing.proofs.ReplyLaws.{head-length, too_short, reply-put}
use native.Mathlib.Omega.{arith}
use borrow.Author.Rules.{rules}
use Rattle.printing.proofs.put_reply.Goals as goal

pub returns-then-out-lt-ANSWER_ROOM : goal.returns-then-out-lt-ANSWER_ROOM
returns-then-out-lt-ANSWER_ROOM c = let a = c.args in
    let r = too_short a.answer a.clock.0 a.count a.due a.blocks.now a.out.now c.if-out-lt-ANSWER_ROOM.true in
    record { value = r.0; out_after = r.1 }

pub put_actions-requires : goal.put_actions-requires
put_actions-requires c = let a = c.args in
    let w : length a.blocks.now ≡ 320 = search rules in
    (w, omega (arith, c.min-shown.ensures), omega (arith, c.put_head-next.ensures.behind, head-length a.answer a.clock.0 a.count a.due))

pub returns : goal.returns
returns c = let a = c.args in
    let r = reply-put a.answer a.clock.0 a.count a.due a.blocks.now a.out.now c.min-shown.result c.min-shown.ensures (omega arith) c.put_head-next.ensures c.put_actions.ensures in
    record { value = r.0; out_after = r.1 }
