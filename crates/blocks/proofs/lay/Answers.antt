use Prim.Native.Nat.{suc, ◌*◌, ◌<◌, ◌≤◌}
use mathlib.Core.Path.{◌∙◌}
use native.Mathlib.Omega.{arith}
use lib.ListN.{length}
use Rattle.actions.specs.Blocks.{action_block}
use Rattle.blocks.proofs.LaidLaws.{no_number, no_room, counted, put}
use Rattle.blocks.proofs.lay.Goals as goal

pub returns-then-block-eq255 : goal.returns-then-block-eq255
returns-then-block-eq255 c = let a = c.args in
    let r = no_number (action_block a.action) a.block a.room.now (omega (arith, c.if-block-eq255.true)) in
    record { value = r.0; room_written = r.1 }

pub returns-then-room-place : goal.returns-then-room-place
returns-then-room-place c = let a = c.args in
    let p : a.block < 255 = omega arith in
    let q : length a.room.now < 40 * suc a.block = omega arith in
    let r = no_room (action_block a.action) a.block a.room.now p q in
    record { value = r.0; room_written = r.1 }

pub returns : goal.returns
returns c = let a = c.args in
    let p : a.block < 255 = omega arith in
    let q : 40 * suc a.block ≤ length a.room.now = omega arith in
    let n = counted (action_block a.action) a.block a.room.now p q in
    record { value = omega arith; room_written = put (action_block a.action) a.block a.room.now p q _ (c.copy_from_slice.ensures.after ∙ c.bytes_of.ensures) }
