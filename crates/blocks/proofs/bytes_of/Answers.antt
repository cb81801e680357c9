use borrow.Author.Rules.{rules}
use lib.ListN.{length, take, length-take}
use mathlib.Core.Path.{◌≡◌, ◌∙◌}
use native.Mathlib.Omega.{arith}
use Prim.Native.Nat.{◌+◌, ◌-◌, min}
use Rattle.rules.specs.Rules.Bytes.{block}
use Rattle.actions.specs.Blocks.{action_block}
use Rattle.blocks.proofs.BlockLaws.{slot-byte, payload-laid}
use Rattle.blocks.proofs.bytes_of.Goals as goal

pub returns : goal.returns
unfolding action_block block
returns c = let a = c.args.action in
    let w : length a.payload ≡ 36 = search rules in
    let l : length (take a.length a.payload) ≡ min a.length 36 = omega (arith, length-take a.length a.payload) in
    let k : 4 + c.min-length.result - 4 ≡ c.min-length.result = omega arith in
    let s = c.unwrap_or.ensures ∙ slot-byte a.slot.0 _ c.try_from.ensures in
    rw (c.copy_from_slice.ensures.after, k, s, c.min-length.ensures, l, payload-laid a.length a.payload w)
