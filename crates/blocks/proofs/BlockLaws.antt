-- The bytes of a block by their places.
use Prim.Native.Nat.{ℕ, ◌+◌, ◌<◌, min}
use mathlib.Core.Path.{◌≡◌}
use mathlib.Core.List.{List, ◌++◌}
use native.Mathlib.Omega.{arith}
use lib.ListN.{length, take, drop, replicate, length-take}
use Rattle.std.specs.Prelude.{Result, Ok, Err}
use Rattle.std.specs.Result.{OkIff, result_unwrap_or}
use Rattle.std.proofs.lemmas.List.{take_min}
use Rattle.rules.specs.Rules.Bytes.{padded, block}
use Rattle.rules.proofs.Payloads.{padded-length}
use Rattle.actions.specs.declared.Action.{Action}
use Rattle.actions.specs.Blocks.{action_block, in_bytes}
use Rattle.actions.proofs.ActionLaws.{padded-over}

-- a slot's number past a byte
pub slot-byte : {E : Type 0} (s : ℕ) (r : Result ℕ E) → OkIff r (s < 256) s → result_unwrap_or r 255 ≡ min s 255
slot-byte s (Ok x) h = omega (arith, h.0, h.1)
slot-byte s (Err e) h = omega arith

-- a payload copied to the front of zeros
pub payload-laid : (n : ℕ) (p : List ℕ) → length p ≡ 36 → take (min n 36) p ++ drop (min n 36) (replicate 36 0) ≡ padded 0 36 (take n p)
payload-laid n p w =
    let e : take (min n 36) p ≡ take n p = rw (← w) (take_min n p) in
    let l : length (take n p) ≡ min n 36 = omega (arith, length-take n p) in
    rw (e, ← l) (padded-over 36 (take n p) (omega arith))

pub block-length : (a : Action) → length (in_bytes (action_block a)) ≡ 40
unfolding action_block block
block-length a = let h = padded-length 0 36 (take a.length a.payload) in omega arith
