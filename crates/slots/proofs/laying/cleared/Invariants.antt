use Prim.Native.Nat.{ℕ, ◌<◌, ◌≤◌}
use mathlib.Core.Bool.{cond}
use mathlib.Core.Path.{◌≡◌}
use lib.Dec.{ltb}
use lib.ListN.{get_or}
use Rattle.slots.proofs.laying.cleared.Given as goal

abbrev pub invariant-loop-place : goal.invariant-loop-place
invariant-loop-place l =
    record {
      done : (k : ℕ) → k < l.place → get_or l.digit-items k 0 ≡ cond (ltb k l.count) (get_or l.fn.digits k 0) 0;
      left : (k : ℕ) → l.place ≤ k → get_or l.digit-items k 0 ≡ get_or l.fn.digits k 0;
    }
