-- When a wait falls due: a time by its number, and the number as the rules have it.
use Prim.Native.Nat.{ℕ, ◌≤◌, min}
use mathlib.Core.Path.{◌≡◌, ap}
use native.Mathlib.Omega.{arith}
use Rattle.units.specs.declared.Tenths.{Tenths}
use Rattle.rules.specs.Rules.Station.{due_after, queue_wait}
use Rattle.rules.specs.Rules.Sound.{limit}

pub time-is : (d : Tenths) (n : ℕ) → d.0 ≡ n → d ≡ record { 0 = n }
time-is d n e = ap (λ m. record { 0 = m }) e

-- the limit of every accepted time leaves room for each wait
pub wait-fits : (t p : ℕ) → t ≤ limit → p ≤ queue_wait → min (due_after t p) 4294967295 ≡ due_after t p
wait-fits t p h k = omega arith
