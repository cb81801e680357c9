-- Set-up in lent bytes.
use Prim.Native.Nat.{ℕ}
use mathlib.Core.Path.{◌≡◌, refl}
use mathlib.Core.Bool.{Bool, true, false, cond}
use mathlib.Core.List.{List}
use mathlib.Core.Option.{none, some}
use Rattle.std.specs.Prelude.{Result, Ok, Err}
use Rattle.rules.specs.Rules.Words.{Config}
use Rattle.rules.specs.Rules.Sound.{config_keeps}
use Rattle.rules.specs.Rules.Verdict.{set_up_verdict}
use Rattle.gate.specs.declared.Refusal.{Refusal}
use Rattle.station.specs.declared.Station.{Station}
use Rattle.station.specs.Step.{set_up_for, set_up_of}
use Rattle.lent_layout.specs.Stations.{sized, station_laid}
use Rattle.coast.specs.Events.{set_up_answer, set_up_leaves}

-- bytes of another size stay
pub nowhere : (u : Result Station Refusal) (b : List ℕ) → sized b ≡ false → b ≡ set_up_leaves u b
unfolding station_laid
nowhere (Ok s) b h = rw h
nowhere (Err r) b h = refl

-- what is told of a refused set-up is the number of the rules' refusal
pub set-up-number : (c : Config) (n : ℕ) → set_up_verdict c ≡ some n → set_up_answer (set_up_of c) ≡ n
unfolding set_up_verdict
set-up-number c n e = go (config_keeps c) e
  where
    go : (b : Bool) → cond b none (some 36) ≡ some n → set_up_answer (set_up_for c (cond b none (some 36))) ≡ n
    go true e = cc
    go false e = cc
