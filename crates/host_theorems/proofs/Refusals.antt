-- A refusal, known by the returned number, leaves every byte.
use Prim.Native.Nat.{ℕ}
use mathlib.Core.Path.{◌≡◌, refl, sym, ◌∙◌}
use mathlib.Core.Option.{Option, none, some}
use mathlib.Core.List.{List}
use native.Mathlib.Omega.{arith}
use Rattle.sequence.proofs.Tests.{Either, yes!, no!, which}
use Rattle.rules.specs.Rules.Words.{Config}
use Rattle.rules.specs.Rules.Verdict.{set_up_verdict}
use Rattle.station.specs.Step.{given, refusal, stepped_by, set_up_for, set_up_of}
use Rattle.lent_layout.specs.Stations.{sized, station_from}
use Rattle.coast.specs.Events.{set_up_answer, set_up_leaves, set_up_returned, station_set_up}
use Rattle.coast.proofs.SetUpLaws.{nowhere}
use Rattle.coast.proofs.Theorems.{refusal-leaves-all}
use Rattle.host_theorems.specs.Statement.{count_in, HostRefusalsLeaveAll, HostSetUpRefusalLeavesAll}
use Rattle.host_theorems.proofs.Small.{accepted-few}
use Rattle.host_theorems.proofs.Calls.{called, answer-is, count-is}

pub host-refusals-leave-all : HostRefusalsLeaveAll
unfolding HostRefusalsLeaveAll stepped_by
host-refusals-leave-all x a h = go (refusal (station_from x.station) x.event) refl
  where
    go : (o : Option ℕ) → refusal (station_from x.station) x.event ≡ o
        → (x.kept ≡ x.station) × ((x.left ≡ x.lent) × (count_in x ≡ 0))
    go none v = let few = accepted-few (station_from x.station) x.event v in absurd (omega (arith, answer-is x a))
    go (some n) v =
        let k = called x a in
        let stays = refusal-leaves-all x.station x.lent x.event n v in
        (k.kept-is ∙ stays.0, (k.left_is ∙ stays.1, count-is x a ∙ (rw v)))

-- what set-up refuses it does not lay
not-laid : (c : Config) (v : Option ℕ) (b : List ℕ) → (set_up_answer (set_up_for c v) ≡ 0 → ⊥) → set_up_leaves (set_up_for c v) b ≡ b
not-laid c none b n = absurd (n refl)
not-laid c (some r) b n = refl

pub host-set-up-refusal-leaves-all : HostSetUpRefusalLeavesAll
unfolding HostSetUpRefusalLeavesAll set_up_returned station_set_up
host-set-up-refusal-leaves-all κs a r s p n = p.1 ∙ go (which (sized a.1.1.0.now))
  where
    go : Either (sized a.1.1.0.now) → station_set_up (given a.0 a.1.0.now) a.1.1.0.now ≡ a.1.1.0.now
    go (yes! q) = not-laid (given a.0 a.1.0.now) (set_up_verdict (given a.0 a.1.0.now)) a.1.1.0.now (λ z. n (p.0 ∙ (rw q z)))
    go (no! q) = sym (nowhere (set_up_of (given a.0 a.1.0.now)) a.1.1.0.now q)
