-- The answer and the count of actions fit a byte each.
use Prim.Native.Nat.{ℕ, ◌<◌, ◌≤◌}
use mathlib.Core.Path.{◌≡◌, refl, sym}
use mathlib.Core.Option.{Option, none, some}
use native.Mathlib.Omega.{arith}
use lib.Dec.{ltb}
use borrow.Author.Tests.{ltb-true}
use Rattle.rules.specs.Rules.Words.{Event}
use Rattle.rules.specs.Statement.{AtMostEight, ZeroOrOne}
use Rattle.rules.proofs.Answered.{zero-or-one}
use Rattle.rules.proofs.Eight.{at-most-eight}
use Rattle.station.specs.declared.Station.{Station}
use Rattle.station.specs.Model.{config_of, model_of}
use Rattle.station.specs.Step.{refusal, stepped_by}
use Rattle.station.proofs.GateLaws.{passed}
use Rattle.coast.proofs.Theorems.{refused-such}

pub accepted-few : (s : Station) (e : Event) → refusal s e ≡ none → (stepped_by s e).answer ≤ 1
unfolding stepped_by ZeroOrOne
accepted-few s e h = rw h ((zero-or-one (config_of s) (model_of s) e).0 (passed s e (sym h)).judged)

pub stepped-in-byte : (s : Station) (e : Event) → ((stepped_by s e).answer < 256) × ((stepped_by s e).count < 256)
unfolding stepped_by AtMostEight
stepped-in-byte s e = go (refusal s e) refl
  where
    go : (o : Option ℕ) → refusal s e ≡ o → ((stepped_by s e).answer < 256) × ((stepped_by s e).count < 256)
    go none h =
        let few = accepted-few s e h in
        let eight = (at-most-eight (config_of s) (model_of s) e (passed s e (sym h)).sounds).0 in
        (omega arith, rw h (omega (arith, eight)))
    go (some n) h = (rw h (ltb-true n 256 (refused-such (λ k. ltb k 256) refl refl s e n h)), rw h (omega arith))
