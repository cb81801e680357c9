-- A step for every event on every station, and so a trace for every script.
use Prim.Native.Nat.{ℕ, ◌≤◌}
use mathlib.Core.Path.{◌≡◌, refl, ap, ◌∙◌}
use mathlib.Core.List.{List, [], ◌∷◌}
use mathlib.Core.Option.{none}
use lib.ListN.{length, replicate, length-replicate}
use native.Mathlib.Omega.{arith}
use borrow.Author.Tests.{le-leb}
use Rattle.units.specs.declared.Channel.{Channel}
use Rattle.rules.specs.Rules.Words.{Config, Event}
use Rattle.rules.specs.Rules.Verdict.{set_up_verdict}
use Rattle.rules.specs.Rules.Bytes.{padded}
use Rattle.requests.proofs.ArrayLaws.{padded-front}
use Rattle.station.proofs.ImageLaws.{run_fits}
use Rattle.station.specs.declared.Station.{Station}
use Rattle.std.specs.Prelude.{Ok}
use Rattle.rules.specs.Rules.Station.{fresh}
use Rattle.station.specs.Model.{image_of}
use Rattle.station.specs.Step.{channel_number, chosen}
use Rattle.station_theorems.specs.Steps.{Step, SetUpAs, by-set-up, HandsOn, events_in}
use Rattle.station_theorems.specs.Scripts.{EveryScriptIsTraced}
use Rattle.station_theorems.proofs.Steps.{life, lent, step_for, step-allowed}

-- the station that is set up
abbrev set_up_as : Config → Station
set_up_as c = image_of c (fresh c)

-- ── a script ─────────────────────────────────────────────────────────────────

record Walk (s : Station) (es : List Event) : Type 0 where
  steps : List Step
  hands : HandsOn s steps
  script : events_in steps ≡ es

-- with rooms of as many bytes as the events tell
walk : (es : List Event) (s : Station) → Walk s es
walk [] s = record { steps = []; hands = tt; script = refl }
walk (e ∷ es) s =
    let room : List ℕ = replicate e.room 0 in
    let x = step_for s room e.time e.what in
    let named : x.event ≡ e = ap (λ (n : ℕ). record { time = e.time; room = n; what = e.what }) (length-replicate e.room 0) in
    let w = walk es x.back.station in
    record { steps = x ∷ w.steps; hands = (refl, (step-allowed s room e.time e.what, w.hands)); script = ap (λ (f : Event). f ∷ events_in w.steps) named ∙ ap (λ l. e ∷ l) w.script }

-- the channels in sixteen places, and their count
begun : (identity : ℕ) (channels : List Channel) (n : ℕ) → set_up_verdict (chosen identity channels n) ≡ none
    → SetUpAs (chosen identity channels n) (set_up_as (chosen identity channels n))
begun identity channels n v =
    by-set-up life (identity, (lent channels, (n, tt))) (Ok (set_up_as (chosen identity channels n))) (identity, (lent channels, (n, tt))) (rw v) (set_up_as (chosen identity channels n)) refl

few : (c : Config) → set_up_verdict c ≡ none → length c.channels ≤ 16
few c v = let f = run_fits c v [] in omega (arith, f.beside, f.few)

pub beginning : (c : Config) → set_up_verdict c ≡ none → SetUpAs c (set_up_as c)
beginning c v =
    let n = length c.channels in
    let places = padded (channel_number 0) 16 c.channels in
    let e : chosen c.identity places n ≡ c = rw (le-leb n 16 (few c v), padded-front (channel_number 0) 16 c.channels (few c v)) in
    rw e at (begun c.identity places n (rw e v))

pub every-script-is-traced : EveryScriptIsTraced
unfolding EveryScriptIsTraced
every-script-is-traced c set es =
    let w = walk es (set_up_as c) in
    record { steps = w.steps; trace = record { first = set_up_as c; begun = beginning c set; steps = w.hands }; script = w.script }
