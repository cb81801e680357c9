-- A host's run for every script.
use Prim.Native.Nat.{ℕ}
use mathlib.Core.Path.{◌≡◌, refl, ap, ◌∙◌}
use mathlib.Core.Bool.{true}
use mathlib.Core.List.{List, [], ◌∷◌, map}
use mathlib.Core.Option.{none}
use native.Mathlib.Omega.{arith}
use lib.ListN.{length}
use Rattle.units.specs.declared.Channel.{Channel}
use Rattle.rules.specs.Rules.Words.{Event}
use Rattle.rules.specs.Rules.Station.{fresh}
use Rattle.rules.specs.Rules.Verdict.{set_up_verdict}
use Rattle.station.specs.Model.{image_of}
use Rattle.station.specs.Step.{channel_number, given}
use Rattle.lent_layout.specs.Stations.{sized, station_bytes}
use Rattle.lent_layout.proofs.FoundAgain.{handed-out-is-found-again}
use Rattle.coast.specs.Events.{set_up_returned, station_set_up}
use Rattle.station_theorems.proofs.Steps.{lives, lent, lent_mut}
use Rattle.host_theorems.specs.Calls.{Call, SetUpIn, by-set-up, HandsOn}
use Rattle.host_theorems.specs.Scripts.{EveryScriptIsHosted}
use Rattle.host_theorems.proofs.Calls.{call_for, call-entered}

-- ── a script ─────────────────────────────────────────────────────────────────

record Walk (b : List ℕ) (es : List Event) (rooms : List (List ℕ)) : Type 0 where
  calls : List Call
  hands : HandsOn b calls
  script : map (λ x. x.event) calls ≡ es
  lent-are : map (λ x. x.lent) calls ≡ rooms

walk : (es : List Event) (rooms : List (List ℕ)) → map length rooms ≡ map (λ e. e.room) es → (b : List ℕ) → Walk b es rooms
walk [] [] h b = record { calls = []; hands = tt; script = refl; lent-are = refl }
walk [] (room ∷ rooms) h b = let q : ◌≡◌ {A = ℕ} 0 1 = cc in absurd (omega (arith, q))
walk (e ∷ es) [] h b = let q : ◌≡◌ {A = ℕ} 0 1 = cc in absurd (omega (arith, q))
walk (e ∷ es) (room ∷ rooms) h b =
    let size : length room ≡ e.room = cc in
    let rest : map length rooms ≡ map (λ e. e.room) es = cc in
    let x = call_for b room e.time e.what in
    let named : x.event ≡ e = ap (λ (n : ℕ). record { time = e.time; room = n; what = e.what }) size in
    let w = walk es rooms rest x.kept in
    record {
      calls = x ∷ w.calls;
      hands = (refl, (call-entered b room e.time e.what, w.hands));
      script = ap (λ (f : Event). f ∷ map (λ x. x.event) w.calls) named ∙ ap (λ l. e ∷ l) w.script;
      lent-are = ap (λ l. room ∷ l) w.lent-are;
    }

-- ── set-up ───────────────────────────────────────────────────────────────────

numbers : (l : List Channel) → map channel_number (map (λ n. n.0) l) ≡ l
numbers [] = refl
numbers (n ∷ l) = ap (λ r. n ∷ r) (numbers l)

begun : (identity : ℕ) (l : List ℕ) → set_up_verdict (given identity l) ≡ none → (b : List ℕ) → sized b ≡ true
    → SetUpIn (given identity l) (station_set_up (given identity l) b)
unfolding set_up_returned
begun identity l v b w = by-set-up lives (identity, (lent l, (lent_mut b, tt))) 0 (identity, (lent l, (lent_mut _, tt))) (rw (w, v), refl) refl

pub every-script-is-hosted : EveryScriptIsHosted
unfolding EveryScriptIsHosted
every-script-is-hosted c set es rooms h =
    let l = map (λ (n : Channel). n.0) c.channels in
    let e : given c.identity l ≡ c = ap (λ (r : List Channel). record { identity = c.identity; channels = r }) (numbers c.channels) in
    let bytes = station_bytes (image_of c (fresh c)) in
    let first = station_set_up c bytes in
    let w = walk es rooms h first in
    record {
      calls = w.calls;
      run = record { first = first; begun = rw e at (begun c.identity l (rw e set) bytes (handed-out-is-found-again.0 c (image_of c (fresh c)) (rw set)).0); calls = w.hands };
      script = w.script;
      lent = w.lent-are;
    }
