-- The bytes that a host's run was left last stand for the rules' station.
use Prim.Native.Nat.{ℕ}
use mathlib.Core.Path.{◌≡◌, refl, ap, ◌∙◌}
use mathlib.Core.Bool.{true}
use mathlib.Core.List.{List, [], ◌∷◌, map}
use mathlib.Core.Option.{Option, none, some}
use lib.ListN.{length, replicate, length-replicate}
use Rattle.rules.specs.Rules.Words.{Config, Event}
use Rattle.rules.specs.Rules.Station as R
use Rattle.rules.specs.Rules.Station.{fresh}
use Rattle.rules.specs.Rules.Sound.{sound}
use Rattle.rules.specs.Rules.Calls.{act}
use Rattle.rules.specs.Rules.Verdict.{verdict, judged, step, final}
use Rattle.rules.specs.Statement.{AlwaysSound, station_after}
use Rattle.rules.proofs.Kept.{always-sound, stays-sound}
use Rattle.soundness.proofs.FitLaws.{sound-fits}
use Rattle.station.specs.Model.{image_of}
use Rattle.station.specs.Step.{refusal, stepped_for, stepped_by}
use Rattle.station.proofs.ImageLaws.{model-back, config-back}
use Rattle.lent_layout.specs.Stations.{station_bytes, station_from}
use Rattle.lent_layout.specs.Statement.{FoundAgain}
use Rattle.coast.specs.Events as Exchange
use Rattle.coast.proofs.Theorems.{left_is}
use Rattle.station_theorems.proofs.Laid.{refusal_is}
use Rattle.station_theorems.proofs.Traces.{started}
use Rattle.host_theorems.specs.Calls.{Call, HandsOn, HostRun, last_of}
use Rattle.host_theorems.specs.Scripts.{Hosted, EveryScriptIsHosted}
use Rattle.host_theorems.proofs.Calls.{called}
use Rattle.host_theorems.proofs.Theorems.{begun}
use Rattle.host_theorems.proofs.Scripted.{every-script-is-hosted}
use Rattle.useless_versions.proofs.Events.{house, set-up}

module _ (c : Config) where
  stepped : (m : R.Station) → sound c m ≡ true → (e : Event) → (stepped_by (image_of c m) e).station ≡ image_of c (step c m e).next
  unfolding stepped_by step
  stepped m good e = let f = sound-fits c m good in rw (refusal_is c m f e, config-back c m f, model-back c m f) (go (verdict c m e))
    where
      go : (o : Option ℕ) → (stepped_for (image_of c m) (act c m e) o).station ≡ image_of c (judged o m (act c m e)).next
      go none = rw (config-back c m (sound-fits c m good)) refl
      go (some n) = refl

  sound-on : (m : R.Station) → sound c m ≡ true → (e : Event) → sound c (step c m e).next ≡ true
  unfolding step
  sound-on m good e = go (verdict c m e) refl
    where
      go : (o : Option ℕ) → verdict c m e ≡ o → sound c (judged (verdict c m e) m (act c m e)).next ≡ true
      go none v = rw v (stays-sound c m e v)
      go (some n) v = rw v good

  stands_on : (xs : List Call) (m : R.Station) → sound c m ≡ true → FoundAgain (image_of c m) → HandsOn (station_bytes (image_of c m)) xs
      → station_from (last_of (station_bytes (image_of c m)) xs) ≡ image_of c (final c (map (λ x. x.event) xs) m)
  unfolding final
  stands_on [] m good f h = f.1
  stands_on (x ∷ xs) m good f h =
      let e = x.event in
      let next = (step c m e).next in
      let l = left_is (image_of c m) f e (refusal (image_of c m) e) refl in
      let on = stepped m good e in
      let kept : x.kept ≡ station_bytes (image_of c next) =
      (called x h.1.0).kept-is ∙ ap (λ (b : List ℕ). Exchange.station_after b e) h.0 ∙ l.0 ∙ ap station_bytes on in
      let found : FoundAgain (image_of c next) = rw on at l.1 in
      ap (λ (b : List ℕ). station_from (last_of b xs)) kept ∙ stands_on xs next (sound-on m good e) found (rw kept at h.1.1)

  stands-for : (xs : List Call) (t : HostRun c xs) → station_from (last_of t.first xs) ≡ image_of c (station_after c (map (λ x. x.event) xs))
  unfolding AlwaysSound final
  stands-for xs t =
      let g = begun c t.first t.begun in
      let s = started c g.station g.begins in
      let bytes : t.first ≡ station_bytes (image_of c (fresh c)) = g.bytes ∙ ap station_bytes s.1 in
      let found : FoundAgain (image_of c (fresh c)) = rw s.1 at g.found in
      ap (λ (b : List ℕ). station_from (last_of b xs)) bytes ∙ stands_on xs (fresh c) (always-sound c s.0 []) found (rw bytes at t.calls)

-- ── a script, played by a host ───────────────────────────────────────────────

abbrev rooms : List Event → List (List ℕ)
rooms es = map (λ e. replicate e.room 0) es

sized : (es : List Event) → map length (rooms es) ≡ map (λ e. e.room) es
sized [] = refl
sized (e ∷ es) = rw (length-replicate {A = ℕ} e.room 0, sized es)

pub hosting : (es : List Event) → Hosted house es (rooms es)
unfolding EveryScriptIsHosted
hosting es = every-script-is-hosted house set-up es (rooms es) (sized es)

abbrev pub bytes_after : List Event → List ℕ
bytes_after es = last_of (hosting es).run.first (hosting es).calls

pub stands : (es : List Event) → station_from (bytes_after es) ≡ image_of house (station_after house es)
stands es = stands-for house (hosting es).calls (hosting es).run ∙ ap (λ (l : List Event). image_of house (station_after house l)) (hosting es).script
