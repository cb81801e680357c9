-- The entries for events in C: the scripts of the events, played by a host, shut the useless versions out.
use Prim.Native.Nat.{ℕ, suc, ◌/◌, ◌%◌, ◌<◌}
use mathlib.Core.Path.{◌≡◌, refl, sym, ap, ◌∙◌}
use mathlib.Core.List.{List, [], ◌∷◌, ◌++◌, map}
use mathlib.Core.Option.{none}
use native.Mathlib.Omega.{arith}
use lib.ListN.{length, replicate}
use Rattle.rules.specs.Rules.Words.{What, Event}
use Rattle.rules.specs.Rules.Verdict.{room_needed}
use Rattle.rules.specs.Statement.{station_after}
use Rattle.rules.specs.Tables.Runs.{at}
use Rattle.soundness.proofs.FitLaws.{sound-fits}
use Rattle.station.specs.declared.Station.{Station}
use Rattle.station.specs.Step.{refusal, stepped_by, room_after}
use Rattle.lent_layout.specs.Stations.{station_from}
use Rattle.coast.specs.Events.{returned, room_left}
use Rattle.coast.proofs.Theorems.{taken-apart, accepted-leaves-its-station}
use Rattle.station_theorems.proofs.Laid.{refusal_is}
use Rattle.station_theorems.proofs.Steps.{step-allowed}
use Rattle.host_theorems.specs.Calls as Host
use Rattle.host_theorems.specs.Calls.{Entered}
use Rattle.host_theorems.proofs.Small.{stepped-in-byte}
use Rattle.host_theorems.proofs.Calls.{called}
use Rattle.useless_versions.specs.Events as Rack
use Rattle.useless_versions.specs.Events.{Method, method_of, laid_in}
use Rattle.useless_versions.specs.Entries.{Call, Back, event_of, call_by, call_in, Meets, Comes, signs, NoUselessEntry}
use Rattle.useless_versions.proofs.ShutOut.{shut_out}
use Rattle.useless_versions.proofs.Events as Shown
use Rattle.useless_versions.proofs.Events.{house, past, scripts, doing, doing-method, later, reached, reached-is, good, one_more}
use Rattle.useless_versions.proofs.Hosted.{hosting, bytes_after, stands}

-- ── any call ─────────────────────────────────────────────────────────────────

-- what the station's method hands back for it
abbrev step_on : Station → Call → Rack.Back
step_on s x = record { stepped = stepped_by s (event_of x); left = room_after s x.lent (event_of x) }

abbrev rack_call : Station → Call → Rack.Call
rack_call s x = record { time = x.time; what = x.what; before = s; lent = x.lent }

module _ (x : Call) (y : Back) (m : Entered (call_by x y)) (s : Station) (stands : station_from x.station ≡ s) where
  number_is : (y.number % 256 ≡ (stepped_by s (event_of x)).answer) × (y.number / 256 % 256 ≡ (stepped_by s (event_of x)).count)
  unfolding returned
  number_is =
      let n = rw stands at (called (call_by x y) m).number_is in
      let small = stepped-in-byte s (event_of x) in
      let parts = taken-apart (stepped_by s (event_of x)) small.0 small.1 in
      (ap (λ n. n % 256) n ∙ parts.0, ap (λ n. n / 256 % 256) n ∙ parts.1)

  left_as : y.left ≡ room_after s x.lent (event_of x)
  unfolding room_left
  left_as = rw stands at (called (call_by x y) m).left_is

  kept-as : refusal s (event_of x) ≡ none → station_from y.kept ≡ (stepped_by s (event_of x)).station
  kept-as v =
      let k = accepted-leaves-its-station x.station (event_of x) (rw stands v) in
      ap station_from ((called (call_by x y) m).kept-is ∙ k.0) ∙ k.1.1 ∙ ap (λ (z : Station). (stepped_by z (event_of x)).station) stands

  counted : (size : ℕ) → x.lent ≡ replicate size 0 → y.number / 256 % 256 ≡ laid_in 8 y.left
  counted size zeros =
      number_is.1 ∙ Shown.counted (rack_call s x) (step_on s x) (step-allowed s x.lent x.time x.what) size zeros ∙ ap (laid_in 8) (sym left_as)

-- ── a call on the bytes that a script leads to ───────────────────────────────

stands-for : (es : List Event) → station_from (bytes_after es) ≡ reached es
stands-for es = stands es ∙ sym (reached-is es)

calling : List Event → ℕ → What → Call
calling es t w = record { time = t; what = w; station = bytes_after es; lent = replicate room_needed 0 }

comes : (es : List Event) (t : ℕ) (w : What) (k : Method) → method_of w ≡ k → Comes k (map call_in (hosting es).calls) (calling es t w)
unfolding calling
comes es t w k e = record { method = e; config = house; calls = (hosting es).calls; run = (hosting es).run; before = refl; handed = refl }

not_first : (es : List Event) (e : Event) → map call_in (hosting (es ++ e ∷ [])).calls ≡ [] → ⊥
not_first es e p = omega (arith, ap length p, many (hosting (es ++ e ∷ [])).calls, ap length (hosting (es ++ e ∷ [])).script, one_more es e)
  where
    many : (l : List Host.Call) → length (map call_in l) ≡ length (map (λ x. x.event) l)
    many [] = refl
    many (x ∷ l) = ap suc (many l)

-- ── what an entry's contract forces ──────────────────────────────────────────

module _ (k : Method) where
  abbrev doable : Call
  doable = calling (past (scripts k)) 300 (doing k)

  abbrev bad : Call
  bad = calling (later k) 0 (doing k)

  module _ (y : Back) (m : Meets k doable y) where
    answered : y.number % 256 ≡ 0
    unfolding calling
    answered =
        let s = reached (past (scripts k)) in
        (number_is doable y (m (doing-method k)) s (stands-for (past (scripts k)))).0
        ∙ Shown.answered k (step_on s doable) (λ e. step-allowed s (replicate room_needed 0) 300 (doing k))

    not-idle : (station_from y.kept).slots ≡ (station_from doable.station).slots → ⊥
    unfolding calling
    not-idle same =
        let s = reached (past (scripts k)) in
        let model = station_after house (past (scripts k)) in
        let accepted : refusal s (event_of doable) ≡ none = rw (reached-is (past (scripts k))) (refusal_is house model (sound-fits house model (good (past (scripts k)))) (event_of doable) ∙ Shown.accepted k) in
        let next : (station_from y.kept).slots ≡ (stepped_by s (event_of doable)).station.slots = ap (λ (z : Station). z.slots) (kept-as doable y (m (doing-method k)) s (stands-for (past (scripts k))) accepted) in
        let came : (station_from doable.station).slots ≡ s.slots = ap (λ (z : Station). z.slots) (stands-for (past (scripts k))) in
        Shown.not-idle k (step_on s doable) (λ e. step-allowed s (replicate room_needed 0) 300 (doing k)) (sym next ∙ same ∙ came)

  refused : (y : Back) → Meets k bad y → 1 < y.number % 256
  unfolding calling
  refused y m =
      let s = reached (later k) in
      let n = (number_is bad y (m (doing-method k)) s (stands-for (later k))).0 in
      let r = Shown.refused k (step_on s bad) (λ e. step-allowed s (replicate room_needed 0) 0 (doing k)) in
      omega (arith, n, r)

pub no-useless-entry : NoUselessEntry
unfolding NoUselessEntry
no-useless-entry k =
    shut_out (Comes k) (signs k) (Meets k) (record {
      past = map call_in (hosting (past (scripts k))).calls;
      begun = not_first (scripts k).early (scripts k).last;
      doable = doable k;
      doable-comes = comes (past (scripts k)) 300 (doing k) k (doing-method k);
      done = answered k;
      busy = not-idle k;
      later = map call_in (hosting (later k)).calls;
      begun-later = not_first (past (scripts k)) (at 300 (doing k));
      bad = bad k;
      bad-comes = comes (later k) 0 (doing k) k (doing-method k);
      refused = refused k;
      counted = λ x y m u. u.other (counted x y (m u.method) _ refl u.size u.zeros);
    })
