-- The events: a script for each, with the rules' answers computed, shuts the useless versions of its method out.
use Prim.Native.Nat.{ℕ, zero, suc, ◌+◌, ◌*◌, ◌≤◌, ◌<◌}
use mathlib.Core.Path.{◌≡◌, refl, sym, ap, ◌∙◌}
use mathlib.Core.Bool.{Bool, true, false, not, cond, ◌&&◌, true≢false}
use mathlib.Core.List.{List, [], ◌∷◌, ◌++◌, map}
use mathlib.Core.Option.{Option, none, some}
use native.Mathlib.Omega.{arith}
use lib.Dec.{eqb}
use lib.ListN.{length, drop, replicate, length-replicate}
use borrow.Author.Tests.{eqb-true, eqb-false, not-true}
use Rattle.sequence.proofs.Tests.{both_true}
use Rattle.rules.specs.Rules.Words.{Config, heard, signal, operator, What, tick, on_channel70, on_slot, from_ashore, Event, carrier_on, carrier_off, acknowledge, call_ship, unable, dial, release_line, ringing_on, ringing_off, busy_tone}
use Rattle.rules.specs.Rules.Places.{is_some}
use Rattle.rules.specs.Rules.Actions.{Action, does, over, charge}
use Rattle.rules.specs.Rules.Station as R
use Rattle.rules.specs.Rules.Station.{next_due}
use Rattle.rules.specs.Rules.Sound.{sound}
use Rattle.rules.specs.Rules.Calls.{act}
use Rattle.rules.specs.Rules.Verdict.{room_needed, verdict, set_up_verdict}
use Rattle.rules.specs.Rules.Bytes.{block_of, blocks}
use Rattle.rules.specs.Rules.Printed.{runs_open}
use Rattle.rules.specs.Statement.{ZeroOrOne, AtMostEight, AlwaysSound, station_after}
use Rattle.rules.specs.Tables.Runs.{station, at, on, ticks}
use Rattle.rules.specs.Tables.Cases.{p1, p4, asks, works}
use Rattle.rules.proofs.Answered.{zero-or-one}
use Rattle.rules.proofs.Kept.{always-sound}
use Rattle.rules.proofs.Eight.{at-most-eight}
use Rattle.slots.specs.declared.Phase.{Phase}
use Rattle.slots.specs.declared.Slot.{Slot}
use Rattle.slots.specs.Images.{slot_image}
use Rattle.station.specs.declared.Station.{Station}
use Rattle.station.specs.declared.Stepped.{Stepped}
use Rattle.station.specs.Model.{image_of, model_of, config_of}
use Rattle.station.specs.Step.{refusal}
use Rattle.station.proofs.GateLaws.{passed}
use Rattle.phase_fields.specs.Phases.{phase_fields}
use Rattle.station_theorems.specs.Steps.{Step, Allowed, last_of, events_in}
use Rattle.station_theorems.specs.Scripts.{Traced, EveryScriptIsTraced}
use Rattle.station_theorems.specs.Rooms.{kind_in}
use Rattle.station_theorems.proofs.ReadBack.{first_block, behind-block}
use Rattle.station_theorems.proofs.Steps.{signals, every-signal, hands, every-hand, allowed-does, back-for, left-for}
use Rattle.station_theorems.proofs.Traces.{done-back, refused-back}
use Rattle.station_theorems.proofs.Theorems.{last-is}
use Rattle.station_theorems.proofs.Scripted.{every-script-is-traced}
use Rattle.useless_versions.specs.Events.{Method, heard-on-channel-70, heard-on-slot, call-from-ashore, on-tick, signalled, handled, method_of, Call, Back, event_of, step_by, call_in, Meets, Comes, laid_in, signs, NoUselessEvent}
use Rattle.useless_versions.proofs.ShutOut.{shut_out}

-- ── the scripts ──────────────────────────────────────────────────────────────

-- on a station with channel 26: what came before
pub record Script : Type 0 where
  pub early : List Event
  pub last : Event

abbrev pub past : Script → List Event
past s = s.early ++ s.last ∷ []

abbrev script : List Event → Event → Script
script es e = record { early = es; last = e }

-- what then has to be done at 300; the same at 0, right behind it, has to be refused
abbrev pub doing : Method → What
doing heard-on-channel-70 = on_channel70 p1
doing heard-on-slot = on_slot 0 (heard p4)
doing call-from-ashore = from_ashore (record { ship = 200056789; mode = 101; digits = 7 ∷ [] })
doing on-tick = tick
doing (signalled g) = on_slot 0 (signal g)
doing (handled h) = on_slot 0 (operator h)

pub doing-method : (k : Method) → method_of (doing k) ≡ k
doing-method heard-on-channel-70 = refl
doing-method heard-on-slot = refl
doing-method call-from-ashore = refl
doing-method on-tick = refl
doing-method (signalled g) = refl
doing-method (handled h) = refl

-- ── computed ─────────────────────────────────────────────────────────────────

-- a number for each phase, and whether its carrier is there
abbrev phase_sign : Phase → ℕ
phase_sign p = 2 * (phase_fields p).kind + (phase_fields p).carrier.mark

abbrev first_sign : List Slot → ℕ
first_sign [] = 0
first_sign (s ∷ ss) = phase_sign s.phase

abbrev pub house : Config
house = station 1

-- the models before and after what is done
abbrev pub before : Script → R.Station
before s = station_after house (past s)

abbrev after : Script → What → R.Station
after s w = station_after house (past s ++ at 300 w ∷ [])

abbrev sign_of : R.Station → ℕ
sign_of m = first_sign (image_of house m).slots

abbrev holds : What → Script → Bool
holds w s =
    not (is_some (verdict house (before s) (at 300 w)))
    && (eqb (act house (before s) (at 300 w)).answer 0
    && (not (eqb (sign_of (before s)) (sign_of (act house (before s) (at 300 w)).next))
    && is_some (verdict house (after s w) (at 0 w))))

-- the first of several in which it does something
abbrev first_of : What → Script → List Script → Script
first_of w s [] = s
first_of w s (x ∷ xs) = cond (holds w s) s (first_of w x xs)

-- a signal comes while the line is dialled, or behind another one; a hand on a free slot, or behind the other
abbrev pub scripts : Method → Script
scripts heard-on-channel-70 = script [] (ticks 10)
scripts heard-on-slot = script [] (asks 200)
scripts call-from-ashore = script [] (ticks 10)
scripts on-tick = script [] (asks 100)
scripts (signalled g) = first_of (on_slot 0 (signal g)) (script (asks 200 ∷ []) (works 210)) (map (λ f. script (asks 200 ∷ works 210 ∷ []) (on 260 0 (signal f))) signals)
scripts (handled h) = first_of (on_slot 0 (operator h)) (script [] (ticks 10)) (map (λ f. script [] (on 50 0 (operator f))) hands)

computed : (k : Method) → holds (doing k) (scripts k) ≡ true
unfolding image_of slot_image runs_open
computed heard-on-channel-70 = refl
computed heard-on-slot = refl
computed call-from-ashore = refl
computed on-tick = refl
computed (signalled g) = every-signal (λ f. holds (doing (signalled f)) (scripts (signalled f)) ≡ true) (refl, (refl, (refl, (refl, (refl, tt))))) g
computed (handled h) = every-hand (λ f. holds (doing (handled f)) (scripts (handled f)) ≡ true) (refl, (refl, tt)) h

-- nothing is due on a fresh station, and behind P1 at 100 the offer is
abbrev pub asked : List Event
asked = asks 100 ∷ []

pub nothing-due : next_due (station_after house []) ≡ none
unfolding runs_open
nothing-due = refl

pub due-261 : next_due (station_after house asked) ≡ some 261
unfolding runs_open
due-261 = refl

record Told (w : What) (s : Script) : Type 0 where
  accepted : verdict house (before s) (at 300 w) ≡ none
  done : (act house (before s) (at 300 w)).answer ≡ 0
  changed : sign_of (before s) ≡ sign_of (act house (before s) (at 300 w)).next → ⊥
  number : ℕ
  refused : verdict house (after s w) (at 0 w) ≡ some number

nothing-in : (o : Option ℕ) → not (is_some o) ≡ true → o ≡ none
nothing-in none e = refl
nothing-in (some n) e = cc

number-in : (o : Option ℕ) → is_some o ≡ true → (n : ℕ) × (o ≡ some n)
number-in none e = absurd (true≢false (sym e))
number-in (some n) e = (n, refl)

told : (w : What) (s : Script) → holds w s ≡ true → Told w s
told w s h =
    let a = both_true _ _ h in
    let b = both_true _ _ a.1 in
    let c = both_true _ _ b.1 in
    let n = number-in (verdict house (after s w) (at 0 w)) c.1 in
    record {
      accepted = nothing-in (verdict house (before s) (at 300 w)) a.0;
      done = eqb-true _ 0 b.0;
      changed = eqb-false _ _ (not-true _ c.0);
      number = n.0;
      refused = n.1;
    }

-- ── a call on the station that a script leads to ─────────────────────────────

pub set-up : set_up_verdict house ≡ none
unfolding runs_open
set-up = refl

pub leads : (es : List Event) → Traced house es
unfolding EveryScriptIsTraced
leads es = every-script-is-traced house set-up es

abbrev pub reached : List Event → Station
reached es = last_of (leads es).trace.first (leads es).steps

abbrev pub calling : List Event → ℕ → What → Call
calling es t w = record { time = t; what = w; before = reached es; lent = replicate room_needed 0 }

as-event : (es : List Event) (t : ℕ) (w : What) → event_of (calling es t w) ≡ at t w
as-event es t w = ap (λ (n : ℕ). record { time = t; room = n; what = w }) (length-replicate {A = ℕ} room_needed 0)

pub reached-is : (es : List Event) → reached es ≡ image_of house (station_after house es)
reached-is es = last-is house (leads es).steps (leads es).trace ∙ ap (λ (l : List Event). image_of house (station_after house l)) (leads es).script

pub good : (es : List Event) → sound house (station_after house es) ≡ true
unfolding AlwaysSound
good es = always-sound house set-up es

comes : (es : List Event) (t : ℕ) (w : What) (k : Method) → method_of w ≡ k → Comes k (map call_in (leads es).steps) (calling es t w)
comes es t w k e = record { method = e; config = house; steps = (leads es).steps; trace = (leads es).trace; before = refl; handed = refl }

pub one_more : (es : List Event) (e : Event) → length (es ++ e ∷ []) ≡ suc (length es)
one_more [] e = refl
one_more (d ∷ es) e = ap suc (one_more es e)

not_first : (es : List Event) (e : Event) → map call_in (leads (es ++ e ∷ [])).steps ≡ [] → ⊥
not_first es e p = omega (arith, many (leads (es ++ e ∷ [])).steps, ap length p, ap length (leads (es ++ e ∷ [])).script, one_more es e)
  where
    many : (l : List Step) → length (map call_in l) ≡ length (events_in l)
    many [] = refl
    many (x ∷ l) = ap suc (many l)

-- ── what its contract forces ─────────────────────────────────────────────────

module _ (k : Method) where
  abbrev s : Script
  s = scripts k

  abbrev w : What
  w = doing k

  abbrev pub later : List Event
  later = past s ++ at 300 w ∷ []

  abbrev it : Told (doing k) (scripts k)
  it = told (doing k) (scripts k) (computed k)

  abbrev pub doable : Call
  doable = calling (past s) 300 w

  abbrev pub bad : Call
  bad = calling later 0 w

  pub accepted : verdict house (before s) (event_of doable) ≡ none
  accepted = ap (verdict house (before s)) (as-event (past s) 300 w) ∙ it.accepted

  module _ (y : Back) (m : Meets k doable y) where
    pub answered : y.stepped.answer ≡ 0
    answered =
        ap (λ (r : Stepped). r.answer) (done-back house (before s) (good (past s)) (step_by doable y) (reached-is (past s)) (m (doing-method k)) accepted)
        ∙ it.done

    pub not-idle : y.stepped.station.slots ≡ doable.before.slots → ⊥
    not-idle same =
        let next = ap (λ (r : Stepped). first_sign r.station.slots) (done-back house (before s) (good (past s)) (step_by doable y) (reached-is (past s)) (m (doing-method k)) accepted) in
        let came = ap (λ (z : Station). first_sign z.slots) (reached-is (past s)) in
        it.changed (sym came ∙ sym (ap first_sign same) ∙ next)

  pub refused : (y : Back) → Meets k bad y → 1 < y.stepped.answer
  unfolding ZeroOrOne
  refused y m =
      let v : verdict house (after s w) (event_of bad) ≡ some it.number = ap (verdict house (after s w)) (as-event later 0 w) ∙ it.refused in
      let b = ap (λ (r : Stepped). r.answer) (refused-back house (after s w) (good later) (step_by bad y) (reached-is later) (m (doing-method k)) it.number v) in
      let n = (zero-or-one house (after s w) (event_of bad)).1 it.number v in
      omega (arith, b, n)

-- ── the count ────────────────────────────────────────────────────────────────

has-kind : (c : Config) (a : Action) → eqb (kind_in (block_of c a)) 0 ≡ false
unfolding runs_open
has-kind c (does (carrier_on i)) = refl
has-kind c (does (carrier_off i)) = refl
has-kind c (does (acknowledge i r)) = refl
has-kind c (does (call_ship i r)) = refl
has-kind c (does (unable n x l)) = refl
has-kind c (does (dial i l)) = refl
has-kind c (does (release_line i)) = refl
has-kind c (does (ringing_on i)) = refl
has-kind c (does (ringing_off i)) = refl
has-kind c (does (busy_tone i)) = refl
has-kind c (over i e x l n) = refl
has-kind c (charge h) = refl

none-laid : (n size : ℕ) → laid_in n (replicate size 0) ≡ 0
unfolding laid_in
none-laid zero size = refl
none-laid (suc n) zero = refl
none-laid (suc n) (suc size) = refl

-- behind the front of a room that was blank it is blank
pub blank-behind : (b n size : ℕ) → (m : ℕ) × (drop n (replicate size b) ≡ replicate m b)
blank-behind b zero size = (size, refl)
blank-behind b (suc n) zero = (0, refl)
blank-behind b (suc n) (suc size) = blank-behind b n size

all_laid : (c : Config) (l : List Action) (n size : ℕ) → length l ≤ n → laid_in n (blocks c l ++ replicate size 0) ≡ length l
unfolding laid_in
all_laid c [] n size h = none-laid n size
all_laid c (a ∷ l) zero size h = absurd (omega arith)
all_laid c (a ∷ l) (suc n) size h =
    let zeros : List ℕ = replicate size 0 in
    rw (first_block c a l zeros, behind-block c a l zeros, has-kind c a) (ap suc (all_laid c l n size (omega arith)))

pub counted : (x : Call) (y : Back) → Allowed (step_by x y) → (size : ℕ) → x.lent ≡ replicate size 0 → y.stepped.count ≡ laid_in 8 y.left
unfolding AtMostEight
counted x y a size zeros = go (refusal x.before (event_of x)) refl
  where
    go : (o : Option ℕ) → refusal x.before (event_of x) ≡ o → y.stepped.count ≡ laid_in 8 y.left
    go none e =
        let c = config_of x.before in
        let acts = (act (config_of x.before) (model_of x.before) (event_of x)).acts in
        let n = ap (λ (r : Stepped). r.count) (back-for (step_by x y) (allowed-does (step_by x y) a) none e) in
        let more = blank-behind 0 (40 * length acts) size in
        let left : y.left ≡ blocks c acts ++ replicate more.0 0 = left-for (step_by x y) (allowed-does (step_by x y) a) none e ∙ (rw (zeros, more.1)) in
        let few = (at-most-eight c (model_of x.before) (event_of x) (passed x.before (event_of x) (sym e)).sounds).0 in
        n ∙ sym (rw left (all_laid c acts 8 more.0 few))
    go (some k) e =
        let n = ap (λ (r : Stepped). r.count) (back-for (step_by x y) (allowed-does (step_by x y) a) (some k) e) in
        let left : y.left ≡ replicate size 0 = left-for (step_by x y) (allowed-does (step_by x y) a) (some k) e ∙ zeros in
        n ∙ sym (rw left (none-laid 8 size))

-- ── the theorem ──────────────────────────────────────────────────────────────

pub no-useless-event : NoUselessEvent
unfolding NoUselessEvent
no-useless-event k =
    shut_out (Comes k) (signs k) (Meets k) (record {
      past = map call_in (leads (past (scripts k))).steps;
      begun = not_first (scripts k).early (scripts k).last;
      doable = doable k;
      doable-comes = comes (past (scripts k)) 300 (doing k) k (doing-method k);
      done = answered k;
      busy = not-idle k;
      later = map call_in (leads (later k)).steps;
      begun-later = not_first (past (scripts k)) (at 300 (doing k));
      bad = bad k;
      bad-comes = comes (later k) 0 (doing k) k (doing-method k);
      refused = refused k;
      counted = λ x y m u. u.other (counted x y (m u.method) u.size u.zeros);
    })
