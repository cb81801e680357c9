-- An outcome in the words of the rules is its parts together: the answer, the actions, and the station with its slot and its queue so changed.
use Prim.Native.Nat.{ℕ, ◌≤◌}
use mathlib.Core.Bool.{Bool, true, false}
use mathlib.Core.List.{List, [], ◌∷◌}
use mathlib.Core.Path.{◌≡◌, refl, ap}
use native.Mathlib.Omega.{arith}
use Rattle.rules.specs.Rules.Words.{Request, carrier_off}
use Rattle.rules.specs.Rules.Actions.{Action, does, the_coast}
use Rattle.rules.specs.Rules.Station as R
use Rattle.rules.specs.Rules.Station.{Dealing, kind_wait, dialling_wait, hold_wait, queue_wait, used_up, new_call, set_queue}
use Rattle.rules.specs.Rules.Sound.{limit}
use Rattle.rules.specs.Rules.Requests.{also, rung_back, freed_for, freed, end_acts, coast_end, repeated, afresh, rule_d, offer, rule_f}
use Rattle.rules.specs.Rules.Ashore.{called_from}
use Rattle.rules.specs.Rules.Calls.{dial_now, starts_ringing, drop_acts, transmitted, ship_end, say_again, offer_due, rung_back_again, call_again, fire}
use Rattle.outcomes.specs.declared.Talk.{Talk}
use Rattle.outcomes.specs.declared.Outcome.{Outcome}
use Rattle.outcomes.specs.declared.Outcome.TheVariants.{Ignored, Passes, Turns, Dials, RingsBackAgain, Frees, Clears, CoastEnds, ShipEnds, SaysAgain, Repeats, Renews, Redials, Offers, Joins, Replaces, Unable, Drops, Calls, CallsAgain, StartsRinging, Transmits, DropsCall}
use Rattle.outcomes.specs.Does.{since_of, out_of, scene_of, acts_of, turned, requeued, applied}
use Rattle.outcomes.proofs.WaitLaws.{wait-fits}

module _ (i : ℕ) (own : Dealing) (asked : Request) (st : R.Station) (h : st.clock ≤ limit) where
  -- a slot is freed: no number is left, nobody waits, or the oldest is rung back
  frees-by : (b : Bool) (q : List R.Waiting) → used_up st ≡ b → st.queue ≡ q → freed i st ≡ applied (scene_of i own asked st) Frees st
  unfolding freed freed_for rung_back new_call set_queue applied scene_of acts_of turned requeued
  frees-by true q u e = rw u refl
  frees-by false [] u e = rw (u, e) refl
  frees-by false (w ∷ q) u e = rw (u, e, wait-fits st.clock (kind_wait R.first_ring_back) h (omega arith)) refl

  frees-applied : freed i st ≡ applied (scene_of i own asked st) Frees st
  frees-applied = frees-by (used_up st) st.queue refl refl

  -- with actions before it
  also-frees : (a : List Action) → also a (freed i st) ≡ also a (applied (scene_of i own asked st) Frees st)
  also-frees a = ap (also a) frees-applied

  clears-applied : offer_due i st ≡ applied (scene_of i own asked st) Clears st
  unfolding offer_due applied acts_of scene_of
  clears-applied = also-frees (does (carrier_off i) ∷ [])

  ends-applied : (k : Talk) → coast_end i own (since_of k) st ≡ applied (scene_of i own asked st) (CoastEnds k) st
  unfolding coast_end applied acts_of scene_of
  ends-applied k = also-frees (end_acts i the_coast own (since_of k) st.clock)

  redials-applied : (k : Talk) → coast_end i own (since_of k) st ≡ applied (scene_of i own asked st) (Redials k) st
  unfolding applied acts_of
  redials-applied k = ends-applied k

  drops-call-applied : (rung tone : Bool) → also (drop_acts i rung tone) (freed i st) ≡ applied (scene_of i own asked st) (DropsCall rung tone) st
  unfolding applied acts_of scene_of
  drops-call-applied rung tone = also-frees (drop_acts i rung tone)

  pub outcome-applied : (o : Outcome) → out_of i own asked o st ≡ applied (scene_of i own asked st) o st
  unfolding out_of applied scene_of acts_of turned requeued dial_now rung_back_again ship_end say_again repeated afresh offer rule_d rule_f fire called_from call_again starts_ringing transmitted
  outcome-applied Ignored = refl
  outcome-applied Passes = refl
  outcome-applied (Turns p) = refl
  outcome-applied Dials = rw (wait-fits st.clock dialling_wait h (omega arith)) refl
  outcome-applied RingsBackAgain = rw (wait-fits st.clock (kind_wait R.second_ring_back) h (omega arith)) refl
  outcome-applied Frees = frees-applied
  outcome-applied Clears = clears-applied
  outcome-applied (CoastEnds k) = ends-applied k
  outcome-applied (ShipEnds k) = rw (wait-fits st.clock hold_wait h (omega arith)) refl
  outcome-applied (SaysAgain n) = refl
  outcome-applied Repeats = refl
  outcome-applied Renews = rw (wait-fits st.clock (kind_wait R.offered) h (omega arith)) refl
  outcome-applied (Redials k) = redials-applied k
  outcome-applied Offers = rw (wait-fits st.clock (kind_wait R.offered) h (omega arith)) refl
  outcome-applied Joins = rw (wait-fits st.clock queue_wait h (omega arith)) refl
  outcome-applied (Replaces k) = refl
  outcome-applied (Unable n) = refl
  outcome-applied (Drops k) = refl
  outcome-applied Calls = rw (wait-fits st.clock (kind_wait R.first_call) h (omega arith)) refl
  outcome-applied CallsAgain = rw (wait-fits st.clock (kind_wait R.second_call) h (omega arith)) refl
  outcome-applied StartsRinging = rw (wait-fits st.clock (kind_wait R.ringing) h (omega arith)) refl
  outcome-applied Transmits = refl
  outcome-applied (DropsCall rung tone) = drops-call-applied rung tone
