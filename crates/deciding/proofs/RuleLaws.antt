-- What is decided for an event is what the rules do with it: by the phase of the slot i, which keeps r, where the event asks for q.
use Prim.Native.Nat.{ℕ, ◌≤◌}
use mathlib.Core.Bool.{Bool, true, false, cond}
use mathlib.Core.Option.{Option, none, some}
use mathlib.Core.Path.{◌≡◌, refl, ap, sym, ◌∙◌}
use Rattle.std.specs.Prelude.{Option as Optional, Some, None}
use native.Mathlib.Omega.{arith}
use lib.ListN.{length}
use lib.Dec.{ltb}
use Rattle.rules.specs.Rules.Places.{lowest, is_some}
use Rattle.rules.specs.Rules.Sound.{limit, queue_room}
use Rattle.rules.specs.Rules.Words as W
use Rattle.rules.specs.Rules.Words.{Party, is, Request, simplex, duplex}
use Rattle.rules.specs.Rules.Waits.{of_queue}
use Rattle.rules.specs.Rules.Station as R
use Rattle.rules.specs.Rules.Station.{set_clock, kind_wait, reply_wait, carrier_wait, queue_wait, is_free, used_up}
use Rattle.rules.specs.Rules.Requests.{ignored, coast_end, same, rule_a, no_number, afresh, rule_b, rule_c, rule_f, rule_g, redial, b_or_c, e_to_g, newcomer, waiting_or_new, d_to_g}
use Rattle.rules.specs.Rules.Calls.{working_on, working_kind, bq_for, bq_kind, agreed, dropped, declined_on, declined_kind, dialled_out_on, dialled_out_stage, off_hook_on, off_hook_stage, start_loss, down_on, up_on, up_kind, ship_end, ship_end_on, end_on, hung_on, hung_kind, signal_on, take_on, give_on, hand_on, pending_due, reply_due, main_on, fire, ticked}
use Rattle.requests.specs.declared.Mode.{Mode}
use Rattle.requests.specs.declared.Mode.TheVariants.{Simplex, Duplex}
use Rattle.requests.specs.Views.{mode_of}
use Rattle.slots.specs.declared.Carrier.{Carrier}
use Rattle.slots.specs.declared.Carrier.TheVariants.{Present, Lost}
use Rattle.slots.specs.declared.Phase.{Phase}
use Rattle.slots.specs.declared.Signal.{Signal}
use Rattle.slots.specs.declared.Signal.TheVariants.{LineDialledOut, LineLifted, LineHung, CarrierHeard, CarrierLost}
use Rattle.slots.specs.declared.Hand.{Hand}
use Rattle.slots.specs.declared.Hand.TheVariants.{Takes, GivesBack}
use Rattle.slots.specs.declared.QueuePlace.{QueuePlace}
use Rattle.slots.specs.Phases.{carrier_of, phase_view}
use Rattle.slots.specs.Views.{signal_view, hand_view, place_view}
use Rattle.slots.proofs.PhaseLaws.{by-phase}
use Rattle.outcomes.specs.declared.Talk.{Talk}
use Rattle.outcomes.specs.declared.Talk.TheVariants.{Unanswered, Since}
use Rattle.outcomes.specs.declared.Outcome.TheVariants.{Passes, Renews, Joins, Unable, Drops}
use Rattle.outcomes.specs.Does.{since_of, out_of, behind, without_slot, whole_of, time_of}
use Rattle.outcomes.proofs.WaitLaws.{wait-fits}
use Rattle.deciding.specs.Decides.{dialled_out_by, off_hook_by, up_by, loss_from, down_by, coast_end_by, hung_by, declined_by, data_by, working_by, ship_end_by, bq_by, by_signal, take_by, give_back_by, by_hand, main_due_by, while_left, rule_b_by, rule_c_by, asked_again_by, newcomer_by, d_to_g_by}

carrier-short : (m : W.Mode) → carrier_wait m ≤ queue_wait
carrier-short simplex = omega arith
carrier-short duplex = omega arith

module _ (i : ℕ) (st : R.Station) (r : R.Dealing) (q : Request) where
  -- ── the line, the carrier, the operator, a wait that falls due ──

  dialled-out-is : st.clock ≤ limit → (p : Phase) → out_of i r q (dialled_out_by (time_of st) p) st ≡ dialled_out_on i st (phase_view p r)
  unfolding out_of dialled_out_on dialled_out_stage
  dialled-out-is h = by-phase _ refl (λ t. refl) (λ t. refl) (λ t. refl) (λ t. refl) (λ t l. rw (wait-fits st.clock reply_wait h (omega arith)) refl) (λ t l. refl) (λ t n. refl) refl (λ t l. refl) (λ t. refl) (λ t. refl) (λ t. refl)

  off-hook-is : (p : Phase) → out_of i r q (off_hook_by (time_of st) p) st ≡ off_hook_on i st (phase_view p r)
  unfolding out_of off_hook_on off_hook_stage
  off-hook-is = by-phase _ refl (λ t. refl) (λ t. refl) (λ t. refl) (λ t. refl) (λ t l. refl) (λ t l. refl) (λ t n. refl) refl (λ t l. refl) (λ t. refl) (λ t. refl) (λ t. refl)

  up_is : (p : Phase) → out_of i r q (up_by p) st ≡ up_on i st (phase_view p r)
  unfolding out_of up_on up_kind
  up_is = by-phase _ refl (λ t. refl) (λ t. refl) (λ t. refl) (λ t. refl) (λ t l. refl) (λ t l. refl) (λ t n. refl) refl (λ t l. refl) (λ t. refl) (λ t. refl) (λ t. refl)

  loss-is : (m : Mode) → mode_of m ≡ r.request.mode → st.clock ≤ limit → (l : Carrier) → carrier_of (loss_from (time_of st) m l) ≡ start_loss st.clock r.request.mode (carrier_of l)
  loss-is m e h Present = rw e (ap some (wait-fits st.clock (carrier_wait r.request.mode) h (carrier-short r.request.mode)))
  loss-is m e h (Lost d) = refl

  down_is : (m : Mode) → mode_of m ≡ r.request.mode → st.clock ≤ limit → (p : Phase) → out_of i r q (down_by (time_of st) m p) st ≡ down_on i st (phase_view p r)
  unfolding out_of down_on
  down_is m e h = by-phase _ refl (λ t. refl) (λ t. refl) (λ t. refl) (λ t. refl) (λ t l. rw (loss-is m e h l) refl) (λ t l. rw (loss-is m e h l) refl) (λ t n. refl) refl (λ t l. rw (loss-is m e h l) refl) (λ t. refl) (λ t. refl) (λ t. refl)

  pub coast-end-is : (p : Phase) → out_of i r q (coast_end_by p) st ≡ end_on i st (phase_view p r)
  unfolding out_of end_on coast_end
  coast-end-is = by-phase _ refl (λ t. refl) (λ t. refl) (λ t. refl) (λ t. refl) (λ t l. refl) (λ t l. refl) (λ t n. refl) refl (λ t l. refl) (λ t. refl) (λ t. refl) (λ t. refl)

  hung-is : (p : Phase) → out_of i r q (hung_by p) st ≡ hung_on i st (phase_view p r)
  unfolding out_of hung_on hung_kind dropped coast_end
  hung-is = by-phase _ refl (λ t. refl) (λ t. refl) (λ t. refl) (λ t. refl) (λ t l. refl) (λ t l. refl) (λ t n. refl) refl (λ t l. refl) (λ t. refl) (λ t. refl) (λ t. refl)

  pub declined-is : (p : Phase) → out_of i r q (declined_by p) st ≡ declined_on i st (phase_view p r)
  unfolding out_of declined_on declined_kind dropped
  declined-is = by-phase _ refl (λ t. refl) (λ t. refl) (λ t. refl) (λ t. refl) (λ t l. refl) (λ t l. refl) (λ t n. refl) refl (λ t l. refl) (λ t. refl) (λ t. refl) (λ t. refl)

  take-is : (p : Phase) → out_of i r q (take_by p) st ≡ take_on i st (phase_view p r)
  unfolding out_of take_on
  take-is = by-phase _ refl (λ t. refl) (λ t. refl) (λ t. refl) (λ t. refl) (λ t l. refl) (λ t l. refl) (λ t n. refl) refl (λ t l. refl) (λ t. refl) (λ t. refl) (λ t. refl)

  give-back-is : (p : Phase) → out_of i r q (give_back_by p) st ≡ give_on i st (phase_view p r)
  unfolding out_of give_on
  give-back-is = by-phase _ refl (λ t. refl) (λ t. refl) (λ t. refl) (λ t. refl) (λ t l. refl) (λ t l. refl) (λ t n. refl) refl (λ t l. refl) (λ t. refl) (λ t. refl) (λ t. refl)

  pub signal-is : (m : Mode) → mode_of m ≡ r.request.mode → st.clock ≤ limit → (g : Signal) (p : Phase) → out_of i r q (by_signal g (time_of st) m p) st ≡ signal_on i st (phase_view p r) (signal_view g)
  signal-is m e h LineDialledOut p = dialled-out-is h p
  signal-is m e h LineLifted p = off-hook-is p
  signal-is m e h LineHung p = hung-is p
  signal-is m e h CarrierHeard p = up_is p
  signal-is m e h CarrierLost p = down_is m e h p

  pub hand-is : (h : Hand) (p : Phase) → out_of i r q (by_hand h p) st ≡ hand_on i st (phase_view p r) (hand_view h)
  hand-is Takes p = take-is p
  hand-is GivesBack p = give-back-is p

  pub main-due-is : (p : Phase) → out_of i r q (main_due_by p) st ≡ main_on i st (phase_view p r)
  unfolding out_of main_on pending_due dropped reply_due coast_end
  main-due-is = by-phase _ refl (λ t. refl) (λ t. refl) (λ t. refl) (λ t. refl) (λ t l. refl) (λ t l. refl) (λ t n. refl) refl (λ t l. refl) (λ t. refl) (λ t. refl) (λ t. refl)

  -- ── heard from the ship x ──

  module _ (x : Party) where
    pub working-is : (own : Bool) → is x r.request.who ≡ own → (p : Phase) → out_of i r q (working_by own p) st ≡ working_on i x st (phase_view p r)
    unfolding out_of working_on working_kind
    working-is true e = by-phase _ refl (λ t. rw e refl) (λ t. rw e refl) (λ t. rw e refl) (λ t. rw e refl) (λ t l. refl) (λ t l. refl) (λ t n. refl) refl (λ t l. refl) (λ t. rw e refl) (λ t. rw e refl) (λ t. rw e refl)
    working-is false e = by-phase _ refl (λ t. rw e refl) (λ t. rw e refl) (λ t. rw e refl) (λ t. rw e refl) (λ t l. refl) (λ t l. refl) (λ t n. refl) refl (λ t l. refl) (λ t. rw e refl) (λ t. rw e refl) (λ t. rw e refl)

    pub ship-end-is : (own : Bool) → is x r.request.who ≡ own → (p : Phase) → out_of i r q (ship_end_by own p) st ≡ ship_end_on i x st (phase_view p r)
    unfolding out_of ship_end_on ship_end
    ship-end-is true e = by-phase _ refl (λ t. refl) (λ t. refl) (λ t. refl) (λ t. refl) (λ t l. rw e refl) (λ t l. rw e refl) (λ t n. rw e refl) refl (λ t l. rw e refl) (λ t. refl) (λ t. refl) (λ t. refl)
    ship-end-is false e = by-phase _ refl (λ t. refl) (λ t. refl) (λ t. refl) (λ t. refl) (λ t l. rw e refl) (λ t l. rw e refl) (λ t n. rw e refl) refl (λ t l. rw e refl) (λ t. refl) (λ t. refl) (λ t. refl)

    pub bq-is : (own : Bool) → is x r.request.who ≡ own → st.clock ≤ limit → (p : Phase) → out_of i r q (bq_by own (time_of st) p) st ≡ bq_for i x st (phase_view p r)
    unfolding out_of bq_for bq_kind agreed
    bq-is true e h = by-phase _ refl (λ t. rw e refl) (λ t. rw (e, wait-fits st.clock (kind_wait R.acknowledged) h (omega arith)) refl) (λ t. rw (e, wait-fits st.clock (kind_wait R.acknowledged) h (omega arith)) refl) (λ t. rw e refl) (λ t l. refl) (λ t l. refl) (λ t n. refl) refl (λ t l. refl) (λ t. rw e refl) (λ t. rw e refl) (λ t. rw e refl)
    bq-is false e h = by-phase _ refl (λ t. rw e refl) (λ t. rw e refl) (λ t. rw e refl) (λ t. rw e refl) (λ t l. refl) (λ t l. refl) (λ t n. refl) refl (λ t l. refl) (λ t. rw e refl) (λ t. rw e refl) (λ t. rw e refl)

  -- ── a call request ──

  -- a
  pub data_is : (called : Bool) → out_of i r q (data_by called) st ≡ cond called (ignored st) (rule_a st q.who q.number)
  unfolding out_of rule_a
  data_is true = refl
  data_is false = refl

  -- b. the slot "is offered afresh", where a number is left
  renews-is : (u : Bool) → used_up st ≡ u → whole_of i r q (while_left u Renews) st ≡ cond (used_up st) (no_number st q) (afresh i st q)
  unfolding whole_of out_of no_number
  renews-is true e = rw e refl
  renews-is false e = rw e refl

  rule-b-is : (s u : Bool) → same q r.request ≡ s → used_up st ≡ u → whole_of i r q (rule_b_by s u R.offered) st ≡ rule_b i R.offered r.request st q
  unfolding whole_of out_of rule_b
  rule-b-is true u e f = rw e refl
  rule-b-is false u e f = rw e (renews-is u f)

  rule-c-by : (k : Talk) (m : Mode) (l : Carrier) → whole_of i r q (rule_c_by m k l) st ≡ rule_c i r (since_of k) (mode_of m) (carrier_of l) st q
  unfolding whole_of out_of behind without_slot rule_c redial
  rule-c-by k Duplex l = refl
  rule-c-by k Simplex Present = refl
  rule-c-by k Simplex (Lost d) = refl

  rule-c-is : (m : Mode) → r.request.mode ≡ mode_of m → (k : Talk) (l : Carrier) → whole_of i r q (rule_c_by m k l) st ≡ rule_c i r (since_of k) r.request.mode (carrier_of l) st q
  rule-c-is m e k l = rule-c-by k m l ∙ ap (λ x. rule_c i r (since_of k) x (carrier_of l) st q) (sym e)

  -- b and c: the mode is that of the slot's own request
  pub asked-again-is : (m : Mode) → r.request.mode ≡ mode_of m → (s u : Bool) → same q r.request ≡ s → used_up st ≡ u
      → (p : Phase) → whole_of i r q (asked_again_by m s u p) st ≡ b_or_c i (phase_view p r) st q
  unfolding whole_of out_of b_or_c rule_b
  asked-again-is m e s u h f = by-phase _ refl (λ t. rule-b-is s u h f) (λ t. renews-is u f) (λ t. renews-is u f) (λ t. renews-is u f) (λ t l. rule-c-is m e Unanswered l) (λ t l. rule-c-is m e (Since t) l) (λ t n. refl) refl (λ t l. rule-c-is m e Unanswered l) (λ t. refl) (λ t. refl) (λ t. refl)

  -- e: i is the lowest free slot; f and g: none is free
  offers-is : (waiting : ℕ) → some i ≡ lowest is_free st.slots → out_of i r q (newcomer_by true waiting) st ≡ newcomer st q
  unfolding out_of newcomer e_to_g
  offers-is waiting h = rw (← h) refl

  f-or-g : (b : Bool) → out_of i r q (cond b Joins (Unable 102)) st ≡ cond b (rule_f st q) (rule_g st q)
  unfolding out_of rule_g
  f-or-g true = refl
  f-or-g false = refl

  joins-is : none ≡ lowest is_free st.slots → out_of i r q (newcomer_by false (length st.queue)) st ≡ newcomer st q
  unfolding newcomer e_to_g
  joins-is h = rw (← h) (f-or-g (ltb (length st.queue) queue_room))

  newcomer-is : (f : Option ℕ) → f ≡ lowest is_free st.slots → (is_some f ≡ true → f ≡ some i) → out_of i r q (newcomer_by (is_some f) (length st.queue)) st ≡ newcomer st q
  newcomer-is none h k = joins-is h
  newcomer-is (some j) h k = offers-is (length st.queue) (sym (k refl) ∙ h)

  -- d, or e to g, for a ship that has no slot: i is the slot that was found free, if one was
  pub d-to-g-is : (u : Bool) → used_up st ≡ u → (place : Optional QueuePlace) (f : Option ℕ) → f ≡ lowest is_free st.slots → (is_some f ≡ true → f ≡ some i)
      → out_of i r q (d_to_g_by u place (is_some f) (length st.queue)) st ≡ d_to_g st q (place_view place)
  unfolding out_of d_to_g no_number waiting_or_new
  d-to-g-is true e place f h k = rw e refl
  d-to-g-is false e (Some j) f h k = rw e refl
  d-to-g-is false e None f h k = rw e (newcomer-is f h k)

  -- ── a tick ──

  pub drops-is : (k : QueuePlace) → out_of i r q (Drops k) st ≡ fire st (of_queue k.0)
  unfolding out_of
  drops-is k = refl

  pub passes-is : (t : ℕ) → out_of i r q Passes (set_clock t st) ≡ ticked st t none
  unfolding out_of ticked
  passes-is t = refl
