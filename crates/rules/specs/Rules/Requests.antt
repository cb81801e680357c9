-- A call request, rules a to g; before them what they rest on:
-- a slot freed with its ring-back, the coast's end of a call, where a ship stands.
use Rattle.std.specs.Prelude.{Option as Optional, None, List, [], ◌∷◌, ◌++◌, Bool, true, false, cond, ◌&&◌, ℕ, ◌-◌, eqb, ltb, length}
use Rattle.std.proofs.Math.Option.{Option, none, some}
use Rattle.units.specs.Units.{whole_seconds, duration_of}
use Rattle.units.specs.declared.Duration.{Duration}
use Rattle.rules.specs.Rules.Places.{mod_at, lowest}
use Rattle.rules.specs.Rules.Words.{Party, is, Mode, simplex, duplex, Request}
use Rattle.rules.specs.Rules.Words.{Deed, carrier_on, carrier_off, acknowledge, call_ship, unable, release_line}
use Rattle.rules.specs.Rules.Actions.{Action, does, over, charge, Ender, the_coast, charge_of}
use Rattle.rules.specs.Rules.Station.{Kind, is_offer, is_called, answered_at, Dealing, Slot, by_slot, ship_of, is_called_in, is_free}
use Rattle.rules.specs.Rules.Station.{Waiting, Station, the_slot, emptied, set_queue, used_up, new_call, due_after, offer_of, ring_back_of}
use Rattle.rules.specs.Rules.Station.{queue_wait}
use Rattle.rules.specs.Rules.Sound.{queue_room}

-- what an accepted event gives: its answer, the next station, the actions in order
pub record Out : Type 0 where
  pub answer : ℕ
  pub next : Station
  pub acts : List Action

-- "0 done"
abbrev pub done : Station → Out
done st = record { answer = 0; next = st; acts = [] }

-- "ignored: accepted, no action, clock moved"
abbrev pub ignored : Station → Out
ignored st = record { answer = 1; next = st; acts = [] }

-- one deed, and nothing changed
abbrev pub saying : Deed → Station → Out
saying d st = record { answer = 0; next = st; acts = does d ∷ [] }

-- actions before those of an outcome
abbrev pub also : List Action → Out → Out
also a o = record { answer = o.answer; next = o.next; acts = a ++ o.acts }

-- ── a slot is freed: ring-back ───────────────────────────────────────────────

-- "carrier on, the able answer but with RQ; wait 50"; 02, no. 4: with the next call number
unfoldable pub rung_back : ℕ → Station → Waiting → List Waiting → Out
rung_back i st w q =
    record {
      answer = 0;
      next = new_call i (ring_back_of w.request st) (set_queue q st);
      acts = does (carrier_on i) ∷ does (call_ship i w.request) ∷ [];
    }

-- "Whenever a slot is freed and a ship waits, the same event takes the oldest"
unfoldable pub freed_for : ℕ → Station → List Waiting → Out
freed_for i st [] = done (emptied i st)
freed_for i st (w ∷ q) = rung_back i st w q

-- 02, no. 4: once the last number has been given "no waiting ship is rung back"
abbrev pub to_ring_back : Station → List Waiting
to_ring_back st = cond (used_up st) [] st.queue

unfoldable pub freed : ℕ → Station → Out
freed i st = freed_for i st (to_ring_back st)

-- ── the end of a call ────────────────────────────────────────────────────────

-- "charge if answered": the one place where a charge is made
abbrev pub bill : ℕ → Dealing → Option ℕ → ℕ → List Action
bill i o none t = []
bill i o (some b) t = charge (charge_of i o.request.who.ship b t (whole_seconds (record { 0 = t - b })).0 o.call_number) ∷ []

-- "Duration: whole seconds, rounded down; unanswered, or 100 hours and over: 126s"
abbrev pub lasted : Option ℕ → ℕ → Optional Duration
lasted none t = None
lasted (some b) t = duration_of (whole_seconds (record { 0 = t - b }))

-- "charge if answered, release line, send 105/126 with .. and the duration, carrier off"
abbrev pub end_acts : ℕ → Ender → Dealing → Option ℕ → ℕ → List Action
end_acts i e o b t =
    bill i o b t ++ does (release_line i) ∷ over i e o.request.who o.request.number (lasted b t) ∷ does (carrier_off i) ∷ []

-- coast's end: ".. slot freed at once"
unfoldable pub coast_end : ℕ → Dealing → Option ℕ → Station → Out
coast_end i o b st = also (end_acts i the_coast o b st.clock) (freed i st)

-- ── where a ship stands ──────────────────────────────────────────────────────

pub data Standing : Type 0 where
  nowhere : Standing
  holds : ℕ → Standing  -- a slot
  waits : ℕ → Standing  -- a place in the queue

abbrev pub is_of : Party → Option Party → Bool
is_of x none = false
is_of x (some y) = is x y

-- the slot is the ship's
abbrev pub owns : Party → Slot → Bool
owns x s = is_of x (ship_of s)

abbrev pub waits_for : Party → Waiting → Bool
waits_for x w = is x w.request.who

abbrev pub slot_of : Party → Station → Option ℕ
slot_of x st = lowest (owns x) st.slots

abbrev pub place_of : Party → Station → Option ℕ
place_of x st = lowest (waits_for x) st.queue

abbrev pub stands_at : Option ℕ → Option ℕ → Standing
stands_at (some i) k = holds i
stands_at none (some k) = waits k
stands_at none none = nowhere

-- the one lookup
unfoldable pub standing : Station → Party → Standing
standing st x = stands_at (slot_of x st) (place_of x st)

-- the ship is being called from ashore
abbrev pub called_at : Station → Standing → Bool
called_at st nowhere = false
called_at st (holds i) = is_called_in (the_slot st i)
called_at st (waits k) = false

unfoldable pub being_called : Station → Party → Bool
being_called st x = called_at st (standing st x)

-- ── the rules ────────────────────────────────────────────────────────────────

-- a. "Data: answer 104/109."
unfoldable pub rule_a : Station → Party → List ℕ → Out
rule_a st x n = saying (unable 109 x n) st

-- 02, no. 4: once the last number has been given, "answer 104/107 and change nothing else"
unfoldable pub no_number : Station → Request → Out
no_number st r = saying (unable 107 r.who r.number) st

-- b. "repeat the acknowledgement, the wait unchanged" (§2.3.1.2)
unfoldable pub repeated : ℕ → Station → Request → Out
repeated i st r = saying (acknowledge i r) st

-- b. "that slot is offered afresh: new request stored, acknowledgement sent, no carrier action, wait 160 from now" (house);
-- 02, no. 4: "an offer made afresh takes a new one"
unfoldable pub afresh : ℕ → Station → Request → Out
afresh i st r =
    record {
      answer = 0;
      next = new_call i (offer_of r st) st;
      acts = does (acknowledge i r) ∷ [];
    }

abbrev pub same_mode : Mode → Mode → Bool
same_mode simplex simplex = true
same_mode simplex duplex = false
same_mode duplex simplex = false
same_mode duplex duplex = true

abbrev pub same_number : List ℕ → List ℕ → Bool
same_number [] [] = true
same_number [] (y ∷ ys) = false
same_number (x ∷ xs) [] = false
same_number (x ∷ xs) (y ∷ ys) = eqb x y && same_number xs ys

-- b. "identical": the ship, the mode, the second telecommand, the number
unfoldable pub same : Request → Request → Bool
same a b = is a.who b.who && (same_mode a.mode b.mode && (eqb a.second b.second && same_number a.number b.number))

-- b. "offered a slot by an identical request .. If it differs, or the slot is in ring-back or acknowledged"
unfoldable pub rule_b : ℕ → Kind → Request → Station → Request → Out
rule_b i k o st r = cond (is_offer k && same r o) (repeated i st r) (cond (used_up st) (no_number st r) (afresh i st r))

-- d. "replace its request, keep place and due time, answer 104/103"
unfoldable pub rule_d : ℕ → Station → Request → Out
rule_d k st r =
    record {
      answer = 0;
      next = set_queue (mod_at (λ w. record { request = r; due = w.due }) k st.queue) st;
      acts = does (unable 103 r.who r.number) ∷ [];
    }

-- e. "Carrier on, acknowledgement with the channel and BQ; wait 160", on a given free slot
unfoldable pub offer : ℕ → Station → Request → Out
offer i st r = also (does (carrier_on i) ∷ []) (afresh i st r)

-- f. "join it, wait 9000, answer 104/103" (§2.2.3)
unfoldable pub rule_f : Station → Request → Out
rule_f st r =
    record {
      answer = 0;
      next = set_queue (st.queue ++ record { request = r; due = due_after st.clock queue_wait } ∷ []) st;
      acts = does (unable 103 r.who r.number) ∷ [];
    }

-- g. "Otherwise answer 104/102." (§2.2.3)
unfoldable pub rule_g : Station → Request → Out
rule_g st r = saying (unable 102 r.who r.number) st

-- e. "A slot is free: offer the lowest"; f. "The queue has room"; g.
unfoldable pub e_to_g : Station → Request → Option ℕ → Out
e_to_g st r (some i) = offer i st r
e_to_g st r none = cond (ltb (length st.queue) queue_room) (rule_f st r) (rule_g st r)

unfoldable pub newcomer : Station → Request → Out
newcomer st r = e_to_g st r (lowest is_free st.slots)

unfoldable pub waiting_or_new : Station → Request → Option ℕ → Out
waiting_or_new st r none = newcomer st r
waiting_or_new st r (some k) = rule_d k st r

-- d. "The ship is waiting"; e to g; 02, no. 4: once the last number has been given, "rules d to g .. answer 104/107"
unfoldable pub d_to_g : Station → Request → Option ℕ → Out
d_to_g st r k = cond (used_up st) (no_number st r) (waiting_or_new st r k)

-- c. "the coast ends that call (§2.4.3), any ring-back follows, then d to g apply"
unfoldable pub redial : ℕ → Dealing → Option ℕ → Station → Request → Out
redial i o b st r = also (coast_end i o b st).acts (d_to_g (coast_end i o b st).next r (place_of r.who (coast_end i o b st).next))

-- c. "ignored if duplex or if its carrier is present. If simplex with carrier absent, .."
unfoldable pub rule_c : ℕ → Dealing → Option ℕ → Mode → Option ℕ → Station → Request → Out
rule_c i o b duplex c st r = ignored st
rule_c i o b simplex none st r = ignored st
rule_c i o b simplex (some d) st r = redial i o b st r

-- 02, no. 2: "A request from a ship being called .. is ignored"; b. the ship's slot is before its dialling; c. "dialling or answered"
unfoldable pub b_or_c : ℕ → Slot → Station → Request → Out
b_or_c i s st r =
    by_slot (ignored st) (λ k o. cond (is_called k) (ignored st) (rule_b i k o.request st r))
    (λ o g c. rule_c i o (answered_at g) o.request.mode c st r) s

-- the first rule that fits, by where the ship stands
unfoldable pub requested : Station → Request → Standing → Out
requested st r nowhere = d_to_g st r none
requested st r (holds i) = b_or_c i (the_slot st i) st r
requested st r (waits k) = d_to_g st r (some k)
