-- What each outcome means: in the words of the rules; and in its parts, the answer, the actions, the slot, the queue, the last call number.
use Rattle.std.specs.Prelude.{Option as Optional, ℕ, zero, suc, min, List, [], ◌∷◌, ◌++◌, Bool, true, false, cond, length, get_or}
use Rattle.std.proofs.Math.Option.{Option, none, some}
use Rattle.units.specs.declared.CallNumber.{CallNumber}
use Rattle.units.specs.declared.Tenths.{Tenths}
use Rattle.units.specs.declared.Duration.{Duration}
use Rattle.rules.specs.Rules.Places.{mod_at, drop_at}
use Rattle.rules.specs.Rules.Words.{Request, carrier_on, carrier_off, acknowledge, call_ship, unable, dial, ringing_on, ringing_off}
use Rattle.rules.specs.Rules.Actions.{Action, does, over, the_ship, the_coast}
use Rattle.rules.specs.Rules.Station as R
use Rattle.rules.specs.Rules.Station.{Dealing, dealing, offered, first_ring_back, second_ring_back, first_call, second_call, ringing, set_slot}
use Rattle.rules.specs.Rules.Station.{set_queue, none_left, number_after, next_call, new_call}
use Rattle.rules.specs.Rules.Station.{due_after, kind_wait, dialling_wait, hold_wait, queue_wait}
use Rattle.rules.specs.Rules.Requests.{Out, done, ignored, saying, also, to_ring_back, freed, lasted, end_acts, coast_end}
use Rattle.rules.specs.Rules.Requests.{place_of, repeated, afresh, rule_d, offer, rule_f, d_to_g}
use Rattle.rules.specs.Rules.Ashore.{called_from}
use Rattle.rules.specs.Rules.Calls.{dial_now, starts_ringing, drop_acts, transmitted, ship_end, say_again, offer_due, rung_back_again}
use Rattle.rules.specs.Rules.Calls.{call_again, fire}
use Rattle.rules.specs.Rules.Waits.{of_queue}
use Rattle.slots.specs.declared.Carrier.TheVariants.{Present}
use Rattle.slots.specs.declared.Phase.TheVariants.{Free, Offered, RingBack, RingBackAgain, Dialling, Answered, Hold}
use Rattle.slots.specs.declared.Phase.TheVariants.{Called, CalledAgain, Ringing}
use Rattle.requests.specs.declared.Request.{Request as Stored}
use Rattle.slots.specs.declared.Waiting.{Waiting}
use Rattle.slots.specs.Phases.{phase_view}
use Rattle.slots.specs.Views.{waiting_view}
use Rattle.slots.specs.Images.{blank_waiting}
use Rattle.outcomes.specs.declared.Talk.{Talk}
use Rattle.outcomes.specs.declared.Talk.TheVariants.{Unanswered, Since}
use Rattle.outcomes.specs.declared.Outcome.{Outcome}
use Rattle.outcomes.specs.declared.Outcome.TheVariants.{Ignored, Passes, Turns, Dials, RingsBackAgain, Frees, Clears}
use Rattle.outcomes.specs.declared.Outcome.TheVariants.{CoastEnds, ShipEnds, SaysAgain, Repeats, Renews, Redials}
use Rattle.outcomes.specs.declared.Outcome.TheVariants.{Offers, Joins, Replaces, Unable, Drops}
use Rattle.outcomes.specs.declared.Outcome.TheVariants.{Calls, CallsAgain, StartsRinging, Transmits, DropsCall}
use Rattle.outcomes.specs.declared.Turn.{Turn}
use Rattle.outcomes.specs.declared.Turn.TheVariants.{Stays, Own, Asked, Oldest}
use Rattle.outcomes.specs.declared.QueueChange.{QueueChange}
use Rattle.outcomes.specs.declared.QueueChange.TheVariants as L
use Rattle.outcomes.specs.declared.QueueChange.TheVariants.{Same, Leaves}

-- since when a call is answered, as the rules have it
abbrev pub since_of : Talk → Option ℕ
since_of Unanswered = none
since_of (Since b) = some b.0

-- ── in the words of the rules ────────────────────────────────────────────────

-- on the slot i, which keeps `own`, where the event asks for `asked`; after `Redials` d to g go on
unfoldable pub out_of : ℕ → Dealing → Request → Outcome → R.Station → Out
out_of i own asked Ignored st = ignored st
out_of i own asked Passes st = done st
out_of i own asked (Turns p) st = done (set_slot i (phase_view p own) st)
out_of i own asked Dials st = dial_now i own st
out_of i own asked RingsBackAgain st = rung_back_again i own st
out_of i own asked Frees st = freed i st
out_of i own asked Clears st = offer_due i st
out_of i own asked (CoastEnds k) st = coast_end i own (since_of k) st
out_of i own asked (ShipEnds k) st = ship_end i own (since_of k) st
out_of i own asked (SaysAgain n) st = say_again i own.request n st
out_of i own asked Repeats st = repeated i st asked
out_of i own asked Renews st = afresh i st asked
out_of i own asked (Redials k) st = coast_end i own (since_of k) st
out_of i own asked Offers st = offer i st asked
out_of i own asked Joins st = rule_f st asked
out_of i own asked (Replaces k) st = rule_d k.0 st asked
out_of i own asked (Unable n) st = saying (unable n asked.who asked.number) st
out_of i own asked (Drops k) st = fire st (of_queue k.0)
out_of i own asked Calls st = called_from st asked (some i)
out_of i own asked CallsAgain st = call_again i own st
out_of i own asked StartsRinging st = starts_ringing i own st
out_of i own asked Transmits st = transmitted i own st
out_of i own asked (DropsCall rung tone) st = also (drop_acts i rung tone) (freed i st)

-- c. "then d to g apply"
abbrev pub goes_on : Outcome → Bool
goes_on Ignored = false
goes_on Passes = false
goes_on (Turns p) = false
goes_on Dials = false
goes_on RingsBackAgain = false
goes_on Frees = false
goes_on Clears = false
goes_on (CoastEnds k) = false
goes_on (ShipEnds k) = false
goes_on (SaysAgain n) = false
goes_on Repeats = false
goes_on Renews = false
goes_on (Redials k) = true
goes_on Offers = false
goes_on Joins = false
goes_on (Replaces k) = false
goes_on (Unable n) = false
goes_on (Drops k) = false
goes_on Calls = false
goes_on CallsAgain = false
goes_on StartsRinging = false
goes_on Transmits = false
goes_on (DropsCall rung tone) = false

-- one rule, and another behind it on the station that it leaves
unfoldable pub behind : (R.Station → Out) → (R.Station → Out) → R.Station → Out
behind f g st = also (f st).acts (g (f st).next)

-- d to g, for a ship that has no slot
unfoldable pub without_slot : Request → R.Station → Out
without_slot asked st = d_to_g st asked (place_of asked.who st)

unfoldable pub whole_of : ℕ → Dealing → Request → Outcome → R.Station → Out
whole_of i own asked o st = cond (goes_on o) (behind (out_of i own asked o) (without_slot asked) st) (out_of i own asked o st)

-- ── in its parts ─────────────────────────────────────────────────────────────

-- all that is asked of a station to carry an outcome out
pub record Scene : Type 0 where
  pub clock : ℕ
  pub slot : ℕ
  pub own : Dealing  -- the slot's
  pub asked : Request  -- the event's
  pub oldest : Request  -- the oldest waiting ship's, where one waits
  pub ringable : ℕ  -- how many may be rung back

unfoldable pub scene_of : ℕ → Dealing → Request → R.Station → Scene
scene_of i own asked st =
    record {
      clock = st.clock;
      slot = i;
      own = own;
      asked = asked;
      oldest = (get_or st.queue 0 (waiting_view blank_waiting)).request;
      ringable = length (to_ring_back st);
    }

-- "0 done", "1 ignored"
abbrev pub answer_of : Outcome → ℕ
answer_of Ignored = 1
answer_of Passes = 0
answer_of (Turns p) = 0
answer_of Dials = 0
answer_of RingsBackAgain = 0
answer_of Frees = 0
answer_of Clears = 0
answer_of (CoastEnds k) = 0
answer_of (ShipEnds k) = 0
answer_of (SaysAgain n) = 0
answer_of Repeats = 0
answer_of Renews = 0
answer_of (Redials k) = 0
answer_of Offers = 0
answer_of Joins = 0
answer_of (Replaces k) = 0
answer_of (Unable n) = 0
answer_of (Drops k) = 0
answer_of Calls = 0
answer_of CallsAgain = 0
answer_of StartsRinging = 0
answer_of Transmits = 0
answer_of (DropsCall rung tone) = 0

-- a slot is freed: the oldest of so many is rung back
abbrev pub ring_back_acts : ℕ → Request → ℕ → List Action
ring_back_acts i oldest zero = []
ring_back_acts i oldest (suc n) = does (carrier_on i) ∷ does (call_ship i oldest) ∷ []

abbrev pub free_acts : Scene → List Action
free_acts sc = ring_back_acts sc.slot sc.oldest sc.ringable

abbrev pub unable_acts : ℕ → Scene → List Action
unable_acts n sc = does (unable n sc.asked.who sc.asked.number) ∷ []

-- the actions, in order
unfoldable pub acts_of : Scene → Outcome → List Action
acts_of sc Ignored = []
acts_of sc Passes = []
acts_of sc (Turns p) = []
acts_of sc Dials = does (dial sc.slot sc.own.request.number) ∷ []
acts_of sc RingsBackAgain = does (call_ship sc.slot sc.own.request) ∷ []
acts_of sc Frees = free_acts sc
acts_of sc Clears = does (carrier_off sc.slot) ∷ free_acts sc
acts_of sc (CoastEnds k) = end_acts sc.slot the_coast sc.own (since_of k) sc.clock ++ free_acts sc
acts_of sc (ShipEnds k) = end_acts sc.slot the_ship sc.own (since_of k) sc.clock
acts_of sc (SaysAgain n) =
    does (carrier_on sc.slot)
    ∷ over sc.slot the_ship sc.own.request.who sc.own.request.number n
    ∷ does (carrier_off sc.slot)
    ∷ []
acts_of sc Repeats = does (acknowledge sc.slot sc.asked) ∷ []
acts_of sc Renews = does (acknowledge sc.slot sc.asked) ∷ []
acts_of sc (Redials k) = end_acts sc.slot the_coast sc.own (since_of k) sc.clock ++ free_acts sc
acts_of sc Offers = does (carrier_on sc.slot) ∷ does (acknowledge sc.slot sc.asked) ∷ []
acts_of sc Joins = unable_acts 103 sc
acts_of sc (Replaces k) = unable_acts 103 sc
acts_of sc (Unable n) = unable_acts n sc
acts_of sc (Drops k) = []
acts_of sc Calls = does (carrier_on sc.slot) ∷ does (call_ship sc.slot sc.asked) ∷ []
acts_of sc CallsAgain = does (call_ship sc.slot sc.own.request) ∷ []
acts_of sc StartsRinging = does (ringing_on sc.slot) ∷ []
acts_of sc Transmits = does (ringing_off sc.slot) ∷ []
acts_of sc (DropsCall rung tone) = drop_acts sc.slot rung tone ++ free_acts sc

abbrev pub time_of : R.Station → Tenths
time_of st = record { 0 = st.clock }

-- a wait of p begun at t, in 32 bits
abbrev pub wait_from : Tenths → ℕ → Tenths
wait_from t p = record { 0 = min (due_after t.0 p) 4294967295 }

-- what an end of call at t tells
abbrev pub lasted_of : Talk → Tenths → Optional Duration
lasted_of k t = lasted (since_of k) t.0

abbrev pub free_turn : Tenths → ℕ → Turn
free_turn t zero = Own Free
free_turn t (suc n) = Oldest (RingBack (wait_from t (kind_wait first_ring_back)))

-- what becomes of the slot at the time t, where so many may be rung back
abbrev pub turn_of : Tenths → ℕ → Outcome → Turn
turn_of t ringable Ignored = Stays
turn_of t ringable Passes = Stays
turn_of t ringable (Turns p) = Own p
turn_of t ringable Dials = Own (Dialling (wait_from t dialling_wait) Present)
turn_of t ringable RingsBackAgain = Own (RingBackAgain (wait_from t (kind_wait second_ring_back)))
turn_of t ringable Frees = free_turn t ringable
turn_of t ringable Clears = free_turn t ringable
turn_of t ringable (CoastEnds k) = free_turn t ringable
turn_of t ringable (ShipEnds k) = Own (Hold (wait_from t hold_wait) (lasted_of k t))
turn_of t ringable (SaysAgain n) = Stays
turn_of t ringable Repeats = Stays
turn_of t ringable Renews = Asked (Offered (wait_from t (kind_wait offered)))
turn_of t ringable (Redials k) = free_turn t ringable
turn_of t ringable Offers = Asked (Offered (wait_from t (kind_wait offered)))
turn_of t ringable Joins = Stays
turn_of t ringable (Replaces k) = Stays
turn_of t ringable (Unable n) = Stays
turn_of t ringable (Drops k) = Stays
turn_of t ringable Calls = Asked (Called (wait_from t (kind_wait first_call)))
turn_of t ringable CallsAgain = Own (CalledAgain (wait_from t (kind_wait second_call)))
turn_of t ringable StartsRinging = Own (Ringing (wait_from t (kind_wait ringing)))
turn_of t ringable Transmits = Own (Answered t Present)
turn_of t ringable (DropsCall rung tone) = free_turn t ringable

abbrev pub free_change : ℕ → QueueChange
free_change zero = Same
free_change (suc n) = Leaves (record { 0 = 0 })

-- what becomes of the queue
abbrev pub queue_change : Tenths → ℕ → Outcome → QueueChange
queue_change t ringable Ignored = Same
queue_change t ringable Passes = Same
queue_change t ringable (Turns p) = Same
queue_change t ringable Dials = Same
queue_change t ringable RingsBackAgain = Same
queue_change t ringable Frees = free_change ringable
queue_change t ringable Clears = free_change ringable
queue_change t ringable (CoastEnds k) = free_change ringable
queue_change t ringable (ShipEnds k) = Same
queue_change t ringable (SaysAgain n) = Same
queue_change t ringable Repeats = Same
queue_change t ringable Renews = Same
queue_change t ringable (Redials k) = free_change ringable
queue_change t ringable Offers = Same
queue_change t ringable Joins = L.Joins (wait_from t queue_wait)
queue_change t ringable (Replaces k) = L.Replaces k
queue_change t ringable (Unable n) = Same
queue_change t ringable (Drops k) = Leaves k
queue_change t ringable Calls = Same
queue_change t ringable CallsAgain = Same
queue_change t ringable StartsRinging = Same
queue_change t ringable Transmits = Same
queue_change t ringable (DropsCall rung tone) = free_change ringable

-- a slot and a queue so changed; 02, no. 4: what is not the slot's own call is a new one
unfoldable pub turned : Scene → Turn → R.Station → R.Station
turned sc Stays st = st
turned sc (Own p) st = set_slot sc.slot (phase_view p sc.own) st
turned sc (Asked p) st = new_call sc.slot (phase_view p (dealing (next_call st) sc.asked)) st
turned sc (Oldest p) st = new_call sc.slot (phase_view p (dealing (next_call st) sc.oldest)) st

unfoldable pub requeued : Scene → QueueChange → R.Station → R.Station
requeued sc Same st = st
requeued sc (Leaves k) st = set_queue (drop_at k.0 st.queue) st
requeued sc (L.Joins d) st = set_queue (st.queue ++ record { request = sc.asked; due = d.0 } ∷ []) st
requeued sc (L.Replaces k) st = set_queue (mod_at (λ w. record { request = sc.asked; due = w.due }) k.0 st.queue) st

-- 02, no. 4: how many of n that wait may be rung back
abbrev pub ringable_of : CallNumber → ℕ → ℕ
ringable_of last n = cond (none_left last.0) 0 n

abbrev pub behind_last : CallNumber → CallNumber
behind_last last = record { 0 = number_after last.0 }

-- the last number given, once the slot is so turned
abbrev pub last_after : CallNumber → Turn → CallNumber
last_after last Stays = last
last_after last (Own p) = last
last_after last (Asked p) = behind_last last
last_after last (Oldest p) = behind_last last

-- what is written over the record w of a waiting ship: who joins has a due time of its own, who asks for something else keeps the old one
abbrev pub entered_of : Stored → Waiting → QueueChange → Waiting
entered_of q w Same = w
entered_of q w (Leaves k) = w
entered_of q w (L.Joins d) = record { due = d; request = q }
entered_of q w (L.Replaces k) = record { due = w.due; request = q }

-- all its parts together
unfoldable pub applied : Scene → Outcome → R.Station → Out
applied sc o st =
    record {
      answer = answer_of o;
      next = turned sc (turn_of (time_of st) sc.ringable o) (requeued sc (queue_change (time_of st) sc.ringable o) st);
      acts = acts_of sc o;
    }
