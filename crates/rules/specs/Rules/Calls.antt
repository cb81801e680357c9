-- What each other event does: working call, BQ, call from ashore, dialling ended, off-hook, carrier, both ends, operator, and a wait that
-- falls due. One function for an event, a clause for each phase of the slot.
use Rattle.std.specs.Prelude.{Option as Optional, List, [], ◌∷◌, ◌++◌, Bool, true, false, cond, not, ℕ}
use Rattle.std.proofs.Math.Option.{Option, none, some}
use Rattle.units.specs.declared.Duration.{Duration}
use Rattle.rules.specs.Rules.Places.{drop_at}
use Rattle.rules.specs.Rules.Words.{Party, is, Mode, Request, Config}
use Rattle.rules.specs.Rules.Words.{Signal, line_dialled_out, line_lifted, line_hung, carrier_heard, carrier_lost}
use Rattle.rules.specs.Rules.Words.{Hand, hand_takes, hand_gives, Happened, heard, signal, operator}
use Rattle.rules.specs.Rules.Words.{What, tick, on_channel70, on_slot, from_ashore, Event}
use Rattle.rules.specs.Rules.Words.{carrier_on, carrier_off, call_ship, dial, release_line, ringing_on, ringing_off, busy_tone}
use Rattle.rules.specs.Rules.Waits.{Wait, of_queue, loss, main, Due}
use Rattle.rules.specs.Rules.Heard.{Heard, call_request, data_request, bq, working_call, end_of_call, declined, nothing, kind_of}
use Rattle.rules.specs.Rules.Heard.{addressed, meaning}
use Rattle.rules.specs.Rules.Actions.{Action, does, over, the_ship}
use Rattle.rules.specs.Rules.Station.{is_free, is_taken, Kind, offered, first_ring_back, second_ring_back, acknowledged, first_call}
use Rattle.rules.specs.Rules.Station.{second_call, ringing, rings, Stage, dialling, dialled_out, answered, answered_at, Dealing}
use Rattle.rules.specs.Rules.Station.{Slot, free, taken, pending, busy, held, Station, the_slot, fresh, set_slot, set_clock, set_queue}
use Rattle.rules.specs.Rules.Station.{used_up, new_call}
use Rattle.rules.specs.Rules.Station.{due_after, ring_back_again_of, called_again, ringing_at, agreed_at, carrier_wait}
use Rattle.rules.specs.Rules.Station.{dialling_wait, reply_wait, hold_wait, table, fires, next_due}
use Rattle.rules.specs.Rules.Requests.{Out, done, ignored, also, rung_back, freed_for, freed, lasted, end_acts, coast_end}
use Rattle.rules.specs.Rules.Requests.{Standing, nowhere, holds, waits, standing, being_called, rule_a, no_number, repeated, afresh, same}
use Rattle.rules.specs.Rules.Requests.{rule_b, rule_d, offer, rule_f, rule_g, e_to_g, newcomer, waiting_or_new, d_to_g, redial, rule_c, b_or_c}
use Rattle.rules.specs.Rules.Requests.{requested}
use Rattle.rules.specs.Rules.Ashore.{ashore_request, engaged, slot_to_take, called_from}

-- ── working call ─────────────────────────────────────────────────────────────

-- "dial the stored request's number .. Carrier counts as present; wait 600 for a reply"
-- (house: in the stored mode; 02, no. 1: the 600 are "for dialling itself")
unfoldable pub dial_now : ℕ → Dealing → Station → Out
dial_now i r st =
    record {
      answer = 0;
      next = set_slot i (busy r (dialling (due_after st.clock dialling_wait)) none) st;
      acts = does (dial i r.request.number) ∷ [];
    }

-- "on an offered or acknowledged slot"
unfoldable pub working_kind : ℕ → Kind → Dealing → Station → Out
working_kind i offered r st = dial_now i r st
working_kind i first_ring_back r st = ignored st
working_kind i second_ring_back r st = ignored st
working_kind i acknowledged r st = dial_now i r st
working_kind i first_call r st = ignored st
working_kind i second_call r st = ignored st
working_kind i ringing r st = ignored st

-- ".., same ship"
unfoldable pub working_on : ℕ → Party → Station → Slot → Out
working_on i x st free = ignored st
working_on i x st taken = ignored st
working_on i x st (pending k r d) = cond (is x r.request.who) (working_kind i k r st) (ignored st)
working_on i x st (busy r g c) = ignored st
working_on i x st (held r n d) = ignored st

-- ── BQ: ring-back acknowledged; the ship that is called agrees ────────────────

-- "acknowledged, wait 160" (house)
unfoldable pub agreed : ℕ → Dealing → Station → Out
agreed i r st = done (set_slot i (agreed_at r st.clock) st)

-- 02, no. 2: "The ship's first BQ with 100 or 101 and that channel starts the ringing and a wait of one minute"
unfoldable pub starts_ringing : ℕ → Dealing → Station → Out
starts_ringing i r st =
    record {
      answer = 0;
      next = set_slot i (ringing_at r st.clock) st;
      acts = does (ringing_on i) ∷ [];
    }

unfoldable pub bq_kind : ℕ → Kind → Dealing → Station → Out
bq_kind i offered r st = ignored st
bq_kind i first_ring_back r st = agreed i r st
bq_kind i second_ring_back r st = agreed i r st
bq_kind i acknowledged r st = ignored st
bq_kind i first_call r st = starts_ringing i r st
bq_kind i second_call r st = starts_ringing i r st
bq_kind i ringing r st = ignored st

-- "BQ on channel 70 from that ship .. naming that channel"
unfoldable pub bq_for : ℕ → Party → Station → Slot → Out
bq_for i x st free = ignored st
bq_for i x st taken = ignored st
bq_for i x st (pending k r d) = cond (is x r.request.who) (bq_kind i k r st) (ignored st)
bq_for i x st (busy r g c) = ignored st
bq_for i x st (held r n d) = ignored st

-- ── 02, no. 2: a call from ashore is dropped ─────────────────────────────────

-- "ringing off if it rings, carrier off, the tone unless the caller hung up, release line"
abbrev pub drop_acts : ℕ → Bool → Bool → List Action
drop_acts i rung tone =
    cond rung (does (ringing_off i) ∷ []) []
    ++ does (carrier_off i) ∷ cond tone (does (busy_tone i) ∷ []) [] ++ does (release_line i) ∷ []

-- "the slot is freed"
unfoldable pub dropped : ℕ → Kind → Bool → Station → Out
dropped i k tone st = also (drop_acts i (rings k) tone) (freed i st)

-- "its BQ with 104 before its transmission, ringing or not, drops the call"
unfoldable pub declined_kind : ℕ → Kind → Station → Out
declined_kind i offered st = ignored st
declined_kind i first_ring_back st = ignored st
declined_kind i second_ring_back st = ignored st
declined_kind i acknowledged st = ignored st
declined_kind i first_call st = dropped i first_call true st
declined_kind i second_call st = dropped i second_call true st
declined_kind i ringing st = dropped i ringing true st

unfoldable pub declined_on : ℕ → Station → Slot → Out
declined_on i st free = ignored st
declined_on i st taken = ignored st
declined_on i st (pending k r d) = declined_kind i k st
declined_on i st (busy r g c) = ignored st
declined_on i st (held r n d) = ignored st

-- the slot is that ship's
unfoldable pub declined_at : Station → Standing → Out
declined_at st nowhere = ignored st
declined_at st (holds i) = declined_on i st (the_slot st i)
declined_at st (waits k) = ignored st

-- ── 02, no. 1: dialling ended ────────────────────────────────────────────────

-- "at it a new wait of 600 begins. A second P in a call, or one after the answer, is ignored"
unfoldable pub dialled_out_stage : ℕ → Dealing → Option ℕ → Station → Stage → Out
dialled_out_stage i r c st (dialling d) = done (set_slot i (busy r (dialled_out (due_after st.clock reply_wait)) c) st)
dialled_out_stage i r c st (dialled_out d) = ignored st
dialled_out_stage i r c st (answered b) = ignored st

unfoldable pub dialled_out_on : ℕ → Station → Slot → Out
dialled_out_on i st free = ignored st
dialled_out_on i st taken = ignored st
dialled_out_on i st (pending k r d) = ignored st
dialled_out_on i st (busy r g c) = dialled_out_stage i r c st g
dialled_out_on i st (held r n d) = ignored st

-- ── off-hook, carrier down, carrier up ───────────────────────────────────────

-- "while dialling: answered, the reply wait ends, a carrier wait runs on"; 02, no. 1: "off-hook answers in either wait"
unfoldable pub off_hook_stage : ℕ → Dealing → Option ℕ → Station → Stage → Out
off_hook_stage i r c st (dialling d) = done (set_slot i (busy r (answered st.clock) c) st)
off_hook_stage i r c st (dialled_out d) = done (set_slot i (busy r (answered st.clock) c) st)
off_hook_stage i r c st (answered b) = ignored st

unfoldable pub off_hook_on : ℕ → Station → Slot → Out
off_hook_on i st free = ignored st
off_hook_on i st taken = ignored st
off_hook_on i st (pending k r d) = ignored st
off_hook_on i st (busy r g c) = off_hook_stage i r c st g
off_hook_on i st (held r n d) = ignored st

-- "starts a wait of 50 duplex, 450 simplex; a second down doesn't restart it"
abbrev pub start_loss : ℕ → Mode → Option ℕ → Option ℕ
start_loss t m none = some (due_after t (carrier_wait m))
start_loss t m (some d) = some d

-- "while dialling or answered .. answers 0 even where nothing changes"
unfoldable pub down_on : ℕ → Station → Slot → Out
down_on i st free = ignored st
down_on i st taken = ignored st
down_on i st (pending k r d) = ignored st
down_on i st (busy r g c) = done (set_slot i (busy r g (start_loss st.clock r.request.mode c)) st)
down_on i st (held r n d) = ignored st

-- 02, no. 2: "The first carrier up while it rings is the ship's transmission: it ends that wait, stops the ringing and starts the charge";
-- "answered, its carrier present"
unfoldable pub transmitted : ℕ → Dealing → Station → Out
transmitted i r st =
    record {
      answer = 0;
      next = set_slot i (busy r (answered st.clock) none) st;
      acts = does (ringing_off i) ∷ [];
    }

unfoldable pub up_kind : ℕ → Kind → Dealing → Station → Out
up_kind i offered r st = ignored st
up_kind i first_ring_back r st = ignored st
up_kind i second_ring_back r st = ignored st
up_kind i acknowledged r st = ignored st
up_kind i first_call r st = ignored st
up_kind i second_call r st = ignored st
up_kind i ringing r st = transmitted i r st

-- "carrier up ends it"
unfoldable pub up_on : ℕ → Station → Slot → Out
up_on i st free = ignored st
up_on i st taken = ignored st
up_on i st (pending k r d) = up_kind i k r st
up_on i st (busy r g c) = done (set_slot i (busy r g none) st)
up_on i st (held r n d) = ignored st

-- ── ship's end of call ───────────────────────────────────────────────────────

-- ".. with BQ and the duration, carrier off, hold for 40" (house: not given to others)
unfoldable pub ship_end : ℕ → Dealing → Option ℕ → Station → Out
ship_end i r b st =
    record {
      answer = 0;
      next = set_slot i (held r (lasted b st.clock) (due_after st.clock hold_wait)) st;
      acts = end_acts i the_ship r b st.clock;
    }

-- "in the hold: carrier on, the same answer sent, carrier off; the wait unchanged"
unfoldable pub say_again : ℕ → Request → Optional Duration → Station → Out
say_again i r n st =
    record {
      answer = 0;
      next = st;
      acts = does (carrier_on i) ∷ over i the_ship r.who r.number n ∷ does (carrier_off i) ∷ [];
    }

-- "while dialling or answered, same ship"
unfoldable pub ship_end_on : ℕ → Party → Station → Slot → Out
ship_end_on i x st free = ignored st
ship_end_on i x st taken = ignored st
ship_end_on i x st (pending k r d) = ignored st
ship_end_on i x st (busy r g c) = cond (is x r.request.who) (ship_end i r (answered_at g) st) (ignored st)
ship_end_on i x st (held r n d) = cond (is x r.request.who) (say_again i r.request n st) (ignored st)

-- ── coast's end: carrier loss, on-hook ───────────────────────────────────────

unfoldable pub end_on : ℕ → Station → Slot → Out
end_on i st free = ignored st
end_on i st taken = ignored st
end_on i st (pending k r d) = ignored st
end_on i st (busy r g c) = coast_end i r (answered_at g) st
end_on i st (held r n d) = ignored st

-- 02, no. 2: "The caller's on-hook before that drops the call too"
unfoldable pub hung_kind : ℕ → Kind → Station → Out
hung_kind i offered st = ignored st
hung_kind i first_ring_back st = ignored st
hung_kind i second_ring_back st = ignored st
hung_kind i acknowledged st = ignored st
hung_kind i first_call st = dropped i first_call false st
hung_kind i second_call st = dropped i second_call false st
hung_kind i ringing st = dropped i ringing false st

unfoldable pub hung_on : ℕ → Station → Slot → Out
hung_on i st free = ignored st
hung_on i st taken = ignored st
hung_on i st (pending k r d) = hung_kind i k st
hung_on i st (busy r g c) = coast_end i r (answered_at g) st
hung_on i st (held r n d) = ignored st

-- ── operator ─────────────────────────────────────────────────────────────────

-- "takes a free slot"
unfoldable pub take_on : ℕ → Station → Slot → Out
take_on i st free = done (set_slot i taken st)
take_on i st taken = ignored st
take_on i st (pending k r d) = ignored st
take_on i st (busy r g c) = ignored st
take_on i st (held r n d) = ignored st

-- "or gives it back (freed)"
unfoldable pub give_on : ℕ → Station → Slot → Out
give_on i st free = ignored st
give_on i st taken = freed i st
give_on i st (pending k r d) = ignored st
give_on i st (busy r g c) = ignored st
give_on i st (held r n d) = ignored st

-- "operator takes a slot not free, or gives back one not taken"
abbrev pub barred_hand : Slot → Hand → Bool
barred_hand s hand_takes = not (is_free s)
barred_hand s hand_gives = not (is_taken s)

-- ── a wait falls due ─────────────────────────────────────────────────────────

-- "Offer due: carrier off, slot freed."
unfoldable pub offer_due : ℕ → Station → Out
offer_due i st = also (does (carrier_off i) ∷ []) (freed i st)

-- "send once more, wait 50"
unfoldable pub rung_back_again : ℕ → Dealing → Station → Out
rung_back_again i r st =
    record {
      answer = 0;
      next = set_slot i (ring_back_again_of r st.clock) st;
      acts = does (call_ship i r.request) ∷ [];
    }

-- 02, no. 2: "one repeat after 5 s"
unfoldable pub call_again : ℕ → Dealing → Station → Out
call_again i r st =
    record {
      answer = 0;
      next = set_slot i (called_again r st.clock) st;
      acts = does (call_ship i r.request) ∷ [];
    }

-- "then carrier off, details dropped, slot freed"; acknowledged: "then as an offer due";
-- 02, no. 2: "dropped after another 5 s", "a wait of one minute, which drops the call when due"
unfoldable pub pending_due : ℕ → Kind → Dealing → Station → Out
pending_due i offered r st = offer_due i st
pending_due i first_ring_back r st = rung_back_again i r st
pending_due i second_ring_back r st = offer_due i st
pending_due i acknowledged r st = offer_due i st
pending_due i first_call r st = call_again i r st
pending_due i second_call r st = dropped i second_call true st
pending_due i ringing r st = dropped i ringing true st

-- no reply, in either wait
unfoldable pub reply_due : ℕ → Dealing → Station → Stage → Out
reply_due i r st (dialling d) = coast_end i r none st
reply_due i r st (dialled_out d) = coast_end i r none st
reply_due i r st (answered b) = ignored st

-- the hold: "Then freed."
unfoldable pub main_on : ℕ → Station → Slot → Out
main_on i st free = ignored st
main_on i st taken = ignored st
main_on i st (pending k r d) = pending_due i k r st
main_on i st (busy r g c) = reply_due i r st g
main_on i st (held r n d) = freed i st

-- "A queue entry due is dropped."
unfoldable pub fire : Station → Wait → Out
fire st (of_queue k) = done (set_queue (drop_at k st.queue) st)
fire st (loss i) = end_on i st (the_slot st i)
fire st (main i) = main_on i st (the_slot st i)

-- "sets the clock to its due time; with none due the clock becomes t"
unfoldable pub ticked : Station → ℕ → Option Due → Out
ticked st t none = done (set_clock t st)
ticked st t (some p) = fire (set_clock p.at st) p.what

-- ── an accepted event ────────────────────────────────────────────────────────

-- heard on channel 70; 02, no. 2: "A request from a ship being called .. is ignored, before rule a"
unfoldable pub heard_on70 : Station → Heard → Out
heard_on70 st (call_request r) = requested st r (standing st r.who)
heard_on70 st (data_request x n) = cond (being_called st x) (ignored st) (rule_a st x n)
heard_on70 st (bq i x) = bq_for i x st (the_slot st i)
heard_on70 st (declined x) = declined_at st (standing st x)
heard_on70 st (working_call x) = ignored st
heard_on70 st (end_of_call x) = ignored st
heard_on70 st nothing = ignored st

-- heard on a slot's working channel
unfoldable pub heard_on : ℕ → Station → Slot → Heard → Out
heard_on i st s (call_request r) = ignored st
heard_on i st s (data_request x n) = ignored st
heard_on i st s (bq j x) = ignored st
heard_on i st s (working_call x) = working_on i x st s
heard_on i st s (end_of_call x) = ship_end_on i x st s
heard_on i st s (declined x) = ignored st
heard_on i st s nothing = ignored st

abbrev pub signal_on : ℕ → Station → Slot → Signal → Out
signal_on i st s line_dialled_out = dialled_out_on i st s
signal_on i st s line_lifted = off_hook_on i st s
signal_on i st s line_hung = hung_on i st s
signal_on i st s carrier_heard = up_on i st s
signal_on i st s carrier_lost = down_on i st s

abbrev pub hand_on : ℕ → Station → Slot → Hand → Out
hand_on i st s hand_takes = take_on i st s
hand_on i st s hand_gives = give_on i st s

unfoldable pub happened_on : Config → ℕ → Station → Slot → Happened → Out
happened_on c i st s (heard m) = heard_on i st s (meaning c m)
happened_on c i st s (signal g) = signal_on i st s g
happened_on c i st s (operator h) = hand_on i st s h

-- "Any other accepted event sets the clock to its own time."
unfoldable pub act_at : Config → Station → ℕ → What → Out
act_at c st t tick = ticked st t (fires t st)
act_at c st t (on_channel70 m) = heard_on70 (set_clock t st) (meaning c m)
act_at c st t (on_slot i h) = happened_on c i (set_clock t st) (the_slot st i) h
act_at c st t (from_ashore a) = called_from (set_clock t st) (ashore_request c a) (slot_to_take st)

abbrev pub act : Config → Station → Event → Out
act c st e = act_at c st e.time e.what

-- every rule open, for what computes a run
unfoldable pub rules_open : Unit {0}
unfolding is kind_of addressed meaning fresh set_slot set_clock set_queue used_up new_call table fires next_due rung_back freed_for freed coast_end
    standing being_called rule_a no_number repeated afresh same rule_b rule_d offer rule_f rule_g e_to_g newcomer waiting_or_new d_to_g redial rule_c b_or_c
    requested dial_now
    working_kind working_on agreed starts_ringing bq_kind bq_for dropped declined_kind declined_on declined_at dialled_out_stage dialled_out_on
    off_hook_stage off_hook_on down_on transmitted up_kind up_on ship_end say_again ship_end_on end_on hung_kind hung_on ashore_request engaged
    called_from take_on give_on offer_due rung_back_again call_again pending_due reply_due main_on fire ticked heard_on70 heard_on happened_on act_at
rules_open = tt
