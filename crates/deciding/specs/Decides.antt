-- What each event does to a slot, by its phase: one row for an event, one column for a kind of phase, as in the rules.
use Rattle.std.specs.Prelude.{Option as Optional, Some, None, ℕ, Bool, true, false, cond, ltb}
use Rattle.units.specs.declared.Tenths.{Tenths}
use Rattle.units.specs.declared.Duration.{Duration}
use Rattle.rules.specs.Rules.Station.{Kind, offered, first_ring_back, second_ring_back, acknowledged, first_call, second_call, ringing}
use Rattle.rules.specs.Rules.Station.{kind_wait, reply_wait, carrier_wait}
use Rattle.rules.specs.Rules.Sound.{queue_room}
use Rattle.requests.specs.declared.Mode.{Mode}
use Rattle.requests.specs.declared.Mode.TheVariants.{Simplex, Duplex}
use Rattle.requests.specs.Views.{mode_of}
use Rattle.slots.specs.declared.Carrier.{Carrier}
use Rattle.slots.specs.declared.Carrier.TheVariants.{Present, Lost}
use Rattle.slots.specs.declared.Phase.{Phase}
use Rattle.slots.specs.declared.Phase.TheVariants.{Free, Offered, RingBack, RingBackAgain, Acknowledged}
use Rattle.slots.specs.declared.Phase.TheVariants.{Dialling, DialledOut, Answered, Hold, Taken, Called, CalledAgain, Ringing}
use Rattle.slots.specs.declared.Signal.{Signal}
use Rattle.slots.specs.declared.Signal.TheVariants.{LineDialledOut, LineLifted, LineHung, CarrierHeard, CarrierLost}
use Rattle.slots.specs.declared.Hand.{Hand}
use Rattle.slots.specs.declared.Hand.TheVariants.{Takes, GivesBack}
use Rattle.slots.specs.declared.QueuePlace.{QueuePlace}
use Rattle.outcomes.specs.declared.Talk.{Talk}
use Rattle.outcomes.specs.declared.Talk.TheVariants.{Unanswered, Since}
use Rattle.outcomes.specs.declared.Outcome.{Outcome}
use Rattle.outcomes.specs.declared.Outcome.TheVariants.{Ignored, Turns, Dials, RingsBackAgain, Frees, Clears, CoastEnds}
use Rattle.outcomes.specs.declared.Outcome.TheVariants.{ShipEnds, SaysAgain, Repeats, Renews, Redials, Offers, Joins, Replaces}
use Rattle.outcomes.specs.declared.Outcome.TheVariants.{Unable, CallsAgain, StartsRinging, Transmits, DropsCall}
use Rattle.outcomes.specs.Does.{wait_from}

-- the columns: free; taken; before the line is dialled, or called from ashore; dialling; dialled out; answered; in the hold
abbrev pub on : Outcome → Outcome → (Kind → Outcome) → (Tenths → Carrier → Outcome) → (Tenths → Carrier → Outcome)
    → (Tenths → Carrier → Outcome) → (Optional Duration → Outcome) → Phase → Outcome
on a b k d o c h Free = a
on a b k d o c h (Offered t) = k offered
on a b k d o c h (RingBack t) = k first_ring_back
on a b k d o c h (RingBackAgain t) = k second_ring_back
on a b k d o c h (Acknowledged t) = k acknowledged
on a b k d o c h (Dialling t l) = d t l
on a b k d o c h (DialledOut t l) = o t l
on a b k d o c h (Answered t l) = c t l
on a b k d o c h (Hold t n) = h n
on a b k d o c h Taken = b
on a b k d o c h (Called t) = k first_call
on a b k d o c h (CalledAgain t) = k second_call
on a b k d o c h (Ringing t) = k ringing

-- an event that only a slot with a call knows
abbrev pub on_call : (Tenths → Carrier → Outcome) → (Tenths → Carrier → Outcome) → (Tenths → Carrier → Outcome) → Phase → Outcome
on_call d o c p = on Ignored Ignored (λ k. Ignored) d o c (λ n. Ignored) p

-- ── 02, no. 1: dialling ended ────────────────────────────────────────────────

-- "at it a new wait of 600 begins. A second P in a call, or one after the answer, is ignored"
abbrev pub dialled_out_by : Tenths → Phase → Outcome
dialled_out_by t = on_call (λ d l. Turns (DialledOut (wait_from t reply_wait) l)) (λ d l. Ignored) (λ b l. Ignored)

-- ── off-hook, carrier, coast's end ───────────────────────────────────────────

-- "while dialling: answered, the reply wait ends, a carrier wait runs on"; 02, no. 1: "in either wait"
abbrev pub off_hook_by : Tenths → Phase → Outcome
off_hook_by t = on_call (λ d l. Turns (Answered t l)) (λ d l. Turns (Answered t l)) (λ b l. Ignored)

-- 02, no. 2: "The first carrier up while it rings is the ship's transmission"
abbrev pub up_kind_by : Kind → Outcome
up_kind_by offered = Ignored
up_kind_by first_ring_back = Ignored
up_kind_by second_ring_back = Ignored
up_kind_by acknowledged = Ignored
up_kind_by first_call = Ignored
up_kind_by second_call = Ignored
up_kind_by ringing = Transmits

-- "carrier up ends it"
abbrev pub up_by : Phase → Outcome
up_by =
    on Ignored Ignored up_kind_by (λ d l. Turns (Dialling d Present)) (λ d l. Turns (DialledOut d Present))
    (λ b l. Turns (Answered b Present)) (λ n. Ignored)

-- "a second down doesn't restart it"
abbrev pub loss_from : Tenths → Mode → Carrier → Carrier
loss_from t m Present = Lost (wait_from t (carrier_wait (mode_of m)))
loss_from t m (Lost d) = Lost d

abbrev pub down_by : Tenths → Mode → Phase → Outcome
down_by t m =
    on_call (λ d l. Turns (Dialling d (loss_from t m l))) (λ d l. Turns (DialledOut d (loss_from t m l)))
    (λ b l. Turns (Answered b (loss_from t m l)))

-- carrier loss
abbrev pub coast_end_by : Phase → Outcome
coast_end_by = on_call (λ d l. CoastEnds Unanswered) (λ d l. CoastEnds Unanswered) (λ b l. CoastEnds (Since b))

-- on-hook; 02, no. 2: "The caller's on-hook before that drops the call too"
abbrev pub hung_kind_by : Kind → Outcome
hung_kind_by offered = Ignored
hung_kind_by first_ring_back = Ignored
hung_kind_by second_ring_back = Ignored
hung_kind_by acknowledged = Ignored
hung_kind_by first_call = DropsCall false false
hung_kind_by second_call = DropsCall false false
hung_kind_by ringing = DropsCall true false

abbrev pub hung_by : Phase → Outcome
hung_by =
    on Ignored Ignored hung_kind_by (λ d l. CoastEnds Unanswered) (λ d l. CoastEnds Unanswered) (λ b l. CoastEnds (Since b)) (λ n. Ignored)

abbrev pub by_signal : Signal → Tenths → Mode → Phase → Outcome
by_signal LineDialledOut t m p = dialled_out_by t p
by_signal LineLifted t m p = off_hook_by t p
by_signal LineHung t m p = hung_by p
by_signal CarrierHeard t m p = up_by p
by_signal CarrierLost t m p = down_by t m p

-- ── heard from the slot's own ship, or from another ──────────────────────────

abbrev pub if_own : Bool → Outcome → Outcome
if_own own o = cond own o Ignored

-- "on an offered or acknowledged slot"
abbrev pub working_kind_by : Kind → Outcome
working_kind_by offered = Dials
working_kind_by first_ring_back = Ignored
working_kind_by second_ring_back = Ignored
working_kind_by acknowledged = Dials
working_kind_by first_call = Ignored
working_kind_by second_call = Ignored
working_kind_by ringing = Ignored

abbrev pub working_by : Bool → Phase → Outcome
working_by own p = if_own own (on Ignored Ignored working_kind_by (λ d l. Ignored) (λ d l. Ignored) (λ b l. Ignored) (λ n. Ignored) p)

-- "while dialling or answered"; "in the hold"
abbrev pub ship_end_by : Bool → Phase → Outcome
ship_end_by own p =
    if_own own
    (on Ignored Ignored (λ k. Ignored) (λ d l. ShipEnds Unanswered) (λ d l. ShipEnds Unanswered) (λ b l. ShipEnds (Since b))
    (λ n. SaysAgain n) p)

-- "acknowledged, wait 160"; 02, no. 2: "The ship's first BQ .. starts the ringing"
abbrev pub bq_kind_by : Tenths → Kind → Outcome
bq_kind_by t offered = Ignored
bq_kind_by t first_ring_back = Turns (Acknowledged (wait_from t (kind_wait acknowledged)))
bq_kind_by t second_ring_back = Turns (Acknowledged (wait_from t (kind_wait acknowledged)))
bq_kind_by t acknowledged = Ignored
bq_kind_by t first_call = StartsRinging
bq_kind_by t second_call = StartsRinging
bq_kind_by t ringing = Ignored

abbrev pub bq_by : Bool → Tenths → Phase → Outcome
bq_by own t p = if_own own (on Ignored Ignored (bq_kind_by t) (λ d l. Ignored) (λ d l. Ignored) (λ b l. Ignored) (λ n. Ignored) p)

-- 02, no. 2: "its BQ with 104 before its transmission, ringing or not, drops the call"
abbrev pub declined_kind_by : Kind → Outcome
declined_kind_by offered = Ignored
declined_kind_by first_ring_back = Ignored
declined_kind_by second_ring_back = Ignored
declined_kind_by acknowledged = Ignored
declined_kind_by first_call = DropsCall false true
declined_kind_by second_call = DropsCall false true
declined_kind_by ringing = DropsCall true true

abbrev pub declined_by : Phase → Outcome
declined_by = on Ignored Ignored declined_kind_by (λ d l. Ignored) (λ d l. Ignored) (λ b l. Ignored) (λ n. Ignored)

-- ── operator ─────────────────────────────────────────────────────────────────

abbrev pub take_by : Phase → Outcome
take_by = on (Turns Taken) Ignored (λ k. Ignored) (λ d l. Ignored) (λ d l. Ignored) (λ b l. Ignored) (λ n. Ignored)

abbrev pub give_back_by : Phase → Outcome
give_back_by = on Ignored Frees (λ k. Ignored) (λ d l. Ignored) (λ d l. Ignored) (λ b l. Ignored) (λ n. Ignored)

abbrev pub by_hand : Hand → Phase → Outcome
by_hand Takes p = take_by p
by_hand GivesBack p = give_back_by p

-- ── the slot's other wait falls due ──────────────────────────────────────────

abbrev pub due_kind_by : Kind → Outcome
due_kind_by offered = Clears
due_kind_by first_ring_back = RingsBackAgain
due_kind_by second_ring_back = Clears
due_kind_by acknowledged = Clears
due_kind_by first_call = CallsAgain
due_kind_by second_call = DropsCall false true
due_kind_by ringing = DropsCall true true

abbrev pub main_due_by : Phase → Outcome
main_due_by = on Ignored Ignored due_kind_by (λ d l. CoastEnds Unanswered) (λ d l. CoastEnds Unanswered) (λ b l. Ignored) (λ n. Frees)

-- ── a call request of the ship that has the slot ─────────────────────────────

-- 02, no. 2: "A request from a ship being called .. is ignored, before rule a"; a. "Data: answer 104/109."
abbrev pub data_by : Bool → Outcome
data_by called = cond called Ignored (Unable 109)

-- 02, no. 4: what is decided while a call number is left; then "answer 104/107 and change nothing else"
abbrev pub while_left : Bool → Outcome → Outcome
while_left spent o = cond spent (Unable 107) o

-- b. "offered a slot by an identical request .. If it differs, or the slot is in ring-back or acknowledged"
abbrev pub rule_b_by : Bool → Bool → Kind → Outcome
rule_b_by same spent offered = cond same Repeats (while_left spent Renews)
rule_b_by same spent first_ring_back = while_left spent Renews
rule_b_by same spent second_ring_back = while_left spent Renews
rule_b_by same spent acknowledged = while_left spent Renews
rule_b_by same spent first_call = Ignored
rule_b_by same spent second_call = Ignored
rule_b_by same spent ringing = Ignored

-- c. "ignored if duplex or if its carrier is present"
abbrev pub rule_c_by : Mode → Talk → Carrier → Outcome
rule_c_by Duplex k l = Ignored
rule_c_by Simplex k Present = Ignored
rule_c_by Simplex k (Lost d) = Redials k

abbrev pub asked_again_by : Mode → Bool → Bool → Phase → Outcome
asked_again_by m same spent =
    on Ignored Ignored (rule_b_by same spent) (λ d l. rule_c_by m Unanswered l) (λ d l. rule_c_by m Unanswered l)
    (λ b l. rule_c_by m (Since b) l) (λ n. Ignored)

-- ── and of a ship that has no slot ───────────────────────────────────────────

-- e. "A slot is free"; f. "The queue has room"; g. "Otherwise answer 104/102."
abbrev pub newcomer_by : Bool → ℕ → Outcome
newcomer_by found waiting = cond found Offers (cond (ltb waiting queue_room) Joins (Unable 102))

-- d. "The ship is waiting", at that place
abbrev pub waiting_or_new_by : Optional QueuePlace → Bool → ℕ → Outcome
waiting_or_new_by (Some k) found waiting = Replaces k
waiting_or_new_by None found waiting = newcomer_by found waiting

abbrev pub d_to_g_by : Bool → Optional QueuePlace → Bool → ℕ → Outcome
d_to_g_by spent place found waiting = while_left spent (waiting_or_new_by place found waiting)
