-- Time and the slots: what a station holds, its waits, and which of them a tick fires.
use Rattle.std.specs.Prelude.{List, [], ◌∷◌, map, Bool, true, false, cond, ℕ, suc, ◌+◌, leb, length, get_or, replicate, Option as Optional}
use Rattle.std.proofs.Math.Option.{Option, none, some}
use Rattle.units.specs.declared.Duration.{Duration}
use Rattle.rules.specs.Rules.Places.{mod_at}
use Rattle.rules.specs.Rules.Words.{Party, Mode, simplex, duplex, Request, Config}
use Rattle.rules.specs.Rules.Waits.{loss, main, Due, running, earliest, if_due, queue_table}

-- ── what a station holds ─────────────────────────────────────────────────────

-- a slot before its line is dialled: offered; in ring-back, sent once or twice; acknowledged;
-- or called from ashore, sent once or twice, and ringing
pub data Kind : Type 0 where
  offered first_ring_back second_ring_back acknowledged : Kind
  first_call second_call ringing : Kind

abbrev pub is_offer : Kind → Bool
is_offer offered = true
is_offer first_ring_back = false
is_offer second_ring_back = false
is_offer acknowledged = false
is_offer first_call = false
is_offer second_call = false
is_offer ringing = false

-- 02, no. 2: the ship is being called
abbrev pub is_called : Kind → Bool
is_called offered = false
is_called first_ring_back = false
is_called second_ring_back = false
is_called acknowledged = false
is_called first_call = true
is_called second_call = true
is_called ringing = true

abbrev pub rings : Kind → Bool
rings offered = false
rings first_ring_back = false
rings second_ring_back = false
rings acknowledged = false
rings first_call = false
rings second_call = false
rings ringing = true

pub data Stage : Type 0 where
  dialling : ℕ → Stage  -- the due time of the wait for its dialling
  dialled_out : ℕ → Stage  -- its dialling has ended: the due time of the reply wait
  answered : ℕ → Stage  -- since when

-- since when the call is answered, if it is
abbrev pub answered_at : Stage → Option ℕ
answered_at (dialling d) = none
answered_at (dialled_out d) = none
answered_at (answered b) = some b

-- what a slot keeps of its call; 02, no. 4: its number, "The slot's record holds it"
pub record Dealing : Type 0 where
  pub request : Request
  pub call_number : ℕ

abbrev pub dealing : ℕ → Request → Dealing
dealing n r = record { request = r; call_number = n }

pub data Slot : Type 0 where
  free : Slot
  taken : Slot  -- by the operator
  pending : Kind → Dealing → ℕ → Slot  -- with its due time
  busy : Dealing → Stage → Option ℕ → Slot  -- with the due time of the carrier wait: none where the carrier is present
  held : Dealing → Optional Duration → ℕ → Slot  -- the hold after a ship's end of call: the duration told, the due time

-- before its line is dialled or answered, or after: a hold and a taken slot are nobody's
abbrev pub by_slot : {A : Type 0} → A → (Kind → Dealing → A) → (Dealing → Stage → Option ℕ → A) → Slot → A
by_slot a f g free = a
by_slot a f g taken = a
by_slot a f g (pending k r d) = f k r
by_slot a f g (busy r s c) = g r s c
by_slot a f g (held r n d) = a

-- the ship that a slot is dealing with
abbrev pub ship_of : Slot → Option Party
ship_of s = by_slot none (λ k r. some r.request.who) (λ r g c. some r.request.who) s

-- the ship whose request it keeps, in a hold too
abbrev pub kept_for : Slot → Option Party
kept_for free = none
kept_for taken = none
kept_for (pending k r d) = some r.request.who
kept_for (busy r g c) = some r.request.who
kept_for (held r n d) = some r.request.who

-- the number of the call that it keeps, 0 where it keeps none
abbrev pub call_number_in : Slot → ℕ
call_number_in free = 0
call_number_in taken = 0
call_number_in (pending k r d) = r.call_number
call_number_in (busy r g c) = r.call_number
call_number_in (held r n d) = r.call_number

-- its ship is being called, and whether it rings
abbrev pub is_called_in : Slot → Bool
is_called_in s = by_slot false (λ k r. is_called k) (λ r g c. false) s

abbrev pub rings_in : Slot → Bool
rings_in s = by_slot false (λ k r. rings k) (λ r g c. false) s

-- since when its call is answered, if it is
abbrev pub answered_in : Slot → Option ℕ
answered_in s = by_slot none (λ k r. none) (λ r g c. answered_at g) s

abbrev pub is_free : Slot → Bool
is_free free = true
is_free taken = false
is_free (pending k r d) = false
is_free (busy r g c) = false
is_free (held r n d) = false

abbrev pub is_taken : Slot → Bool
is_taken free = false
is_taken taken = true
is_taken (pending k r d) = false
is_taken (busy r g c) = false
is_taken (held r n d) = false

pub record Waiting : Type 0 where
  pub request : Request
  pub due : ℕ

-- "a queue of 32 waiting ships, oldest first"
pub record Station : Type 0 where
  pub clock : ℕ
  pub slots : List Slot
  pub queue : List Waiting
  pub last_call : ℕ  -- the last call number given, 0 before the first

-- the slot i; one that is not there counts as free
abbrev pub the_slot : Station → ℕ → Slot
the_slot st i = get_or st.slots i free

-- "All slots begin free at clock 0."
unfoldable pub fresh : Config → Station
fresh c = record { clock = 0; slots = replicate (length c.channels) free; queue = []; last_call = 0 }

unfoldable pub set_slot : ℕ → Slot → Station → Station
set_slot i s st = record { clock = st.clock; slots = mod_at (λ x. s) i st.slots; queue = st.queue; last_call = st.last_call }

-- the slot i free
abbrev pub emptied : ℕ → Station → Station
emptied i st = set_slot i free st

unfoldable pub set_clock : ℕ → Station → Station
set_clock t st = record { clock = t; slots = st.slots; queue = st.queue; last_call = st.last_call }

unfoldable pub set_queue : List Waiting → Station → Station
set_queue q st = record { clock = st.clock; slots = st.slots; queue = q; last_call = st.last_call }

-- ── 02, no. 4: call numbers ──────────────────────────────────────────────────

abbrev pub last_number : ℕ
last_number = 4294967295

-- "once 4,294,967,295 has been given"
abbrev pub none_left : ℕ → Bool
none_left n = leb last_number n

unfoldable pub used_up : Station → Bool
used_up st = none_left st.last_call

-- the number behind n; behind the last there is none, and n stays: no rule asks for it then
abbrev pub number_after : ℕ → ℕ
number_after n = cond (none_left n) n (n + 1)

-- "the next call number from 1"
abbrev pub next_call : Station → ℕ
next_call st = number_after st.last_call

-- "Each offer, ring-back or call from ashore that takes a slot gets the next call number"
unfoldable pub new_call : ℕ → Slot → Station → Station
new_call i s st = record { clock = st.clock; slots = mod_at (λ x. s) i st.slots; queue = st.queue; last_call = next_call st }

-- ── the waits ────────────────────────────────────────────────────────────────

-- "a wait begun at s falls due at s + p + 1 tenth"
abbrev pub due_after : ℕ → ℕ → ℕ
due_after s p = s + (p + 1)

-- rules b and e; ring-back; 02, no. 2: "one repeat after 5 s, dropped after another 5 s", "a wait of one minute"
abbrev pub kind_wait : Kind → ℕ
kind_wait offered = 160
kind_wait first_ring_back = 50
kind_wait second_ring_back = 50
kind_wait acknowledged = 160
kind_wait first_call = 50
kind_wait second_call = 50
kind_wait ringing = 600

-- the slot offered, in ring-back, in ring-back once more, acknowledged: from now on
abbrev pub offer_of : Request → Station → Slot
offer_of r st = pending offered (dealing (next_call st) r) (due_after st.clock (kind_wait offered))

abbrev pub ring_back_of : Request → Station → Slot
ring_back_of r st = pending first_ring_back (dealing (next_call st) r) (due_after st.clock (kind_wait first_ring_back))

abbrev pub ring_back_again_of : Dealing → ℕ → Slot
ring_back_again_of r t = pending second_ring_back r (due_after t (kind_wait second_ring_back))

abbrev pub agreed_at : Dealing → ℕ → Slot
agreed_at r t = pending acknowledged r (due_after t (kind_wait acknowledged))

-- called from ashore, called once more, ringing: from now on
abbrev pub called_of : Request → Station → Slot
called_of r st = pending first_call (dealing (next_call st) r) (due_after st.clock (kind_wait first_call))

abbrev pub called_again : Dealing → ℕ → Slot
called_again r t = pending second_call r (due_after t (kind_wait second_call))

abbrev pub ringing_at : Dealing → ℕ → Slot
ringing_at r t = pending ringing r (due_after t (kind_wait ringing))

-- carrier down: "50 duplex, 450 simplex"
abbrev pub carrier_wait : Mode → ℕ
carrier_wait simplex = 450
carrier_wait duplex = 50

-- 02, no. 1: "the wait is 600 for dialling itself"
abbrev pub dialling_wait : ℕ
dialling_wait = 600

-- "at it a new wait of 600 begins"
abbrev pub reply_wait : ℕ
reply_wait = 600

-- ship's end of call; rule f
abbrev pub hold_wait : ℕ
hold_wait = 40

abbrev pub queue_wait : ℕ
queue_wait = 9000

abbrev pub loss_due : Slot → Option ℕ
loss_due s = by_slot none (λ k r. none) (λ r g c. c) s

abbrev pub stage_due : Stage → Option ℕ
stage_due (dialling d) = some d
stage_due (dialled_out d) = some d
stage_due (answered b) = none

abbrev pub main_due : Slot → Option ℕ
main_due free = none
main_due taken = none
main_due (pending k r d) = some d
main_due (busy r g c) = stage_due g
main_due (held r n d) = some d

-- "slots, lowest first; in one slot carrier loss before no reply"
abbrev pub slot_table : ℕ → List Slot → List Due
slot_table i [] = []
slot_table i (s ∷ ss) = running (loss i) (loss_due s) (running (main i) (main_due s) (slot_table (suc i) ss))

-- every wait that runs, in 01's order: "queue entries, oldest first; slots"
unfoldable pub table : Station → List Due
table st = queue_table 0 (map (λ w. w.due) st.queue) (slot_table 0 st.slots)

-- "the earliest wait due at or before t, one only"
unfoldable pub fires : ℕ → Station → Option Due
fires t st = if_due t (earliest (table st))

abbrev pub due_at : Option Due → Option ℕ
due_at none = none
due_at (some p) = some p.at

-- the next due time
unfoldable pub next_due : Station → Option ℕ
next_due st = due_at (earliest (table st))
