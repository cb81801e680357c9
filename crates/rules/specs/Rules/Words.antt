-- The words of document 01: who asks for what, what comes in, what is done. Nothing here decides, and no wait has its figure here.
use Rattle.std.specs.Prelude.{List, Bool, true, false, ◌&&◌, ◌≡◌, ℕ, eqb}
use Rattle.std.proofs.Math.Option.{Option, none, some}
use Rattle.units.specs.declared.Channel.{Channel}
use Rattle.sequence.specs.Figures.{first_simplex, first_duplex}

-- ── who asks for what ────────────────────────────────────────────────────────

-- a ship with the station that it calls, or that calls it
pub record Party : Type 0 where
  pub ship : ℕ
  pub station : ℕ

-- the same ship, at the same station
unfoldable pub is : Party → Party → Bool
is a b = eqb a.ship b.ship && eqb a.station b.station

pub data Mode : Type 0 where
  simplex duplex : Mode

-- the first telecommand: "100 simplex, 101 duplex"
abbrev pub mode_number : Mode → ℕ
mode_number simplex = first_simplex
mode_number duplex = first_duplex

-- a call request, as it is stored
pub record Request : Type 0 where
  pub who : Party
  pub mode : Mode
  pub second : ℕ  -- its second telecommand
  pub number : List ℕ  -- the digits to dial, or the caller's own

-- what a station is, from set-up on; slot i works on channel i of the list
pub record Config : Type 0 where
  pub identity : ℕ
  pub channels : List Channel

-- an identity is this station's
abbrev pub ours : Config → ℕ → Bool
ours c n = eqb n c.identity

abbrev pub Ours : Config → ℕ → Type 0
Ours c n = n ≡ c.identity

-- ── an event: a time and what ────────────────────────────────────────────────

-- from the line and from the receiver
pub data Signal : Type 0 where
  line_dialled_out : Signal  -- ashore: the exchange has dialled the number
  line_lifted line_hung : Signal  -- ashore: the handset
  carrier_heard carrier_lost : Signal

-- the operator's
pub data Hand : Type 0 where
  hand_takes hand_gives : Hand

pub data Happened : Type 0 where
  heard : List ℕ → Happened  -- symbols, on the working channel
  signal : Signal → Happened
  operator : Hand → Happened

-- their names in the documents
abbrev pub dialling_ended : Happened
dialling_ended = signal line_dialled_out

abbrev pub off_hook : Happened
off_hook = signal line_lifted

abbrev pub on_hook : Happened
on_hook = signal line_hung

abbrev pub carrier_up : Happened
carrier_up = signal carrier_heard

abbrev pub carrier_down : Happened
carrier_down = signal carrier_lost

abbrev pub takes : Happened
takes = operator hand_takes

abbrev pub gives_back : Happened
gives_back = operator hand_gives

-- the called person answers
abbrev pub is_answering : Happened → Bool
is_answering (heard m) = false
is_answering (signal line_dialled_out) = false
is_answering (signal line_lifted) = true
is_answering (signal line_hung) = false
is_answering (signal carrier_heard) = false
is_answering (signal carrier_lost) = false
is_answering (operator h) = false

-- the ship transmits
abbrev pub is_transmitting : Happened → Bool
is_transmitting (heard m) = false
is_transmitting (signal line_dialled_out) = false
is_transmitting (signal line_lifted) = false
is_transmitting (signal line_hung) = false
is_transmitting (signal carrier_heard) = true
is_transmitting (signal carrier_lost) = false
is_transmitting (operator h) = false

-- 02, no. 2: what a caller ashore asks for, before it is judged
pub record Ashore : Type 0 where
  pub ship : ℕ
  pub mode : ℕ  -- as a first telecommand
  pub digits : List ℕ  -- the caller's own number

pub data What : Type 0 where
  tick : What
  on_channel70 : List ℕ → What  -- symbols
  on_slot : ℕ → Happened → What
  from_ashore : Ashore → What

-- the called person answers on the slot i
abbrev pub answering_on : ℕ → What
answering_on i = on_slot i off_hook

abbrev pub is_answering_on : ℕ → What → Bool
is_answering_on i tick = false
is_answering_on i (on_channel70 m) = false
is_answering_on i (on_slot j h) = eqb i j && is_answering h
is_answering_on i (from_ashore a) = false

-- the ship transmits on the slot i
abbrev pub transmitting_on : ℕ → What
transmitting_on i = on_slot i carrier_up

abbrev pub is_transmitting_on : ℕ → What → Bool
is_transmitting_on i tick = false
is_transmitting_on i (on_channel70 m) = false
is_transmitting_on i (on_slot j h) = eqb i j && is_transmitting h
is_transmitting_on i (from_ashore a) = false

-- something happens, and not time alone goes on
abbrev pub happens : What → Bool
happens tick = false
happens (on_channel70 m) = true
happens (on_slot i h) = true
happens (from_ashore a) = true

-- the slot that it names
abbrev pub slot_in : What → Option ℕ
slot_in tick = none
slot_in (on_channel70 m) = none
slot_in (on_slot i h) = some i
slot_in (from_ashore a) = none

-- the symbols that it brings
abbrev pub symbols_on : Happened → Option (List ℕ)
symbols_on (heard m) = some m
symbols_on (signal g) = none
symbols_on (operator h) = none

abbrev pub symbols_in : What → Option (List ℕ)
symbols_in tick = none
symbols_in (on_channel70 m) = some m
symbols_in (on_slot i h) = symbols_on h
symbols_in (from_ashore a) = none

-- the operator's hand in it
abbrev pub hand_of : Happened → Option Hand
hand_of (heard m) = none
hand_of (signal g) = none
hand_of (operator h) = some h

abbrev pub hand_in : What → Option Hand
hand_in tick = none
hand_in (on_channel70 m) = none
hand_in (on_slot i h) = hand_of h
hand_in (from_ashore a) = none

-- what is asked for ashore
abbrev pub ashore_in : What → Option Ashore
ashore_in tick = none
ashore_in (on_channel70 m) = none
ashore_in (on_slot i h) = none
ashore_in (from_ashore a) = some a

pub record Event : Type 0 where
  pub time : ℕ  -- in tenths
  pub room : ℕ  -- bytes lent for the actions
  pub what : What

-- ── what is done: the actions that tell no length of time ────────────────────

pub data Deed : Type 0 where
  carrier_on : ℕ → Deed
  carrier_off : ℕ → Deed
  acknowledge : ℕ → Request → Deed  -- channel 70: the slot's channel, with BQ
  call_ship : ℕ → Request → Deed  -- the same with RQ: a ring-back, or a call from ashore
  unable : ℕ → Party → List ℕ → Deed  -- channel 70: 104 with the second telecommand, and the number asked for
  dial : ℕ → List ℕ → Deed
  release_line : ℕ → Deed
  ringing_on : ℕ → Deed  -- to the caller ashore
  ringing_off : ℕ → Deed
  busy_tone : ℕ → Deed  -- "five seconds of busy tone"
