-- A call of an entry from C, as the checker reads its contract; and a host that hands on the bytes that it was left.
use Rattle.std.specs.Prelude.{ℕ, ◌<◌, ◌≡◌, List, [], ◌∷◌}
use contract.Lifetimes.{Lfts}
use Rattle.rules.specs.Rules.Words.{Config, Happened, heard, signal, operator}
use Rattle.rules.specs.Rules.Words.{dialling_ended, off_hook, on_hook, carrier_up, carrier_down, takes, gives_back}
use Rattle.rules.specs.Rules.Words.{What, tick, on_channel70, on_slot, from_ashore, Event}
use Rattle.station.specs.Step.{event_at, slot_at, ashore_of, given}
use Rattle.coast.proofs.setting.coast_set_up.Reads as coast_set_up
use Rattle.coast.proofs.events.coast_tick.Reads as coast_tick
use Rattle.coast.proofs.events.coast_heard_on_channel_70.Reads as coast_heard_on_channel_70
use Rattle.coast.proofs.events.coast_heard_on_slot.Reads as coast_heard_on_slot
use Rattle.coast.proofs.events.coast_carrier_up.Reads as coast_carrier_up
use Rattle.coast.proofs.events.coast_carrier_down.Reads as coast_carrier_down
use Rattle.coast.proofs.events.coast_dialling_ended.Reads as coast_dialling_ended
use Rattle.coast.proofs.events.coast_off_hook.Reads as coast_off_hook
use Rattle.coast.proofs.events.coast_on_hook.Reads as coast_on_hook
use Rattle.coast.proofs.events.coast_take.Reads as coast_take
use Rattle.coast.proofs.events.coast_give_back.Reads as coast_give_back
use Rattle.coast.proofs.shore_calls.coast_call_from_ashore.Reads as coast_call_from_ashore
use Rattle.host_theorems.specs.Sequences.{InBytes}

-- what was lent, what was returned, and what was left
pub record Call : Type 0 where
  pub event : Event
  pub station : List ℕ  -- the station's bytes
  pub lent : List ℕ  -- the room for the actions
  pub number : ℕ
  pub kept : List ℕ  -- the station's bytes afterwards
  pub left : List ℕ  -- what the room then holds

abbrev pub call_of : Event → List ℕ → List ℕ → ℕ → List ℕ → List ℕ → Call
call_of event station lent number kept left =
    record { event = event; station = station; lent = lent; number = number; kept = kept; left = left }

-- an entry's contract allows it: `a` are the arguments, `r` is the result, `s` the parameters at exit
pub data Entered : Call → Type 0 where
  by-tick : (κs : Lfts 2) (a : _) (r : _) (s : _) → coast_tick.Post κs a r s → Entered (call_of
      (event_at a.1.0 tick a.1.1.0.now)
      a.0.now a.1.1.0.now r s.0.now s.1.1.0.now)
  by-heard-on-channel-70 : (κs : Lfts 3) (a : _) (r : _) (s : _) → coast_heard_on_channel_70.Post κs a r s → Entered (call_of
      (event_at a.1.0 (on_channel70 a.1.1.0.now) a.1.1.1.0.now)
      a.0.now a.1.1.1.0.now r s.0.now s.1.1.1.0.now)
  by-heard-on-slot : (κs : Lfts 3) (a : _) (r : _) (s : _) → coast_heard_on_slot.Post κs a r s → Entered (call_of
      (slot_at a.1.0 a.1.1.0 (heard a.1.1.1.0.now) a.1.1.1.1.0.now)
      a.0.now a.1.1.1.1.0.now r s.0.now s.1.1.1.1.0.now)
  by-carrier-up : (κs : Lfts 2) (a : _) (r : _) (s : _) → coast_carrier_up.Post κs a r s → Entered (call_of
      (slot_at a.1.0 a.1.1.0 carrier_up a.1.1.1.0.now)
      a.0.now a.1.1.1.0.now r s.0.now s.1.1.1.0.now)
  by-carrier-down : (κs : Lfts 2) (a : _) (r : _) (s : _) → coast_carrier_down.Post κs a r s → Entered (call_of
      (slot_at a.1.0 a.1.1.0 carrier_down a.1.1.1.0.now)
      a.0.now a.1.1.1.0.now r s.0.now s.1.1.1.0.now)
  by-dialling-ended : (κs : Lfts 2) (a : _) (r : _) (s : _) → coast_dialling_ended.Post κs a r s → Entered (call_of
      (slot_at a.1.0 a.1.1.0 dialling_ended a.1.1.1.0.now)
      a.0.now a.1.1.1.0.now r s.0.now s.1.1.1.0.now)
  by-off-hook : (κs : Lfts 2) (a : _) (r : _) (s : _) → coast_off_hook.Post κs a r s → Entered (call_of
      (slot_at a.1.0 a.1.1.0 off_hook a.1.1.1.0.now)
      a.0.now a.1.1.1.0.now r s.0.now s.1.1.1.0.now)
  by-on-hook : (κs : Lfts 2) (a : _) (r : _) (s : _) → coast_on_hook.Post κs a r s → Entered (call_of
      (slot_at a.1.0 a.1.1.0 on_hook a.1.1.1.0.now)
      a.0.now a.1.1.1.0.now r s.0.now s.1.1.1.0.now)
  by-take-slot : (κs : Lfts 2) (a : _) (r : _) (s : _) → coast_take.Post κs a r s → Entered (call_of
      (slot_at a.1.0 a.1.1.0 takes a.1.1.1.0.now)
      a.0.now a.1.1.1.0.now r s.0.now s.1.1.1.0.now)
  by-give-back : (κs : Lfts 2) (a : _) (r : _) (s : _) → coast_give_back.Post κs a r s → Entered (call_of
      (slot_at a.1.0 a.1.1.0 gives_back a.1.1.1.0.now)
      a.0.now a.1.1.1.0.now r s.0.now s.1.1.1.0.now)
  by-call-from-ashore : (κs : Lfts 3) (a : _) (r : _) (s : _) → coast_call_from_ashore.Post κs a r s → Entered (call_of
      (event_at a.1.0 (ashore_of a.1.1.0 a.1.1.1.0 a.1.1.1.1.0.now) a.1.1.1.1.1.0.now)
      a.0.now a.1.1.1.1.1.0.now r s.0.now s.1.1.1.1.1.0.now)

-- what C's types hold of an event: a slot, a ship and a mode of 32 bits, symbols and digits in bytes
abbrev pub HappenedInC : Happened → Type 0
HappenedInC (heard symbols) = InBytes symbols
HappenedInC (signal g) = Unit {0}
HappenedInC (operator n) = Unit {0}

abbrev pub WhatInC : What → Type 0
WhatInC tick = Unit {0}
WhatInC (on_channel70 symbols) = InBytes symbols
WhatInC (on_slot i h) = (i < 4294967296) × HappenedInC h
WhatInC (from_ashore a) = (a.ship < 4294967296) × ((a.mode < 4294967296) × InBytes a.digits)

-- the bytes that set-up left with the answer 0, for an identity and a channel list
pub data SetUpIn : Config → List ℕ → Type 0 where
  by-set-up : (κs : Lfts 2) (a : _) (r : _) (s : _) → coast_set_up.Post κs a r s → r ≡ 0 → SetUpIn (given a.0 a.1.0.now) s.1.1.0.now

-- calls one after the other, each on the bytes that the one before left
abbrev pub HandsOn : List ℕ → List Call → Type 0
HandsOn b [] = Unit {0}
HandsOn b (x ∷ xs) = (x.station ≡ b) × (Entered x × HandsOn x.kept xs)

-- a list of calls that begins with what set-up left
pub record HostRun (c : Config) (xs : List Call) : Type 0 where
  pub first : List ℕ
  pub begun : SetUpIn c first
  pub calls : HandsOn first xs

-- the bytes after them
abbrev pub last_of : List ℕ → List Call → List ℕ
last_of b [] = b
last_of b (x ∷ xs) = last_of x.kept xs
