-- A step of the rack: a method's call that its contract allows, as the checker reads it; and a trace, which hands each station on.
use Rattle.std.specs.Prelude.{ℕ, ◌≡◌, List, [], ◌∷◌, Ok}
use contract.Lifetimes.{Lfts}
use Rattle.rules.specs.Rules.Words.{Config, heard, dialling_ended, off_hook, on_hook, carrier_up, carrier_down, takes, gives_back}
use Rattle.rules.specs.Rules.Words.{tick, on_channel70, Event}
use Rattle.station.specs.declared.Station.{Station}
use Rattle.station.specs.declared.Stepped.{Stepped}
use Rattle.station.specs.Step.{event_at, slot_at, ashore_of, chosen}
use Rattle.station.proofs.Station.set_up.Reads as Station-set_up
use Rattle.station.proofs.Station.heard_on_channel_70.Reads as Station-heard_on_channel_70
use Rattle.station.proofs.Station.heard_on_slot.Reads as Station-heard_on_slot
use Rattle.station.proofs.Station.dialling_ended.Reads as Station-dialling_ended
use Rattle.station.proofs.Station.off_hook.Reads as Station-off_hook
use Rattle.station.proofs.Station.on_hook.Reads as Station-on_hook
use Rattle.station.proofs.Station.carrier_up.Reads as Station-carrier_up
use Rattle.station.proofs.Station.carrier_down.Reads as Station-carrier_down
use Rattle.station.proofs.Station.take.Reads as Station-take
use Rattle.station.proofs.Station.give_back.Reads as Station-give_back
use Rattle.station.proofs.Station.call_from_ashore.Reads as Station-call_from_ashore
use Rattle.station.proofs.Station.tick.Reads as Station-tick

-- what came in, and what was handed back
pub record Step : Type 0 where
  pub event : Event
  pub before : Station
  pub lent : List ℕ  -- the room for the actions
  pub back : Stepped
  pub left : List ℕ  -- what the room then holds

abbrev pub step_of : Event → Station → List ℕ → Stepped → List ℕ → Step
step_of event before lent back left = record { event = event; before = before; lent = lent; back = back; left = left }

-- a method's contract allows it: `a` are the arguments, `r` is the result, `s` the parameters at exit
pub data Allowed : Step → Type 0 where
  by-heard-on-channel-70 : (κs : Lfts 2) (a : _) (r : _) (s : _) → Station-heard_on_channel_70.Post κs a r s → Allowed (step_of
      (event_at a.1.0.0 (on_channel70 a.1.1.0.now) a.1.1.1.0.now)
      a.0 a.1.1.1.0.now r s.1.1.1.0.now)
  by-heard-on-slot : (κs : Lfts 2) (a : _) (r : _) (s : _) → Station-heard_on_slot.Post κs a r s → Allowed (step_of
      (slot_at a.1.0.0 a.1.1.0.0 (heard a.1.1.1.0.now) a.1.1.1.1.0.now)
      a.0 a.1.1.1.1.0.now r s.1.1.1.1.0.now)
  by-dialling-ended : (κs : Lfts 1) (a : _) (r : _) (s : _) → Station-dialling_ended.Post κs a r s → Allowed (step_of
      (slot_at a.1.0.0 a.1.1.0.0 dialling_ended a.1.1.1.0.now)
      a.0 a.1.1.1.0.now r s.1.1.1.0.now)
  by-off-hook : (κs : Lfts 1) (a : _) (r : _) (s : _) → Station-off_hook.Post κs a r s → Allowed (step_of
      (slot_at a.1.0.0 a.1.1.0.0 off_hook a.1.1.1.0.now)
      a.0 a.1.1.1.0.now r s.1.1.1.0.now)
  by-on-hook : (κs : Lfts 1) (a : _) (r : _) (s : _) → Station-on_hook.Post κs a r s → Allowed (step_of
      (slot_at a.1.0.0 a.1.1.0.0 on_hook a.1.1.1.0.now)
      a.0 a.1.1.1.0.now r s.1.1.1.0.now)
  by-carrier-up : (κs : Lfts 1) (a : _) (r : _) (s : _) → Station-carrier_up.Post κs a r s → Allowed (step_of
      (slot_at a.1.0.0 a.1.1.0.0 carrier_up a.1.1.1.0.now)
      a.0 a.1.1.1.0.now r s.1.1.1.0.now)
  by-carrier-down : (κs : Lfts 1) (a : _) (r : _) (s : _) → Station-carrier_down.Post κs a r s → Allowed (step_of
      (slot_at a.1.0.0 a.1.1.0.0 carrier_down a.1.1.1.0.now)
      a.0 a.1.1.1.0.now r s.1.1.1.0.now)
  by-take-slot : (κs : Lfts 1) (a : _) (r : _) (s : _) → Station-take.Post κs a r s → Allowed (step_of
      (slot_at a.1.0.0 a.1.1.0.0 takes a.1.1.1.0.now)
      a.0 a.1.1.1.0.now r s.1.1.1.0.now)
  by-give-back : (κs : Lfts 1) (a : _) (r : _) (s : _) → Station-give_back.Post κs a r s → Allowed (step_of
      (slot_at a.1.0.0 a.1.1.0.0 gives_back a.1.1.1.0.now)
      a.0 a.1.1.1.0.now r s.1.1.1.0.now)
  by-call-from-ashore : (κs : Lfts 2) (a : _) (r : _) (s : _) → Station-call_from_ashore.Post κs a r s → Allowed (step_of
      (event_at a.1.0.0 (ashore_of a.1.1.0 a.1.1.1.0 a.1.1.1.1.0.now) a.1.1.1.1.1.0.now)
      a.0 a.1.1.1.1.1.0.now r s.1.1.1.1.1.0.now)
  by-tick : (κs : Lfts 1) (a : _) (r : _) (s : _) → Station-tick.Post κs a r s → Allowed (step_of
      (event_at a.1.0.0 tick a.1.1.0.now)
      a.0 a.1.1.0.now r s.1.1.0.now)

-- what set-up handed back, not refused, for an identity and a channel list
pub data SetUpAs : Config → Station → Type 0 where
  by-set-up : (κs : Lfts 1) (a : _) (r : _) (s : _) → Station-set_up.Post κs a r s → (begun : Station) → r ≡ Ok begun
      → SetUpAs (chosen a.0 a.1.0.now a.1.1.0) begun

-- steps one after the other, each on the station that the one before handed back
abbrev pub HandsOn : Station → List Step → Type 0
HandsOn s [] = Unit {0}
HandsOn s (x ∷ xs) = (x.before ≡ s) × (Allowed x × HandsOn x.back.station xs)

-- a list of steps that begins with what set-up handed back
pub record Trace (c : Config) (xs : List Step) : Type 0 where
  pub first : Station
  pub begun : SetUpAs c first
  pub steps : HandsOn first xs

-- the station after them
abbrev pub last_of : Station → List Step → Station
last_of s [] = s
last_of s (x ∷ xs) = last_of x.back.station xs

abbrev pub events_in : List Step → List Event
events_in [] = []
events_in (x ∷ xs) = x.event ∷ events_in xs
