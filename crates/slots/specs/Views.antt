-- What the records of slots and queue stand for.
use Rattle.std.specs.Prelude.{ℕ, List, [], Option as Optional, Some, None}
use Rattle.std.proofs.Math.Option.{Option, none, some}
use Rattle.units.specs.declared.Channel.{Channel}
use Rattle.units.specs.declared.SlotNumber.{SlotNumber}
use Rattle.units.specs.declared.Tenths.{Tenths}
use Rattle.rules.specs.Rules.Words as W
use Rattle.rules.specs.Rules.Words.{line_dialled_out, line_lifted, line_hung, carrier_heard, carrier_lost, hand_takes, hand_gives}
use Rattle.rules.specs.Rules.Waits as T
use Rattle.rules.specs.Rules.Waits.{of_queue, loss, main}
use Rattle.rules.specs.Rules.Station as R
use Rattle.rules.specs.Rules.Station.{dealing}
use Rattle.rules.specs.Rules.Requests as Q
use Rattle.rules.specs.Rules.Requests.{nowhere, holds, waits}
use Rattle.requests.specs.declared.Mode.TheVariants.{Simplex}
use Rattle.requests.specs.declared.Request.{Request}
use Rattle.requests.specs.Views.{viewed, request_of}
use Rattle.slots.specs.declared.Phase.TheVariants.{Free}
use Rattle.slots.specs.declared.Signal.{Signal}
use Rattle.slots.specs.declared.Signal.TheVariants.{LineDialledOut, LineLifted, LineHung, CarrierHeard, CarrierLost}
use Rattle.slots.specs.declared.Hand.{Hand}
use Rattle.slots.specs.declared.Hand.TheVariants.{Takes, GivesBack}
use Rattle.slots.specs.declared.Slot.{Slot}
use Rattle.slots.specs.declared.mast.Mast.{Mast}
use Rattle.slots.specs.declared.Waiting.{Waiting}
use Rattle.slots.specs.declared.Wait.{Wait}
use Rattle.slots.specs.declared.Wait.TheVariants.{Entry, Loss, Main}
use Rattle.slots.specs.declared.Due.{Due}
use Rattle.slots.specs.declared.QueuePlace.{QueuePlace}
use Rattle.slots.specs.declared.Standing.{Standing}
use Rattle.slots.specs.declared.Standing.TheVariants.{Nowhere, Holds, Waits}
use Rattle.slots.specs.Phases.{phase_view}

abbrev pub signal_view : Signal → W.Signal
signal_view LineDialledOut = line_dialled_out
signal_view LineLifted = line_lifted
signal_view LineHung = line_hung
signal_view CarrierHeard = carrier_heard
signal_view CarrierLost = carrier_lost

abbrev pub hand_view : Hand → W.Hand
hand_view Takes = hand_takes
hand_view GivesBack = hand_gives

-- what its record holds of its call: the request, and 02, no. 4: the number, "The slot's record holds it"
abbrev pub dealing_of : Slot → R.Dealing
dealing_of s = dealing s.call.0 (request_of s.request)

abbrev pub slot_view : Slot → R.Slot
slot_view s = phase_view s.phase (dealing_of s)

abbrev pub channel_of : Slot → Channel
channel_of s = s.channel

-- the mast of one station alone
abbrev pub alone : ℕ → Mast
alone n = record { identity = n }

abbrev pub mast_of : W.Config → Mast
mast_of c = alone c.identity

abbrev pub on_mast : Mast → List Channel → W.Config
on_mast m l = record { identity = m.identity; channels = l }

-- a station of which only the mast is asked
abbrev pub named : Mast → W.Config
named m = on_mast m []

-- the configuration that the first n slots stand for
abbrev pub config_for : Mast → ℕ → List Slot → W.Config
config_for m n a = on_mast m (viewed channel_of n a)

abbrev pub waiting_view : Waiting → R.Waiting
waiting_view w = record { request = request_of w.request; due = w.due.0 }

abbrev pub due_of : R.Waiting → ℕ
due_of w = w.due

abbrev pub wait_view : Wait → T.Wait
wait_view (Entry k) = of_queue k.0
wait_view (Loss i) = loss i.0
wait_view (Main i) = main i.0

abbrev pub when_view : Optional Tenths → Option ℕ
when_view None = none
when_view (Some t) = some t.0

abbrev pub due_view : Optional Due → Option T.Due
due_view None = none
due_view (Some d) = some (record { what = wait_view d.wait; at = d.at.0 })

abbrev pub found_view : Optional SlotNumber → Option ℕ
found_view None = none
found_view (Some i) = some i.0

abbrev pub place_view : Optional QueuePlace → Option ℕ
place_view None = none
place_view (Some k) = some k.0

abbrev pub standing_view : Standing → Q.Standing
standing_view Nowhere = nowhere
standing_view (Holds i) = holds i.0
standing_view (Waits k) = waits k.0

-- what stands past the end of an array
abbrev pub no_request : Request
no_request = record { ship = 0; station = 0; mode = Simplex; second = 0; number = record { count = 0; digits = [] } }

abbrev pub no_slot : Slot
no_slot = record { phase = Free; channel = record { 0 = 0 }; call = record { 0 = 0 }; request = no_request }

abbrev pub no_waiting : Waiting
no_waiting = record { due = record { 0 = 0 }; request = no_request }
