-- Which station is sound: 01, "It is sound if ..", one definition for each part of that sentence.
use Rattle.std.specs.Prelude.{Option as Optional, Some, None, List, [], ◌∷◌, map, Bool, true, ◌&&◌, ℕ, eqb, leb, length}
use Rattle.std.proofs.Math.Option.{Option, none, some}
use Rattle.units.specs.declared.Channel.{Channel}
use Rattle.units.specs.declared.Duration.{Duration}
use Rattle.sequence.specs.Figures.{least_second, last_second, most_digits}
use Rattle.sequence.specs.Identity.{is_ship, is_coast}
use Rattle.sequence.specs.Symbols.{within, all_at_most}
use Rattle.sequence.specs.Field.{channel_ok, duration_ok}
use Rattle.rules.specs.Rules.Places.{all, distinct}
use Rattle.rules.specs.Rules.Words.{Party, is, Mode, Request, Config, ours}
use Rattle.rules.specs.Rules.Heard.{same_channel}
use Rattle.rules.specs.Rules.Station.{Stage, dialling, dialled_out, answered, Slot, free, taken, pending, busy, held, ship_of}
use Rattle.rules.specs.Rules.Station.{Waiting, Station, due_after, kind_wait, carrier_wait, dialling_wait, reply_wait, hold_wait, queue_wait}

-- "its identity": a coast station's
unfoldable pub identity_keeps : Config → Bool
identity_keeps c = is_coast c.identity

-- "1 to 16 distinct channels of the kind above", "one slot each"
abbrev pub most_slots : ℕ
most_slots = 16

unfoldable pub channels_keep : List Channel → Bool
channels_keep l = within 1 most_slots (length l) && (all channel_ok l && distinct same_channel l)

-- what set-up asks, and every event after it
unfoldable pub config_keeps : Config → Bool
config_keeps c = identity_keeps c && channels_keep c.channels

-- "one slot each"
unfoldable pub one_slot_each : Config → Station → Bool
one_slot_each c st = eqb (length st.slots) (length c.channels)

-- "A number has 1 to 16 digits"
unfoldable pub number_keeps : List ℕ → Bool
number_keeps l = within 1 most_digits (length l) && all_at_most 9 l

-- "stored requests (simplex or duplex, to this station)": from a ship, the second telecommand 100 to 126
unfoldable pub request_keeps : Config → Request → Bool
request_keeps c r = is_ship r.who.ship
    && (ours c r.who.station
    && (within least_second last_second r.second
    && number_keeps r.number))

-- "hold durations": none, or "hours 0 to 99, minutes and seconds 0 to 59"
unfoldable pub duration_keeps : Optional Duration → Bool
duration_keeps None = true
duration_keeps (Some d) = duration_ok d

abbrev pub slot_keeps : Config → Slot → Bool
slot_keeps c free = true
slot_keeps c taken = true
slot_keeps c (pending k r d) = request_keeps c r.request
slot_keeps c (busy r g l) = request_keeps c r.request
slot_keeps c (held r n d) = request_keeps c r.request && duration_keeps n

abbrev pub waiting_keeps : Config → Waiting → Bool
waiting_keeps c w = request_keeps c w.request

-- "the clock is within the limit"
abbrev pub limit : ℕ
limit = 4000000000

-- "the queue holds at most 32"
abbrev pub queue_room : ℕ
queue_room = 32

abbrev pub listed : Option Party → List Party → List Party
listed none r = r
listed (some x) r = x ∷ r

-- the ship of an offered, ring-back, acknowledged, dialling, dialled out or answered slot; 02, no. 2: "a called ship counts"
abbrev pub owner : Slot → List Party → List Party
owner s r = listed (ship_of s) r

abbrev pub owners : List Slot → List Party → List Party
owners [] r = r
owners (s ∷ ss) r = owner s (owners ss r)

-- "no ship stands twice in the queue and the offered, ring-back, acknowledged, dialling and answered slots together"
unfoldable pub no_ship_twice : Station → Bool
no_ship_twice st = distinct is (owners st.slots (map (λ w. w.request.who) st.queue))

-- "each due time lies from the clock to the clock plus its wait and 1"
abbrev pub fits : ℕ → ℕ → ℕ → Bool
fits c p d = within c (due_after c p) d

-- "no answered start is after the clock"
abbrev pub stage_fits : ℕ → Stage → Bool
stage_fits c (dialling d) = fits c dialling_wait d
stage_fits c (dialled_out d) = fits c reply_wait d
stage_fits c (answered b) = leb b c

abbrev pub loss_fits : ℕ → Mode → Option ℕ → Bool
loss_fits c m none = true
loss_fits c m (some d) = fits c (carrier_wait m) d

abbrev pub slot_fits : ℕ → Slot → Bool
slot_fits c free = true
slot_fits c taken = true
slot_fits c (pending k r d) = fits c (kind_wait k) d
slot_fits c (busy r g l) = stage_fits c g && loss_fits c r.request.mode l
slot_fits c (held r n d) = fits c hold_wait d

abbrev pub place_fits : ℕ → Waiting → Bool
place_fits c w = fits c queue_wait w.due

-- what is stored keeps the rules
unfoldable pub stored_keeps : Config → Station → Bool
stored_keeps c st = all (slot_keeps c) st.slots && all (waiting_keeps c) st.queue

-- every due time and every answered start fits the clock
unfoldable pub times_fit : Station → Bool
times_fit st = all (slot_fits st.clock) st.slots && all (place_fits st.clock) st.queue

unfoldable pub sound : Config → Station → Bool
sound c st =
    config_keeps c
    && (one_slot_each c st
    && (stored_keeps c st
    && (leb st.clock limit
    && (leb (length st.queue) queue_room
    && (no_ship_twice st
    && times_fit st)))))
