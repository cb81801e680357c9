-- What an event does to the station of the rack and to the room, from the rules alone.
use Rattle.std.specs.Prelude.{ℕ, ◌*◌, Bool, ◌&&◌, cond, List, [], ◌∷◌, ◌++◌, map, leb, length, take, drop, Option as Optional, Some, None, Result, Ok, Err}
use Rattle.std.proofs.Math.Option.{Option, none, some}
use Rattle.units.specs.declared.Channel.{Channel}
use Rattle.units.specs.declared.Tenths.{Tenths}
use Rattle.sequence.specs.Refusals.{first_refusal}
use Rattle.rules.specs.Rules.Places.{all}
use Rattle.rules.specs.Rules.Words.{Config, Happened, What, on_slot, from_ashore, Event}
use Rattle.rules.specs.Rules.Station.{next_due, fresh}
use Rattle.rules.specs.Rules.Requests.{Out}
use Rattle.rules.specs.Rules.Calls.{act}
use Rattle.rules.specs.Rules.Verdict.{unless, refusals, set_up_verdict}
use Rattle.rules.specs.Rules.Bytes.{padded, blocks}
use Rattle.requests.specs.Views.{viewed, itself}
use Rattle.slots.specs.Views.{alone, on_mast}
use Rattle.slots.specs.Images.{tenths}
use Rattle.sound_records.specs.Kept.{slot_exact, waiting_exact}
use Rattle.gate.specs.declared.Refusal.{Refusal}
use Rattle.gate.specs.declared.Refusal.TheVariants.{BadSetUp}
use Rattle.station.specs.declared.Station.{Station}
use Rattle.station.specs.declared.Stepped.{Stepped}
use Rattle.station.specs.Model.{model_of, config_of, image_of}

-- ── an event ─────────────────────────────────────────────────────────────────

-- what comes in, with the room that is lent for its actions
abbrev pub event_at : ℕ → What → List ℕ → Event
event_at time what room = record { time = time; room = length room; what = what }

abbrev pub slot_at : ℕ → ℕ → Happened → List ℕ → Event
slot_at time slot h room = event_at time (on_slot slot h) room

-- a call from ashore to a ship, in a mode, from a number
abbrev pub ashore_of : ℕ → ℕ → List ℕ → What
ashore_of ship mode digits = from_ashore (record { ship = ship; mode = mode; digits = digits })

-- ── refusals ─────────────────────────────────────────────────────────────────

-- what the model does not show: a count past its array, a stored number with more than its digits
unfoldable pub records_keep : Station → Bool
records_keep s =
    leb s.count 16
    && (leb s.waiting 32
    && (all slot_exact (viewed itself s.count s.slots) && all waiting_exact (viewed itself s.waiting s.queue)))

-- the number of the refusal, if the event is refused
unfoldable pub refusal : Station → Event → Option ℕ
refusal s e = first_refusal (unless (records_keep s) 29 ∷ refusals (config_of s) (model_of s) e) none

-- ── what is handed back ──────────────────────────────────────────────────────

abbrev pub due_image : Option ℕ → Optional Tenths
due_image none = None
due_image (some t) = Some (tenths t)

-- "A refusal returns its number and no value .. and hands back the station unchanged, clock included."
abbrev pub stepped_for : Station → Out → Option ℕ → Stepped
stepped_for s o none =
    record {
      answer = o.answer;
      count = length o.acts;
      due = due_image (next_due o.next);
      station = image_of (config_of s) o.next;
    }
stepped_for s o (some n) = record { answer = n; count = 0; due = due_image (next_due (model_of s)); station = s }

unfoldable pub stepped_by : Station → Event → Stepped
stepped_by s e = stepped_for s (act (config_of s) (model_of s) e) (refusal s e)

-- ".. leaves lent bytes untouched"; "Bytes after the last action stay."
abbrev pub room_for : Config → List ℕ → Out → Option ℕ → List ℕ
room_for c room o none = blocks c o.acts ++ drop (40 * length o.acts) room
room_for c room o (some n) = room

unfoldable pub room_after : Station → List ℕ → Event → List ℕ
room_after s room e = room_for (config_of s) room (act (config_of s) (model_of s) e) (refusal s e)

-- ── set-up ───────────────────────────────────────────────────────────────────

abbrev pub channel_number : ℕ → Channel
channel_number n = record { 0 = n }

-- of one station alone: slots in the list's order, the channels told as numbers
abbrev pub given : ℕ → List ℕ → Config
given n channels = on_mast (alone n) (map channel_number channels)

-- the first `count` of sixteen channels; a count over 16 is no list, and neither is an empty one
abbrev pub counted_of : List Channel → ℕ → List Channel
counted_of channels count = cond (leb count 16) (take count channels) []

abbrev pub chosen : ℕ → List Channel → ℕ → Config
chosen n channels count = on_mast (alone n) (counted_of channels count)

-- numbers in the sixteen places for channels
unfoldable pub sixteen_of : List ℕ → List Channel
sixteen_of l = padded (channel_number 0) 16 (viewed channel_number 16 l)

-- no station was set up
unfoldable pub blank_station : Station
blank_station = image_of (given 0 []) (fresh (given 0 []))

-- with a refusal, "no value"; there is but one, 36
abbrev pub set_up_for : Config → Option ℕ → Result Station Refusal
set_up_for c none = Ok (image_of c (fresh c))
set_up_for c (some n) = Err BadSetUp

abbrev pub set_up_of : Config → Result Station Refusal
set_up_of c = set_up_for c (set_up_verdict c)

unfoldable pub set_up_by : ℕ → List ℕ → Result Station Refusal
set_up_by n channels = set_up_of (given n channels)
