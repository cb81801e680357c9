-- Words of the contracts of private functions; only the proofs need them.
use Rattle.std.specs.Prelude.{ℕ, Bool, false, cond, ◌&&◌, ◌≡◌, List, map, length, get_or, Option as Optional, Some, None, Result, Ok, Err}
use Rattle.std.proofs.Math.Option.{Option, none, some}
use Rattle.units.specs.declared.SlotNumber.{SlotNumber}
use Rattle.units.specs.declared.Tenths.{Tenths}
use Rattle.sequence.specs.Answers.{answer_number, is_done}
use Rattle.sequence.specs.Reading.{answer_of, meaning_read}
use Rattle.rules.specs.Rules.Words as W
use Rattle.rules.specs.Rules.Words.{Config, Happened, signal, operator}
use Rattle.rules.specs.Rules.Heard.{addressed}
use Rattle.rules.specs.Rules.Waits.{earliest}
use Rattle.rules.specs.Rules.Sound.{sound}
use Rattle.rules.specs.Rules.Station as R
use Rattle.rules.specs.Rules.Station.{set_clock, table, next_due}
use Rattle.rules.specs.Rules.Requests.{Out}
use Rattle.rules.specs.Rules.Calls.{barred_hand}
use Rattle.rules.specs.Rules.Actions.{Action}
use Rattle.rules.specs.Rules.Bytes.{channel_at}
use Rattle.requests.specs.declared.Mode.{Mode}
use Rattle.requests.specs.declared.Request.{Request}
use Rattle.requests.specs.Views.{viewed, itself, request_of}
use Rattle.slots.specs.declared.Slot.{Slot}
use Rattle.slots.specs.declared.Phase.{Phase}
use Rattle.slots.specs.declared.Wait.{Wait}
use Rattle.slots.specs.declared.Wait.TheVariants.{Entry, Loss, Main}
use Rattle.slots.specs.declared.Due.{Due}
use Rattle.slots.specs.Images.{blank_slot}
use Rattle.slots.specs.Views.{dealing_of, signal_view, hand_view, due_view}
use Rattle.actions.specs.Sent.{sent_block}
use Rattle.blocks.specs.Laid.{Laid, laid_from}
use Rattle.gate.specs.declared.Look.{Look}
use Rattle.gate.specs.declared.Refusal.{Refusal}
use Rattle.gate.specs.Asked.{refusal_number}
use Rattle.hearing.specs.declared.Heard.{Heard}
use Rattle.hearing.specs.Said.{asked_in, heard_of}
use Rattle.hearing.specs.declared.HeardKind.{HeardKind}
use Rattle.hearing.specs.declared.HeardKind.TheVariants.{CallRequest, DataRequest, Bq, WorkingCall, EndOfCall, Declined, Nothing}
use Rattle.outcomes.specs.declared.Outcome.{Outcome}
use Rattle.outcomes.specs.declared.Outcome.TheVariants.{Ignored, Passes, Drops}
use Rattle.outcomes.specs.Does.{out_of, whole_of, scene_of}
use Rattle.telling.specs.declared.Scene.{Scene}
use Rattle.telling.specs.Tells.{scene_view}
use Rattle.deciding.specs.Decides.{by_signal, by_hand, coast_end_by, working_by, ship_end_by, main_due_by}
use Rattle.station.specs.declared.Station.{Station}
use Rattle.station.specs.declared.Stepped.{Stepped}
use Rattle.station.specs.declared.Choice.{Choice}
use Rattle.station.specs.declared.Told.{Told}
use Rattle.station.specs.declared.Plain.{Plain}
use Rattle.station.specs.declared.Plain.TheVariants.{Signal, Hand}
use Rattle.station.specs.Model.{model_of, config_of, image_of}
use Rattle.station.specs.Step.{records_keep, due_image}

-- what the gate sees
pub record Sees (s : Station) (l : Look) : Type 0 where
  pub soundly : l.sound ≡ (records_keep s && sound (config_of s) (model_of s))
  pub clock : l.clock.0 ≡ (model_of s).clock
  pub slots : l.count ≡ length (model_of s).slots
  pub first : due_view l.due ≡ earliest (table (model_of s))

-- an event is judged: it is refused with that number, or with none accepted, and then P holds of what it is about
abbrev pub Judged : {A : Type 0} → Option ℕ → (A → Type 0) → Result A Refusal → Type 0
Judged o P (Ok a) = (none ≡ o) × P a
Judged o P (Err r) = some (refusal_number r) ≡ o

-- one test, with the number that is given where it fails
abbrev pub asked_once : Bool → ℕ → Option ℕ
asked_once b n = cond b none (some n)

-- the reader's refusal of symbols; what they say, once they are read
abbrev pub unread : List ℕ → Option ℕ
unread m = asked_once (is_done (answer_of m)) (answer_number (answer_of m))

abbrev pub Hears : Station → List ℕ → Heard → Type 0
Hears s m h = (h.request ≡ asked_in (meaning_read m)) × (heard_of h ≡ addressed (config_of s) (meaning_read m))

-- the slot i, and what it keeps of its call
unfoldable pub slot_of : Station → ℕ → Slot
slot_of s i = get_or (viewed itself s.count s.slots) i blank_slot

unfoldable pub own_of : Station → ℕ → R.Dealing
own_of s i = dealing_of (slot_of s i)

-- what an outcome of the slot i is told and applied by, at the time t, where q is asked for
abbrev pub Shows : Station → Tenths → SlotNumber → W.Request → Scene → Type 0
Shows s t i q sc =
    (scene_view sc ≡ scene_of i.0 (own_of s i.0) q (set_clock t.0 (model_of s)))
    × ((sc.clock ≡ t) × (sc.channel ≡ channel_at (config_of s) sc.slot.0))

-- ── enacted ──────────────────────────────────────────────────────────────────

-- an outcome of the slot i at the time t, where q is asked for
unfoldable pub out_at : Station → Tenths → SlotNumber → W.Request → Outcome → Out
out_at s t i q o = out_of i.0 (own_of s i.0) q o (set_clock t.0 (model_of s))

-- and with what goes on behind it
unfoldable pub whole_at : Station → Tenths → SlotNumber → W.Request → Outcome → Out
whole_at s t i q o = whole_of i.0 (own_of s i.0) q o (set_clock t.0 (model_of s))

-- the station with the clock at t, and what is chosen for it then
abbrev pub model_at : Station → Tenths → R.Station
model_at s t = set_clock t.0 (model_of s)

abbrev pub chosen_at : Station → Tenths → Choice → Request → Out
chosen_at s t c q = whole_at s t c.slot (request_of q) c.outcome

-- the blocks of actions, laid from block number k on
unfoldable pub laid_of : Config → List Action → ℕ → List ℕ → Laid
laid_of c acts k room = laid_from (map (sent_block c) acts) k room

-- what is handed back once the blocks are laid
unfoldable pub enacted : Config → Laid → Out → Stepped
enacted c l o = record { answer = o.answer; count = l.next; due = due_image (next_due o.next); station = image_of c o.next }

abbrev pub stepped_with : Station → Told → Stepped
stepped_with s t = record { answer = t.answer; count = t.count; due = t.due; station = s }

-- an outcome with its actions laid from block number k on: what is handed back, and the room
abbrev pub handed_back : Station → Out → ℕ → List ℕ → Stepped
handed_back s out k room = enacted (config_of s) (laid_of (config_of s) out.acts k room) out

abbrev pub room_laid : Station → Out → ℕ → List ℕ → List ℕ
room_laid s out k room = (laid_of (config_of s) out.acts k room).room

-- the slot that was found; the lowest where none was
abbrev pub slot_found : Optional SlotNumber → SlotNumber
slot_found (Some i) = i
slot_found None = record { 0 = 0 }

-- ── which rule decides ───────────────────────────────────────────────────────

abbrev pub plain_view : Plain → Happened
plain_view (Signal g) = signal (signal_view g)
plain_view (Hand h) = operator (hand_view h)

-- only a hand can find a slot closed to it
abbrev pub closed_to : R.Slot → Plain → Bool
closed_to s (Signal g) = false
closed_to s (Hand h) = barred_hand s (hand_view h)

abbrev pub by_plain : Plain → Tenths → Mode → Phase → Outcome
by_plain (Signal g) t m p = by_signal g t m p
by_plain (Hand h) t m p = by_hand h p

-- what falls due: the slot that is meant, the time, the outcome; a queue entry and nothing due mean no slot
abbrev pub wait_slot : Wait → SlotNumber
wait_slot (Entry k) = record { 0 = 0 }
wait_slot (Loss i) = i
wait_slot (Main i) = i

abbrev pub due_slot : Optional Due → SlotNumber
due_slot None = record { 0 = 0 }
due_slot (Some d) = wait_slot d.wait

abbrev pub moment : Optional Due → Tenths → Tenths
moment None t = t
moment (Some d) t = d.at

abbrev pub by_wait : Wait → Phase → Outcome
by_wait (Entry k) p = Drops k
by_wait (Loss i) p = coast_end_by p
by_wait (Main i) p = main_due_by p

abbrev pub by_due : Optional Due → Phase → Outcome
by_due None p = Passes
by_due (Some d) p = by_wait d.wait p

-- heard on a working channel, from the slot's own ship or from another
abbrev pub by_kind : HeardKind → Bool → Phase → Outcome
by_kind CallRequest own p = Ignored
by_kind DataRequest own p = Ignored
by_kind (Bq i) own p = Ignored
by_kind WorkingCall own p = working_by own p
by_kind EndOfCall own p = ship_end_by own p
by_kind Declined own p = Ignored
by_kind Nothing own p = Ignored
