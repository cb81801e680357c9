-- Answer numbers: which event is refused, by the first test that fails; and a run, in which the accepted events are done.
use Rattle.std.specs.Prelude.{List, [], ◌∷◌, Bool, true, false, not, ◌&&◌, ℕ, ◌*◌, leb, ltb, length}
use Rattle.std.proofs.Math.Option.{Option, none, some}
use Rattle.sequence.specs.Refusals.{Row, row, first_refusal}
use Rattle.sequence.specs.Answers.{Answer, done, answer_number, is_done}
use Rattle.sequence.specs.Reading.{answer_of}
use Rattle.sequence.specs.Identity.{is_ship}
use Rattle.rules.specs.Rules.Places.{is_some}
use Rattle.rules.specs.Rules.Words.{Config, Hand, Happened, What, happens, slot_in, symbols_on, symbols_in, hand_in, Ashore}
use Rattle.rules.specs.Rules.Words.{ashore_in, Event}
use Rattle.rules.specs.Rules.Actions.{Action}
use Rattle.rules.specs.Rules.Bytes.{most_actions, block_size}
use Rattle.rules.specs.Rules.Station.{Station, fires, the_slot}
use Rattle.rules.specs.Rules.Sound.{config_keeps, number_keeps, limit, sound}
use Rattle.rules.specs.Rules.Requests.{Out}
use Rattle.rules.specs.Rules.Ashore.{is_mode, ashore_request, engaged, slot_to_take}
use Rattle.rules.specs.Rules.Calls.{barred_hand, act}

-- a test, and the number given where it fails
abbrev pub unless : Bool → ℕ → Row (Option ℕ)
unless test n = row test (some n)

-- 30: "action room under 320 bytes"
abbrev pub room_needed : ℕ
room_needed = most_actions * block_size

-- 33: "not a tick and a wait is due at or before its time"
abbrev pub overtaken : Station → ℕ → What → Bool
overtaken st t w = happens w && is_some (fires t st)

-- 34: "no such slot"
abbrev pub is_there : ℕ → Option ℕ → Bool
is_there n none = true
is_there n (some i) = ltb i n

abbrev pub slot_there : ℕ → What → Bool
slot_there n w = is_there n (slot_in w)

-- 11 to 20: "the event's sequence": the reader's answer
abbrev pub reader_says : List ℕ → Answer
reader_says m = answer_of m

abbrev pub read_of : Option (List ℕ) → Answer
read_of none = done
read_of (some m) = reader_says m

abbrev pub read_on : Happened → Answer
read_on h = read_of (symbols_on h)

abbrev pub read_in : What → Answer
read_in w = read_of (symbols_in w)

-- 35: "operator takes a slot not free, or gives back one not taken"
abbrev pub barred_at : Station → Option ℕ → Option Hand → Bool
barred_at st none h = false
barred_at st (some i) none = false
barred_at st (some i) (some h) = barred_hand (the_slot st i) h

abbrev pub barred : Station → What → Bool
barred st w = barred_at st (slot_in w) (hand_in w)

-- 02, no. 2: "15 for a bad ship identity", "17 for another mode", "19 for a bad number", "38 when that ship already has a slot (a hold
-- included) or waits", "37 when no slot is free"; no. 4: once the last number has been given, "a caller ashore gets 37"
abbrev pub names_ship : Option Ashore → Bool
names_ship none = true
names_ship (some a) = is_ship a.ship

abbrev pub names_mode : Option Ashore → Bool
names_mode none = true
names_mode (some a) = is_mode a.mode

abbrev pub names_number : Option Ashore → Bool
names_number none = true
names_number (some a) = number_keeps a.digits

abbrev pub names_engaged : Config → Station → Option Ashore → Bool
names_engaged c st none = false
names_engaged c st (some a) = engaged st (ashore_request c a).who

abbrev pub slot_to_be_had : Station → Option Ashore → Bool
slot_to_be_had st none = true
slot_to_be_had st (some a) = is_some (slot_to_take st)

-- "Refusals, in this order"
unfoldable pub refusals : Config → Station → Event → List (Row (Option ℕ))
refusals c st e =
    unless (sound c st) 29
    ∷ unless (leb room_needed e.room) 30
    ∷ unless (leb e.time limit) 31
    ∷ unless (leb st.clock e.time) 32
    ∷ unless (not (overtaken st e.time e.what)) 33
    ∷ unless (slot_there (length st.slots) e.what) 34
    ∷ unless (is_done (read_in e.what)) (answer_number (read_in e.what))
    ∷ unless (not (barred st e.what)) 35
    ∷ unless (names_ship (ashore_in e.what)) 15
    ∷ unless (names_mode (ashore_in e.what)) 17
    ∷ unless (names_number (ashore_in e.what)) 19
    ∷ unless (not (names_engaged c st (ashore_in e.what))) 38
    ∷ unless (slot_to_be_had st (ashore_in e.what)) 37
    ∷ []

-- the number of the refusal, if the event is refused: the first that fits
unfoldable pub verdict : Config → Station → Event → Option ℕ
verdict c st e = first_refusal (refusals c st e) none

-- 36: "set-up: identity or channel list bad"
unfoldable pub set_up_verdict : Config → Option ℕ
set_up_verdict c = first_refusal (unless (config_keeps c) 36 ∷ []) none

-- ── an event: what is answered, the next station, the actions ────────────────

-- "A refusal returns its number and no value .. and hands back the station unchanged, clock included."
abbrev pub judged : Option ℕ → Station → Out → Out
judged none st o = o
judged (some n) st o = record { answer = n; next = st; acts = [] }

unfoldable pub step : Config → Station → Event → Out
step c st e = judged (verdict c st e) st (act c st e)

-- ── a run: the accepted events with the actions given ────────────────────────

pub record Entry : Type 0 where
  pub event : Event
  pub given : List Action

-- a refused event changes nothing and leaves no entry
unfoldable pub play : Config → List Event → Station → List Entry
play c [] st = []
play c (e ∷ es) st =
    elim (verdict c st e) [ none ↦ record { event = e; given = (act c st e).acts } ∷ play c es (act c st e).next | some n ↦ play c es st ]

-- the station after them
unfoldable pub final : Config → List Event → Station → Station
final c [] st = st
final c (e ∷ es) st = final c es (step c st e).next
