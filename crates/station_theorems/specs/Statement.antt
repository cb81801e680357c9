-- What is claimed of every trace: the theorem on charges and what stands beside it, carried from the rules to the station as it runs.
use Rattle.std.specs.Prelude.{ℕ, ◌+◌, ◌*◌, ◌<◌, ◌≤◌, ◌≡◌, ◌⊎◌, Bool, true, false, cond, ◌&&◌, List, [], ◌∷◌, ◌++◌, eqb, leb, length, take, drop, get_or, Option as Optional, Some, None}
use Rattle.std.proofs.Math.Option.{none}
use Rattle.rules.specs.Rules.Places.{Each, distinct}
use Rattle.rules.specs.Rules.Words.{Config, ashore_in, Event}
use Rattle.rules.specs.Rules.Station as R
use Rattle.rules.specs.Rules.Sound.{sound}
use Rattle.rules.specs.Rules.Station.{is_free}
use Rattle.rules.specs.Rules.Requests.{Out}
use Rattle.rules.specs.Rules.Calls.{act}
use Rattle.rules.specs.Rules.Verdict.{verdict, Entry}
use Rattle.rules.specs.Rules.Bytes.{block, blocks, block_size}
use Rattle.rules.specs.ListAlone.Book.{blank_book}
use Rattle.rules.specs.ListAlone.Reading.{stops, counted, read_all}
use Rattle.rules.specs.Rules.Printed.{printed}
use Rattle.rules.specs.Statement.{notes, charged, call_numbers, NumbersFit, owed_for, uncharged_from, tenths_in, station_after, WordsAgree, EveryEntry, RingingBy}
use Rattle.rules.specs.Statement.{ReleasedWhenDropped, IgnoredWhenCalled, HeldAsCounted, ToldWhenUsedUp}
use Rattle.rules.specs.ListAlone.Repeated.{Answers, SendsSame, DialsNamed, DeedByDeed}
use Rattle.rules.specs.ListAlone.LineWords.{InTurn}
use Rattle.rules.specs.ListAlone.BeingCalled.{OffersOthers, AsksInVain}
use Rattle.slots.specs.declared.Slot.{Slot}
use Rattle.slots.specs.Phases.{answered_since}
use Rattle.slots.specs.Views.{slot_view}
use Rattle.slots.specs.Images.{Fits}
use Rattle.units.specs.declared.Tenths.{Tenths}
use Rattle.station.specs.declared.Station.{Station}
use Rattle.station.specs.Model.{model_of, config_of}
use Rattle.station.specs.Step.{records_keep}
use Rattle.station_theorems.specs.Rooms.{actions_in, shown_in}
use Rattle.station_theorems.specs.Steps.{Step, Allowed, Trace, last_of, events_in}

-- ── the list: the accepted events with the actions in their rooms ────────────

-- "0 done, 1 ignored"
abbrev pub accepted : Step → Bool
accepted x = leb x.back.answer 1

abbrev pub entry_in : Step → Entry
entry_in x = record { event = x.event; given = actions_in x.back.count x.left }

unfoldable pub entries_in : List Step → List Entry
entries_in [] = []
entries_in (x ∷ xs) = cond (accepted x) (entry_in x ∷ entries_in xs) (entries_in xs)

-- the actions that an accepted event gives are read back from their blocks
unfoldable pub BlocksTell : Type 0
BlocksTell = (c : Config) (m : R.Station) (e : Event) → verdict c m e ≡ none → NumbersFit m
    → actions_in (length (act c m e).acts) (blocks c (act c m e).acts) ≡ (act c m e).acts

-- ── the theorem on charges ───────────────────────────────────────────────────

-- the answered calls that a station of the rack has not charged yet, up to its clock
abbrev pub uncharged_on : ℕ → List Slot → ℕ
uncharged_on t [] = 0
uncharged_on t (s ∷ ss) = uncharged_from t (answered_since s.phase) + uncharged_on t ss

unfoldable pub uncharged_by : Station → ℕ
uncharged_by s = uncharged_on s.clock.0 (take s.count s.slots)

-- every stopped call has one charge, given at its stop, and no other charge exists;
-- charged and uncharged tenths are those counted from the list
abbrev pub Obeys : Config → List Entry → Station → Type 0
Obeys c es s =
    (charged 0 es ≡ owed_for (stops c 0 (notes es) (blank_book c)))
    × (tenths_in (charged 0 es) + uncharged_by s ≡ counted c (notes es) (blank_book c))

-- what holds of every trace: of the list that it shows, and of the station that was handed back last
abbrev pub OfEveryTrace : (Config → List Entry → Station → Type 0) → Type 0
OfEveryTrace P = (c : Config) (xs : List Step) (t : Trace c xs) → P c (entries_in xs) (last_of t.first xs)

unfoldable pub RackObeys : Type 0
RackObeys = OfEveryTrace Obeys

-- ── beside it ────────────────────────────────────────────────────────────────

-- every station handed back stands for the station of the rules' run, which fits its arrays
unfoldable pub RackStands : Type 0
RackStands = (c : Config) (xs : List Step) (t : Trace c xs)
    → (config_of (last_of t.first xs) ≡ c)
    × ((model_of (last_of t.first xs) ≡ station_after c (events_in xs)) × Fits c (station_after c (events_in xs)))

-- "dial", "release line", 8, 9, a call from ashore, off-hook and carrier up alone say of every slot what the book says of its line
unfoldable pub RackLiterally : Type 0
RackLiterally = OfEveryTrace (λ c es s. WordsAgree c (notes es))

-- what is acknowledged, rung back, called from ashore, sent once more and dialled is what was heard, or asked ashore
unfoldable pub RackAnswersRepeat : Type 0
RackAnswersRepeat = OfEveryTrace (λ c es s. EveryEntry Answers c (notes es))

unfoldable pub RackSecondSendingRepeats : Type 0
RackSecondSendingRepeats = OfEveryTrace (λ c es s. EveryEntry (DeedByDeed SendsSame) c (notes es))

unfoldable pub RackDialsAsked : Type 0
RackDialsAsked = OfEveryTrace (λ c es s. EveryEntry (DeedByDeed DialsNamed) c (notes es))

-- 02, no. 2: a slot rings exactly if the last 8 or 9 given on it is 8; one 8 where it begins to ring, one 9 where it ends
unfoldable pub RackRingingAsTold : Type 0
RackRingingAsTold = OfEveryTrace (λ c es s. RingingBy (notes es) (model_of s))

unfoldable pub RackRingingInTurn : Type 0
RackRingingInTurn = OfEveryTrace (λ c es s. EveryEntry InTurn c (notes es))

-- a ship that is being called is not offered a slot, and no deed is given where it asks
unfoldable pub RackCalledNotOffered : Type 0
RackCalledNotOffered = OfEveryTrace (λ c es s. EveryEntry OffersOthers c (notes es))

unfoldable pub RackCalledAskInVain : Type 0
RackCalledAskInVain = OfEveryTrace (λ c es s. EveryEntry AsksInVain c (notes es))

-- while a ship waits no slot in use is free, unless the last call number has been given
abbrev pub NoneIdle : Station → Type 0
NoneIdle s = 0 < s.waiting
    → Each (λ x. is_free (slot_view x) ≡ false) (take s.count s.slots) ⊎ (s.last.0 ≡ 4294967295)

unfoldable pub RackNoChannelIdle : Type 0
RackNoChannelIdle = OfEveryTrace (λ c es s. NoneIdle s)

-- 02, no. 4: no two charges carry the same number; those that the list shows to begin have just the numbers from 1 to the station's last
abbrev pub NumbersDiffer : List Entry → Type 0
NumbersDiffer es = distinct eqb (call_numbers (charged 0 es)) ≡ true

unfoldable pub RackChargesDiffer : Type 0
RackChargesDiffer = OfEveryTrace (λ c es s. NumbersDiffer es)

abbrev pub CountedTo : Config → List Entry → ℕ → Type 0
CountedTo c es n = (read_all c (notes es) (blank_book c)).given ≡ n

unfoldable pub RackNumbersCounted : Type 0
RackNumbersCounted = OfEveryTrace (λ c es s. CountedTo c es s.last.0)

-- "The slot's record holds it": the number that the list counts for the call on a slot
unfoldable pub RackNumbersHeld : Type 0
RackNumbersHeld = OfEveryTrace (λ c es s. HeldAsCounted c (notes es) (model_of s))

-- numbers never go back: of every station, in a trace or not, and every event
unfoldable pub RackNumbersGoOn : Type 0
RackNumbersGoOn = (x : Step) → Allowed x → x.before.last.0 ≤ x.back.station.last.0

-- as `is_sound` finds it
abbrev pub is_sound : Station → Bool
is_sound s = records_keep s && sound (config_of s) (model_of s)

-- no step of a trace is answered 29, and every station handed back is sound
unfoldable pub RackAlwaysSound : Type 0
RackAlwaysSound = (c : Config) (xs : List Step) (t : Trace c xs)
    → Each (λ x. x.back.answer ≡ 29 → ⊥) xs × (is_sound (last_of t.first xs) ≡ true)

-- "hands back the station unchanged, clock included", "leaves lent bytes untouched": of every station, in a trace or not
unfoldable pub RefusalsLeaveAll : Type 0
RefusalsLeaveAll = (x : Step) → Allowed x → accepted x ≡ false
    → (x.back.station ≡ x.before) × ((x.left ≡ x.lent) × (x.back.count ≡ 0))

-- the line of a call from ashore is released in the step that drops it: of every station, in a trace or not, and every event
unfoldable pub RackDroppedReleased : Type 0
RackDroppedReleased = (x : Step) → Allowed x
    → ReleasedWhenDropped (model_of x.before) (model_of x.back.station) (actions_in x.back.count x.left)

-- what a step hands back, with the actions in its room
abbrev pub out_in : Step → Out
out_in x = record { answer = x.back.answer; next = model_of x.back.station; acts = actions_in x.back.count x.left }

-- a request of a ship that is being called is ignored: of every station, in a trace or not, and every event that is not refused
unfoldable pub RackCalledIgnored : Type 0
RackCalledIgnored = (x : Step) → Allowed x → accepted x ≡ true
    → IgnoredWhenCalled (config_of x.before) (model_of x.before) x.event (out_in x)

-- 02, no. 4: once the last number has been given, 104/107 and nothing else; no number is given any more, and no caller ashore is accepted:
-- of every station, in a trace or not, and every event that is not refused
unfoldable pub RackUsedUpTold : Type 0
RackUsedUpTold = (x : Step) → Allowed x → accepted x ≡ true
    → ToldWhenUsedUp (config_of x.before) (model_of x.before) x.event (out_in x)

unfoldable pub RackUsedUpStays : Type 0
RackUsedUpStays = (x : Step) → Allowed x → accepted x ≡ true → x.before.last.0 ≡ 4294967295
    → (x.back.station.last.0 ≡ 4294967295) × (ashore_in x.event.what ≡ none)

-- answer, clock, action count, next due time; then each action from the room's bytes
abbrev pub due_in : Optional Tenths → List ℕ
due_in None = []
due_in (Some t) = t.0 ∷ []

abbrev pub shown_by : Step → List (List ℕ)
shown_by x =
    (x.back.answer ∷ x.back.station.clock.0 ∷ x.back.count ∷ due_in x.back.due) ∷ shown_in x.back.count x.left

abbrev pub all_shown : List Step → List (List (List ℕ))
all_shown [] = []
all_shown (x ∷ xs) = shown_by x ∷ all_shown xs

-- what any trace shows is what the rules print
unfoldable pub RackShows : Type 0
RackShows = (c : Config) (xs : List Step) → Trace c xs → all_shown xs ≡ printed c (events_in xs) (R.fresh c)

-- "Bytes after the last action stay": the room is the blocks of what is shown, then its own bytes
abbrev pub laid_out : List (List ℕ) → List ℕ
laid_out [] = []
laid_out (a ∷ more) = block (get_or a 0 0) (get_or a 1 0) (drop 2 a) ++ laid_out more

unfoldable pub RoomsStay : Type 0
RoomsStay = (x : Step) → Allowed x
    → x.left ≡ laid_out (shown_in x.back.count x.left) ++ drop (block_size * x.back.count) x.lent
