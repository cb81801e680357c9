-- What is claimed of every host that hands on the bytes it was left, from the bytes alone:
-- the theorem on charges and what stands beside it.
use Rattle.std.specs.Prelude.{ℕ, ◌*◌, ◌/◌, ◌%◌, ◌<◌, ◌≤◌, ◌≡◌, true, cond, List, [], ◌∷◌, leb}
use Rattle.std.proofs.Math.Option.{none}
use contract.Lifetimes.{Lfts}
use Rattle.rules.specs.Rules.Places.{Each}
use Rattle.rules.specs.Rules.Words.{Config, ashore_in}
use Rattle.rules.specs.Rules.Requests.{Out}
use Rattle.rules.specs.Rules.Verdict.{Entry}
use Rattle.rules.specs.Statement.{notes, WordsAgree, EveryEntry, RingingBy, ReleasedWhenDropped, IgnoredWhenCalled, HeldAsCounted, ToldWhenUsedUp}
use Rattle.rules.specs.ListAlone.Repeated.{Answers, SendsSame, DialsNamed, DeedByDeed}
use Rattle.rules.specs.ListAlone.LineWords.{InTurn}
use Rattle.rules.specs.ListAlone.BeingCalled.{OffersOthers, AsksInVain}
use Rattle.station.specs.declared.Station.{Station}
use Rattle.station.specs.Model.{model_of, config_of}
use Rattle.lent_layout.specs.Stations.{station_from}
use Rattle.coast.proofs.setting.coast_set_up.Reads as coast_set_up
use Rattle.coast.proofs.setting.coast_clock.Reads as coast_clock
use Rattle.station_theorems.specs.Rooms.{actions_in}
use Rattle.station_theorems.specs.Statement.{Obeys, NoneIdle, NumbersDiffer, CountedTo, is_sound}
use Rattle.host_theorems.specs.Calls.{Call, Entered, HostRun, last_of}

-- the answer and the count of actions, as `coast_answer` and `coast_count` take them
abbrev pub answer_in : Call → ℕ
answer_in x = x.number % 256

abbrev pub count_in : Call → ℕ
count_in x = x.number / 256 % 256

abbrev pub entry_of : Call → Entry
entry_of x = record { event = x.event; given = actions_in (count_in x) x.left }

-- the events answered 0 or 1, each with the actions in the first 40 · count bytes of its room
unfoldable pub entries_in : List Call → List Entry
entries_in [] = []
entries_in (x ∷ xs) = cond (leb (answer_in x) 1) (entry_of x ∷ entries_in xs) (entries_in xs)

-- what holds of every host's run: of the list that its calls show, and of the station in the bytes left last
abbrev pub OfEveryHost : (Config → List Entry → Station → Type 0) → Type 0
OfEveryHost P = (c : Config) (xs : List Call) (t : HostRun c xs) → P c (entries_in xs) (station_from (last_of t.first xs))

-- the theorem on charges
unfoldable pub HostObeys : Type 0
HostObeys = OfEveryHost Obeys

-- ── beside it ────────────────────────────────────────────────────────────────

-- "dial", "release line", 8, 9, a call from ashore, off-hook and carrier up alone say of every slot what the book says of its line
unfoldable pub HostLiterally : Type 0
HostLiterally = OfEveryHost (λ c es s. WordsAgree c (notes es))

-- what is acknowledged, rung back, called from ashore, sent once more and dialled is what was heard, or asked ashore
unfoldable pub HostAnswersRepeat : Type 0
HostAnswersRepeat = OfEveryHost (λ c es s. EveryEntry Answers c (notes es))

unfoldable pub HostSecondSendingRepeats : Type 0
HostSecondSendingRepeats = OfEveryHost (λ c es s. EveryEntry (DeedByDeed SendsSame) c (notes es))

unfoldable pub HostDialsAsked : Type 0
HostDialsAsked = OfEveryHost (λ c es s. EveryEntry (DeedByDeed DialsNamed) c (notes es))

-- 02, no. 2: a slot rings exactly if the last 8 or 9 given on it is 8; one 8 where it begins to ring, one 9 where it ends
unfoldable pub HostRingingAsTold : Type 0
HostRingingAsTold = OfEveryHost (λ c es s. RingingBy (notes es) (model_of s))

unfoldable pub HostRingingInTurn : Type 0
HostRingingInTurn = OfEveryHost (λ c es s. EveryEntry InTurn c (notes es))

-- a ship that is being called is not offered a slot, and no deed is given where it asks
unfoldable pub HostCalledNotOffered : Type 0
HostCalledNotOffered = OfEveryHost (λ c es s. EveryEntry OffersOthers c (notes es))

unfoldable pub HostCalledAskInVain : Type 0
HostCalledAskInVain = OfEveryHost (λ c es s. EveryEntry AsksInVain c (notes es))

-- while a ship waits no slot in use is free, unless the last call number has been given
unfoldable pub HostNoChannelIdle : Type 0
HostNoChannelIdle = OfEveryHost (λ c es s. NoneIdle s)

-- 02, no. 4: no two charges carry the same number; those that the list shows to begin have just the numbers from 1 to the station's last
unfoldable pub HostChargesDiffer : Type 0
HostChargesDiffer = OfEveryHost (λ c es s. NumbersDiffer es)

unfoldable pub HostNumbersCounted : Type 0
HostNumbersCounted = OfEveryHost (λ c es s. CountedTo c es s.last.0)

-- "The slot's record holds it": the number that the list counts for the call on a slot
unfoldable pub HostNumbersHeld : Type 0
HostNumbersHeld = OfEveryHost (λ c es s. HeldAsCounted c (notes es) (model_of s))

-- numbers never go back: on any bytes, in a run or not
unfoldable pub HostNumbersGoOn : Type 0
HostNumbersGoOn = (x : Call) → Entered x
    → (station_from x.station).last.0 ≤ (station_from x.kept).last.0

-- no call of a run is answered 29, and the station in the bytes is sound
unfoldable pub HostAlwaysSound : Type 0
HostAlwaysSound = (c : Config) (xs : List Call) (t : HostRun c xs)
    → Each (λ x. answer_in x ≡ 29 → ⊥) xs × (is_sound (station_from (last_of t.first xs)) ≡ true)

-- a host that comes back with the bytes left last goes on from that station's clock: `coast_clock` tells it, and is not 29
unfoldable pub HostTellsItsClock : Type 0
HostTellsItsClock = (c : Config) (xs : List Call) (t : HostRun c xs) (κs : Lfts 1) (a : _) (r : _) (s : _) → coast_clock.Post κs a r s
    → a.0.now ≡ last_of t.first xs → r ≡ 4294967296 * (station_from (last_of t.first xs)).clock.0

-- the line of a call from ashore is released in the call that drops it: on any bytes, in a run or not
unfoldable pub HostDroppedReleased : Type 0
HostDroppedReleased = (x : Call) → Entered x
    → ReleasedWhenDropped (model_of (station_from x.station)) (model_of (station_from x.kept)) (actions_in (count_in x) x.left)

-- what a call returns and leaves, with the actions in its room
abbrev pub out_in : Call → Out
out_in x = record { answer = answer_in x; next = model_of (station_from x.kept); acts = actions_in (count_in x) x.left }

-- a request of a ship that is being called is ignored: on any bytes, in a run or not, wherever the answer is no refusal
unfoldable pub HostCalledIgnored : Type 0
HostCalledIgnored = (x : Call) → Entered x → leb (answer_in x) 1 ≡ true
    → IgnoredWhenCalled (config_of (station_from x.station)) (model_of (station_from x.station)) x.event (out_in x)

-- 02, no. 4: once the last number has been given, 104/107 and nothing else; no number is given any more, and no caller ashore is accepted:
-- on any bytes, in a run or not, wherever the answer is no refusal
unfoldable pub HostUsedUpTold : Type 0
HostUsedUpTold = (x : Call) → Entered x → leb (answer_in x) 1 ≡ true
    → ToldWhenUsedUp (config_of (station_from x.station)) (model_of (station_from x.station)) x.event (out_in x)

unfoldable pub HostUsedUpStays : Type 0
HostUsedUpStays = (x : Call) → Entered x → leb (answer_in x) 1 ≡ true → (station_from x.station).last.0 ≡ 4294967295
    → ((station_from x.kept).last.0 ≡ 4294967295) × (ashore_in x.event.what ≡ none)

-- ── refusals, by the returned number, on any bytes, in a run or not ──────────

-- "leaves lent bytes untouched": answered 2 or more, not a byte of station or room is changed, and no action is told
unfoldable pub HostRefusalsLeaveAll : Type 0
HostRefusalsLeaveAll = (x : Call) → Entered x → 1 < answer_in x → (x.kept ≡ x.station) × ((x.left ≡ x.lent) × (count_in x ≡ 0))

-- and set-up, returning anything but 0, leaves the station's bytes
unfoldable pub HostSetUpRefusalLeavesAll : Type 0
HostSetUpRefusalLeavesAll = (κs : Lfts 2) (a : _) (r : _) (s : _) → coast_set_up.Post κs a r s → (r ≡ 0 → ⊥) → s.1.1.0.now ≡ a.1.1.0.now
