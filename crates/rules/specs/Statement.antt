-- What is claimed of every run: the theorem on charges, and what stands beside it.
use Rattle.std.specs.Prelude.{◌≡◌, ◌⊎◌, List, [], ◌∷◌, ◌++◌, true, false, ◌&&◌, ℕ, suc, ◌+◌, ◌-◌, ◌/◌, ◌<◌, ◌≤◌, eqb, length}
use Rattle.std.proofs.Math.Option.{Option, none, some}
use Rattle.units.specs.declared.Seconds.{Seconds}
use Rattle.rules.specs.Rules.Places.{lowest, distinct, Each}
use Rattle.rules.specs.Rules.Words.{Party, Request, Config, ashore_in, Event, Deed, unable}
use Rattle.rules.specs.Rules.Heard.{Heard, call_request, data_request, bq, working_call, end_of_call, declined, nothing}
use Rattle.rules.specs.Rules.Actions.{Charge, Action, does, over, charge}
use Rattle.rules.specs.Rules.Station.{Kind, first_ring_back, is_offer, is_called, answered, Dealing, Slot, free, taken, pending, busy, held}
use Rattle.rules.specs.Rules.Station.{rings_in, call_number_in, Waiting, Station, the_slot, set_clock, fresh, answered_in, is_free}
use Rattle.rules.specs.Rules.Sound.{sound}
use Rattle.rules.specs.Rules.Requests.{Out, ignored, saying, slot_of, same}
use Rattle.rules.specs.Rules.Calls.{act}
use Rattle.rules.specs.Rules.Verdict.{verdict, set_up_verdict, Entry, play, final}
use Rattle.rules.specs.Rules.Bytes.{payload_of}
use Rattle.rules.specs.ListAlone.Book.{Book, Note, Stop, Begun, Said, silent, told_b_q, told_r_q, settled, Call, quiet, called, dialled, talking}
use Rattle.rules.specs.ListAlone.Book.{column, blank_book}
use Rattle.rules.specs.ListAlone.Reading.{Numbered, numbered, stops, counted, counted_by_calls, heard_at, read_all}
use Rattle.rules.specs.ListAlone.LineWords.{unused, word_after, word_of, ringing_after, InTurn, releases}
use Rattle.rules.specs.ListAlone.Repeated.{Answers, SendsSame, DialsNamed, DeedByDeed}
use Rattle.rules.specs.ListAlone.BeingCalled.{OffersOthers, AsksInVain}

-- ── the list, and the charges in it ──────────────────────────────────────────

-- the deeds among the actions: neither a charge nor an end of call with its duration
abbrev pub deeds_of : List Action → List Deed
deeds_of [] = []
deeds_of (does d ∷ a) = d ∷ deeds_of a
deeds_of (over i e x digits n ∷ a) = deeds_of a
deeds_of (charge h ∷ a) = deeds_of a

abbrev pub charges_of : List Action → List Charge
charges_of [] = []
charges_of (does d ∷ a) = charges_of a
charges_of (over i e x digits n ∷ a) = charges_of a
charges_of (charge h ∷ a) = h ∷ charges_of a

-- the list, with nothing that tells a length of time
unfoldable pub notes : List Entry → List Note
notes [] = []
notes (x ∷ xs) = record { event = x.event; deeds = deeds_of x.given } ∷ notes xs

-- the charges given, in order, each with the number of its entry
unfoldable pub charged : ℕ → List Entry → List (Numbered Charge)
charged k [] = []
charged k (x ∷ xs) = numbered k (charges_of x.given) (charged (suc k) xs)

-- whole seconds, rounded down
abbrev pub seconds_of : ℕ → Seconds
seconds_of n = record { 0 = n / 10 }

-- the charge that a stop calls for
abbrev pub owed : Stop → Charge
owed s =
    record {
      slot = s.slot;
      ship = s.ship;
      start = s.start;
      stop = s.stop;
      seconds = seconds_of (s.stop.0 - s.start.0);
      call_number = s.call_number;
    }

abbrev pub owed_for : List (Numbered Stop) → List (Numbered Charge)
owed_for [] = []
owed_for (s ∷ ss) = record { entry = s.entry; it = owed s.it } ∷ owed_for ss

-- ── the theorem on charges ───────────────────────────────────────────────────

-- what holds of the list of every run: from every set-up that 36 does not refuse, for any events
abbrev pub OfEveryRun : (Config → List Event → Type 0) → Type 0
OfEveryRun P = (c : Config) → set_up_verdict c ≡ none → (es : List Event) → P c es

-- the run, the station after it, its list
abbrev pub run_of : Config → List Event → List Entry
run_of c es = play c es (fresh c)

abbrev pub station_after : Config → List Event → Station
station_after c es = final c es (fresh c)

abbrev pub list_of : Config → List Event → List Note
list_of c es = notes (run_of c es)

-- what the list alone tells: its stops, and its book
abbrev pub stops_of : Config → List Event → List (Numbered Stop)
stops_of c es = stops c 0 (list_of c es) (blank_book c)

abbrev pub book_of : Config → List Event → Book
book_of c es = read_all c (list_of c es) (blank_book c)

-- every stopped call has one charge, given at its stop, with that beginning and end, its whole seconds and its call number; and no other
-- charge exists
unfoldable pub ChargesAreStops : Type 0
ChargesAreStops = OfEveryRun (λ c es. charged 0 (run_of c es) ≡ owed_for (stops_of c es))

abbrev pub call_numbers : List (Numbered Charge) → List ℕ
call_numbers [] = []
call_numbers (h ∷ hs) = h.it.call_number ∷ call_numbers hs

abbrev pub tenths_in : List (Numbered Charge) → ℕ
tenths_in [] = 0
tenths_in (h ∷ hs) = (h.it.stop.0 - h.it.start.0) + tenths_in hs

-- the answered calls that the station has not charged yet, up to its clock
abbrev pub uncharged_from : ℕ → Option ℕ → ℕ
uncharged_from t none = 0
uncharged_from t (some b) = t - b

abbrev pub uncharged_slot : ℕ → Slot → ℕ
uncharged_slot t s = uncharged_from t (answered_in s)

abbrev pub uncharged_slots : ℕ → List Slot → ℕ
uncharged_slots t [] = 0
uncharged_slots t (s ∷ ss) = uncharged_slot t s + uncharged_slots t ss

unfoldable pub uncharged_tenths : Station → ℕ
uncharged_tenths st = uncharged_slots st.clock st.slots

-- charged and uncharged tenths are the answered tenths counted from the list
unfoldable pub TenthsAgree : Type 0
TenthsAgree = OfEveryRun (λ c es.
    tenths_in (charged 0 (run_of c es)) + uncharged_tenths (station_after c es) ≡ counted c (list_of c es) (blank_book c))

-- ── beside it ────────────────────────────────────────────────────────────────

-- the answered tenths counted by time and by calls are the same
unfoldable pub CountsAgree : Type 0
CountsAgree = OfEveryRun (λ c es. counted_by_calls c (list_of c es) (blank_book c) ≡ counted c (list_of c es) (blank_book c))

-- its beginning is not after its end, and its end is t
abbrev pub EndsAt : ℕ → Charge → Type 0
EndsAt t h = (h.start.0 ≤ h.stop.0) × (h.stop.0 ≡ t)

-- the clock never goes back; a charge's beginning is not after its end, and its end is the clock
unfoldable pub InOrder : Type 0
InOrder = (c : Config) (st : Station) (e : Event) → verdict c st e ≡ none
    → (st.clock ≤ (act c st e).next.clock) × Each (EndsAt (act c st e).next.clock) (charges_of (act c st e).acts)

-- the station's clock is the moment of the last entry
unfoldable pub ClockIsNow : Type 0
ClockIsNow = OfEveryRun (λ c es. (book_of c es).now ≡ (station_after c es).clock)

-- no event of a run is answered with 29
unfoldable pub AlwaysSound : Type 0
AlwaysSound = OfEveryRun (λ c es. sound c (station_after c es) ≡ true)

-- every station of a run fits 16 slots and 32 waiting ships
unfoldable pub AlwaysFits : Type 0
AlwaysFits = OfEveryRun (λ c es. (length (station_after c es).slots ≤ 16) × (length (station_after c es).queue ≤ 32))

-- what holds of every run's list
abbrev pub OfEveryList : (Config → List Note → Type 0) → Type 0
OfEveryList P = OfEveryRun (λ c es. P c (list_of c es))

-- when charging begins, in a few words: "dial", "release line", 8, 9, a call from ashore, off-hook and carrier up alone say of every slot
-- what the book says in its column, after the last entry
abbrev pub WordsAgree : Config → List Note → Type 0
WordsAgree c l = (i : ℕ) → i < length c.channels → word_after i l unused ≡ word_of (column (read_all c l (blank_book c)) i).call

-- of every list, so after every entry
unfoldable pub Literally : Type 0
Literally = OfEveryList WordsAgree

-- what holds of every entry n of a list, with the entries before it
abbrev pub EveryEntry : (Config → List Note → Note → Type 0) → Config → List Note → Type 0
EveryEntry P c l = (before : List Note) (n : Note) (after : List Note) → l ≡ before ++ n ∷ after → P c before n

abbrev pub OfEveryEntry : (Config → List Note → Note → Type 0) → Type 0
OfEveryEntry P = OfEveryList (EveryEntry P)

-- What is sent or dialled was heard, or asked ashore. Whether anything is, and which waiting ship is rung back, the next three leave to the
-- rules.

-- an acknowledgement or a 104 repeats the request that its own entry heard, a ring-back the one that its ship was last told to wait with,
-- a call from ashore the ship, mode and digits of its own event, and what is sent once more those of the first sending
unfoldable pub AnswersRepeat : Type 0
AnswersRepeat = OfEveryEntry Answers

-- a ring-back or a call from ashore comes just behind its slot's carrier, nothing having been said of that slot, or repeats the one that
-- channel 70 said last; a call from ashore begins in its caller's own entry, on a slot with no call, and is repeated while it does not ring
unfoldable pub SecondSendingRepeats : Type 0
SecondSendingRepeats = OfEveryEntry (DeedByDeed SendsSame)

-- a number that is dialled is that of the request which channel 70 last named for that slot
unfoldable pub DialsAsked : Type 0
DialsAsked = OfEveryEntry (DeedByDeed DialsNamed)

-- 02, no. 2: calls from ashore. When one begins and why it is dropped, the next six leave to the rules; when it rings, `Literally` says.

-- a slot rings exactly if the last 8 or 9 given on it is 8
abbrev pub RingingBy : List Note → Station → Type 0
RingingBy l st = (i : ℕ) → ringing_after i l false ≡ rings_in (the_slot st i)

unfoldable pub RingingAsTold : Type 0
RingingAsTold = OfEveryRun (λ c es. RingingBy (list_of c es) (station_after c es))

-- one 8 is given where it begins to ring, one 9 where it ends, and no other
unfoldable pub RingingInTurn : Type 0
RingingInTurn = OfEveryEntry InTurn

-- a ship that is being called is not offered a slot, nor put off or refused, nor called or rung back on a second slot
unfoldable pub CalledNotOffered : Type 0
CalledNotOffered = OfEveryEntry OffersOthers

-- and where it asks, for a call or for data, no deed is given
unfoldable pub CalledAskInVain : Type 0
CalledAskInVain = OfEveryEntry AsksInVain

-- x asks, for a call or for data
abbrev pub AskedBy : Party → Heard → Type 0
AskedBy x (call_request r) = r.who ≡ x
AskedBy x (data_request y n) = y ≡ x
AskedBy x (bq i y) = ⊥
AskedBy x (working_call y) = ⊥
AskedBy x (end_of_call y) = ⊥
AskedBy x (declined y) = ⊥
AskedBy x nothing = ⊥

-- "A request from a ship being called, until that transmission, is ignored": the answer is 1, there is no action of any kind, and nothing
-- of the station has changed but its clock
abbrev pub IgnoredWhenCalled : Config → Station → Event → Out → Type 0
IgnoredWhenCalled c st e o = (i : ℕ) (k : Kind) (r : Dealing) (d : ℕ) → the_slot st i ≡ pending k r d → is_called k ≡ true
    → AskedBy r.request.who (heard_at c e.what) → o ≡ ignored (set_clock e.time st)

-- of every station and every event that it accepts
unfoldable pub CalledIgnored : Type 0
CalledIgnored = (c : Config) (st : Station) (e : Event) → verdict c st e ≡ none → IgnoredWhenCalled c st e (act c st e)

-- a call from ashore goes on: its ship is still being called, or answers at t
abbrev pub GoesOn : Dealing → ℕ → Slot → Type 0
GoesOn r t free = ⊥
GoesOn r t taken = ⊥
GoesOn r t (pending k o d) = (is_called k ≡ true) × (o ≡ r)
GoesOn r t (busy o g c) = (o ≡ r) × (g ≡ answered t)
GoesOn r t (held o n d) = ⊥

-- the slot is freed: free, or in ring-back for one that waited
abbrev pub IsFreed : Slot → Type 0
IsFreed free = Unit {0}
IsFreed taken = ⊥
IsFreed (pending k o d) = k ≡ first_ring_back
IsFreed (busy o g c) = ⊥
IsFreed (held o n d) = ⊥

-- from st to next: while a call from ashore goes on its line is not released; where it is dropped, the line is released once, in that step
abbrev pub ReleasedWhenDropped : Station → Station → List Action → Type 0
ReleasedWhenDropped st next acts = (i : ℕ) (k : Kind) (r : Dealing) (d : ℕ) → the_slot st i ≡ pending k r d → is_called k ≡ true
    → (GoesOn r next.clock (the_slot next i) × (releases i (deeds_of acts) ≡ 0))
    ⊎ (IsFreed (the_slot next i) × (releases i (deeds_of acts) ≡ 1))

-- of every station and every event that it accepts
unfoldable pub DroppedReleased : Type 0
DroppedReleased = (c : Config) (st : Station) (e : Event) → verdict c st e ≡ none
    → ReleasedWhenDropped st (act c st e).next (act c st e).acts

-- while a ship waits no slot is free, unless the last call number has been given
unfoldable pub NoChannelIdle : Type 0
NoChannelIdle = OfEveryRun (λ c es.
    (w : Waiting) (q : List Waiting) → (station_after c es).queue ≡ w ∷ q
    → (lowest is_free (station_after c es).slots ≡ none) ⊎ ((station_after c es).last_call ≡ 4294967295))

-- ── 02, no. 4: call numbers ──────────────────────────────────────────────────

-- "No two charges of one run from a fresh station carry the same number"
unfoldable pub ChargesDiffer : Type 0
ChargesDiffer = OfEveryRun (λ c es. distinct eqb (call_numbers (charged 0 (run_of c es))) ≡ true)

-- the calls that the list shows to begin have just the numbers from 1 to the station's last
unfoldable pub NumbersCounted : Type 0
NumbersCounted = OfEveryRun (λ c es. (book_of c es).given ≡ (station_after c es).last_call)

-- the call that the list shows on a slot, before its line is dialled and after
abbrev pub begun_in : Said → Call → Option Begun
begun_in silent quiet = none
begun_in (told_b_q o) quiet = some o
begun_in (told_r_q o) quiet = some o
begun_in (settled o) quiet = some o
begun_in s (called o rings) = some o
begun_in s (dialled o ended) = some o
begun_in s (talking o b) = some o

-- "The slot's record holds it": the number that the list counts for the call on a slot
abbrev pub HeldAsCounted : Config → List Note → Station → Type 0
HeldAsCounted c l st = (i : ℕ) (o : Begun)
    → begun_in (column (read_all c l (blank_book c)) i).said (column (read_all c l (blank_book c)) i).call ≡ some o
    → call_number_in (the_slot st i) ≡ o.call_number

unfoldable pub NumbersHeld : Type 0
NumbersHeld = OfEveryRun (λ c es. HeldAsCounted c (list_of c es) (station_after c es))

-- every call number that the station holds has been given, and none is past the last
unfoldable pub NumbersGiven : Type 0
NumbersGiven = OfEveryRun (λ c es. ((station_after c es).last_call ≤ 4294967295)
    × Each (λ s. call_number_in s ≤ (station_after c es).last_call) (station_after c es).slots)

-- numbers never go back
unfoldable pub NumbersGoOn : Type 0
NumbersGoOn = (c : Config) (st : Station) (e : Event) → verdict c st e ≡ none → st.last_call ≤ (act c st e).next.last_call

-- "answer 104/107 and change nothing else"
abbrev pub Told107 : Station → ℕ → Request → Out → Type 0
Told107 st t r o = o ≡ saying (unable 107 r.who r.number) (set_clock t st)

-- "once 4,294,967,295 has been given": a ship that has no slot, waiting or not; one whose slot is offered for another request, in
-- ring-back or acknowledged
abbrev pub ToldWhenUsedUp : Config → Station → Event → Out → Type 0
ToldWhenUsedUp c st e o = (r : Request) → st.last_call ≡ 4294967295 → heard_at c e.what ≡ call_request r
    → (slot_of r.who st ≡ none → Told107 st e.time r o)
    × ((i : ℕ) (k : Kind) (p : Dealing) (d : ℕ) → slot_of r.who st ≡ some i → the_slot st i ≡ pending k p d → is_called k ≡ false
    → (is_offer k && same r p.request) ≡ false → Told107 st e.time r o)

-- of every station and every event that it accepts
unfoldable pub UsedUpTold : Type 0
UsedUpTold = (c : Config) (st : Station) (e : Event) → verdict c st e ≡ none → ToldWhenUsedUp c st e (act c st e)

-- no number is given any more, and no caller ashore is accepted
unfoldable pub UsedUpStays : Type 0
UsedUpStays = (c : Config) (st : Station) (e : Event) → verdict c st e ≡ none → st.last_call ≡ 4294967295
    → ((act c st e).next.last_call ≡ 4294967295) × (ashore_in e.what ≡ none)

-- of every sound station: at most 8 actions a step, and every payload within 36 bytes
unfoldable pub AtMostEight : Type 0
AtMostEight = (c : Config) (st : Station) (e : Event) → sound c st ≡ true
    → (length (act c st e).acts ≤ 8) × Each (λ a. length (payload_of c a) ≤ 36) (act c st e).acts

-- "0 done, 1 ignored": so every accepted event is answered, and no refused one
unfoldable pub ZeroOrOne : Type 0
ZeroOrOne = (c : Config) (st : Station) (e : Event)
    → (verdict c st e ≡ none → (act c st e).answer ≤ 1) × ((n : ℕ) → verdict c st e ≡ some n → 11 ≤ n)

abbrev pub FourBytes : Charge → Type 0
FourBytes h =
    (h.ship < 4294967296)
    × ((h.start.0 < 4294967296)
    × ((h.stop.0 < 4294967296) × ((h.seconds.0 < 4294967296) × (h.call_number < 4294967296))))

-- every call number held is one of 32 bits: soundness asks nothing of them
abbrev pub NumbersFit : Station → Type 0
NumbersFit st = Each (λ s. call_number_in s < 4294967296) st.slots

-- "four bytes each": every number of a charge fits them
unfoldable pub ChargesFit : Type 0
ChargesFit = (c : Config) (st : Station) (e : Event) → verdict c st e ≡ none → NumbersFit st
    → Each FourBytes (charges_of (act c st e).acts)

-- a refused event changes nothing, and leaves no entry
unfoldable pub RefusedLeavesAll : Type 0
RefusedLeavesAll = (c : Config) (st : Station) (e : Event) (n : ℕ) → verdict c st e ≡ some n → (es : List Event)
    → (play c (e ∷ es) st ≡ play c es st) × (final c (e ∷ es) st ≡ final c es st)

-- where every event of the list is accepted, the run's events are the list
unfoldable pub Accepts : Config → List Event → Station → Type 0
Accepts c [] st = Unit {0}
Accepts c (e ∷ es) st = (verdict c st e ≡ none) × Accepts c es (act c st e).next

abbrev pub events_of : List Entry → List Event
events_of [] = []
events_of (x ∷ xs) = x.event ∷ events_of xs

unfoldable pub AllPlayed : Type 0
AllPlayed = (c : Config) (es : List Event) (st : Station) → Accepts c es st → events_of (play c es st) ≡ es
