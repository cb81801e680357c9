-- What is claimed of the station's entries: of any call, and of a host that hands on what it was left.
use Rattle.std.specs.Prelude.{ℕ, ◌/◌, ◌%◌, ◌<◌, ◌≡◌, true, false, Option as Optional, Some, None, Ok, List, [], ◌∷◌}
use Rattle.units.specs.declared.Tenths.{Tenths}
use Rattle.std.proofs.Math.Option.{none, some}
use Rattle.rules.specs.Rules.Words.{Config, Event}
use Rattle.receivers.specs.Finding.{found_in, handed}
use Rattle.station.specs.declared.Station.{Station}
use Rattle.station.specs.declared.Stepped.{Stepped}
use Rattle.station.specs.Step.{refusal, stepped_by, room_after, set_up_of}
use Rattle.lent_layout.specs.Stations.{sized, current, station_bytes, station_from}
use Rattle.lent_layout.specs.Statement.{FoundAgain}
use Rattle.coast.specs.Finding.{receiver_number, found_returned}
use Rattle.coast.specs.Events.{packed, returned, station_after, room_left, station_set_up, due_returned, clock_returned}

-- ── any call, on any bytes ───────────────────────────────────────────────────

-- "leaves lent bytes untouched": the station's and the room's
abbrev pub RefusalLeavesAll : Type 0
RefusalLeavesAll = (b room : List ℕ) (e : Event) (n : ℕ) → refusal (station_from b) e ≡ some n
    → (station_after b e ≡ b) × (room_left b room e ≡ room)

-- an accepted event leaves the next station's bytes, and they stand for it
abbrev pub AcceptedLeavesItsStation : Type 0
AcceptedLeavesItsStation = (b : List ℕ) (e : Event) → refusal (station_from b) e ≡ none
    → (station_after b e ≡ station_bytes (stepped_by (station_from b) e).station) × FoundAgain (stepped_by (station_from b) e).station

-- bytes of another size or another version have no due time and no clock either
abbrev pub OtherLayoutTellsNothing : Type 0
OtherLayoutTellsNothing = (b : List ℕ) → current b ≡ false → (due_returned (station_from b) ≡ 29) × (clock_returned (station_from b) ≡ 29)

-- the four parts of the number that an event returns, as the header takes it apart
abbrev pub waits : Optional Tenths → ℕ
waits None = 0
waits (Some t) = 1

abbrev pub due_time : Optional Tenths → ℕ
due_time None = 0
due_time (Some t) = t.0

abbrev pub TakenApart : Type 0
TakenApart = (r : Stepped) → r.answer < 256 → r.count < 256
    → (packed r % 256 ≡ r.answer) × (packed r / 256 % 256 ≡ r.count)
    × (packed r / 65536 % 2 ≡ waits r.due) × (packed r / 4294967296 ≡ due_time r.due)

-- the three parts of the number that the finder returns: its length, 0 where nothing was found, its receiver and its place
abbrev pub FoundTakenApart : Type 0
FoundTakenApart = (first second : List ℕ)
    → (found_returned (found_in first second) % 256 ≡ (handed (found_in first second)).stretch.count)
    × (found_returned (found_in first second) / 256 % 2 ≡ receiver_number (handed (found_in first second)).receiver)
    × (found_returned (found_in first second) / 65536 ≡ (handed (found_in first second)).stretch.place)

-- ── a host that hands on what it was left ────────────────────────────────────

-- each event on the bytes that the one before left: what the entries return, and the bytes at the end
abbrev pub returned_by : List ℕ → List Event → List ℕ
returned_by b [] = []
returned_by b (e ∷ es) = returned b e ∷ returned_by (station_after b e) es

abbrev pub left_by : List ℕ → List Event → List ℕ
left_by b [] = b
left_by b (e ∷ es) = left_by (station_after b e) es

-- each event on the station that the one before handed back
abbrev pub packed_by : Station → List Event → List ℕ
packed_by s [] = []
packed_by s (e ∷ es) = packed (stepped_by s e) ∷ packed_by (stepped_by s e).station es

abbrev pub handed_by : Station → List Event → Station
handed_by s [] = s
handed_by s (e ∷ es) = handed_by (stepped_by s e).station es

-- from every set-up that 36 does not refuse, along any list of events: the same answers, counts and due times, the same station, and
-- in the room of one event more the same actions
abbrev pub HostHandsOn : Type 0
HostHandsOn = (c : Config) (begun : Station) (lent : List ℕ) → set_up_of c ≡ Ok begun → sized lent ≡ true → (es : List Event)
    → (returned_by (station_set_up c lent) es ≡ packed_by begun es)
    × (left_by (station_set_up c lent) es ≡ station_bytes (handed_by begun es))
    × ((e : Event) (room : List ℕ)
    → room_left (left_by (station_set_up c lent) es) room e ≡ room_after (handed_by begun es) room e)
