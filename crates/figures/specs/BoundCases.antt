-- Rows on both sides of a boundary, and for what the other tables see only in its usual value: other slots, places, stations,
-- second telecommands, kinds of sequence.
use Rattle.std.specs.Prelude.{List, [], ◌∷◌, ◌++◌, map, Bool, cond, ℕ, replicate, take, drop, None}
use Rattle.sequence.specs.declared.Field.{Field}
use Rattle.sequence.specs.declared.Field.TheVariants.{Blank, Channel}
use Rattle.sequence.specs.Layout.{valid, layout}
use Rattle.rules.specs.Rules.Words.{Party, is, Mode, simplex, duplex, mode_number, Config, Event, carrier_on}
use Rattle.rules.specs.Rules.Actions.{the_ship, does, over, charge}
use Rattle.rules.specs.Rules.Station.{offered, free, taken, call_number_in, none_left, number_after, Station, fresh}
use Rattle.rules.specs.Tables.Slots.{pending, held}
use Rattle.rules.specs.Rules.Verdict.{step}
use Rattle.rules.specs.Rules.Bytes.{number_of, able_said, unable_said, over_said, blocks}
use Rattle.rules.specs.Rules.Printed.{lines}
use Rattle.rules.specs.Tables.Runs.{channel, station, seven, eight, nine, sends, usual, calls_for, calls, data_calls, accepts, accepts_in}
use Rattle.rules.specs.Tables.Runs.{declines, caller, shore_calls, shore_asks, works, ends, ticks}
use Rattle.rules.specs.Tables.Runs.{paid, says, says_on, dials_out, picks_up, hangs, regains, loses, reserves, restores, ticks_in, station_of}
use Rattle.rules.specs.Tables.Cases.{Row}
use Rattle.rules.specs.Tables.Scripts.{gives, waits, waiting_ships, charges, ack_eight26, ack_seven26, ack_seven26_again}
use Rattle.rules.specs.Tables.Scripts.{ack_seven26_simplex, ack_seven27, over_seven, over_seven_by_coast, ring_back_eight26}
use Rattle.rules.specs.Tables.Scripts.{ring_back_nine26, ring_back_seven26, unable102_nine, unable103_eight, unable103_seven}
use Rattle.rules.specs.Tables.Scripts.{call_seven26, call_seven26_simplex, call_seven27}
use Rattle.rules.specs.Tables.Phases.{waiting_with, phases}
use Rattle.rules.specs.Tables.SoundCases.{kinds, asking, from, lasting, holding, asked, with, queued, set_up}
use Rattle.rules.specs.Tables.SoundCases.{Judged, sounds, unsound, refused36}

-- ── how a row is written ─────────────────────────────────────────────────────

-- what every event of a script prints
abbrev pub printed_all : Config → List Event → Station → List (List ℕ)
printed_all c [] st = []
printed_all c (e ∷ es) st = lines c (step c st e) ++ printed_all c es (step c st e).next

abbrev pub tells : ℕ → List Event → List (List ℕ)
tells n es = printed_all (station n) es (fresh (station n))

-- the symbols of a request to a station, with a second telecommand
abbrev pub asks : ℕ → ℕ → ℕ → List ℕ → ℕ → Mode → List ℕ
asks station second end digits x m =
    layout
    (record { address = station; sender = x; first = mode_number m; second = second; field = Blank; number = number_of digits; end = end })

-- a call request with a second telecommand
abbrev pub calls_as : ℕ → List ℕ → ℕ → ℕ → Mode → Event
calls_as second digits t x m = says t (asks 2001234 second 117 digits x m)

-- the symbols of seven's BQ to a station, with a second telecommand of its own
abbrev pub answers : ℕ → ℕ → Field → List ℕ
answers station first field =
    layout (record { address = station; sender = seven; first = first; second = 100; field = field; number = number_of usual; end = 122 })

-- another station, on the channels 60 and 88
abbrev pub other : Config
other = station_of 7999999 (60 ∷ 88 ∷ [])

-- 1 where a test holds, 0 where it fails
abbrev pub bit : Bool → ℕ
bit b = cond b 1 0

-- ── the sequences sent ───────────────────────────────────────────────────────

-- acknowledgement, channel 27, seven, second telecommand 100
abbrev pub ack_seven27_as100 : List ℕ
ack_seven27_as100 = 123 ∷ 20 ∷ 0 ∷ 0 ∷ 0 ∷ 70 ∷ 100 ∷ 0 ∷ 20 ∷ 1 ∷ 23 ∷ 40 ∷ 101 ∷ 100 ∷ 90 ∷ 0 ∷ 27 ∷ 105 ∷ 5 ∷ 55 ∷ 12 ∷ 34 ∷ 122 ∷
    40 ∷ []

-- acknowledgement, channel 27, seven, number 42
abbrev pub ack_seven27_of42 : List ℕ
ack_seven27_of42 = 123 ∷ 20 ∷ 0 ∷ 0 ∷ 0 ∷ 70 ∷ 100 ∷ 0 ∷ 20 ∷ 1 ∷ 23 ∷ 40 ∷ 101 ∷ 126 ∷ 90 ∷ 0 ∷ 27 ∷ 106 ∷ 42 ∷ 122 ∷ 7 ∷ []

-- 104/103 to nine
abbrev pub unable103_nine : List ℕ
unable103_nine = 123 ∷ 20 ∷ 0 ∷ 0 ∷ 0 ∷ 90 ∷ 100 ∷ 0 ∷ 20 ∷ 1 ∷ 23 ∷ 40 ∷ 104 ∷ 103 ∷ 126 ∷ 126 ∷ 126 ∷ 105 ∷ 5 ∷ 55 ∷ 12 ∷ 34 ∷ 122 ∷
    5 ∷ []

-- end of call to seven, BQ, 0 0 4, number 42
abbrev pub over_seven4_of42 : List ℕ
over_seven4_of42 = 123 ∷ 20 ∷ 0 ∷ 0 ∷ 0 ∷ 70 ∷ 100 ∷ 0 ∷ 20 ∷ 1 ∷ 23 ∷ 40 ∷ 105 ∷ 126 ∷ 0 ∷ 0 ∷ 4 ∷ 106 ∷ 42 ∷ 122 ∷ 78 ∷ []

-- end of call to seven, BQ, 0 0 2
abbrev pub over_seven2 : List ℕ
over_seven2 = 123 ∷ 20 ∷ 0 ∷ 0 ∷ 0 ∷ 70 ∷ 100 ∷ 0 ∷ 20 ∷ 1 ∷ 23 ∷ 40 ∷ 105 ∷ 126 ∷ 0 ∷ 0 ∷ 2 ∷ 105 ∷ 5 ∷ 55 ∷ 12 ∷ 34 ∷ 122 ∷ 125 ∷ []

-- ring-back, channel 27, eight
abbrev pub ring_eight27 : List ℕ
ring_eight27 = 123 ∷ 20 ∷ 0 ∷ 0 ∷ 0 ∷ 80 ∷ 100 ∷ 0 ∷ 20 ∷ 1 ∷ 23 ∷ 40 ∷ 101 ∷ 126 ∷ 90 ∷ 0 ∷ 27 ∷ 105 ∷ 5 ∷ 55 ∷ 12 ∷ 34 ∷ 117 ∷ 43 ∷ []

-- end of call to eight, 127, 126s
abbrev pub over_eight_by_coast : List ℕ
over_eight_by_coast = 123 ∷ 20 ∷ 0 ∷ 0 ∷ 0 ∷ 80 ∷ 100 ∷ 0 ∷ 20 ∷ 1 ∷ 23 ∷ 40 ∷ 105 ∷ 126 ∷ 126 ∷ 126 ∷ 126 ∷ 105 ∷ 5 ∷ 55 ∷ 12 ∷ 34 ∷
    127 ∷ 18 ∷ []

-- ring-back, channel 27, nine, in simplex
abbrev pub ring_nine27_simplex : List ℕ
ring_nine27_simplex = 123 ∷ 20 ∷ 0 ∷ 0 ∷ 0 ∷ 90 ∷ 100 ∷ 0 ∷ 20 ∷ 1 ∷ 23 ∷ 40 ∷ 100 ∷ 126 ∷ 90 ∷ 0 ∷ 27 ∷ 105 ∷ 5 ∷ 55 ∷ 12 ∷ 34 ∷ 117 ∷
    32 ∷ []

-- acknowledgement, channel 27, nine, in simplex
abbrev pub ack_nine27_simplex : List ℕ
ack_nine27_simplex = 123 ∷ 20 ∷ 0 ∷ 0 ∷ 0 ∷ 90 ∷ 100 ∷ 0 ∷ 20 ∷ 1 ∷ 23 ∷ 40 ∷ 100 ∷ 126 ∷ 90 ∷ 0 ∷ 27 ∷ 105 ∷ 5 ∷ 55 ∷ 12 ∷ 34 ∷ 122 ∷
    47 ∷ []

-- acknowledgement, channel 27, seven, in simplex
abbrev pub ack_seven27_simplex : List ℕ
ack_seven27_simplex = 123 ∷ 20 ∷ 0 ∷ 0 ∷ 0 ∷ 70 ∷ 100 ∷ 0 ∷ 20 ∷ 1 ∷ 23 ∷ 40 ∷ 100 ∷ 126 ∷ 90 ∷ 0 ∷ 27 ∷ 105 ∷ 5 ∷ 55 ∷ 12 ∷ 34 ∷ 122 ∷
    51 ∷ []

-- end of call to seven, 127, 0 0 2
abbrev pub over_seven_by_coast2 : List ℕ
over_seven_by_coast2 = 123 ∷ 20 ∷ 0 ∷ 0 ∷ 0 ∷ 70 ∷ 100 ∷ 0 ∷ 20 ∷ 1 ∷ 23 ∷ 40 ∷ 105 ∷ 126 ∷ 0 ∷ 0 ∷ 2 ∷ 105 ∷ 5 ∷ 55 ∷ 12 ∷ 34 ∷ 127 ∷
    120 ∷ []

-- end of call to seven, 127, 0 0 6
abbrev pub over_seven_by_coast6 : List ℕ
over_seven_by_coast6 = 123 ∷ 20 ∷ 0 ∷ 0 ∷ 0 ∷ 70 ∷ 100 ∷ 0 ∷ 20 ∷ 1 ∷ 23 ∷ 40 ∷ 105 ∷ 126 ∷ 0 ∷ 0 ∷ 6 ∷ 105 ∷ 5 ∷ 55 ∷ 12 ∷ 34 ∷ 127 ∷
    124 ∷ []

-- ring-back, channel 27, seven
abbrev pub ring_seven27 : List ℕ
ring_seven27 = 123 ∷ 20 ∷ 0 ∷ 0 ∷ 0 ∷ 70 ∷ 100 ∷ 0 ∷ 20 ∷ 1 ∷ 23 ∷ 40 ∷ 101 ∷ 126 ∷ 90 ∷ 0 ∷ 27 ∷ 105 ∷ 5 ∷ 55 ∷ 12 ∷ 34 ∷ 117 ∷ 61 ∷ []

-- ring-back, channel 27, nine
abbrev pub ring_nine27 : List ℕ
ring_nine27 = 123 ∷ 20 ∷ 0 ∷ 0 ∷ 0 ∷ 90 ∷ 100 ∷ 0 ∷ 20 ∷ 1 ∷ 23 ∷ 40 ∷ 101 ∷ 126 ∷ 90 ∷ 0 ∷ 27 ∷ 105 ∷ 5 ∷ 55 ∷ 12 ∷ 34 ∷ 117 ∷ 33 ∷ []

-- acknowledgement, channel 27, nine
abbrev pub ack_nine27 : List ℕ
ack_nine27 = 123 ∷ 20 ∷ 0 ∷ 0 ∷ 0 ∷ 90 ∷ 100 ∷ 0 ∷ 20 ∷ 1 ∷ 23 ∷ 40 ∷ 101 ∷ 126 ∷ 90 ∷ 0 ∷ 27 ∷ 105 ∷ 5 ∷ 55 ∷ 12 ∷ 34 ∷ 122 ∷ 46 ∷ []

-- end of call to nine, 127, 126s
abbrev pub over_nine_by_coast : List ℕ
over_nine_by_coast = 123 ∷ 20 ∷ 0 ∷ 0 ∷ 0 ∷ 90 ∷ 100 ∷ 0 ∷ 20 ∷ 1 ∷ 23 ∷ 40 ∷ 105 ∷ 126 ∷ 126 ∷ 126 ∷ 126 ∷ 105 ∷ 5 ∷ 55 ∷ 12 ∷ 34 ∷
    127 ∷ 24 ∷ []

-- acknowledgement, channel 28, seven
abbrev pub ack_seven28 : List ℕ
ack_seven28 = 123 ∷ 20 ∷ 0 ∷ 0 ∷ 0 ∷ 70 ∷ 100 ∷ 0 ∷ 20 ∷ 1 ∷ 23 ∷ 40 ∷ 101 ∷ 126 ∷ 90 ∷ 0 ∷ 28 ∷ 105 ∷ 5 ∷ 55 ∷ 12 ∷ 34 ∷ 122 ∷ 53 ∷ []

-- acknowledgement, channel 28, eight
abbrev pub ack_eight28 : List ℕ
ack_eight28 = 123 ∷ 20 ∷ 0 ∷ 0 ∷ 0 ∷ 80 ∷ 100 ∷ 0 ∷ 20 ∷ 1 ∷ 23 ∷ 40 ∷ 101 ∷ 126 ∷ 90 ∷ 0 ∷ 28 ∷ 105 ∷ 5 ∷ 55 ∷ 12 ∷ 34 ∷ 122 ∷ 35 ∷ []

-- 104/103 to nine, number 42
abbrev pub unable103_nine_of42 : List ℕ
unable103_nine_of42 = 123 ∷ 20 ∷ 0 ∷ 0 ∷ 0 ∷ 90 ∷ 100 ∷ 0 ∷ 20 ∷ 1 ∷ 23 ∷ 40 ∷ 104 ∷ 103 ∷ 126 ∷ 126 ∷ 126 ∷ 106 ∷ 42 ∷ 122 ∷ 48 ∷ []

-- ring-back, channel 26, nine, number 42
abbrev pub ring_back_nine26_of42 : List ℕ
ring_back_nine26_of42 = 123 ∷ 20 ∷ 0 ∷ 0 ∷ 0 ∷ 90 ∷ 100 ∷ 0 ∷ 20 ∷ 1 ∷ 23 ∷ 40 ∷ 101 ∷ 126 ∷ 90 ∷ 0 ∷ 26 ∷ 106 ∷ 42 ∷ 117 ∷ 21 ∷ []

-- ring-back, channel 26, seven, in simplex, second telecommand 109
abbrev pub ring_back_seven26_simplex_as109 : List ℕ
ring_back_seven26_simplex_as109 = 123 ∷ 20 ∷ 0 ∷ 0 ∷ 0 ∷ 70 ∷ 100 ∷ 0 ∷ 20 ∷ 1 ∷ 23 ∷ 40 ∷ 100 ∷ 109 ∷ 90 ∷ 0 ∷ 26 ∷ 105 ∷ 5 ∷ 55 ∷ 12 ∷ 34 ∷
    117 ∷ 46 ∷ []

-- acknowledgement, channel 26, seven, in simplex, second telecommand 100
abbrev pub ack_seven26_simplex_as100 : List ℕ
ack_seven26_simplex_as100 = 123 ∷ 20 ∷ 0 ∷ 0 ∷ 0 ∷ 70 ∷ 100 ∷ 0 ∷ 20 ∷ 1 ∷ 23 ∷ 40 ∷ 100 ∷ 100 ∷ 90 ∷ 0 ∷ 26 ∷ 105 ∷ 5 ∷ 55 ∷ 12 ∷ 34 ∷
    122 ∷ 40 ∷ []

-- acknowledgement, channel 26, seven, second telecommand 100
abbrev pub ack_seven26_as100 : List ℕ
ack_seven26_as100 = 123 ∷ 20 ∷ 0 ∷ 0 ∷ 0 ∷ 70 ∷ 100 ∷ 0 ∷ 20 ∷ 1 ∷ 23 ∷ 40 ∷ 101 ∷ 100 ∷ 90 ∷ 0 ∷ 26 ∷ 105 ∷ 5 ∷ 55 ∷ 12 ∷ 34 ∷ 122 ∷
    41 ∷ []

-- acknowledgement, channel 26, seven, second telecommand 101
abbrev pub ack_seven26_as101 : List ℕ
ack_seven26_as101 = 123 ∷ 20 ∷ 0 ∷ 0 ∷ 0 ∷ 70 ∷ 100 ∷ 0 ∷ 20 ∷ 1 ∷ 23 ∷ 40 ∷ 101 ∷ 101 ∷ 90 ∷ 0 ∷ 26 ∷ 105 ∷ 5 ∷ 55 ∷ 12 ∷ 34 ∷ 122 ∷
    40 ∷ []

-- acknowledgement, channel 26, seven, number 421
abbrev pub ack_seven26_of421 : List ℕ
ack_seven26_of421 = 123 ∷ 20 ∷ 0 ∷ 0 ∷ 0 ∷ 70 ∷ 100 ∷ 0 ∷ 20 ∷ 1 ∷ 23 ∷ 40 ∷ 101 ∷ 126 ∷ 90 ∷ 0 ∷ 26 ∷ 105 ∷ 4 ∷ 21 ∷ 122 ∷ 62 ∷ []

-- acknowledgement, channel 26, seven, number 52
abbrev pub ack_seven26_of52 : List ℕ
ack_seven26_of52 = 123 ∷ 20 ∷ 0 ∷ 0 ∷ 0 ∷ 70 ∷ 100 ∷ 0 ∷ 20 ∷ 1 ∷ 23 ∷ 40 ∷ 101 ∷ 126 ∷ 90 ∷ 0 ∷ 26 ∷ 106 ∷ 52 ∷ 122 ∷ 24 ∷ []

-- acknowledgement, channel 26, seven, number 41
abbrev pub ack_seven26_of41 : List ℕ
ack_seven26_of41 = 123 ∷ 20 ∷ 0 ∷ 0 ∷ 0 ∷ 70 ∷ 100 ∷ 0 ∷ 20 ∷ 1 ∷ 23 ∷ 40 ∷ 101 ∷ 126 ∷ 90 ∷ 0 ∷ 26 ∷ 106 ∷ 41 ∷ 122 ∷ 5 ∷ []

-- end of call to seven, 127, 0 15 3
abbrev pub over_seven_by_coast903 : List ℕ
over_seven_by_coast903 = 123 ∷ 20 ∷ 0 ∷ 0 ∷ 0 ∷ 70 ∷ 100 ∷ 0 ∷ 20 ∷ 1 ∷ 23 ∷ 40 ∷ 105 ∷ 126 ∷ 0 ∷ 15 ∷ 3 ∷ 105 ∷ 5 ∷ 55 ∷ 12 ∷ 34 ∷
    127 ∷ 118 ∷ []

-- acknowledgement of the station 007999999, channel 60, seven
abbrev pub ack_other : List ℕ
ack_other = 123 ∷ 20 ∷ 0 ∷ 0 ∷ 0 ∷ 70 ∷ 100 ∷ 0 ∷ 79 ∷ 99 ∷ 99 ∷ 90 ∷ 101 ∷ 126 ∷ 90 ∷ 0 ∷ 60 ∷ 105 ∷ 5 ∷ 55 ∷ 12 ∷ 34 ∷ 122 ∷ 42 ∷ []

-- its 104/103 to eight
abbrev pub wait_other : List ℕ
wait_other = 123 ∷ 20 ∷ 0 ∷ 0 ∷ 0 ∷ 80 ∷ 100 ∷ 0 ∷ 79 ∷ 99 ∷ 99 ∷ 90 ∷ 104 ∷ 103 ∷ 126 ∷ 126 ∷ 126 ∷ 105 ∷ 5 ∷ 55 ∷ 12 ∷ 34 ∷ 122 ∷
    48 ∷ []

-- its ring-back, channel 60, eight
abbrev pub ring_back_other : List ℕ
ring_back_other = 123 ∷ 20 ∷ 0 ∷ 0 ∷ 0 ∷ 80 ∷ 100 ∷ 0 ∷ 79 ∷ 99 ∷ 99 ∷ 90 ∷ 101 ∷ 126 ∷ 90 ∷ 0 ∷ 60 ∷ 105 ∷ 5 ∷ 55 ∷ 12 ∷ 34 ∷ 117 ∷ 51 ∷ []

-- end of call to seven, BQ, 0 0 4, the caller's number
abbrev pub over_seven_caller4 : List ℕ
over_seven_caller4 =
    123 ∷ 20 ∷ 0 ∷ 0 ∷ 0 ∷ 70 ∷ 100 ∷ 0 ∷ 20 ∷ 1 ∷ 23 ∷ 40 ∷ 105 ∷ 126 ∷ 0 ∷ 0 ∷ 4 ∷ 106 ∷ 61 ∷ 23 ∷ 45 ∷ 122 ∷ 99 ∷ []

-- call from ashore, channel 27, nine, in simplex
abbrev pub call_nine27_simplex : List ℕ
call_nine27_simplex =
    123 ∷ 20 ∷ 0 ∷ 0 ∷ 0 ∷ 90 ∷ 100 ∷ 0 ∷ 20 ∷ 1 ∷ 23 ∷ 40 ∷ 100 ∷ 126 ∷ 90 ∷ 0 ∷ 27 ∷ 106 ∷ 61 ∷ 23 ∷ 45 ∷ 117 ∷ 56 ∷ []

-- end of call to nine, 127, 0 0 2, the caller's number
abbrev pub over_nine_caller_by_coast2 : List ℕ
over_nine_caller_by_coast2 =
    123 ∷ 20 ∷ 0 ∷ 0 ∷ 0 ∷ 90 ∷ 100 ∷ 0 ∷ 20 ∷ 1 ∷ 23 ∷ 40 ∷ 105 ∷ 126 ∷ 0 ∷ 0 ∷ 2 ∷ 106 ∷ 61 ∷ 23 ∷ 45 ∷ 127 ∷ 124 ∷ []

-- call from ashore, channel 27, eight
abbrev pub call_eight27 : List ℕ
call_eight27 = 123 ∷ 20 ∷ 0 ∷ 0 ∷ 0 ∷ 80 ∷ 100 ∷ 0 ∷ 20 ∷ 1 ∷ 23 ∷ 40 ∷ 101 ∷ 126 ∷ 90 ∷ 0 ∷ 27 ∷ 106 ∷ 61 ∷ 23 ∷ 45 ∷ 117 ∷ 51 ∷ []

-- end of call to eight, 127, 0 0 6, the caller's number
abbrev pub over_eight_caller_by_coast6 : List ℕ
over_eight_caller_by_coast6 =
    123 ∷ 20 ∷ 0 ∷ 0 ∷ 0 ∷ 80 ∷ 100 ∷ 0 ∷ 20 ∷ 1 ∷ 23 ∷ 40 ∷ 105 ∷ 126 ∷ 0 ∷ 0 ∷ 6 ∷ 106 ∷ 61 ∷ 23 ∷ 45 ∷ 127 ∷ 114 ∷ []

-- end of call to eight, 127, 0 0 2, the caller's number
abbrev pub over_eight_caller_by_coast2 : List ℕ
over_eight_caller_by_coast2 =
    123 ∷ 20 ∷ 0 ∷ 0 ∷ 0 ∷ 80 ∷ 100 ∷ 0 ∷ 20 ∷ 1 ∷ 23 ∷ 40 ∷ 105 ∷ 126 ∷ 0 ∷ 0 ∷ 2 ∷ 106 ∷ 61 ∷ 23 ∷ 45 ∷ 127 ∷ 118 ∷ []

-- call from ashore, channel 26, nine, in simplex
abbrev pub call_nine26_simplex : List ℕ
call_nine26_simplex =
    123 ∷ 20 ∷ 0 ∷ 0 ∷ 0 ∷ 90 ∷ 100 ∷ 0 ∷ 20 ∷ 1 ∷ 23 ∷ 40 ∷ 100 ∷ 126 ∷ 90 ∷ 0 ∷ 26 ∷ 106 ∷ 61 ∷ 23 ∷ 45 ∷ 117 ∷ 57 ∷ []

-- acknowledgement, channel 26, nine, in simplex
abbrev pub ack_nine26_simplex : List ℕ
ack_nine26_simplex =
    123 ∷ 20 ∷ 0 ∷ 0 ∷ 0 ∷ 90 ∷ 100 ∷ 0 ∷ 20 ∷ 1 ∷ 23 ∷ 40 ∷ 100 ∷ 126 ∷ 90 ∷ 0 ∷ 26 ∷ 105 ∷ 5 ∷ 55 ∷ 12 ∷ 34 ∷ 122 ∷ 46 ∷ []

-- end of call to eight, 127, 0 0 9, the caller's number
abbrev pub over_eight_caller_by_coast9 : List ℕ
over_eight_caller_by_coast9 =
    123 ∷ 20 ∷ 0 ∷ 0 ∷ 0 ∷ 80 ∷ 100 ∷ 0 ∷ 20 ∷ 1 ∷ 23 ∷ 40 ∷ 105 ∷ 126 ∷ 0 ∷ 0 ∷ 9 ∷ 106 ∷ 61 ∷ 23 ∷ 45 ∷ 127 ∷ 125 ∷ []

-- call from ashore of the station 007999999, channel 60, seven
abbrev pub call_other : List ℕ
call_other = 123 ∷ 20 ∷ 0 ∷ 0 ∷ 0 ∷ 70 ∷ 100 ∷ 0 ∷ 79 ∷ 99 ∷ 99 ∷ 90 ∷ 101 ∷ 126 ∷ 90 ∷ 0 ∷ 60 ∷ 106 ∷ 61 ∷ 23 ∷ 45 ∷ 117 ∷ 61 ∷ []

-- its end of call to seven, 127, 0 0 1, the caller's number
abbrev pub over_other : List ℕ
over_other = 123 ∷ 20 ∷ 0 ∷ 0 ∷ 0 ∷ 70 ∷ 100 ∷ 0 ∷ 79 ∷ 99 ∷ 99 ∷ 90 ∷ 105 ∷ 126 ∷ 0 ∷ 0 ∷ 1 ∷ 106 ∷ 61 ∷ 23 ∷ 45 ∷ 127 ∷ 92 ∷ []

-- call from ashore, channel 26, to the ship 200000000
abbrev pub call_first_ship : List ℕ
call_first_ship = 123 ∷ 20 ∷ 0 ∷ 0 ∷ 0 ∷ 0 ∷ 100 ∷ 0 ∷ 20 ∷ 1 ∷ 23 ∷ 40 ∷ 101 ∷ 126 ∷ 90 ∷ 0 ∷ 26 ∷ 106 ∷ 61 ∷ 23 ∷ 45 ∷ 117 ∷ 98 ∷ []

-- and to the ship 799999999
abbrev pub call_last_ship : List ℕ
call_last_ship =
    123 ∷ 79 ∷ 99 ∷ 99 ∷ 99 ∷ 90 ∷ 100 ∷ 0 ∷ 20 ∷ 1 ∷ 23 ∷ 40 ∷ 101 ∷ 126 ∷ 90 ∷ 0 ∷ 26 ∷ 106 ∷ 61 ∷ 23 ∷ 45 ∷ 117 ∷ 0 ∷ []

-- call from ashore, channel 26, seven, in simplex, the number 09
abbrev pub call_seven26_simplex_of09 : List ℕ
call_seven26_simplex_of09 = 123 ∷ 20 ∷ 0 ∷ 0 ∷ 0 ∷ 70 ∷ 100 ∷ 0 ∷ 20 ∷ 1 ∷ 23 ∷ 40 ∷ 100 ∷ 126 ∷ 90 ∷ 0 ∷ 26 ∷ 106 ∷ 9 ∷ 117 ∷ 43 ∷ []

-- ── whole scripts on other slots and places than the first ──────────────────────

-- a whole day on the second slot, the first one taken: every action names it
abbrev pub second_slot_script : List Event
second_slot_script =
    reserves 50 0 ∷ calls_as 100 usual 100 seven duplex ∷ calls_as 100 usual 110 seven duplex ∷
    calls_for (4 ∷ 2 ∷ []) 120 seven duplex ∷ works 130 1 seven ∷ loses 140 1 ∷ regains 150 1 ∷ picks_up 160 1 ∷
    loses 170 1 ∷ regains 175 1 ∷ calls 180 eight duplex ∷ calls 190 nine simplex ∷ ends 200 1 seven ∷
    ends 210 1 seven ∷ ticks 241 ∷ ticks 292 ∷ accepts 300 27 eight ∷ works 310 1 eight ∷ hangs 320 1 ∷
    calls 330 nine simplex ∷ ticks 491 ∷ []

abbrev pub second_slot : Row
second_slot = record {
  computed = tells 2 second_slot_script;
  expected =
      (0 ∷ 50 ∷ 0 ∷ []) ∷
      (0 ∷ 100 ∷ 2 ∷ 261 ∷ []) ∷ (1 ∷ 1 ∷ []) ∷ (3 ∷ 1 ∷ ack_seven27_as100) ∷
      (0 ∷ 110 ∷ 1 ∷ 261 ∷ []) ∷ (3 ∷ 1 ∷ ack_seven27_as100) ∷
      (0 ∷ 120 ∷ 1 ∷ 281 ∷ []) ∷ (3 ∷ 1 ∷ ack_seven27_of42) ∷
      (0 ∷ 130 ∷ 1 ∷ 731 ∷ []) ∷ (5 ∷ 1 ∷ 4 ∷ 2 ∷ []) ∷
      (0 ∷ 140 ∷ 0 ∷ 191 ∷ []) ∷
      (0 ∷ 150 ∷ 0 ∷ 731 ∷ []) ∷
      (0 ∷ 160 ∷ 0 ∷ []) ∷
      (0 ∷ 170 ∷ 0 ∷ 221 ∷ []) ∷
      (0 ∷ 175 ∷ 0 ∷ []) ∷
      (0 ∷ 180 ∷ 1 ∷ 9181 ∷ []) ∷ (3 ∷ 255 ∷ unable103_eight) ∷
      (0 ∷ 190 ∷ 1 ∷ 9181 ∷ []) ∷ (3 ∷ 255 ∷ unable103_nine) ∷
      (0 ∷ 200 ∷ 4 ∷ 241 ∷ []) ∷ charges 1 seven 160 200 4 2 ∷ (6 ∷ 1 ∷ []) ∷ (4 ∷ 1 ∷ over_seven4_of42) ∷ (2 ∷ 1 ∷ []) ∷
      (0 ∷ 210 ∷ 3 ∷ 241 ∷ []) ∷ (1 ∷ 1 ∷ []) ∷ (4 ∷ 1 ∷ over_seven4_of42) ∷ (2 ∷ 1 ∷ []) ∷
      (0 ∷ 241 ∷ 2 ∷ 292 ∷ []) ∷ (1 ∷ 1 ∷ []) ∷ (3 ∷ 1 ∷ ring_eight27) ∷
      (0 ∷ 292 ∷ 1 ∷ 343 ∷ []) ∷ (3 ∷ 1 ∷ ring_eight27) ∷
      (0 ∷ 300 ∷ 0 ∷ 461 ∷ []) ∷
      (0 ∷ 310 ∷ 1 ∷ 911 ∷ []) ∷ (5 ∷ 1 ∷ usual) ∷
      (0 ∷ 320 ∷ 5 ∷ 371 ∷ []) ∷ (6 ∷ 1 ∷ []) ∷ (4 ∷ 1 ∷ over_eight_by_coast) ∷ (2 ∷ 1 ∷ []) ∷ (1 ∷ 1 ∷ []) ∷
      (3 ∷ 1 ∷ ring_nine27_simplex) ∷
      (0 ∷ 330 ∷ 1 ∷ 491 ∷ []) ∷ (3 ∷ 1 ∷ ack_nine27_simplex) ∷
      (0 ∷ 491 ∷ 1 ∷ []) ∷ (2 ∷ 1 ∷ []) ∷ [];
}

-- the same slot: rule c answered and only dialled, no reply, carrier loss, the operator
abbrev pub second_slot_again_script : List Event
second_slot_again_script =
    reserves 50 0 ∷ calls 100 seven simplex ∷ works 110 1 seven ∷ picks_up 120 1 ∷ loses 130 1 ∷
    calls 140 seven simplex ∷ works 150 1 seven ∷ loses 160 1 ∷ calls 170 seven simplex ∷ works 180 1 seven ∷
    ticks 781 ∷ calls 800 seven duplex ∷ works 810 1 seven ∷ picks_up 820 1 ∷ loses 830 1 ∷ ticks 900 ∷
    reserves 910 1 ∷ restores 920 1 ∷ []

abbrev pub second_slot_again : Row
second_slot_again = record {
  computed = tells 2 second_slot_again_script;
  expected =
      (0 ∷ 50 ∷ 0 ∷ []) ∷
      (0 ∷ 100 ∷ 2 ∷ 261 ∷ []) ∷ (1 ∷ 1 ∷ []) ∷ (3 ∷ 1 ∷ ack_seven27_simplex) ∷
      (0 ∷ 110 ∷ 1 ∷ 711 ∷ []) ∷ (5 ∷ 1 ∷ usual) ∷
      (0 ∷ 120 ∷ 0 ∷ []) ∷
      (0 ∷ 130 ∷ 0 ∷ 581 ∷ []) ∷
      (0 ∷ 140 ∷ 6 ∷ 301 ∷ []) ∷ charges 1 seven 120 140 2 1 ∷ (6 ∷ 1 ∷ []) ∷ (4 ∷ 1 ∷ over_seven_by_coast2) ∷ (2 ∷ 1 ∷ []) ∷
      (1 ∷ 1 ∷ []) ∷ (3 ∷ 1 ∷ ack_seven27_simplex) ∷
      (0 ∷ 150 ∷ 1 ∷ 751 ∷ []) ∷ (5 ∷ 1 ∷ usual) ∷
      (0 ∷ 160 ∷ 0 ∷ 611 ∷ []) ∷
      (0 ∷ 170 ∷ 5 ∷ 331 ∷ []) ∷ (6 ∷ 1 ∷ []) ∷ (4 ∷ 1 ∷ over_seven_by_coast) ∷ (2 ∷ 1 ∷ []) ∷ (1 ∷ 1 ∷ []) ∷
      (3 ∷ 1 ∷ ack_seven27_simplex) ∷
      (0 ∷ 180 ∷ 1 ∷ 781 ∷ []) ∷ (5 ∷ 1 ∷ usual) ∷
      (0 ∷ 781 ∷ 3 ∷ []) ∷ (6 ∷ 1 ∷ []) ∷ (4 ∷ 1 ∷ over_seven_by_coast) ∷ (2 ∷ 1 ∷ []) ∷
      (0 ∷ 800 ∷ 2 ∷ 961 ∷ []) ∷ (1 ∷ 1 ∷ []) ∷ (3 ∷ 1 ∷ ack_seven27) ∷
      (0 ∷ 810 ∷ 1 ∷ 1411 ∷ []) ∷ (5 ∷ 1 ∷ usual) ∷
      (0 ∷ 820 ∷ 0 ∷ []) ∷
      (0 ∷ 830 ∷ 0 ∷ 881 ∷ []) ∷
      (0 ∷ 881 ∷ 4 ∷ []) ∷ charges 1 seven 820 881 6 4 ∷ (6 ∷ 1 ∷ []) ∷ (4 ∷ 1 ∷ over_seven_by_coast6) ∷ (2 ∷ 1 ∷ []) ∷
      (0 ∷ 910 ∷ 0 ∷ []) ∷
      (0 ∷ 920 ∷ 0 ∷ []) ∷ [];
}

-- the same slot: acknowledged and asked again, acknowledged and let go, rung twice and let go
abbrev pub second_slot_queued_script : List Event
second_slot_queued_script =
    reserves 50 0 ∷ reserves 51 1 ∷ calls 100 seven duplex ∷ calls 101 eight duplex ∷ calls 102 nine duplex ∷
    restores 110 1 ∷ accepts 120 27 seven ∷ calls 130 seven duplex ∷ ticks 291 ∷ ticks 342 ∷ accepts 350 27 eight ∷
    ticks 511 ∷ ticks 562 ∷ calls 570 nine duplex ∷ works 580 1 nine ∷ hangs 590 1 ∷ []

abbrev pub second_slot_queued : Row
second_slot_queued = record {
  computed = tells 2 second_slot_queued_script;
  expected =
      (0 ∷ 50 ∷ 0 ∷ []) ∷
      (0 ∷ 51 ∷ 0 ∷ []) ∷
      (0 ∷ 100 ∷ 1 ∷ 9101 ∷ []) ∷ (3 ∷ 255 ∷ unable103_seven) ∷
      (0 ∷ 101 ∷ 1 ∷ 9101 ∷ []) ∷ (3 ∷ 255 ∷ unable103_eight) ∷
      (0 ∷ 102 ∷ 1 ∷ 9101 ∷ []) ∷ (3 ∷ 255 ∷ unable103_nine) ∷
      (0 ∷ 110 ∷ 2 ∷ 161 ∷ []) ∷ (1 ∷ 1 ∷ []) ∷ (3 ∷ 1 ∷ ring_seven27) ∷
      (0 ∷ 120 ∷ 0 ∷ 281 ∷ []) ∷
      (0 ∷ 130 ∷ 1 ∷ 291 ∷ []) ∷ (3 ∷ 1 ∷ ack_seven27) ∷
      (0 ∷ 291 ∷ 3 ∷ 342 ∷ []) ∷ (2 ∷ 1 ∷ []) ∷ (1 ∷ 1 ∷ []) ∷ (3 ∷ 1 ∷ ring_eight27) ∷
      (0 ∷ 342 ∷ 1 ∷ 393 ∷ []) ∷ (3 ∷ 1 ∷ ring_eight27) ∷
      (0 ∷ 350 ∷ 0 ∷ 511 ∷ []) ∷
      (0 ∷ 511 ∷ 3 ∷ 562 ∷ []) ∷ (2 ∷ 1 ∷ []) ∷ (1 ∷ 1 ∷ []) ∷ (3 ∷ 1 ∷ ring_nine27) ∷
      (0 ∷ 562 ∷ 1 ∷ 613 ∷ []) ∷ (3 ∷ 1 ∷ ring_nine27) ∷
      (0 ∷ 570 ∷ 1 ∷ 731 ∷ []) ∷ (3 ∷ 1 ∷ ack_nine27) ∷
      (0 ∷ 580 ∷ 1 ∷ 1181 ∷ []) ∷ (5 ∷ 1 ∷ usual) ∷
      (0 ∷ 590 ∷ 3 ∷ []) ∷ (6 ∷ 1 ∷ []) ∷ (4 ∷ 1 ∷ over_nine_by_coast) ∷ (2 ∷ 1 ∷ []) ∷ [];
}

-- the same slot, its dialling ended: twice, silent and heard again, no reply; silent, answered, ended by its ship; in every other phase
abbrev pub second_slot_dialled_script : List Event
second_slot_dialled_script =
    reserves 50 0 ∷ calls 100 seven duplex ∷ dials_out 105 1 ∷ works 110 1 seven ∷ dials_out 700 1 ∷ dials_out 705 1 ∷
    loses 710 1 ∷ regains 720 1 ∷ ticks 1301 ∷ calls 1310 seven simplex ∷ works 1320 1 seven ∷ loses 1325 1 ∷
    dials_out 1330 1 ∷ dials_out 1335 1 ∷ picks_up 1340 1 ∷ dials_out 1345 1 ∷ ends 1360 1 seven ∷ dials_out 1370 1 ∷
    ticks 1401 ∷ dials_out 1410 1 ∷ []

abbrev pub second_slot_dialled : Row
second_slot_dialled = record {
  computed = tells 2 second_slot_dialled_script;
  expected =
      (0 ∷ 50 ∷ 0 ∷ []) ∷
      (0 ∷ 100 ∷ 2 ∷ 261 ∷ []) ∷ (1 ∷ 1 ∷ []) ∷ (3 ∷ 1 ∷ ack_seven27) ∷
      (1 ∷ 105 ∷ 0 ∷ 261 ∷ []) ∷
      (0 ∷ 110 ∷ 1 ∷ 711 ∷ []) ∷ (5 ∷ 1 ∷ usual) ∷
      (0 ∷ 700 ∷ 0 ∷ 1301 ∷ []) ∷
      (1 ∷ 705 ∷ 0 ∷ 1301 ∷ []) ∷
      (0 ∷ 710 ∷ 0 ∷ 761 ∷ []) ∷
      (0 ∷ 720 ∷ 0 ∷ 1301 ∷ []) ∷
      (0 ∷ 1301 ∷ 3 ∷ []) ∷ (6 ∷ 1 ∷ []) ∷ (4 ∷ 1 ∷ over_seven_by_coast) ∷ (2 ∷ 1 ∷ []) ∷
      (0 ∷ 1310 ∷ 2 ∷ 1471 ∷ []) ∷ (1 ∷ 1 ∷ []) ∷ (3 ∷ 1 ∷ ack_seven27_simplex) ∷
      (0 ∷ 1320 ∷ 1 ∷ 1921 ∷ []) ∷ (5 ∷ 1 ∷ usual) ∷
      (0 ∷ 1325 ∷ 0 ∷ 1776 ∷ []) ∷
      (0 ∷ 1330 ∷ 0 ∷ 1776 ∷ []) ∷
      (1 ∷ 1335 ∷ 0 ∷ 1776 ∷ []) ∷
      (0 ∷ 1340 ∷ 0 ∷ 1776 ∷ []) ∷
      (1 ∷ 1345 ∷ 0 ∷ 1776 ∷ []) ∷
      (0 ∷ 1360 ∷ 4 ∷ 1401 ∷ []) ∷ charges 1 seven 1340 1360 2 2 ∷ (6 ∷ 1 ∷ []) ∷ (4 ∷ 1 ∷ over_seven2) ∷ (2 ∷ 1 ∷ []) ∷
      (1 ∷ 1370 ∷ 0 ∷ 1401 ∷ []) ∷
      (0 ∷ 1401 ∷ 0 ∷ []) ∷
      (1 ∷ 1410 ∷ 0 ∷ []) ∷ [];
}

-- the same slot, called from ashore: everything else before it rings and while it rings, answered, ended by its ship; then a ring-back
abbrev pub second_slot_called_script : List Event
second_slot_called_script =
    reserves 50 0 ∷ shore_calls 100 seven duplex ∷ regains 105 1 ∷ loses 106 1 ∷ picks_up 107 1 ∷ dials_out 108 1 ∷
    works 109 1 seven ∷ ends 110 1 seven ∷ accepts 111 27 eight ∷ declines 112 eight ∷ calls 113 seven duplex ∷
    data_calls 114 seven ∷ shore_calls 115 seven duplex ∷ shore_calls 116 nine duplex ∷ calls 117 eight duplex ∷
    shore_calls 118 eight duplex ∷ ticks 151 ∷ regains 155 1 ∷ accepts 160 27 seven ∷ accepts 165 27 seven ∷ loses 166 1 ∷
    picks_up 167 1 ∷ dials_out 168 1 ∷ works 169 1 seven ∷ calls 170 seven simplex ∷ data_calls 171 seven ∷ declines 172 eight ∷
    regains 200 1 ∷ regains 205 1 ∷ picks_up 206 1 ∷ dials_out 207 1 ∷ works 208 1 seven ∷ loses 210 1 ∷ calls 215 seven duplex ∷
    regains 220 1 ∷ declines 225 seven ∷ accepts 226 27 seven ∷
    says_on 227 1 (sends seven 104 122 Blank usual) ∷ ends 230 1 eight ∷ ends 240 1 seven ∷
    shore_calls 245 seven duplex ∷ ends 250 1 seven ∷ ticks 281 ∷ declines 290 eight ∷ hangs 295 1 ∷ regains 296 1 ∷ ticks 332 ∷
    ticks 383 ∷ []

abbrev pub second_slot_called : Row
second_slot_called = record {
  computed = tells 2 second_slot_called_script;
  expected =
      (0 ∷ 50 ∷ 0 ∷ []) ∷
      (0 ∷ 100 ∷ 2 ∷ 151 ∷ []) ∷ (1 ∷ 1 ∷ []) ∷ (3 ∷ 1 ∷ call_seven27) ∷
      (1 ∷ 105 ∷ 0 ∷ 151 ∷ []) ∷
      (1 ∷ 106 ∷ 0 ∷ 151 ∷ []) ∷
      (1 ∷ 107 ∷ 0 ∷ 151 ∷ []) ∷
      (1 ∷ 108 ∷ 0 ∷ 151 ∷ []) ∷
      (1 ∷ 109 ∷ 0 ∷ 151 ∷ []) ∷
      (1 ∷ 110 ∷ 0 ∷ 151 ∷ []) ∷
      (1 ∷ 111 ∷ 0 ∷ 151 ∷ []) ∷
      (1 ∷ 112 ∷ 0 ∷ 151 ∷ []) ∷
      (1 ∷ 113 ∷ 0 ∷ 151 ∷ []) ∷
      (1 ∷ 114 ∷ 0 ∷ 151 ∷ []) ∷
      (38 ∷ 114 ∷ 0 ∷ 151 ∷ []) ∷
      (37 ∷ 114 ∷ 0 ∷ 151 ∷ []) ∷
      (0 ∷ 117 ∷ 1 ∷ 151 ∷ []) ∷ (3 ∷ 255 ∷ unable103_eight) ∷
      (38 ∷ 117 ∷ 0 ∷ 151 ∷ []) ∷
      (0 ∷ 151 ∷ 1 ∷ 202 ∷ []) ∷ (3 ∷ 1 ∷ call_seven27) ∷
      (1 ∷ 155 ∷ 0 ∷ 202 ∷ []) ∷
      (0 ∷ 160 ∷ 1 ∷ 761 ∷ []) ∷ (8 ∷ 1 ∷ []) ∷
      (1 ∷ 165 ∷ 0 ∷ 761 ∷ []) ∷
      (1 ∷ 166 ∷ 0 ∷ 761 ∷ []) ∷
      (1 ∷ 167 ∷ 0 ∷ 761 ∷ []) ∷
      (1 ∷ 168 ∷ 0 ∷ 761 ∷ []) ∷
      (1 ∷ 169 ∷ 0 ∷ 761 ∷ []) ∷
      (1 ∷ 170 ∷ 0 ∷ 761 ∷ []) ∷
      (1 ∷ 171 ∷ 0 ∷ 761 ∷ []) ∷
      (1 ∷ 172 ∷ 0 ∷ 761 ∷ []) ∷
      (0 ∷ 200 ∷ 1 ∷ 9118 ∷ []) ∷ (9 ∷ 1 ∷ []) ∷
      (0 ∷ 205 ∷ 0 ∷ 9118 ∷ []) ∷
      (1 ∷ 206 ∷ 0 ∷ 9118 ∷ []) ∷
      (1 ∷ 207 ∷ 0 ∷ 9118 ∷ []) ∷
      (1 ∷ 208 ∷ 0 ∷ 9118 ∷ []) ∷
      (0 ∷ 210 ∷ 0 ∷ 261 ∷ []) ∷
      (1 ∷ 215 ∷ 0 ∷ 261 ∷ []) ∷
      (0 ∷ 220 ∷ 0 ∷ 9118 ∷ []) ∷
      (1 ∷ 225 ∷ 0 ∷ 9118 ∷ []) ∷
      (1 ∷ 226 ∷ 0 ∷ 9118 ∷ []) ∷
      (1 ∷ 227 ∷ 0 ∷ 9118 ∷ []) ∷
      (1 ∷ 230 ∷ 0 ∷ 9118 ∷ []) ∷
      (0 ∷ 240 ∷ 4 ∷ 281 ∷ []) ∷ charges 1 seven 200 240 4 1 ∷ (6 ∷ 1 ∷ []) ∷ (4 ∷ 1 ∷ over_seven_caller4) ∷ (2 ∷ 1 ∷ []) ∷
      (38 ∷ 240 ∷ 0 ∷ 281 ∷ []) ∷
      (0 ∷ 250 ∷ 3 ∷ 281 ∷ []) ∷ (1 ∷ 1 ∷ []) ∷ (4 ∷ 1 ∷ over_seven_caller4) ∷ (2 ∷ 1 ∷ []) ∷
      (0 ∷ 281 ∷ 2 ∷ 332 ∷ []) ∷ (1 ∷ 1 ∷ []) ∷ (3 ∷ 1 ∷ ring_eight27) ∷
      (1 ∷ 290 ∷ 0 ∷ 332 ∷ []) ∷
      (1 ∷ 295 ∷ 0 ∷ 332 ∷ []) ∷
      (1 ∷ 296 ∷ 0 ∷ 332 ∷ []) ∷
      (0 ∷ 332 ∷ 1 ∷ 383 ∷ []) ∷ (3 ∷ 1 ∷ ring_eight27) ∷
      (0 ∷ 383 ∷ 1 ∷ []) ∷ (2 ∷ 1 ∷ []) ∷ [];
}

-- the same slot: unable, hung up and not answered in each phase, with a ship waiting and without; ended by rule c, carrier loss, on-hook
abbrev pub second_slot_called_again_script : List Event
second_slot_called_again_script =
    reserves 50 0 ∷ shore_calls 100 nine simplex ∷ declines 110 nine ∷ shore_calls 120 nine simplex ∷ ticks 171 ∷ hangs 180 1 ∷
    shore_calls 200 nine simplex ∷ accepts 210 27 nine ∷ calls 220 seven duplex ∷ hangs 230 1 ∷ accepts 240 27 seven ∷
    ticks 401 ∷ shore_calls 410 nine simplex ∷ accepts 420 27 nine ∷ calls 425 seven duplex ∷ declines 430 nine ∷
    works 435 1 seven ∷ ticks 481 ∷ ticks 532 ∷ shore_calls 540 nine simplex ∷ accepts 550 27 nine ∷ regains 560 1 ∷
    loses 570 1 ∷ calls 580 nine simplex ∷ works 590 1 nine ∷ hangs 600 1 ∷ shore_calls 610 eight duplex ∷ ticks 9999 ∷
    ticks 9999 ∷ shore_calls 720 eight duplex ∷ accepts_in simplex 730 27 eight ∷ ticks 1331 ∷ shore_calls 1340 eight duplex ∷
    accepts_in simplex 1350 27 eight ∷ regains 1360 1 ∷ loses 1370 1 ∷ ticks 9999 ∷ shore_calls 1430 eight duplex ∷
    accepts 1440 27 eight ∷ regains 1450 1 ∷ hangs 1475 1 ∷ shore_calls 1480 seven duplex ∷
    ticks 1531 ∷ declines 1540 seven ∷ shore_calls 1550 seven duplex ∷ hangs 1560 1 ∷ []

abbrev pub second_slot_called_again : Row
second_slot_called_again = record {
  computed = tells 2 second_slot_called_again_script;
  expected =
      (0 ∷ 50 ∷ 0 ∷ []) ∷
      (0 ∷ 100 ∷ 2 ∷ 151 ∷ []) ∷ (1 ∷ 1 ∷ []) ∷ (3 ∷ 1 ∷ call_nine27_simplex) ∷
      (0 ∷ 110 ∷ 3 ∷ []) ∷ (2 ∷ 1 ∷ []) ∷ (10 ∷ 1 ∷ []) ∷ (6 ∷ 1 ∷ []) ∷
      (0 ∷ 120 ∷ 2 ∷ 171 ∷ []) ∷ (1 ∷ 1 ∷ []) ∷ (3 ∷ 1 ∷ call_nine27_simplex) ∷
      (0 ∷ 171 ∷ 1 ∷ 222 ∷ []) ∷ (3 ∷ 1 ∷ call_nine27_simplex) ∷
      (0 ∷ 180 ∷ 2 ∷ []) ∷ (2 ∷ 1 ∷ []) ∷ (6 ∷ 1 ∷ []) ∷
      (0 ∷ 200 ∷ 2 ∷ 251 ∷ []) ∷ (1 ∷ 1 ∷ []) ∷ (3 ∷ 1 ∷ call_nine27_simplex) ∷
      (0 ∷ 210 ∷ 1 ∷ 811 ∷ []) ∷ (8 ∷ 1 ∷ []) ∷
      (0 ∷ 220 ∷ 1 ∷ 811 ∷ []) ∷ (3 ∷ 255 ∷ unable103_seven) ∷
      (0 ∷ 230 ∷ 5 ∷ 281 ∷ []) ∷ (9 ∷ 1 ∷ []) ∷ (2 ∷ 1 ∷ []) ∷ (6 ∷ 1 ∷ []) ∷ (1 ∷ 1 ∷ []) ∷ (3 ∷ 1 ∷ ring_seven27) ∷
      (0 ∷ 240 ∷ 0 ∷ 401 ∷ []) ∷
      (0 ∷ 401 ∷ 1 ∷ []) ∷ (2 ∷ 1 ∷ []) ∷
      (0 ∷ 410 ∷ 2 ∷ 461 ∷ []) ∷ (1 ∷ 1 ∷ []) ∷ (3 ∷ 1 ∷ call_nine27_simplex) ∷
      (0 ∷ 420 ∷ 1 ∷ 1021 ∷ []) ∷ (8 ∷ 1 ∷ []) ∷
      (0 ∷ 425 ∷ 1 ∷ 1021 ∷ []) ∷ (3 ∷ 255 ∷ unable103_seven) ∷
      (0 ∷ 430 ∷ 6 ∷ 481 ∷ []) ∷ (9 ∷ 1 ∷ []) ∷ (2 ∷ 1 ∷ []) ∷ (10 ∷ 1 ∷ []) ∷ (6 ∷ 1 ∷ []) ∷ (1 ∷ 1 ∷ []) ∷
      (3 ∷ 1 ∷ ring_seven27) ∷
      (1 ∷ 435 ∷ 0 ∷ 481 ∷ []) ∷
      (0 ∷ 481 ∷ 1 ∷ 532 ∷ []) ∷ (3 ∷ 1 ∷ ring_seven27) ∷
      (0 ∷ 532 ∷ 1 ∷ []) ∷ (2 ∷ 1 ∷ []) ∷
      (0 ∷ 540 ∷ 2 ∷ 591 ∷ []) ∷ (1 ∷ 1 ∷ []) ∷ (3 ∷ 1 ∷ call_nine27_simplex) ∷
      (0 ∷ 550 ∷ 1 ∷ 1151 ∷ []) ∷ (8 ∷ 1 ∷ []) ∷
      (0 ∷ 560 ∷ 1 ∷ []) ∷ (9 ∷ 1 ∷ []) ∷
      (0 ∷ 570 ∷ 0 ∷ 1021 ∷ []) ∷
      (0 ∷ 580 ∷ 6 ∷ 741 ∷ []) ∷ charges 1 nine 560 580 2 7 ∷ (6 ∷ 1 ∷ []) ∷ (4 ∷ 1 ∷ over_nine_caller_by_coast2) ∷ (2 ∷ 1 ∷ []) ∷
      (1 ∷ 1 ∷ []) ∷ (3 ∷ 1 ∷ ack_nine27_simplex) ∷
      (0 ∷ 590 ∷ 1 ∷ 1191 ∷ []) ∷ (5 ∷ 1 ∷ usual) ∷
      (0 ∷ 600 ∷ 3 ∷ []) ∷ (6 ∷ 1 ∷ []) ∷ (4 ∷ 1 ∷ over_nine_by_coast) ∷ (2 ∷ 1 ∷ []) ∷
      (0 ∷ 610 ∷ 2 ∷ 661 ∷ []) ∷ (1 ∷ 1 ∷ []) ∷ (3 ∷ 1 ∷ call_eight27) ∷
      (0 ∷ 661 ∷ 1 ∷ 712 ∷ []) ∷ (3 ∷ 1 ∷ call_eight27) ∷
      (0 ∷ 712 ∷ 3 ∷ []) ∷ (2 ∷ 1 ∷ []) ∷ (10 ∷ 1 ∷ []) ∷ (6 ∷ 1 ∷ []) ∷
      (0 ∷ 720 ∷ 2 ∷ 771 ∷ []) ∷ (1 ∷ 1 ∷ []) ∷ (3 ∷ 1 ∷ call_eight27) ∷
      (0 ∷ 730 ∷ 1 ∷ 1331 ∷ []) ∷ (8 ∷ 1 ∷ []) ∷
      (0 ∷ 1331 ∷ 4 ∷ []) ∷ (9 ∷ 1 ∷ []) ∷ (2 ∷ 1 ∷ []) ∷ (10 ∷ 1 ∷ []) ∷ (6 ∷ 1 ∷ []) ∷
      (0 ∷ 1340 ∷ 2 ∷ 1391 ∷ []) ∷ (1 ∷ 1 ∷ []) ∷ (3 ∷ 1 ∷ call_eight27) ∷
      (0 ∷ 1350 ∷ 1 ∷ 1951 ∷ []) ∷ (8 ∷ 1 ∷ []) ∷
      (0 ∷ 1360 ∷ 1 ∷ []) ∷ (9 ∷ 1 ∷ []) ∷
      (0 ∷ 1370 ∷ 0 ∷ 1421 ∷ []) ∷
      (0 ∷ 1421 ∷ 4 ∷ []) ∷ charges 1 eight 1360 1421 6 11 ∷ (6 ∷ 1 ∷ []) ∷ (4 ∷ 1 ∷ over_eight_caller_by_coast6) ∷ (2 ∷ 1 ∷ []) ∷
      (0 ∷ 1430 ∷ 2 ∷ 1481 ∷ []) ∷ (1 ∷ 1 ∷ []) ∷ (3 ∷ 1 ∷ call_eight27) ∷
      (0 ∷ 1440 ∷ 1 ∷ 2041 ∷ []) ∷ (8 ∷ 1 ∷ []) ∷
      (0 ∷ 1450 ∷ 1 ∷ []) ∷ (9 ∷ 1 ∷ []) ∷
      (0 ∷ 1475 ∷ 4 ∷ []) ∷ charges 1 eight 1450 1475 2 12 ∷ (6 ∷ 1 ∷ []) ∷ (4 ∷ 1 ∷ over_eight_caller_by_coast2) ∷ (2 ∷ 1 ∷ []) ∷
      (0 ∷ 1480 ∷ 2 ∷ 1531 ∷ []) ∷ (1 ∷ 1 ∷ []) ∷ (3 ∷ 1 ∷ call_seven27) ∷
      (0 ∷ 1531 ∷ 1 ∷ 1582 ∷ []) ∷ (3 ∷ 1 ∷ call_seven27) ∷
      (0 ∷ 1540 ∷ 3 ∷ []) ∷ (2 ∷ 1 ∷ []) ∷ (10 ∷ 1 ∷ []) ∷ (6 ∷ 1 ∷ []) ∷
      (0 ∷ 1550 ∷ 2 ∷ 1601 ∷ []) ∷ (1 ∷ 1 ∷ []) ∷ (3 ∷ 1 ∷ call_seven27) ∷
      (0 ∷ 1560 ∷ 2 ∷ []) ∷ (2 ∷ 1 ∷ []) ∷ (6 ∷ 1 ∷ []) ∷ [];
}

-- two ships called at once: each its own BQ, ringing, transmission and end
abbrev pub both_called_script : List Event
both_called_script =
    shore_calls 100 seven simplex ∷ shore_calls 110 eight duplex ∷ accepts 120 26 eight ∷ accepts 121 27 seven ∷
    accepts 125 27 eight ∷ ticks 151 ∷ declines 155 nine ∷ accepts_in simplex 160 26 seven ∷ regains 170 1 ∷ hangs 175 0 ∷
    shore_calls 180 nine simplex ∷ regains 185 0 ∷ accepts 190 26 nine ∷ accepts 191 26 nine ∷ regains 200 0 ∷ loses 210 0 ∷
    loses 215 1 ∷ calls 220 nine simplex ∷ ticks 300 ∷ ticks 400 ∷ []

abbrev pub both_called : Row
both_called = record {
  computed = tells 2 both_called_script;
  expected =
      (0 ∷ 100 ∷ 2 ∷ 151 ∷ []) ∷ (1 ∷ 0 ∷ []) ∷ (3 ∷ 0 ∷ call_seven26_simplex) ∷
      (0 ∷ 110 ∷ 2 ∷ 151 ∷ []) ∷ (1 ∷ 1 ∷ []) ∷ (3 ∷ 1 ∷ call_eight27) ∷
      (1 ∷ 120 ∷ 0 ∷ 151 ∷ []) ∷
      (1 ∷ 121 ∷ 0 ∷ 151 ∷ []) ∷
      (0 ∷ 125 ∷ 1 ∷ 151 ∷ []) ∷ (8 ∷ 1 ∷ []) ∷
      (0 ∷ 151 ∷ 1 ∷ 202 ∷ []) ∷ (3 ∷ 0 ∷ call_seven26_simplex) ∷
      (1 ∷ 155 ∷ 0 ∷ 202 ∷ []) ∷
      (0 ∷ 160 ∷ 1 ∷ 726 ∷ []) ∷ (8 ∷ 0 ∷ []) ∷
      (0 ∷ 170 ∷ 1 ∷ 761 ∷ []) ∷ (9 ∷ 1 ∷ []) ∷
      (0 ∷ 175 ∷ 3 ∷ []) ∷ (9 ∷ 0 ∷ []) ∷ (2 ∷ 0 ∷ []) ∷ (6 ∷ 0 ∷ []) ∷
      (0 ∷ 180 ∷ 2 ∷ 231 ∷ []) ∷ (1 ∷ 0 ∷ []) ∷ (3 ∷ 0 ∷ call_nine26_simplex) ∷
      (1 ∷ 185 ∷ 0 ∷ 231 ∷ []) ∷
      (0 ∷ 190 ∷ 1 ∷ 791 ∷ []) ∷ (8 ∷ 0 ∷ []) ∷
      (1 ∷ 191 ∷ 0 ∷ 791 ∷ []) ∷
      (0 ∷ 200 ∷ 1 ∷ []) ∷ (9 ∷ 0 ∷ []) ∷
      (0 ∷ 210 ∷ 0 ∷ 661 ∷ []) ∷
      (0 ∷ 215 ∷ 0 ∷ 266 ∷ []) ∷
      (0 ∷ 220 ∷ 6 ∷ 266 ∷ []) ∷ charges 0 nine 200 220 2 3 ∷ (6 ∷ 0 ∷ []) ∷ (4 ∷ 0 ∷ over_nine_caller_by_coast2) ∷ (2 ∷ 0 ∷ []) ∷
      (1 ∷ 0 ∷ []) ∷ (3 ∷ 0 ∷ ack_nine26_simplex) ∷
      (0 ∷ 266 ∷ 4 ∷ 381 ∷ []) ∷ charges 1 eight 170 266 9 2 ∷ (6 ∷ 1 ∷ []) ∷ (4 ∷ 1 ∷ over_eight_caller_by_coast9) ∷ (2 ∷ 1 ∷ []) ∷
      (0 ∷ 381 ∷ 1 ∷ []) ∷ (2 ∷ 0 ∷ []) ∷ [];
}

-- two slots taken: the third is offered, and its waits are its own
abbrev pub third_slot_script : List Event
third_slot_script =
    reserves 50 0 ∷ reserves 51 1 ∷ calls 100 seven duplex ∷ works 110 2 seven ∷ picks_up 120 2 ∷ loses 130 2 ∷
    ticks 181 ∷ calls 200 eight duplex ∷ ticks 361 ∷ []

abbrev pub third_slot : Row
third_slot = record {
  computed = tells 3 third_slot_script;
  expected =
      (0 ∷ 50 ∷ 0 ∷ []) ∷
      (0 ∷ 51 ∷ 0 ∷ []) ∷
      (0 ∷ 100 ∷ 2 ∷ 261 ∷ []) ∷ (1 ∷ 2 ∷ []) ∷ (3 ∷ 2 ∷ ack_seven28) ∷
      (0 ∷ 110 ∷ 1 ∷ 711 ∷ []) ∷ (5 ∷ 2 ∷ usual) ∷
      (0 ∷ 120 ∷ 0 ∷ []) ∷
      (0 ∷ 130 ∷ 0 ∷ 181 ∷ []) ∷
      (0 ∷ 181 ∷ 4 ∷ []) ∷ charges 2 seven 120 181 6 1 ∷ (6 ∷ 2 ∷ []) ∷ (4 ∷ 2 ∷ over_seven_by_coast6) ∷ (2 ∷ 2 ∷ []) ∷
      (0 ∷ 200 ∷ 2 ∷ 361 ∷ []) ∷ (1 ∷ 2 ∷ []) ∷ (3 ∷ 2 ∷ ack_eight28) ∷
      (0 ∷ 361 ∷ 1 ∷ []) ∷ (2 ∷ 2 ∷ []) ∷ [];
}

-- three ships wait; the second and the third ask again, and keep their places and due times
abbrev pub places_script : List Event
places_script =
    reserves 50 0 ∷ calls 100 seven duplex ∷ calls 110 eight duplex ∷ calls 120 nine duplex ∷
    calls_for (4 ∷ 2 ∷ []) 130 nine duplex ∷ calls 135 eight simplex ∷ ticks 9101 ∷ ticks 9111 ∷ restores 9120 0 ∷ []

abbrev pub places : Row
places = record {
  computed = tells 1 places_script;
  expected =
      (0 ∷ 50 ∷ 0 ∷ []) ∷
      (0 ∷ 100 ∷ 1 ∷ 9101 ∷ []) ∷ (3 ∷ 255 ∷ unable103_seven) ∷
      (0 ∷ 110 ∷ 1 ∷ 9101 ∷ []) ∷ (3 ∷ 255 ∷ unable103_eight) ∷
      (0 ∷ 120 ∷ 1 ∷ 9101 ∷ []) ∷ (3 ∷ 255 ∷ unable103_nine) ∷
      (0 ∷ 130 ∷ 1 ∷ 9101 ∷ []) ∷ (3 ∷ 255 ∷ unable103_nine_of42) ∷
      (0 ∷ 135 ∷ 1 ∷ 9101 ∷ []) ∷ (3 ∷ 255 ∷ unable103_eight) ∷
      (0 ∷ 9101 ∷ 0 ∷ 9111 ∷ []) ∷
      (0 ∷ 9111 ∷ 0 ∷ 9121 ∷ []) ∷
      (0 ∷ 9120 ∷ 2 ∷ 9171 ∷ []) ∷ (1 ∷ 0 ∷ []) ∷ (3 ∷ 0 ∷ ring_back_nine26_of42) ∷ [];
}

-- of three waiting ships the oldest is rung back, then the next
abbrev pub oldest_first_script : List Event
oldest_first_script =
    reserves 50 0 ∷ calls 100 seven duplex ∷ calls 110 eight duplex ∷ calls 120 nine duplex ∷ restores 200 0 ∷ ticks 251 ∷
    ticks 302 ∷ ticks 353 ∷ ticks 404 ∷ []

abbrev pub oldest_first : Row
oldest_first = record {
  computed = tells 1 oldest_first_script;
  expected =
      (0 ∷ 50 ∷ 0 ∷ []) ∷
      (0 ∷ 100 ∷ 1 ∷ 9101 ∷ []) ∷ (3 ∷ 255 ∷ unable103_seven) ∷
      (0 ∷ 110 ∷ 1 ∷ 9101 ∷ []) ∷ (3 ∷ 255 ∷ unable103_eight) ∷
      (0 ∷ 120 ∷ 1 ∷ 9101 ∷ []) ∷ (3 ∷ 255 ∷ unable103_nine) ∷
      (0 ∷ 200 ∷ 2 ∷ 251 ∷ []) ∷ (1 ∷ 0 ∷ []) ∷ (3 ∷ 0 ∷ ring_back_seven26) ∷
      (0 ∷ 251 ∷ 1 ∷ 302 ∷ []) ∷ (3 ∷ 0 ∷ ring_back_seven26) ∷
      (0 ∷ 302 ∷ 3 ∷ 353 ∷ []) ∷ (2 ∷ 0 ∷ []) ∷ (1 ∷ 0 ∷ []) ∷ (3 ∷ 0 ∷ ring_back_eight26) ∷
      (0 ∷ 353 ∷ 1 ∷ 404 ∷ []) ∷ (3 ∷ 0 ∷ ring_back_eight26) ∷
      (0 ∷ 404 ∷ 3 ∷ 455 ∷ []) ∷ (2 ∷ 0 ∷ []) ∷ (1 ∷ 0 ∷ []) ∷ (3 ∷ 0 ∷ ring_back_nine26) ∷ [];
}

-- the second telecommand of a request is repeated, by the acknowledgement and by the ring-back
abbrev pub second_kept_script : List Event
second_kept_script =
    reserves 50 0 ∷ calls_as 109 usual 100 seven simplex ∷ restores 200 0 ∷ calls_as 100 usual 210 seven simplex ∷ []

abbrev pub second_kept : Row
second_kept = record {
  computed = tells 1 second_kept_script;
  expected =
      (0 ∷ 50 ∷ 0 ∷ []) ∷
      (0 ∷ 100 ∷ 1 ∷ 9101 ∷ []) ∷ (3 ∷ 255 ∷ unable103_seven) ∷
      (0 ∷ 200 ∷ 2 ∷ 251 ∷ []) ∷ (1 ∷ 0 ∷ []) ∷ (3 ∷ 0 ∷ ring_back_seven26_simplex_as109) ∷
      (0 ∷ 210 ∷ 1 ∷ 371 ∷ []) ∷ (3 ∷ 0 ∷ ack_seven26_simplex_as100) ∷ [];
}

-- another station: a request to it is answered in its name, one to 002001234 is ignored
abbrev pub other_station_script : List Event
other_station_script =
    says 100 (asks 7999999 126 117 usual seven duplex) ∷
    says 110 (asks 2001234 126 117 usual eight duplex) ∷ reserves 120 1 ∷
    says 130 (asks 7999999 126 117 usual eight duplex) ∷ ticks 261 ∷ []

abbrev pub other_station : Row
other_station = record {
  computed = printed_all other other_station_script (fresh other);
  expected =
      (0 ∷ 100 ∷ 2 ∷ 261 ∷ []) ∷ (1 ∷ 0 ∷ []) ∷ (3 ∷ 0 ∷ ack_other) ∷
      (1 ∷ 110 ∷ 0 ∷ 261 ∷ []) ∷
      (0 ∷ 120 ∷ 0 ∷ 261 ∷ []) ∷
      (0 ∷ 130 ∷ 1 ∷ 261 ∷ []) ∷ (3 ∷ 255 ∷ wait_other) ∷
      (0 ∷ 261 ∷ 3 ∷ 312 ∷ []) ∷ (2 ∷ 0 ∷ []) ∷ (1 ∷ 0 ∷ []) ∷ (3 ∷ 0 ∷ ring_back_other) ∷ [];
}

-- and a call from ashore goes out in its name; a BQ and a 104 to another station are ignored
abbrev pub other_calls_script : List Event
other_calls_script =
    shore_calls 100 seven duplex ∷ says 110 (answers 2001234 101 (Channel (channel 60))) ∷ says 111 (answers 2001234 104 Blank) ∷
    says 120 (answers 7999999 100 (Channel (channel 60))) ∷ regains 130 0 ∷ hangs 140 0 ∷ shore_calls 200 seven duplex ∷
    says 210 (answers 7999999 104 Blank) ∷ []

abbrev pub other_calls : Row
other_calls = record {
  computed = printed_all other other_calls_script (fresh other);
  expected =
      (0 ∷ 100 ∷ 2 ∷ 151 ∷ []) ∷ (1 ∷ 0 ∷ []) ∷ (3 ∷ 0 ∷ call_other) ∷
      (1 ∷ 110 ∷ 0 ∷ 151 ∷ []) ∷
      (1 ∷ 111 ∷ 0 ∷ 151 ∷ []) ∷
      (0 ∷ 120 ∷ 1 ∷ 721 ∷ []) ∷ (8 ∷ 0 ∷ []) ∷
      (0 ∷ 130 ∷ 1 ∷ []) ∷ (9 ∷ 0 ∷ []) ∷
      (0 ∷ 140 ∷ 4 ∷ []) ∷ charges 0 seven 130 140 1 1 ∷ (6 ∷ 0 ∷ []) ∷ (4 ∷ 0 ∷ over_other) ∷ (2 ∷ 0 ∷ []) ∷
      (0 ∷ 200 ∷ 2 ∷ 251 ∷ []) ∷ (1 ∷ 0 ∷ []) ∷ (3 ∷ 0 ∷ call_other) ∷
      (0 ∷ 210 ∷ 3 ∷ []) ∷ (2 ∷ 0 ∷ []) ∷ (10 ∷ 0 ∷ []) ∷ (6 ∷ 0 ∷ []) ∷ [];
}

-- ── identical or not ────────────────────────────────────────────────────────────

-- b. with another second telecommand: offered afresh
abbrev pub second_differs : Row
second_differs = record {
  computed = gives 1 (calls_as 100 usual 100 seven duplex ∷ calls_as 101 usual 150 seven duplex ∷ []);
  expected = (0 ∷ 150 ∷ 1 ∷ 311 ∷ []) ∷ (3 ∷ 0 ∷ ack_seven26_as101) ∷ [];
}

-- b. and with a lower one
abbrev pub second_lower : Row
second_lower = record {
  computed = gives 1 (calls_as 101 usual 100 seven duplex ∷ calls_as 100 usual 150 seven duplex ∷ []);
  expected = (0 ∷ 150 ∷ 1 ∷ 311 ∷ []) ∷ (3 ∷ 0 ∷ ack_seven26_as100) ∷ [];
}

-- b. with the same one: the wait is unchanged
abbrev pub second_same : Row
second_same = record {
  computed = gives 1 (calls_as 100 usual 100 seven duplex ∷ calls_as 100 usual 150 seven duplex ∷ []);
  expected = (0 ∷ 150 ∷ 1 ∷ 261 ∷ []) ∷ (3 ∷ 0 ∷ ack_seven26_as100) ∷ [];
}

-- b. the identical request in simplex
abbrev pub simplex_repeated : Row
simplex_repeated = record {
  computed = gives 1 (calls 100 seven simplex ∷ calls 150 seven simplex ∷ []);
  expected = (0 ∷ 150 ∷ 1 ∷ 261 ∷ []) ∷ (3 ∷ 0 ∷ ack_seven26_simplex) ∷ [];
}

-- b. simplex first, then duplex: offered afresh
abbrev pub simplex_then_duplex : Row
simplex_then_duplex = record {
  computed = gives 1 (calls 100 seven simplex ∷ calls 150 seven duplex ∷ []);
  expected = (0 ∷ 150 ∷ 1 ∷ 311 ∷ []) ∷ (3 ∷ 0 ∷ ack_seven26) ∷ [];
}

-- b. with a digit more: offered afresh
abbrev pub number_longer : Row
number_longer = record {
  computed = gives 1 (calls_for (4 ∷ 2 ∷ []) 100 seven duplex ∷ calls_for (4 ∷ 2 ∷ 1 ∷ []) 150 seven duplex ∷ []);
  expected = (0 ∷ 150 ∷ 1 ∷ 311 ∷ []) ∷ (3 ∷ 0 ∷ ack_seven26_of421) ∷ [];
}

-- b. with a digit less: offered afresh
abbrev pub number_shorter : Row
number_shorter = record {
  computed = gives 1 (calls_for (4 ∷ 2 ∷ 1 ∷ []) 100 seven duplex ∷ calls_for (4 ∷ 2 ∷ []) 150 seven duplex ∷ []);
  expected = (0 ∷ 150 ∷ 1 ∷ 311 ∷ []) ∷ (3 ∷ 0 ∷ ack_seven26_again) ∷ [];
}

-- b. with another first digit: offered afresh
abbrev pub first_digit_higher : Row
first_digit_higher = record {
  computed = gives 1 (calls_for (4 ∷ 2 ∷ []) 100 seven duplex ∷ calls_for (5 ∷ 2 ∷ []) 150 seven duplex ∷ []);
  expected = (0 ∷ 150 ∷ 1 ∷ 311 ∷ []) ∷ (3 ∷ 0 ∷ ack_seven26_of52) ∷ [];
}

-- b. with another last digit: offered afresh
abbrev pub last_digit_lower : Row
last_digit_lower = record {
  computed = gives 1 (calls_for (4 ∷ 2 ∷ []) 100 seven duplex ∷ calls_for (4 ∷ 1 ∷ []) 150 seven duplex ∷ []);
  expected = (0 ∷ 150 ∷ 1 ∷ 311 ∷ []) ∷ (3 ∷ 0 ∷ ack_seven26_of41) ∷ [];
}

-- b. in ring-back, sent again: offered afresh
abbrev pub ring_back_twice_asked : Row
ring_back_twice_asked = record {
  computed = gives 1 (calls 100 seven duplex ∷ calls 110 eight duplex ∷ ticks 261 ∷ ticks 312 ∷ calls 320 eight duplex ∷ []);
  expected = (0 ∷ 320 ∷ 1 ∷ 481 ∷ []) ∷ (3 ∷ 0 ∷ ack_eight26) ∷ [];
}

-- a ship at the station 002001234, and seven at another
abbrev pub at1234 : ℕ → Party
at1234 x = record { ship = x; station = 2001234 }

abbrev pub at1235 : Party
at1235 = record { ship = seven; station = 2001235 }

-- one ship at two stations, and two ships at one, are not the same party
abbrev pub same_ship : Row
same_ship = record {
  computed = (bit (is (at1234 seven) (at1234 seven)) ∷ bit (is (at1234 seven) at1235) ∷ bit (is at1235 (at1234 seven)) ∷
      bit (is (at1234 seven) (at1234 eight)) ∷ bit (is (at1234 eight) (at1234 seven)) ∷ []) ∷ [];
  expected = (1 ∷ 0 ∷ 0 ∷ 0 ∷ 0 ∷ []) ∷ [];
}

-- ── rule c and the hold ─────────────────────────────────────────────────────────

-- c. simplex, only dialled, carrier absent: the coast ends that call too, and nothing is charged
abbrev pub rule_c_dialled : Row
rule_c_dialled = record {
  computed = gives 1 (calls 100 seven simplex ∷ works 200 0 seven ∷ loses 300 0 ∷ calls 310 seven simplex ∷ []);
  expected = (0 ∷ 310 ∷ 5 ∷ 471 ∷ []) ∷ (6 ∷ 0 ∷ []) ∷ (4 ∷ 0 ∷ over_seven_by_coast) ∷ (2 ∷ 0 ∷ []) ∷ (1 ∷ 0 ∷ []) ∷
      (3 ∷ 0 ∷ ack_seven26_simplex) ∷ [];
}

-- c. simplex, only dialled, carrier present: ignored
abbrev pub rule_c_dialled_present : Row
rule_c_dialled_present = record {
  computed = gives 1 (calls 100 seven simplex ∷ works 200 0 seven ∷ calls 310 seven simplex ∷ []);
  expected = (1 ∷ 310 ∷ 0 ∷ 801 ∷ []) ∷ [];
}

-- c. duplex, only dialled, carrier absent: ignored
abbrev pub rule_c_dialled_duplex : Row
rule_c_dialled_duplex = record {
  computed = gives 1 (calls 100 seven duplex ∷ works 200 0 seven ∷ loses 300 0 ∷ calls 310 seven duplex ∷ []);
  expected = (1 ∷ 310 ∷ 0 ∷ 351 ∷ []) ∷ [];
}

-- c. simplex, dialled out, carrier absent: the same as while dialling
abbrev pub rule_c_dialled_out : Row
rule_c_dialled_out = record {
  computed = gives 1 (calls 100 seven simplex ∷ works 200 0 seven ∷ dials_out 290 0 ∷ loses 300 0 ∷ calls 310 seven simplex ∷ []);
  expected = (0 ∷ 310 ∷ 5 ∷ 471 ∷ []) ∷ (6 ∷ 0 ∷ []) ∷ (4 ∷ 0 ∷ over_seven_by_coast) ∷ (2 ∷ 0 ∷ []) ∷ (1 ∷ 0 ∷ []) ∷
      (3 ∷ 0 ∷ ack_seven26_simplex) ∷ [];
}

-- c. simplex, dialled out, carrier present: ignored
abbrev pub rule_c_dialled_out_present : Row
rule_c_dialled_out_present = record {
  computed = gives 1 (calls 100 seven simplex ∷ works 200 0 seven ∷ dials_out 290 0 ∷ calls 310 seven simplex ∷ []);
  expected = (1 ∷ 310 ∷ 0 ∷ 891 ∷ []) ∷ [];
}

-- a ship in its hold asks again: the held slot is not its own, and it waits
abbrev pub hold_asked : Row
hold_asked = record {
  computed = gives 1 (calls 100 seven duplex ∷ works 200 0 seven ∷ picks_up 300 0 ∷ ends 400 0 seven ∷ calls 410 seven duplex ∷ []);
  expected = (0 ∷ 410 ∷ 1 ∷ 441 ∷ []) ∷ (3 ∷ 255 ∷ unable103_seven) ∷ [];
}

-- ── which sequence is of which kind ─────────────────────────────────────────────

-- with a channel named, it is no request
abbrev pub request_with_channel : Row
request_with_channel = record {
  computed = gives 1 (says 100 (sends seven 101 117 (Channel (channel 26)) usual) ∷ []);
  expected = (1 ∷ 100 ∷ 0 ∷ []) ∷ [];
}

-- the BQ to a ring-back in simplex
abbrev pub bq_simplex : Row
bq_simplex = record {
  computed = gives 1 (calls 100 seven duplex ∷ calls 110 eight duplex ∷ ticks 261 ∷
      says 270 (sends eight 100 122 (Channel (channel 26)) usual) ∷ []);
  expected = (0 ∷ 270 ∷ 0 ∷ 431 ∷ []) ∷ [];
}

-- with the telecommand of data: ignored
abbrev pub bq_data : Row
bq_data = record {
  computed = gives 1 (calls 100 seven duplex ∷ calls 110 eight duplex ∷ ticks 261 ∷
      says 270 (sends eight 106 122 (Channel (channel 26)) usual) ∷ []);
  expected = (1 ∷ 270 ∷ 0 ∷ 312 ∷ []) ∷ [];
}

-- with RQ: ignored
abbrev pub bq_as_rq : Row
bq_as_rq = record {
  computed = gives 1 (calls 100 seven duplex ∷ calls 110 eight duplex ∷ ticks 261 ∷
      says 270 (sends eight 101 117 (Channel (channel 26)) usual) ∷ []);
  expected = (1 ∷ 270 ∷ 0 ∷ 312 ∷ []) ∷ [];
}

-- with 127: ignored
abbrev pub bq_as127 : Row
bq_as127 = record {
  computed = gives 1 (calls 100 seven duplex ∷ calls 110 eight duplex ∷ ticks 261 ∷
      says 270 (sends eight 101 127 (Channel (channel 26)) usual) ∷ []);
  expected = (1 ∷ 270 ∷ 0 ∷ 312 ∷ []) ∷ [];
}

-- naming no channel: ignored
abbrev pub bq_unnamed : Row
bq_unnamed = record {
  computed = gives 1 (calls 100 seven duplex ∷ calls 110 eight duplex ∷ ticks 261 ∷
      says 270 (sends eight 101 122 Blank usual) ∷ []);
  expected = (1 ∷ 270 ∷ 0 ∷ 312 ∷ []) ∷ [];
}

-- after the second sending: acknowledged
abbrev pub bq_in_second_ring_back : Row
bq_in_second_ring_back = record {
  computed = gives 1 (calls 100 seven duplex ∷ calls 110 eight duplex ∷ ticks 261 ∷ ticks 312 ∷ accepts 320 26 eight ∷ []);
  expected = (0 ∷ 320 ∷ 0 ∷ 481 ∷ []) ∷ [];
}

-- on the working channel of an offered slot: ignored
abbrev pub bq_on_slot : Row
bq_on_slot = record {
  computed = gives 1 (calls 100 seven duplex ∷ says_on 110 0 (sends seven 101 122 (Channel (channel 26)) usual) ∷ []);
  expected = (1 ∷ 110 ∷ 0 ∷ 261 ∷ []) ∷ [];
}

-- and with the field 126s: it is no working call
abbrev pub blank_bq_on_slot : Row
blank_bq_on_slot = record {
  computed = gives 1 (calls 100 seven duplex ∷ says_on 110 0 (sends seven 101 122 Blank usual) ∷ []);
  expected = (1 ∷ 110 ∷ 0 ∷ 261 ∷ []) ∷ [];
}

-- a working call in simplex dials as well
abbrev pub working_simplex : Row
working_simplex = record {
  computed = gives 1 (calls 100 seven duplex ∷ says_on 110 0 (sends seven 100 127 Blank usual) ∷ []);
  expected = (0 ∷ 110 ∷ 1 ∷ 711 ∷ []) ∷ (5 ∷ 0 ∷ usual) ∷ [];
}

-- and with the telecommand of data it does not
abbrev pub working_data : Row
working_data = record {
  computed = gives 1 (calls 100 seven duplex ∷ says_on 110 0 (sends seven 106 127 Blank usual) ∷ []);
  expected = (1 ∷ 110 ∷ 0 ∷ 261 ∷ []) ∷ [];
}

-- an end of call with 127 is none of the ship
abbrev pub end_as127 : Row
end_as127 = record {
  computed = gives 1 (calls 100 seven duplex ∷ works 110 0 seven ∷ says_on 120 0 (sends seven 105 127 Blank usual) ∷ []);
  expected = (1 ∷ 120 ∷ 0 ∷ 711 ∷ []) ∷ [];
}

-- nor one with BQ
abbrev pub end_as_bq : Row
end_as_bq = record {
  computed = gives 1 (calls 100 seven duplex ∷ works 110 0 seven ∷ says_on 120 0 (sends seven 105 122 Blank usual) ∷ []);
  expected = (1 ∷ 120 ∷ 0 ∷ 711 ∷ []) ∷ [];
}

-- a request to the station 002001233, one below
abbrev pub addressed_below : Row
addressed_below = record {
  computed = gives 1 (says 100 (asks 2001233 126 117 usual seven duplex) ∷ []);
  expected = (1 ∷ 100 ∷ 0 ∷ []) ∷ [];
}

-- a BQ of the ship that is called, with the telecommand of data, with RQ, with 127, naming no channel: ignored
abbrev pub bq_data_called : Row
bq_data_called = record {
  computed = gives 1 (shore_calls 100 seven duplex ∷ says 130 (sends seven 106 122 (Channel (channel 26)) usual) ∷ []);
  expected = (1 ∷ 130 ∷ 0 ∷ 151 ∷ []) ∷ [];
}

abbrev pub bq_as_rq_called : Row
bq_as_rq_called = record {
  computed = gives 1 (shore_calls 100 seven duplex ∷ says 130 (sends seven 101 117 (Channel (channel 26)) usual) ∷ []);
  expected = (1 ∷ 130 ∷ 0 ∷ 151 ∷ []) ∷ [];
}

abbrev pub bq_as127_called : Row
bq_as127_called = record {
  computed = gives 1 (shore_calls 100 seven duplex ∷ says 130 (sends seven 101 127 (Channel (channel 26)) usual) ∷ []);
  expected = (1 ∷ 130 ∷ 0 ∷ 151 ∷ []) ∷ [];
}

abbrev pub bq_unnamed_called : Row
bq_unnamed_called = record {
  computed = gives 1 (shore_calls 100 seven duplex ∷ says 130 (sends seven 101 122 Blank usual) ∷ []);
  expected = (1 ∷ 130 ∷ 0 ∷ 151 ∷ []) ∷ [];
}

-- 104 with RQ, with 127: ignored
abbrev pub unable_as_rq : Row
unable_as_rq = record {
  computed = gives 1 (shore_calls 100 seven duplex ∷ says 130 (sends seven 104 117 Blank usual) ∷ []);
  expected = (1 ∷ 130 ∷ 0 ∷ 151 ∷ []) ∷ [];
}

abbrev pub unable_as127 : Row
unable_as127 = record {
  computed = gives 1 (shore_calls 100 seven duplex ∷ says 130 (sends seven 104 127 Blank usual) ∷ []);
  expected = (1 ∷ 130 ∷ 0 ∷ 151 ∷ []) ∷ [];
}

-- a working call and an end of call on channel 70: ignored
abbrev pub working70_called : Row
working70_called = record {
  computed = gives 1 (shore_calls 100 seven duplex ∷ says 130 (sends seven 101 127 Blank usual) ∷ []);
  expected = (1 ∷ 130 ∷ 0 ∷ 151 ∷ []) ∷ [];
}

abbrev pub over70_called : Row
over70_called = record {
  computed = gives 1 (shore_calls 100 seven duplex ∷ says 130 (sends seven 105 117 Blank usual) ∷ []);
  expected = (1 ∷ 130 ∷ 0 ∷ 151 ∷ []) ∷ [];
}

-- an end of call with BQ is no 104
abbrev pub over_as_bq_called : Row
over_as_bq_called = record {
  computed = gives 1 (shore_calls 100 seven duplex ∷ says 130 (sends seven 105 122 Blank usual) ∷ []);
  expected = (1 ∷ 130 ∷ 0 ∷ 151 ∷ []) ∷ [];
}

-- ── waits ───────────────────────────────────────────────────────────────────────

-- no reply while the carrier is absent: the reply wait is due first, and the coast ends the call
abbrev pub reply_before_loss : Row
reply_before_loss = record {
  computed = gives 1 (calls 100 seven simplex ∷ works 200 0 seven ∷ loses 790 0 ∷ ticks 900 ∷ []);
  expected = (0 ∷ 801 ∷ 3 ∷ []) ∷ (6 ∷ 0 ∷ []) ∷ (4 ∷ 0 ∷ over_seven_by_coast) ∷ (2 ∷ 0 ∷ []) ∷ [];
}

-- the same once its dialling has ended
abbrev pub dialled_out_before_loss : Row
dialled_out_before_loss = record {
  computed = gives 1 (calls 100 seven simplex ∷ works 200 0 seven ∷ dials_out 300 0 ∷ loses 890 0 ∷ ticks 1400 ∷ []);
  expected = (0 ∷ 901 ∷ 3 ∷ []) ∷ (6 ∷ 0 ∷ []) ∷ (4 ∷ 0 ∷ over_seven_by_coast) ∷ (2 ∷ 0 ∷ []) ∷ [];
}

-- a tick one tenth before the due time fires nothing
abbrev pub one_tenth_earlier : Row
one_tenth_earlier = record {
  computed = gives 1 (calls 100 seven duplex ∷ ticks 260 ∷ []);
  expected = (0 ∷ 260 ∷ 0 ∷ 261 ∷ []) ∷ [];
}

-- the slot due one tenth before the queue entry goes first
abbrev pub slot_before_queue : Row
slot_before_queue = record {
  computed = gives 2 (reserves 10 1 ∷ calls 100 seven duplex ∷ works 110 0 seven ∷ picks_up 120 0 ∷ calls 150 eight duplex ∷
      loses 9099 0 ∷ ticks 9999 ∷ []);
  expected = (0 ∷ 9150 ∷ 6 ∷ 9201 ∷ []) ∷ charges 0 seven 120 9150 903 1 ∷ (6 ∷ 0 ∷ []) ∷ (4 ∷ 0 ∷ over_seven_by_coast903) ∷ (2 ∷ 0 ∷ []) ∷
      (1 ∷ 0 ∷ []) ∷ (3 ∷ 0 ∷ ring_back_eight26) ∷ [];
}

-- of two offers with one due time the lower slot goes first
abbrev pub lowest_first : Row
lowest_first = record {
  computed = gives 2 (calls 100 seven duplex ∷ calls 100 eight duplex ∷ ticks 261 ∷ []);
  expected = (0 ∷ 261 ∷ 1 ∷ 261 ∷ []) ∷ (2 ∷ 0 ∷ []) ∷ [];
}

-- of three queue entries the third is due first: it is dropped, and the others stay
abbrev pub third_due_first : Row
third_due_first = record {
  computed = waiting_with (waits seven 3000 ∷ waits eight 2900 ∷ waits nine 2000 ∷ []) (ticks 2500);
  expected = (0 ∷ 2000 ∷ 0 ∷ 2900 ∷ []) ∷ [];
}

-- of two the first
abbrev pub first_due_first : Row
first_due_first = record {
  computed = waiting_with (waits seven 2000 ∷ waits eight 3000 ∷ []) (ticks 2500);
  expected = (0 ∷ 2000 ∷ 0 ∷ 3000 ∷ []) ∷ [];
}

-- of two that are one tenth apart the earlier, here the younger
abbrev pub one_tenth_apart : Row
one_tenth_apart = record {
  computed = waiting_with (waits seven 2001 ∷ waits eight 2000 ∷ []) (ticks 2500);
  expected = (0 ∷ 2000 ∷ 0 ∷ 2001 ∷ []) ∷ [];
}

-- 31 ships wait: the 32nd joins them
abbrev pub queue_of31 : Row
queue_of31 = record {
  computed = waiting_with (waiting_ships 31) (calls 200 nine duplex);
  expected = (0 ∷ 200 ∷ 1 ∷ 9101 ∷ []) ∷ (3 ∷ 255 ∷ unable103_nine) ∷ [];
}

-- 32 ships wait: the 33rd does not
abbrev pub queue_of32 : Row
queue_of32 = record {
  computed = waiting_with (waiting_ships 32) (calls 200 nine duplex);
  expected = (0 ∷ 200 ∷ 1 ∷ 9101 ∷ []) ∷ (3 ∷ 255 ∷ unable102_nine) ∷ [];
}

-- ── refusals ────────────────────────────────────────────────────────────────────

-- 33: a request when a wait is due
abbrev pub refused33_heard : Row
refused33_heard = record {
  computed = gives 1 (calls 100 seven duplex ∷ calls 261 eight duplex ∷ []);
  expected = (33 ∷ 100 ∷ 0 ∷ 261 ∷ []) ∷ [];
}

-- and one tenth before it
abbrev pub accepted33 : Row
accepted33 = record {
  computed = gives 1 (calls 100 seven duplex ∷ calls 260 eight duplex ∷ []);
  expected = (0 ∷ 260 ∷ 1 ∷ 261 ∷ []) ∷ (3 ∷ 255 ∷ unable103_eight) ∷ [];
}

-- 33: a call from ashore when a wait is due, and one tenth before it
abbrev pub refused33_called : Row
refused33_called = record {
  computed = gives 2 (calls 100 seven duplex ∷ shore_calls 261 eight duplex ∷ []);
  expected = (33 ∷ 100 ∷ 0 ∷ 261 ∷ []) ∷ [];
}

abbrev pub accepted33_called : Row
accepted33_called = record {
  computed = gives 2 (calls 100 seven duplex ∷ shore_calls 260 eight duplex ∷ []);
  expected = (0 ∷ 260 ∷ 2 ∷ 261 ∷ []) ∷ (1 ∷ 1 ∷ []) ∷ (3 ∷ 1 ∷ call_eight27) ∷ [];
}

-- 30, 31: a call from ashore without its room, and past the limit
abbrev pub refused30_called : Row
refused30_called = record {
  computed = gives 1 (record { time = 100; room = 319; what = (shore_calls 100 seven duplex).what } ∷ []);
  expected = (30 ∷ 0 ∷ 0 ∷ []) ∷ [];
}

abbrev pub refused31_called : Row
refused31_called = record {
  computed = gives 1 (shore_calls 4000000001 seven duplex ∷ []);
  expected = (31 ∷ 0 ∷ 0 ∷ []) ∷ [];
}

-- 15: ships from 200000000 to 799999999
abbrev pub accepted_first_ship : Row
accepted_first_ship = record {
  computed = gives 1 (shore_asks caller 100 200000000 101 ∷ []);
  expected = (0 ∷ 100 ∷ 2 ∷ 151 ∷ []) ∷ (1 ∷ 0 ∷ []) ∷ (3 ∷ 0 ∷ call_first_ship) ∷ [];
}

abbrev pub accepted_last_ship : Row
accepted_last_ship = record {
  computed = gives 1 (shore_asks caller 100 799999999 101 ∷ []);
  expected = (0 ∷ 100 ∷ 2 ∷ 151 ∷ []) ∷ (1 ∷ 0 ∷ []) ∷ (3 ∷ 0 ∷ call_last_ship) ∷ [];
}

abbrev pub refused15_above : Row
refused15_above = record {
  computed = gives 1 (shore_asks caller 100 800000000 101 ∷ []);
  expected = (15 ∷ 0 ∷ 0 ∷ []) ∷ [];
}

-- 17: one below 100, and one above 101
abbrev pub refused17_below : Row
refused17_below = record {
  computed = gives 1 (shore_asks caller 100 seven 99 ∷ []);
  expected = (17 ∷ 0 ∷ 0 ∷ []) ∷ [];
}

abbrev pub refused17_above : Row
refused17_above = record {
  computed = gives 1 (shore_asks caller 100 seven 102 ∷ []);
  expected = (17 ∷ 0 ∷ 0 ∷ []) ∷ [];
}

-- 19: digits to 9; the first is one over it
abbrev pub accepted_nine : Row
accepted_nine = record {
  computed = gives 1 (shore_asks (0 ∷ 9 ∷ []) 100 seven 100 ∷ []);
  expected = (0 ∷ 100 ∷ 2 ∷ 151 ∷ []) ∷ (1 ∷ 0 ∷ []) ∷ (3 ∷ 0 ∷ call_seven26_simplex_of09) ∷ [];
}

abbrev pub refused19_first : Row
refused19_first = record {
  computed = gives 1 (shore_asks (10 ∷ 6 ∷ []) 100 seven 101 ∷ []);
  expected = (19 ∷ 0 ∷ 0 ∷ []) ∷ [];
}

-- what a call from ashore prints at the clock 1000
abbrev pub called_in : ℕ → Station → ℕ → List (List ℕ)
called_in n st x = lines (station n) (step (station n) st (shore_calls 1000 x duplex))

-- 38: it waits behind another ship, and beside a free slot; a third ship is called
abbrev pub refused38_behind : Row
refused38_behind = record {
  computed = called_in 1 (holding (free ∷ []) (waits eight 2000 ∷ waits seven 2000 ∷ [])) seven
      ++ called_in 1 (holding (free ∷ []) (waits eight 2000 ∷ waits nine 2000 ∷ [])) seven;
  expected = (38 ∷ 1000 ∷ 0 ∷ 2000 ∷ []) ∷ (0 ∷ 1000 ∷ 2 ∷ 1051 ∷ []) ∷ (1 ∷ 0 ∷ []) ∷ (3 ∷ 0 ∷ call_seven26) ∷ [];
}

-- 38: the second slot is in its hold; in another ship's hold it is not
abbrev pub refused38_held_second : Row
refused38_held_second = record {
  computed = called_in 2 (holding (free ∷ held (from seven duplex) None 1041 ∷ []) []) seven
      ++ called_in 2 (holding (free ∷ held (from eight duplex) None 1041 ∷ []) []) seven;
  expected = (38 ∷ 1000 ∷ 0 ∷ 1041 ∷ []) ∷ (0 ∷ 1000 ∷ 2 ∷ 1041 ∷ []) ∷ (1 ∷ 0 ∷ []) ∷ (3 ∷ 0 ∷ call_seven26) ∷ [];
}

-- 37: both slots are in use, one by another ship's hold, one by the operator
abbrev pub refused37_held : Row
refused37_held = record {
  computed = called_in 2 (holding (taken ∷ held (from eight duplex) None 1041 ∷ []) []) seven;
  expected = (37 ∷ 1000 ∷ 0 ∷ 1041 ∷ []) ∷ [];
}

-- 34: dialling ended on no such slot
abbrev pub refused34_dials_out : Row
refused34_dials_out = record {
  computed = gives 2 (dials_out 100 2 ∷ []);
  expected = (34 ∷ 0 ∷ 0 ∷ []) ∷ [];
}

-- 34: off-hook on no such slot
abbrev pub refused34_picks_up : Row
refused34_picks_up = record {
  computed = gives 2 (picks_up 100 2 ∷ []);
  expected = (34 ∷ 0 ∷ 0 ∷ []) ∷ [];
}

-- 34: carrier up on no such slot
abbrev pub refused34_regains : Row
refused34_regains = record {
  computed = gives 2 (regains 100 2 ∷ []);
  expected = (34 ∷ 0 ∷ 0 ∷ []) ∷ [];
}

-- 34: carrier down on no such slot
abbrev pub refused34_loses : Row
refused34_loses = record {
  computed = gives 2 (loses 100 2 ∷ []);
  expected = (34 ∷ 0 ∷ 0 ∷ []) ∷ [];
}

-- 34: take on no such slot
abbrev pub refused34_takes : Row
refused34_takes = record {
  computed = gives 2 (reserves 100 2 ∷ []);
  expected = (34 ∷ 0 ∷ 0 ∷ []) ∷ [];
}

-- 34: give back on no such slot
abbrev pub refused34_restores : Row
refused34_restores = record {
  computed = gives 2 (restores 100 2 ∷ []);
  expected = (34 ∷ 0 ∷ 0 ∷ []) ∷ [];
}

-- 11: no symbol on a working channel
abbrev pub refused11_on_slot : Row
refused11_on_slot = record {
  computed = gives 1 (says_on 100 0 [] ∷ []);
  expected = (11 ∷ 0 ∷ 0 ∷ []) ∷ [];
}

-- 29 before 30: two slots on one channel, and no room
abbrev pub order29 : Row
order29 = record {
  computed = lines (station 1) (step (station 1) (holding (free ∷ free ∷ []) []) (ticks_in 0 1000));
  expected = (29 ∷ 1000 ∷ 0 ∷ []) ∷ [];
}

-- ── call numbers (02, no. 4) ──────────────────────────────────────────────────

-- the number behind the first ones and behind the last three, and whether none is left
abbrev pub numbers_counted : Row
numbers_counted = record {
  computed = map number_after (0 ∷ 1 ∷ 4294967293 ∷ 4294967294 ∷ 4294967295 ∷ []) ∷
      map (λ n. bit (none_left n)) (0 ∷ 1 ∷ 4294967293 ∷ 4294967294 ∷ 4294967295 ∷ []) ∷ [];
  expected = (1 ∷ 2 ∷ 4294967294 ∷ 4294967295 ∷ 4294967295 ∷ []) ∷ (0 ∷ 0 ∷ 0 ∷ 0 ∷ 1 ∷ []) ∷ [];
}

-- a slot keeps one in every phase but two: free and taken
abbrev pub numbers_kept : Row
numbers_kept = record {
  computed = map (λ p. call_number_in p.slot) phases ∷ [];
  expected = (0 ∷ 0 ∷ replicate 16 1) ∷ [];
}

-- ── actions handed out ────────────────────────────────────────────────────────

-- one block after the other
abbrev pub blocks_shown : Row
blocks_shown = record {
  computed = blocks (station 1) (does (carrier_on 0) ∷ over 1 the_ship (from seven duplex).who usual None ∷
      charge (paid 0 2 67305985 1 2 3 5).it ∷
      does (carrier_on 3) ∷ []) ∷ [];
  expected = ((1 ∷ 0 ∷ 0 ∷ 0 ∷ replicate 36 0) ++ (4 ∷ 1 ∷ 24 ∷ 0 ∷ (over_seven ++ replicate 12 0)) ++ (7 ∷ 2 ∷ 20 ∷ 0 ∷ 1 ∷ 2 ∷ 3 ∷
      4 ∷ 1 ∷ 0 ∷ 0 ∷ 0 ∷ 2 ∷ 0 ∷ 0 ∷ 0 ∷ 3 ∷ 0 ∷ 0 ∷ 0 ∷ 5 ∷ replicate 19 0) ++ (1 ∷ 3 ∷ 0 ∷ 0 ∷ replicate 36 0)) ∷ [];
}

-- what is sent is a sequence
abbrev pub sent_valid : Row
sent_valid = record {
  computed = (bit (valid (able_said (channel 26) 122 (from seven duplex))) ∷
      bit (valid (able_said (channel 26) 117 (from seven simplex))) ∷ bit (valid (unable_said 103 (from seven duplex).who (7 ∷ []))) ∷
      bit (valid (over_said the_ship (from seven duplex).who (replicate 16 9) (lasting 99 59 59))) ∷ []) ∷ [];
  expected = (1 ∷ 1 ∷ 1 ∷ 1 ∷ []) ∷ [];
}

-- ── all of them ──────────────────────────────────────────────────────────────

abbrev pub bound_cases : List Row
bound_cases =
    second_slot ∷ second_slot_again ∷ second_slot_queued ∷ second_slot_dialled ∷ second_slot_called ∷ second_slot_called_again ∷
    both_called ∷ other_calls ∷ bq_data_called ∷ bq_as_rq_called ∷ bq_as127_called ∷ bq_unnamed_called ∷ unable_as_rq ∷ unable_as127 ∷
    working70_called ∷ over70_called ∷
    over_as_bq_called ∷ refused33_called ∷ accepted33_called ∷ refused30_called ∷ refused31_called ∷ accepted_first_ship ∷ accepted_last_ship ∷
    refused15_above ∷ refused17_below ∷ refused17_above ∷ accepted_nine ∷ refused19_first ∷ refused38_behind ∷ refused38_held_second ∷
    refused37_held ∷ third_slot ∷ places ∷ oldest_first ∷ second_kept ∷
    other_station ∷ second_differs ∷ second_lower ∷ second_same ∷ simplex_repeated ∷ simplex_then_duplex ∷ number_longer ∷
    number_shorter ∷ first_digit_higher ∷ last_digit_lower ∷ ring_back_twice_asked ∷ same_ship ∷ rule_c_dialled ∷ rule_c_dialled_present ∷
    rule_c_dialled_duplex ∷ rule_c_dialled_out ∷ rule_c_dialled_out_present ∷ hold_asked ∷ request_with_channel ∷ bq_simplex ∷ bq_data ∷
    bq_as_rq ∷ bq_as127 ∷ bq_unnamed ∷ bq_in_second_ring_back ∷ bq_on_slot ∷ blank_bq_on_slot ∷ working_simplex ∷ working_data ∷ end_as127 ∷
    end_as_bq ∷ addressed_below ∷ reply_before_loss ∷ dialled_out_before_loss ∷ one_tenth_earlier ∷ slot_before_queue ∷ lowest_first ∷
    third_due_first ∷ first_due_first ∷ one_tenth_apart ∷ queue_of31 ∷ queue_of32 ∷ refused33_heard ∷ accepted33 ∷
    refused34_dials_out ∷ refused34_picks_up ∷ refused34_regains ∷ refused34_loses ∷ refused34_takes ∷ refused34_restores ∷
    refused11_on_slot ∷ order29 ∷ numbers_counted ∷ numbers_kept ∷ blocks_shown ∷ sent_valid ∷ []

-- ── soundness and set-up ─────────────────────────────────────────────────────

abbrev pub bound_sounds : List Judged
bound_sounds =
    -- the second channel of two is invalid
    refused36 (set_up 2001234 (26 ∷ 16 ∷ []))
    -- the second and the third of three are one
    ∷ refused36 (set_up 2001234 (26 ∷ 27 ∷ 27 ∷ []))
    -- another station, with a request to it
    ∷ sounds (asked other (record {
      clock = 5000;
      slots = pending offered (asking seven 7999999 duplex 126 usual) 5161 ∷ free ∷
          [];
      queue = [];
      last_call = 1;
    }))
    -- to a station one below
    ∷ unsound (with (pending offered (asking seven 2001233 duplex 126 usual) 1161))
    -- fewer slots than channels
    ∷ unsound (asked (station 2) (holding (free ∷ []) []))
    -- a number of one digit
    ∷ sounds (with (pending offered (asking seven 2001234 duplex 126 (7 ∷ [])) 1161))
    -- a second telecommand 100
    ∷ sounds (with (pending offered (asking seven 2001234 duplex 100 usual) 1161))
    -- 99
    ∷ unsound (with (pending offered (asking seven 2001234 duplex 99 usual) 1161))
    -- the second of two slots holds a request to another station
    ∷ unsound (asked (station 2) (holding (free ∷ pending offered (asking seven 2001235 duplex 126 usual) 1161 ∷ []) []))
    -- so does the second of two waiting ships
    ∷ unsound (queued (waits eight 2000 ∷ record { request = asking seven 2001235 duplex 126 usual; due = 2000 } ∷ []))
    -- a ship waits and has a slot, behind one that is taken
    ∷ unsound (asked (station 2) (holding (taken ∷ pending offered (from seven duplex) 1051 ∷ []) (waits seven 2000 ∷ [])))
    -- behind a hold
    ∷ unsound (asked (station 2) (holding (held (from eight duplex) None 1041 ∷ pending offered (from seven duplex) 1161 ∷
    []) (waits seven 2000 ∷ [])))
    -- behind a slot and a place of others
    ∷ unsound (asked (station 2) (holding (pending offered (from nine duplex) 1161 ∷ pending offered (from seven duplex) 1161 ∷
    []) (waits eight 2000 ∷ waits seven 2000 ∷ [])))
    -- a ship in its hold after an answered call waits
    ∷ sounds (asked (station 2) (holding (held (from seven duplex) (lasting 0 6 51) 1041 ∷ free ∷ []) (waits seven 2000 ∷ [])))
    -- the second of two slots is due too late
    ∷ unsound (asked (station 2) (holding (free ∷ pending offered (from seven duplex) 1162 ∷ []) []))
    -- so is the second of two waiting ships
    ∷ unsound (queued (waits eight 2000 ∷ waits seven 10002 ∷ []))
    -- at another clock: an offer to its last tenth
    ∷ sounds (asked (station 1) (record {
      clock = 5000;
      slots = pending offered (from seven duplex) 5161 ∷
          [];
      queue = waits eight 14001 ∷ [];
      last_call = 1;
    }))
    -- an offer one tenth further
    ∷ unsound (asked (station 1) (record { clock = 5000; slots = pending offered (from seven duplex) 5162 ∷ []; queue = []; last_call = 1 }))
    -- a queue entry one tenth further
    ∷ unsound (asked (station 1) (record { clock = 5000; slots = taken ∷ []; queue = waits eight 14002 ∷ []; last_call = 1 }))
    -- of each kind: a request to another station
    ∷ map (λ k. unsound (with (pending k (asking seven 2001235 duplex 126 usual) 1051))) kinds
    -- a ship that waits and has a slot, from its offer to its answered call
    ++ map (λ p. unsound (asked (station 2) (holding (free ∷ p.slot ∷ []) (waits seven 2000 ∷ [])))) (take 15 (drop 2 phases))
