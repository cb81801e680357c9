-- How a case is written, and the sequences that the cases expect.
use Rattle.std.specs.Prelude.{List, [], ◌∷◌, ◌++◌, ℕ, zero, suc, ◌+◌, ◌-◌, length, take}
use Rattle.sequence.specs.declared.Field.{Field}
use Rattle.sequence.specs.declared.Field.TheVariants.{Blank, Channel, Duration}
use Rattle.sequence.specs.Symbols.{exclusive_or}
use Rattle.sequence.specs.Layout.{layout}
use Rattle.rules.specs.Rules.Places.{mod_at}
use Rattle.rules.specs.Rules.Words.{duplex, Event}
use Rattle.rules.specs.Rules.Station.{Waiting, fresh}
use Rattle.rules.specs.Rules.Bytes.{number_of, fours}
use Rattle.rules.specs.Rules.Printed.{last_printed}
use Rattle.rules.specs.Tables.Runs.{station, seven, sends, usual}
use Rattle.rules.specs.Rules.Actions.{charge_of, charge_numbers}

-- ── how a case is written ────────────────────────────────────────────────────

-- what the last event prints, on a fresh station with so many channels
abbrev pub gives : ℕ → List Event → List (List ℕ)
gives n es = last_printed (station n) es (fresh (station n))

-- a call request to another station
abbrev pub elsewhere : ℕ → List ℕ
elsewhere end =
    layout (record { address = 2001235; sender = seven; first = 101; second = 126; field = Blank; number = number_of usual; end = end })

-- a ship that waits
abbrev pub waits : ℕ → ℕ → Waiting
waits x due = record {
  request = record { who = record { ship = x; station = 2001234 }; mode = duplex; second = 126; number = usual };
  due = due;
}

-- so many ships that wait
abbrev pub waiting_ships : ℕ → List Waiting
waiting_ships zero = []
waiting_ships (suc n) = waits (300000000 + n) 9101 ∷ waiting_ships n

-- a call request as symbols; and symbols with their check worked out again
abbrev pub call7 : List ℕ
call7 = sends seven 101 117 Blank usual

abbrev pub rechecked : List ℕ → List ℕ
rechecked s = take (length s - 1) s ++ exclusive_or 0 (take (length s - 1) s) ∷ []

-- a charge as it is printed: slot, ship, start, stop, seconds, call number
abbrev pub charges : ℕ → ℕ → ℕ → ℕ → ℕ → ℕ → List ℕ
charges i x b e s n = 7 ∷ i ∷ fours (charge_numbers (charge_of i x b e s n))

-- an end of call with 90 0 26 in its channel field
abbrev pub ninety : List ℕ
ninety = rechecked (mod_at (λ x. 90) 14 (mod_at (λ x. 0) 15 (mod_at (λ x. 26) 16 (sends seven 105 117 Blank usual))))

abbrev pub field_told : Field → List ℕ
field_told Blank = []
field_told (Channel n) = n.0 ∷ []
field_told (Duration d) = d.hours ∷ d.minutes ∷ d.seconds ∷ []

-- ── the sequences sent ───────────────────────────────────────────────────────

-- 104/109 to seven
abbrev pub unable109_seven : List ℕ
unable109_seven =
    123 ∷ 20 ∷ 0 ∷ 0 ∷ 0 ∷ 70 ∷ 100 ∷ 0 ∷ 20 ∷ 1 ∷ 23 ∷ 40 ∷ 104 ∷ 109 ∷ 126 ∷ 126 ∷ 126 ∷ 105 ∷ 5 ∷ 55 ∷ 12 ∷ 34 ∷ 122 ∷ 19 ∷ []

-- acknowledgement, channel 26, seven
abbrev pub ack_seven26 : List ℕ
ack_seven26 = 123 ∷ 20 ∷ 0 ∷ 0 ∷ 0 ∷ 70 ∷ 100 ∷ 0 ∷ 20 ∷ 1 ∷ 23 ∷ 40 ∷ 101 ∷ 126 ∷ 90 ∷ 0 ∷ 26 ∷ 105 ∷ 5 ∷ 55 ∷ 12 ∷ 34 ∷ 122 ∷ 51 ∷ []

-- acknowledgement, channel 26, seven, with the number 42
abbrev pub ack_seven26_again : List ℕ
ack_seven26_again = 123 ∷ 20 ∷ 0 ∷ 0 ∷ 0 ∷ 70 ∷ 100 ∷ 0 ∷ 20 ∷ 1 ∷ 23 ∷ 40 ∷ 101 ∷ 126 ∷ 90 ∷ 0 ∷ 26 ∷ 106 ∷ 42 ∷ 122 ∷ 6 ∷ []

-- acknowledgement, channel 26, seven
abbrev pub ack_seven26_simplex : List ℕ
ack_seven26_simplex =
    123 ∷ 20 ∷ 0 ∷ 0 ∷ 0 ∷ 70 ∷ 100 ∷ 0 ∷ 20 ∷ 1 ∷ 23 ∷ 40 ∷ 100 ∷ 126 ∷ 90 ∷ 0 ∷ 26 ∷ 105 ∷ 5 ∷ 55 ∷ 12 ∷ 34 ∷ 122 ∷ 50 ∷ []

-- acknowledgement, channel 26, eight
abbrev pub ack_eight26 : List ℕ
ack_eight26 = 123 ∷ 20 ∷ 0 ∷ 0 ∷ 0 ∷ 80 ∷ 100 ∷ 0 ∷ 20 ∷ 1 ∷ 23 ∷ 40 ∷ 101 ∷ 126 ∷ 90 ∷ 0 ∷ 26 ∷ 105 ∷ 5 ∷ 55 ∷ 12 ∷ 34 ∷ 122 ∷ 37 ∷ []

-- end of call to seven, 127, 0 0 15
abbrev pub over_seven_by_coast15 : List ℕ
over_seven_by_coast15 =
    123 ∷ 20 ∷ 0 ∷ 0 ∷ 0 ∷ 70 ∷ 100 ∷ 0 ∷ 20 ∷ 1 ∷ 23 ∷ 40 ∷ 105 ∷ 126 ∷ 0 ∷ 0 ∷ 15 ∷ 105 ∷ 5 ∷ 55 ∷ 12 ∷ 34 ∷ 127 ∷ 117 ∷ []

-- end of call to seven, 127, 0 0 55
abbrev pub over_seven_by_coast55 : List ℕ
over_seven_by_coast55 =
    123 ∷ 20 ∷ 0 ∷ 0 ∷ 0 ∷ 70 ∷ 100 ∷ 0 ∷ 20 ∷ 1 ∷ 23 ∷ 40 ∷ 105 ∷ 126 ∷ 0 ∷ 0 ∷ 55 ∷ 105 ∷ 5 ∷ 55 ∷ 12 ∷ 34 ∷ 127 ∷ 77 ∷ []

-- ring-back, channel 26, eight
abbrev pub ring_back_eight26 : List ℕ
ring_back_eight26 = 123 ∷ 20 ∷ 0 ∷ 0 ∷ 0 ∷ 80 ∷ 100 ∷ 0 ∷ 20 ∷ 1 ∷ 23 ∷ 40 ∷ 101 ∷ 126 ∷ 90 ∷ 0 ∷ 26 ∷ 105 ∷ 5 ∷ 55 ∷ 12 ∷ 34 ∷ 117 ∷ 42 ∷ []

-- 104/103 to seven
abbrev pub unable103_seven : List ℕ
unable103_seven =
    123 ∷ 20 ∷ 0 ∷ 0 ∷ 0 ∷ 70 ∷ 100 ∷ 0 ∷ 20 ∷ 1 ∷ 23 ∷ 40 ∷ 104 ∷ 103 ∷ 126 ∷ 126 ∷ 126 ∷ 105 ∷ 5 ∷ 55 ∷ 12 ∷ 34 ∷ 122 ∷ 25 ∷ []

-- ring-back, channel 26, seven, with the number 42
abbrev pub ring_back_seven26_again : List ℕ
ring_back_seven26_again = 123 ∷ 20 ∷ 0 ∷ 0 ∷ 0 ∷ 70 ∷ 100 ∷ 0 ∷ 20 ∷ 1 ∷ 23 ∷ 40 ∷ 101 ∷ 126 ∷ 90 ∷ 0 ∷ 26 ∷ 106 ∷ 42 ∷ 117 ∷ 9 ∷ []

-- ring-back, channel 26, seven, in simplex
abbrev pub ring_back_seven26_simplex : List ℕ
ring_back_seven26_simplex =
    123 ∷ 20 ∷ 0 ∷ 0 ∷ 0 ∷ 70 ∷ 100 ∷ 0 ∷ 20 ∷ 1 ∷ 23 ∷ 40 ∷ 100 ∷ 126 ∷ 90 ∷ 0 ∷ 26 ∷ 105 ∷ 5 ∷ 55 ∷ 12 ∷ 34 ∷ 117 ∷ 61 ∷ []

-- acknowledgement, channel 27, seven
abbrev pub ack_seven27 : List ℕ
ack_seven27 = 123 ∷ 20 ∷ 0 ∷ 0 ∷ 0 ∷ 70 ∷ 100 ∷ 0 ∷ 20 ∷ 1 ∷ 23 ∷ 40 ∷ 101 ∷ 126 ∷ 90 ∷ 0 ∷ 27 ∷ 105 ∷ 5 ∷ 55 ∷ 12 ∷ 34 ∷ 122 ∷ 50 ∷ []

-- 104/103 to eight
abbrev pub unable103_eight : List ℕ
unable103_eight =
    123 ∷ 20 ∷ 0 ∷ 0 ∷ 0 ∷ 80 ∷ 100 ∷ 0 ∷ 20 ∷ 1 ∷ 23 ∷ 40 ∷ 104 ∷ 103 ∷ 126 ∷ 126 ∷ 126 ∷ 105 ∷ 5 ∷ 55 ∷ 12 ∷ 34 ∷ 122 ∷ 15 ∷ []

-- 104/102 to nine
abbrev pub unable102_nine : List ℕ
unable102_nine = 123 ∷ 20 ∷ 0 ∷ 0 ∷ 0 ∷ 90 ∷ 100 ∷ 0 ∷ 20 ∷ 1 ∷ 23 ∷ 40 ∷ 104 ∷ 102 ∷ 126 ∷ 126 ∷ 126 ∷ 105 ∷ 5 ∷ 55 ∷ 12 ∷ 34 ∷ 122 ∷ 4 ∷ []

-- ring-back, channel 26, nine
abbrev pub ring_back_nine26 : List ℕ
ring_back_nine26 = 123 ∷ 20 ∷ 0 ∷ 0 ∷ 0 ∷ 90 ∷ 100 ∷ 0 ∷ 20 ∷ 1 ∷ 23 ∷ 40 ∷ 101 ∷ 126 ∷ 90 ∷ 0 ∷ 26 ∷ 105 ∷ 5 ∷ 55 ∷ 12 ∷ 34 ∷ 117 ∷ 32 ∷ []

-- end of call to seven, BQ, 0 6 51
abbrev pub over_seven411 : List ℕ
over_seven411 = 123 ∷ 20 ∷ 0 ∷ 0 ∷ 0 ∷ 70 ∷ 100 ∷ 0 ∷ 20 ∷ 1 ∷ 23 ∷ 40 ∷ 105 ∷ 126 ∷ 0 ∷ 6 ∷ 51 ∷ 105 ∷ 5 ∷ 55 ∷ 12 ∷ 34 ∷ 122 ∷ 74 ∷ []

-- end of call to seven, BQ, 126s
abbrev pub over_seven : List ℕ
over_seven = 123 ∷ 20 ∷ 0 ∷ 0 ∷ 0 ∷ 70 ∷ 100 ∷ 0 ∷ 20 ∷ 1 ∷ 23 ∷ 40 ∷ 105 ∷ 126 ∷ 126 ∷ 126 ∷ 126 ∷ 105 ∷ 5 ∷ 55 ∷ 12 ∷ 34 ∷ 122 ∷ 1 ∷ []

-- end of call to seven, 127, 0 6 51
abbrev pub over_seven_by_coast411 : List ℕ
over_seven_by_coast411 =
    123 ∷ 20 ∷ 0 ∷ 0 ∷ 0 ∷ 70 ∷ 100 ∷ 0 ∷ 20 ∷ 1 ∷ 23 ∷ 40 ∷ 105 ∷ 126 ∷ 0 ∷ 6 ∷ 51 ∷ 105 ∷ 5 ∷ 55 ∷ 12 ∷ 34 ∷ 127 ∷ 79 ∷ []

-- end of call to seven, 127, 126s
abbrev pub over_seven_by_coast : List ℕ
over_seven_by_coast =
    123 ∷ 20 ∷ 0 ∷ 0 ∷ 0 ∷ 70 ∷ 100 ∷ 0 ∷ 20 ∷ 1 ∷ 23 ∷ 40 ∷ 105 ∷ 126 ∷ 126 ∷ 126 ∷ 126 ∷ 105 ∷ 5 ∷ 55 ∷ 12 ∷ 34 ∷ 127 ∷ 4 ∷ []

-- end of call to seven, 127, 0 0 0
abbrev pub over_seven_by_coast0 : List ℕ
over_seven_by_coast0 = 123 ∷ 20 ∷ 0 ∷ 0 ∷ 0 ∷ 70 ∷ 100 ∷ 0 ∷ 20 ∷ 1 ∷ 23 ∷ 40 ∷ 105 ∷ 126 ∷ 0 ∷ 0 ∷ 0 ∷ 105 ∷ 5 ∷ 55 ∷ 12 ∷ 34 ∷ 127 ∷ 122 ∷ []

-- ring-back, channel 26, seven
abbrev pub ring_back_seven26 : List ℕ
ring_back_seven26 = 123 ∷ 20 ∷ 0 ∷ 0 ∷ 0 ∷ 70 ∷ 100 ∷ 0 ∷ 20 ∷ 1 ∷ 23 ∷ 40 ∷ 101 ∷ 126 ∷ 90 ∷ 0 ∷ 26 ∷ 105 ∷ 5 ∷ 55 ∷ 12 ∷ 34 ∷ 117 ∷ 60 ∷ []

-- ── the sequences sent, of a call from ashore (02, no. 2) ────────────────────

-- call from ashore, channel 26, seven, the caller's number 612345
abbrev pub call_seven26 : List ℕ
call_seven26 = 123 ∷ 20 ∷ 0 ∷ 0 ∷ 0 ∷ 70 ∷ 100 ∷ 0 ∷ 20 ∷ 1 ∷ 23 ∷ 40 ∷ 101 ∷ 126 ∷ 90 ∷ 0 ∷ 26 ∷ 106 ∷ 61 ∷ 23 ∷ 45 ∷ 117 ∷ 36 ∷ []

-- the same in simplex
abbrev pub call_seven26_simplex : List ℕ
call_seven26_simplex = 123 ∷ 20 ∷ 0 ∷ 0 ∷ 0 ∷ 70 ∷ 100 ∷ 0 ∷ 20 ∷ 1 ∷ 23 ∷ 40 ∷ 100 ∷ 126 ∷ 90 ∷ 0 ∷ 26 ∷ 106 ∷ 61 ∷ 23 ∷ 45 ∷ 117 ∷ 37 ∷ []

-- call from ashore, channel 26, seven, the caller's number 7
abbrev pub call_seven26_of7 : List ℕ
call_seven26_of7 = 123 ∷ 20 ∷ 0 ∷ 0 ∷ 0 ∷ 70 ∷ 100 ∷ 0 ∷ 20 ∷ 1 ∷ 23 ∷ 40 ∷ 101 ∷ 126 ∷ 90 ∷ 0 ∷ 26 ∷ 105 ∷ 7 ∷ 117 ∷ 39 ∷ []

-- call from ashore, channel 26, seven, the caller's number of sixteen digits
abbrev pub call_seven26_longest : List ℕ
call_seven26_longest =
    123 ∷ 20 ∷ 0 ∷ 0 ∷ 0 ∷ 70 ∷ 100 ∷ 0 ∷ 20 ∷ 1 ∷ 23 ∷ 40 ∷ 101 ∷ 126 ∷ 90 ∷ 0 ∷ 26 ∷ 106 ∷ 98 ∷ 76 ∷ 54 ∷ 32 ∷ 10 ∷
    12 ∷ 34 ∷ 56 ∷ 117 ∷ 7 ∷ []

-- call from ashore, channel 27, seven
abbrev pub call_seven27 : List ℕ
call_seven27 = 123 ∷ 20 ∷ 0 ∷ 0 ∷ 0 ∷ 70 ∷ 100 ∷ 0 ∷ 20 ∷ 1 ∷ 23 ∷ 40 ∷ 101 ∷ 126 ∷ 90 ∷ 0 ∷ 27 ∷ 106 ∷ 61 ∷ 23 ∷ 45 ∷ 117 ∷ 37 ∷ []

-- call from ashore, channel 26, eight
abbrev pub call_eight26 : List ℕ
call_eight26 = 123 ∷ 20 ∷ 0 ∷ 0 ∷ 0 ∷ 80 ∷ 100 ∷ 0 ∷ 20 ∷ 1 ∷ 23 ∷ 40 ∷ 101 ∷ 126 ∷ 90 ∷ 0 ∷ 26 ∷ 106 ∷ 61 ∷ 23 ∷ 45 ∷ 117 ∷ 50 ∷ []

-- end of call to seven, BQ, 0 6 51, the caller's number
abbrev pub over_seven_caller411 : List ℕ
over_seven_caller411 = 123 ∷ 20 ∷ 0 ∷ 0 ∷ 0 ∷ 70 ∷ 100 ∷ 0 ∷ 20 ∷ 1 ∷ 23 ∷ 40 ∷ 105 ∷ 126 ∷ 0 ∷ 6 ∷ 51 ∷ 106 ∷ 61 ∷ 23 ∷ 45 ∷ 122 ∷ 82 ∷ []

-- end of call to seven, 127, 0 6 51, the caller's number
abbrev pub over_seven_caller_by_coast411 : List ℕ
over_seven_caller_by_coast411 =
    123 ∷ 20 ∷ 0 ∷ 0 ∷ 0 ∷ 70 ∷ 100 ∷ 0 ∷ 20 ∷ 1 ∷ 23 ∷ 40 ∷ 105 ∷ 126 ∷ 0 ∷ 6 ∷ 51 ∷ 106 ∷ 61 ∷ 23 ∷ 45 ∷ 127 ∷ 87 ∷ []

-- end of call to seven, 127, 0 0 15, the caller's number
abbrev pub over_seven_caller_by_coast15 : List ℕ
over_seven_caller_by_coast15 =
    123 ∷ 20 ∷ 0 ∷ 0 ∷ 0 ∷ 70 ∷ 100 ∷ 0 ∷ 20 ∷ 1 ∷ 23 ∷ 40 ∷ 105 ∷ 126 ∷ 0 ∷ 0 ∷ 15 ∷ 106 ∷ 61 ∷ 23 ∷ 45 ∷ 127 ∷ 109 ∷ []

-- 104/109 to eight
abbrev pub unable109_eight : List ℕ
unable109_eight =
    123 ∷ 20 ∷ 0 ∷ 0 ∷ 0 ∷ 80 ∷ 100 ∷ 0 ∷ 20 ∷ 1 ∷ 23 ∷ 40 ∷ 104 ∷ 109 ∷ 126 ∷ 126 ∷ 126 ∷ 105 ∷ 5 ∷ 55 ∷ 12 ∷ 34 ∷ 122 ∷ 5 ∷ []

-- ── the sequences sent once the last number has been given (02, no. 4) ───────

-- 104/107 to seven
abbrev pub unable107_seven : List ℕ
unable107_seven =
    123 ∷ 20 ∷ 0 ∷ 0 ∷ 0 ∷ 70 ∷ 100 ∷ 0 ∷ 20 ∷ 1 ∷ 23 ∷ 40 ∷ 104 ∷ 107 ∷ 126 ∷ 126 ∷ 126 ∷ 105 ∷ 5 ∷ 55 ∷ 12 ∷ 34 ∷ 122 ∷ 21 ∷ []

-- 104/107 to eight
abbrev pub unable107_eight : List ℕ
unable107_eight =
    123 ∷ 20 ∷ 0 ∷ 0 ∷ 0 ∷ 80 ∷ 100 ∷ 0 ∷ 20 ∷ 1 ∷ 23 ∷ 40 ∷ 104 ∷ 107 ∷ 126 ∷ 126 ∷ 126 ∷ 105 ∷ 5 ∷ 55 ∷ 12 ∷ 34 ∷ 122 ∷ 3 ∷ []

-- 104/107 to seven, with the number 42
abbrev pub unable107_seven_of42 : List ℕ
unable107_seven_of42 = 123 ∷ 20 ∷ 0 ∷ 0 ∷ 0 ∷ 70 ∷ 100 ∷ 0 ∷ 20 ∷ 1 ∷ 23 ∷ 40 ∷ 104 ∷ 107 ∷ 126 ∷ 126 ∷ 126 ∷ 106 ∷ 42 ∷ 122 ∷ 32 ∷ []
