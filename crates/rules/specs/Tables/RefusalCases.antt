-- A case for each refusal, and for their order.
use Rattle.std.specs.Prelude.{List, [], ◌∷◌, take, replicate}
use Rattle.rules.specs.Rules.Places.{mod_at}
use Rattle.rules.specs.Rules.Words.{duplex}
use Rattle.rules.specs.Tables.Runs.{seven, eight, caller, calls, accepts, works, ends, shore_calls, shore_asks, ticks, says, says_on}
use Rattle.rules.specs.Tables.Runs.{dials_out, picks_up, reserves, restores, ticks_in}
use Rattle.rules.specs.Tables.Cases.{Row}
use Rattle.rules.specs.Tables.Scripts.{gives, call7, rechecked}

-- ── refusals, each exactly then ───────────────────────────────────────────────

-- 11: a length of 20
abbrev pub refused11 : Row
refused11 = record {
  computed = gives 1 (says 100 (take 20 call7) ∷ []);
  expected = (11 ∷ 0 ∷ 0 ∷ []) ∷ [];
}

-- 12: a symbol over 127
abbrev pub refused12 : Row
refused12 = record {
  computed = gives 1 (says 100 (mod_at (λ x. 128) 3 call7) ∷ []);
  expected = (12 ∷ 0 ∷ 0 ∷ []) ∷ [];
}

-- 13: the check differs
abbrev pub refused13 : Row
refused13 = record {
  computed = gives 1 (says 100 (mod_at (λ x. 0) 23 call7) ∷ []);
  expected = (13 ∷ 0 ∷ 0 ∷ []) ∷ [];
}

-- 14: format; here 112, distress, which is not handled
abbrev pub refused14 : Row
refused14 = record {
  computed = gives 1 (says 100 (rechecked (mod_at (λ x. 112) 0 call7)) ∷ []);
  expected = (14 ∷ 0 ∷ 0 ∷ []) ∷ [];
}

-- 15: identities; here two coast stations
abbrev pub refused15 : Row
refused15 = record {
  computed = gives 1 (says 100 (rechecked (mod_at (λ x. 0) 7 call7)) ∷ []);
  expected = (15 ∷ 0 ∷ 0 ∷ []) ∷ [];
}

-- 16: category; here 108, safety
abbrev pub refused16 : Row
refused16 = record {
  computed = gives 1 (says 100 (rechecked (mod_at (λ x. 108) 6 call7)) ∷ []);
  expected = (16 ∷ 0 ∷ 0 ∷ []) ∷ [];
}

-- 17: telecommands; here 110
abbrev pub refused17 : Row
refused17 = record {
  computed = gives 1 (says 100 (rechecked (mod_at (λ x. 110) 12 call7)) ∷ []);
  expected = (17 ∷ 0 ∷ 0 ∷ []) ∷ [];
}

-- 18: channel field; here one 126 missing
abbrev pub refused18 : Row
refused18 = record {
  computed = gives 1 (says 100 (rechecked (mod_at (λ x. 90) 14 call7)) ∷ []);
  expected = (18 ∷ 0 ∷ 0 ∷ []) ∷ [];
}

-- 19: number; here neither odd nor even
abbrev pub refused19 : Row
refused19 = record {
  computed = gives 1 (says 100 (rechecked (mod_at (λ x. 107) 17 call7)) ∷ []);
  expected = (19 ∷ 0 ∷ 0 ∷ []) ∷ [];
}

-- 20: end of sequence; here 118
abbrev pub refused20 : Row
refused20 = record {
  computed = gives 1 (says 100 (rechecked (mod_at (λ x. 118) 22 call7)) ∷ []);
  expected = (20 ∷ 0 ∷ 0 ∷ []) ∷ [];
}

-- 30: a room of 319 bytes
abbrev pub refused30 : Row
refused30 = record {
  computed = gives 1 (ticks_in 319 100 ∷ []);
  expected = (30 ∷ 0 ∷ 0 ∷ []) ∷ [];
}

-- and 320 are enough
abbrev pub accepted320 : Row
accepted320 = record {
  computed = gives 1 (ticks_in 320 100 ∷ []);
  expected = (0 ∷ 100 ∷ 0 ∷ []) ∷ [];
}

-- 31: a time over the limit
abbrev pub refused31 : Row
refused31 = record {
  computed = gives 1 (ticks 4000000001 ∷ []);
  expected = (31 ∷ 0 ∷ 0 ∷ []) ∷ [];
}

-- and the limit itself is within it
abbrev pub accepted_limit : Row
accepted_limit = record {
  computed = gives 1 (ticks 4000000000 ∷ []);
  expected = (0 ∷ 4000000000 ∷ 0 ∷ []) ∷ [];
}

-- 32: before the clock
abbrev pub refused32 : Row
refused32 = record {
  computed = gives 1 (ticks 100 ∷ ticks 99 ∷ []);
  expected = (32 ∷ 100 ∷ 0 ∷ []) ∷ [];
}

-- 33: not a tick, and a wait is due at its time
abbrev pub refused33 : Row
refused33 = record {
  computed = gives 1 (calls 100 seven duplex ∷ reserves 261 0 ∷ []);
  expected = (33 ∷ 100 ∷ 0 ∷ 261 ∷ []) ∷ [];
}

-- 34: no such slot
abbrev pub refused34 : Row
refused34 = record {
  computed = gives 1 (reserves 100 1 ∷ []);
  expected = (34 ∷ 0 ∷ 0 ∷ []) ∷ [];
}

-- 35: the operator takes what is not free
abbrev pub refused35 : Row
refused35 = record {
  computed = gives 1 (reserves 100 0 ∷ reserves 110 0 ∷ []);
  expected = (35 ∷ 100 ∷ 0 ∷ []) ∷ [];
}

-- 35: or gives back what is not taken
abbrev pub refused35_back : Row
refused35_back = record {
  computed = gives 1 (restores 100 0 ∷ []);
  expected = (35 ∷ 0 ∷ 0 ∷ []) ∷ [];
}

-- ── of a call from ashore (02, no. 2) ─────────────────────────────────────────

-- 15: no ship's identity
abbrev pub refused15_called : Row
refused15_called = record {
  computed = gives 1 (shore_asks caller 100 199999999 101 ∷ []);
  expected = (15 ∷ 0 ∷ 0 ∷ []) ∷ [];
}

-- 17: neither 100 nor 101; here data
abbrev pub refused17_called : Row
refused17_called = record {
  computed = gives 1 (shore_asks caller 100 seven 106 ∷ []);
  expected = (17 ∷ 0 ∷ 0 ∷ []) ∷ [];
}

-- 19: no digit
abbrev pub refused19_none : Row
refused19_none = record {
  computed = gives 1 (shore_asks [] 100 seven 101 ∷ []);
  expected = (19 ∷ 0 ∷ 0 ∷ []) ∷ [];
}

-- 19: seventeen
abbrev pub refused19_many : Row
refused19_many = record {
  computed = gives 1 (shore_asks (replicate 17 9) 100 seven 101 ∷ []);
  expected = (19 ∷ 0 ∷ 0 ∷ []) ∷ [];
}

-- 19: a digit over 9
abbrev pub refused19_digit : Row
refused19_digit = record {
  computed = gives 1 (shore_asks (6 ∷ 10 ∷ []) 100 seven 101 ∷ []);
  expected = (19 ∷ 0 ∷ 0 ∷ []) ∷ [];
}

-- 38: the ship is offered a slot; another slot is free
abbrev pub refused38_offered : Row
refused38_offered = record {
  computed = gives 2 (calls 100 seven duplex ∷ shore_calls 110 seven duplex ∷ []);
  expected = (38 ∷ 100 ∷ 0 ∷ 261 ∷ []) ∷ [];
}

-- 38: it is rung back
abbrev pub refused38_rung_back : Row
refused38_rung_back = record {
  computed = gives 2 (reserves 50 0 ∷ reserves 51 1 ∷ calls 100 seven duplex ∷ restores 200 1 ∷ restores 210 0
      ∷ shore_calls 220 seven duplex ∷ []);
  expected = (38 ∷ 210 ∷ 0 ∷ 251 ∷ []) ∷ [];
}

-- 38: and has answered
abbrev pub refused38_acknowledged : Row
refused38_acknowledged = record {
  computed = gives 2 (reserves 50 0 ∷ reserves 51 1 ∷ calls 100 seven duplex ∷ restores 200 1 ∷ restores 210 0
      ∷ accepts 220 27 seven ∷ shore_calls 230 seven duplex ∷ []);
  expected = (38 ∷ 220 ∷ 0 ∷ 381 ∷ []) ∷ [];
}

-- 38: it waits
abbrev pub refused38_waiting : Row
refused38_waiting = record {
  computed = gives 1 (reserves 50 0 ∷ calls 100 seven duplex ∷ shore_calls 110 seven duplex ∷ []);
  expected = (38 ∷ 100 ∷ 0 ∷ 9101 ∷ []) ∷ [];
}

-- 38: it is being dialled for
abbrev pub refused38_dialling : Row
refused38_dialling = record {
  computed = gives 2 (calls 100 seven duplex ∷ works 200 0 seven ∷ shore_calls 210 seven duplex ∷ []);
  expected = (38 ∷ 200 ∷ 0 ∷ 801 ∷ []) ∷ [];
}

-- 38: the exchange has dialled
abbrev pub refused38_dialled_out : Row
refused38_dialled_out = record {
  computed = gives 2 (calls 100 seven duplex ∷ works 200 0 seven ∷ dials_out 300 0 ∷ shore_calls 310 seven duplex ∷ []);
  expected = (38 ∷ 300 ∷ 0 ∷ 901 ∷ []) ∷ [];
}

-- 38: it talks
abbrev pub refused38_answered : Row
refused38_answered = record {
  computed = gives 2 (calls 100 seven duplex ∷ works 200 0 seven ∷ picks_up 300 0 ∷ shore_calls 310 seven duplex ∷ []);
  expected = (38 ∷ 300 ∷ 0 ∷ []) ∷ [];
}

-- 38: it is in its hold
abbrev pub refused38_held : Row
refused38_held = record {
  computed = gives 2 (calls 100 seven duplex ∷ works 200 0 seven ∷ ends 300 0 seven ∷ shore_calls 340 seven duplex ∷ []);
  expected = (38 ∷ 300 ∷ 0 ∷ 341 ∷ []) ∷ [];
}

-- 38: it is being called
abbrev pub refused38_called : Row
refused38_called = record {
  computed = gives 2 (shore_calls 100 seven duplex ∷ shore_calls 110 seven duplex ∷ []);
  expected = (38 ∷ 100 ∷ 0 ∷ 151 ∷ []) ∷ [];
}

-- 38: once more
abbrev pub refused38_called_again : Row
refused38_called_again = record {
  computed = gives 2 (shore_calls 100 seven duplex ∷ ticks 151 ∷ shore_calls 160 seven duplex ∷ []);
  expected = (38 ∷ 151 ∷ 0 ∷ 202 ∷ []) ∷ [];
}

-- 38: it rings
abbrev pub refused38_ringing : Row
refused38_ringing = record {
  computed = gives 2 (shore_calls 100 seven duplex ∷ accepts 130 26 seven ∷ shore_calls 140 seven duplex ∷ []);
  expected = (38 ∷ 130 ∷ 0 ∷ 731 ∷ []) ∷ [];
}

-- 37: no slot is free
abbrev pub refused37 : Row
refused37 = record {
  computed = gives 2 (reserves 50 0 ∷ calls 100 eight duplex ∷ shore_calls 110 seven duplex ∷ []);
  expected = (37 ∷ 100 ∷ 0 ∷ 261 ∷ []) ∷ [];
}

-- ── and in this order ─────────────────────────────────────────────────────────

-- 30 before 31
abbrev pub order30 : Row
order30 = record {
  computed = gives 1 (ticks_in 0 4000000001 ∷ []);
  expected = (30 ∷ 0 ∷ 0 ∷ []) ∷ [];
}

-- 33 before 34
abbrev pub order33 : Row
order33 = record {
  computed = gives 1 (calls 100 seven duplex ∷ reserves 300 5 ∷ []);
  expected = (33 ∷ 100 ∷ 0 ∷ 261 ∷ []) ∷ [];
}

-- 34 before 11
abbrev pub order34 : Row
order34 = record {
  computed = gives 1 (says_on 100 1 [] ∷ []);
  expected = (34 ∷ 0 ∷ 0 ∷ []) ∷ [];
}

-- 11 before 12
abbrev pub order11 : Row
order11 = record {
  computed = gives 1 (says 100 (255 ∷ []) ∷ []);
  expected = (11 ∷ 0 ∷ 0 ∷ []) ∷ [];
}

-- 32 before 15
abbrev pub order32_called : Row
order32_called = record {
  computed = gives 1 (ticks 100 ∷ shore_asks caller 99 0 101 ∷ []);
  expected = (32 ∷ 100 ∷ 0 ∷ []) ∷ [];
}

-- 33 before 15
abbrev pub order33_called : Row
order33_called = record {
  computed = gives 1 (calls 100 seven duplex ∷ shore_asks caller 261 0 101 ∷ []);
  expected = (33 ∷ 100 ∷ 0 ∷ 261 ∷ []) ∷ [];
}

-- 15 before 17
abbrev pub order15_called : Row
order15_called = record {
  computed = gives 1 (shore_asks caller 100 0 106 ∷ []);
  expected = (15 ∷ 0 ∷ 0 ∷ []) ∷ [];
}

-- 17 before 19
abbrev pub order17_called : Row
order17_called = record {
  computed = gives 1 (shore_asks [] 100 seven 106 ∷ []);
  expected = (17 ∷ 0 ∷ 0 ∷ []) ∷ [];
}

-- 19 before 38
abbrev pub order19_called : Row
order19_called = record {
  computed = gives 1 (calls 100 seven duplex ∷ shore_asks [] 110 seven 101 ∷ []);
  expected = (19 ∷ 100 ∷ 0 ∷ 261 ∷ []) ∷ [];
}

-- 38 before 37
abbrev pub order38_called : Row
order38_called = record {
  computed = gives 1 (calls 100 seven duplex ∷ shore_calls 110 seven duplex ∷ []);
  expected = (38 ∷ 100 ∷ 0 ∷ 261 ∷ []) ∷ [];
}

-- ── all of them ──────────────────────────────────────────────────────────────

abbrev pub refusal_cases : List Row
refusal_cases =
    refused11 ∷ refused12 ∷ refused13 ∷ refused14 ∷ refused15 ∷ refused16 ∷ refused17 ∷ refused18 ∷ refused19
    ∷ refused20 ∷ refused30 ∷ accepted320 ∷ refused31 ∷ accepted_limit ∷ refused32 ∷ refused33 ∷ refused34
    ∷ refused35 ∷ refused35_back ∷ refused15_called ∷ refused17_called ∷ refused19_none ∷ refused19_many ∷ refused19_digit
    ∷ refused38_offered ∷ refused38_rung_back ∷ refused38_acknowledged ∷ refused38_waiting ∷ refused38_dialling
    ∷ refused38_dialled_out ∷ refused38_answered ∷ refused38_held ∷ refused38_called ∷ refused38_called_again ∷ refused38_ringing
    ∷ refused37 ∷ order30 ∷ order33 ∷ order34 ∷ order11 ∷ order32_called ∷ order33_called ∷ order15_called ∷ order17_called
    ∷ order19_called ∷ order38_called ∷ []
