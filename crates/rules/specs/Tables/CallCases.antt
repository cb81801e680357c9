-- A case for each other event, and for ticks: what the last event of a short script prints.
use Rattle.std.specs.Prelude.{List, [], ◌∷◌}
use Rattle.sequence.specs.Reading.{meaning_read}
use Rattle.rules.specs.Rules.Words.{simplex, duplex, carrier_on, dial}
use Rattle.rules.specs.Rules.Actions.{does, charge, charge_of}
use Rattle.rules.specs.Rules.Bytes.{payload_of, block_of}
use Rattle.rules.specs.Tables.Runs.{station, seven, eight, usual, calls, works, ends, ticks}
use Rattle.rules.specs.Tables.Runs.{says_on, dials_out, picks_up, hangs, regains, loses, reserves, restores}
use Rattle.rules.specs.Tables.Cases.{Row}
use Rattle.rules.specs.Tables.Phases.{waiting_with}
use Rattle.rules.specs.Tables.Scripts.{gives, ninety, field_told, charges, waits, over_seven_by_coast15}
use Rattle.rules.specs.Tables.Scripts.{ring_back_eight26, unable103_seven, unable103_eight, over_seven411, over_seven}
use Rattle.rules.specs.Tables.Scripts.{over_seven_by_coast411, over_seven_by_coast, over_seven_by_coast0, ring_back_seven26}

-- ── off-hook and carrier ──────────────────────────────────────────────────────

-- off-hook while dialling: that wait ends, a carrier wait runs on
abbrev pub picks_up_answers : Row
picks_up_answers = record {
  computed = gives 1 (calls 100 seven simplex ∷ works 200 0 seven ∷ loses 300 0 ∷ picks_up 310 0 ∷ []);
  expected = (0 ∷ 310 ∷ 0 ∷ 751 ∷ []) ∷ [];
}

-- a second off-hook: ignored
abbrev pub picks_up_second : Row
picks_up_second = record {
  computed = gives 1 (calls 100 seven duplex ∷ works 200 0 seven ∷ picks_up 300 0 ∷ picks_up 310 0 ∷ []);
  expected = (1 ∷ 310 ∷ 0 ∷ []) ∷ [];
}

-- a second carrier down does not restart the wait, and answers 0
abbrev pub down_second : Row
down_second = record {
  computed = gives 1 (calls 100 seven duplex ∷ works 200 0 seven ∷ loses 300 0 ∷ loses 325 0 ∷ []);
  expected = (0 ∷ 325 ∷ 0 ∷ 351 ∷ []) ∷ [];
}

-- carrier up ends it
abbrev pub up_ends : Row
up_ends = record {
  computed = gives 1 (calls 100 seven duplex ∷ works 200 0 seven ∷ loses 300 0 ∷ regains 325 0 ∷ []);
  expected = (0 ∷ 325 ∷ 0 ∷ 801 ∷ []) ∷ [];
}

-- carrier up where none was awaited answers 0
abbrev pub up_unneeded : Row
up_unneeded = record {
  computed = gives 1 (calls 100 seven duplex ∷ works 200 0 seven ∷ regains 300 0 ∷ []);
  expected = (0 ∷ 300 ∷ 0 ∷ 801 ∷ []) ∷ [];
}

-- a carrier event in another phase: ignored
abbrev pub carrier_elsewhere : Row
carrier_elsewhere = record {
  computed = gives 1 (calls 100 seven duplex ∷ loses 110 0 ∷ []);
  expected = (1 ∷ 110 ∷ 0 ∷ 261 ∷ []) ∷ [];
}

-- ── dialling ended (02, no. 1) ────────────────────────────────────────────────

-- while dialling: a new wait of 600 begins
abbrev pub dialling_ended_dialling : Row
dialling_ended_dialling = record {
  computed = gives 1 (calls 100 seven duplex ∷ works 200 0 seven ∷ dials_out 700 0 ∷ []);
  expected = (0 ∷ 700 ∷ 0 ∷ 1301 ∷ []) ∷ [];
}

-- a carrier wait runs on
abbrev pub dialling_ended_carrier : Row
dialling_ended_carrier = record {
  computed = gives 1 (calls 100 seven simplex ∷ works 200 0 seven ∷ loses 300 0 ∷ dials_out 310 0 ∷ []);
  expected = (0 ∷ 310 ∷ 0 ∷ 751 ∷ []) ∷ [];
}

-- a second one in a call: ignored, the wait unchanged
abbrev pub dialling_ended_twice : Row
dialling_ended_twice = record {
  computed = gives 1 (calls 100 seven duplex ∷ works 200 0 seven ∷ dials_out 300 0 ∷ dials_out 310 0 ∷ []);
  expected = (1 ∷ 310 ∷ 0 ∷ 901 ∷ []) ∷ [];
}

-- in the next call on that slot it is the first again
abbrev pub dialling_ended_next_call : Row
dialling_ended_next_call = record {
  computed = gives 1 (calls 100 seven duplex ∷ works 200 0 seven ∷ dials_out 300 0 ∷ hangs 310 0 ∷ calls 320 seven duplex
      ∷ works 330 0 seven ∷ dials_out 340 0 ∷ []);
  expected = (0 ∷ 340 ∷ 0 ∷ 941 ∷ []) ∷ [];
}

-- after the answer: ignored
abbrev pub dialling_ended_answered : Row
dialling_ended_answered = record {
  computed = gives 1 (calls 100 seven duplex ∷ works 200 0 seven ∷ picks_up 300 0 ∷ dials_out 310 0 ∷ []);
  expected = (1 ∷ 310 ∷ 0 ∷ []) ∷ [];
}

-- a second one after the answer: ignored
abbrev pub dialling_ended_both_sides : Row
dialling_ended_both_sides = record {
  computed = gives 1 (calls 100 seven duplex ∷ works 200 0 seven ∷ dials_out 250 0 ∷ picks_up 300 0 ∷ dials_out 310 0 ∷ []);
  expected = (1 ∷ 310 ∷ 0 ∷ []) ∷ [];
}

-- on an offered slot: ignored
abbrev pub dialling_ended_elsewhere : Row
dialling_ended_elsewhere = record {
  computed = gives 1 (calls 100 seven duplex ∷ dials_out 110 0 ∷ []);
  expected = (1 ∷ 110 ∷ 0 ∷ 261 ∷ []) ∷ [];
}

-- in the last tenth of the 600 for dialling itself
abbrev pub dialling_ended_late : Row
dialling_ended_late = record {
  computed = gives 1 (calls 100 seven duplex ∷ works 200 0 seven ∷ dials_out 800 0 ∷ []);
  expected = (0 ∷ 800 ∷ 0 ∷ 1401 ∷ []) ∷ [];
}

-- one tenth later that wait is due
abbrev pub dialling_ended_too_late : Row
dialling_ended_too_late = record {
  computed = gives 1 (calls 100 seven duplex ∷ works 200 0 seven ∷ dials_out 801 0 ∷ []);
  expected = (33 ∷ 200 ∷ 0 ∷ 801 ∷ []) ∷ [];
}

-- off-hook in the last tenth of the new wait, long after the working call: answered, and a carrier wait runs on
abbrev pub picks_up_dialled_out : Row
picks_up_dialled_out = record {
  computed = gives 1 (calls 100 seven simplex ∷ works 200 0 seven ∷ dials_out 700 0 ∷ loses 1000 0 ∷ picks_up 1300 0 ∷ []);
  expected = (0 ∷ 1300 ∷ 0 ∷ 1451 ∷ []) ∷ [];
}

-- carrier down and up in it: the reply is due as before
abbrev pub up_dialled_out : Row
up_dialled_out = record {
  computed = gives 1 (calls 100 seven duplex ∷ works 200 0 seven ∷ dials_out 700 0 ∷ loses 1000 0 ∷ regains 1010 0 ∷ []);
  expected = (0 ∷ 1010 ∷ 0 ∷ 1301 ∷ []) ∷ [];
}

-- no reply in it: as no reply before, 126s and no charge, at the due time
abbrev pub no_reply_dialled_out : Row
no_reply_dialled_out = record {
  computed = gives 1 (calls 100 seven duplex ∷ works 200 0 seven ∷ dials_out 700 0 ∷ ticks 1301 ∷ []);
  expected = (0 ∷ 1301 ∷ 3 ∷ []) ∷ (6 ∷ 0 ∷ []) ∷ (4 ∷ 0 ∷ over_seven_by_coast) ∷ (2 ∷ 0 ∷ []) ∷ [];
}

-- one tenth before it nothing is due
abbrev pub tick_dialled_out : Row
tick_dialled_out = record {
  computed = gives 1 (calls 100 seven duplex ∷ works 200 0 seven ∷ dials_out 700 0 ∷ ticks 1300 ∷ []);
  expected = (0 ∷ 1300 ∷ 0 ∷ 1301 ∷ []) ∷ [];
}

-- its ship's end: no charge, 126s, and the hold
abbrev pub ship_end_dialled_out : Row
ship_end_dialled_out = record {
  computed = gives 1 (calls 100 seven duplex ∷ works 200 0 seven ∷ dials_out 300 0 ∷ ends 310 0 seven ∷ []);
  expected = (0 ∷ 310 ∷ 3 ∷ 351 ∷ []) ∷ (6 ∷ 0 ∷ []) ∷ (4 ∷ 0 ∷ over_seven) ∷ (2 ∷ 0 ∷ []) ∷ [];
}

-- ── ship's end of call ────────────────────────────────────────────────────────

-- charge, line released, answer with BQ, carrier off, hold for 40
abbrev pub ship_end_answered : Row
ship_end_answered = record {
  computed = gives 1 (calls 100 seven duplex ∷ works 200 0 seven ∷ picks_up 300 0 ∷ ends 4410 0 seven ∷ []);
  expected = (0 ∷ 4410 ∷ 4 ∷ 4451 ∷ []) ∷ (charges 0 seven 300 4410 411 1) ∷ (6 ∷ 0 ∷ []) ∷ (4 ∷ 0 ∷ over_seven411) ∷ (2 ∷ 0 ∷ []) ∷ [];
}

-- while dialling: no charge, and 126s
abbrev pub ship_end_unanswered : Row
ship_end_unanswered = record {
  computed = gives 1 (calls 100 seven duplex ∷ works 200 0 seven ∷ ends 300 0 seven ∷ []);
  expected = (0 ∷ 300 ∷ 3 ∷ 341 ∷ []) ∷ (6 ∷ 0 ∷ []) ∷ (4 ∷ 0 ∷ over_seven) ∷ (2 ∷ 0 ∷ []) ∷ [];
}

-- from another ship: ignored
abbrev pub ship_end_stranger : Row
ship_end_stranger = record {
  computed = gives 1 (calls 100 seven duplex ∷ works 200 0 seven ∷ ends 300 0 eight ∷ []);
  expected = (1 ∷ 300 ∷ 0 ∷ 801 ∷ []) ∷ [];
}

-- 90 0 26 in an end of call: ninety hours and 26 seconds, no channel; and with a field it is no end of a ship's call
abbrev pub ninety_hours : Row
ninety_hours = record {
  computed = field_told (meaning_read ninety).field ∷ gives 1 (calls 100 seven duplex ∷ works 200 0 seven ∷ says_on 300 0 ninety ∷ []);
  expected = (90 ∷ 0 ∷ 26 ∷ []) ∷ (1 ∷ 300 ∷ 0 ∷ 801 ∷ []) ∷ [];
}

-- once more in the hold: carrier on, the same answer, carrier off; the wait unchanged
abbrev pub hold_repeats : Row
hold_repeats = record {
  computed = gives 1 (calls 100 seven duplex ∷ works 200 0 seven ∷ ends 300 0 seven ∷ ends 330 0 seven ∷ []);
  expected = (0 ∷ 330 ∷ 3 ∷ 341 ∷ []) ∷ (1 ∷ 0 ∷ []) ∷ (4 ∷ 0 ∷ over_seven) ∷ (2 ∷ 0 ∷ []) ∷ [];
}

-- in the hold from another ship: ignored
abbrev pub hold_stranger : Row
hold_stranger = record {
  computed = gives 1 (calls 100 seven duplex ∷ works 200 0 seven ∷ ends 300 0 seven ∷ ends 330 0 eight ∷ []);
  expected = (1 ∷ 330 ∷ 0 ∷ 341 ∷ []) ∷ [];
}

-- the held slot is not given to others: they wait
abbrev pub hold_not_given : Row
hold_not_given = record {
  computed = gives 1 (calls 100 seven duplex ∷ works 200 0 seven ∷ ends 300 0 seven ∷ calls 310 eight duplex ∷ []);
  expected = (0 ∷ 310 ∷ 1 ∷ 341 ∷ []) ∷ (3 ∷ 255 ∷ unable103_eight) ∷ [];
}

-- then it is freed
abbrev pub hold_then_freed : Row
hold_then_freed = record {
  computed = gives 1 (calls 100 seven duplex ∷ works 200 0 seven ∷ ends 300 0 seven ∷ calls 310 eight duplex ∷ ticks 341 ∷ []);
  expected = (0 ∷ 341 ∷ 2 ∷ 392 ∷ []) ∷ (1 ∷ 0 ∷ []) ∷ (3 ∷ 0 ∷ ring_back_eight26) ∷ [];
}

-- ── coast's end ───────────────────────────────────────────────────────────────

-- on-hook: charge, line released, 127 with the duration, carrier off, slot freed at once
abbrev pub hangs_answered : Row
hangs_answered = record {
  computed = gives 1 (calls 100 seven duplex ∷ works 200 0 seven ∷ picks_up 300 0 ∷ hangs 4410 0 ∷ []);
  expected = (0 ∷ 4410 ∷ 4 ∷ []) ∷ (charges 0 seven 300 4410 411 1) ∷ (6 ∷ 0 ∷ []) ∷ (4 ∷ 0 ∷ over_seven_by_coast411) ∷ (2 ∷ 0 ∷ []) ∷ [];
}

-- on-hook while dialling: no charge, 126s
abbrev pub hangs_dialling : Row
hangs_dialling = record {
  computed = gives 1 (calls 100 seven duplex ∷ works 200 0 seven ∷ hangs 300 0 ∷ []);
  expected = (0 ∷ 300 ∷ 3 ∷ []) ∷ (6 ∷ 0 ∷ []) ∷ (4 ∷ 0 ∷ over_seven_by_coast) ∷ (2 ∷ 0 ∷ []) ∷ [];
}

-- no reply and no end of dialling within 600: the same, at the due time
abbrev pub no_reply_due : Row
no_reply_due = record {
  computed = gives 1 (calls 100 seven duplex ∷ works 200 0 seven ∷ ticks 9999 ∷ []);
  expected = (0 ∷ 801 ∷ 3 ∷ []) ∷ (6 ∷ 0 ∷ []) ∷ (4 ∷ 0 ∷ over_seven_by_coast) ∷ (2 ∷ 0 ∷ []) ∷ [];
}

-- carrier loss: charged to the due time, however late the tick
abbrev pub carrier_loss_due : Row
carrier_loss_due = record {
  computed = gives 1 (calls 100 seven duplex ∷ works 200 0 seven ∷ picks_up 300 0 ∷ loses 400 0 ∷ ticks 9999 ∷ []);
  expected = (0 ∷ 451 ∷ 4 ∷ []) ∷ (charges 0 seven 300 451 15 1) ∷ (6 ∷ 0 ∷ []) ∷ (4 ∷ 0 ∷ over_seven_by_coast15) ∷ (2 ∷ 0 ∷ []) ∷ [];
}

-- a call answered for less than a second is charged 0 seconds, and its field is 0 0 0
abbrev pub second_under_one : Row
second_under_one = record {
  computed = gives 1 (calls 100 seven duplex ∷ works 200 0 seven ∷ picks_up 300 0 ∷ hangs 309 0 ∷ []);
  expected = (0 ∷ 309 ∷ 4 ∷ []) ∷ (charges 0 seven 300 309 0 1) ∷ (6 ∷ 0 ∷ []) ∷ (4 ∷ 0 ∷ over_seven_by_coast0) ∷ (2 ∷ 0 ∷ []) ∷ [];
}

-- ── operator ──────────────────────────────────────────────────────────────────

-- a free slot is taken: done, and no action
abbrev pub operator_took : Row
operator_took = record {
  computed = gives 1 (reserves 50 0 ∷ []);
  expected = (0 ∷ 50 ∷ 0 ∷ []) ∷ [];
}

-- a free slot is taken, and a request then finds no slot free
abbrev pub operator_reserves : Row
operator_reserves = record {
  computed = gives 1 (reserves 50 0 ∷ calls 100 seven duplex ∷ []);
  expected = (0 ∷ 100 ∷ 1 ∷ 9101 ∷ []) ∷ (3 ∷ 255 ∷ unable103_seven) ∷ [];
}

-- it is given back, freed: the oldest waiting ship is rung back
abbrev pub operator_restores : Row
operator_restores = record {
  computed = gives 1 (reserves 50 0 ∷ calls 100 seven duplex ∷ restores 200 0 ∷ []);
  expected = (0 ∷ 200 ∷ 2 ∷ 251 ∷ []) ∷ (1 ∷ 0 ∷ []) ∷ (3 ∷ 0 ∷ ring_back_seven26) ∷ [];
}

-- ── ticks ─────────────────────────────────────────────────────────────────────

-- a tick with nothing due: the clock becomes its time
abbrev pub idle_ticks : Row
idle_ticks = record {
  computed = gives 1 (calls 100 seven duplex ∷ ticks 200 ∷ []);
  expected = (0 ∷ 200 ∷ 0 ∷ 261 ∷ []) ∷ [];
}

-- one wait a tick: of two due, the queue entry before the slot
abbrev pub one_wait_due : Row
one_wait_due = record {
  computed = gives 2 (calls 100 seven duplex ∷ reserves 110 1 ∷ calls 150 eight duplex
      ∷ works 200 0 seven ∷ picks_up 300 0 ∷ loses 9100 0 ∷ ticks 9999 ∷ []);
  expected = (0 ∷ 9151 ∷ 0 ∷ 9151 ∷ []) ∷ [];
}

-- of two queue entries the one due first, here the younger
abbrev pub younger_due : Row
younger_due = record {
  computed = waiting_with (waits seven 3000 ∷ waits eight 2000 ∷ []) (ticks 2500);
  expected = (0 ∷ 2000 ∷ 0 ∷ 3000 ∷ []) ∷ [];
}

-- in one slot carrier loss before no reply: both due at 801, one end
abbrev pub loss_before_reply : Row
loss_before_reply = record {
  computed = gives 1 (calls 100 seven duplex ∷ works 200 0 seven ∷ loses 750 0 ∷ ticks 801 ∷ []);
  expected = (0 ∷ 801 ∷ 3 ∷ []) ∷ (6 ∷ 0 ∷ []) ∷ (4 ∷ 0 ∷ over_seven_by_coast) ∷ (2 ∷ 0 ∷ []) ∷ [];
}

-- ── actions handed out ────────────────────────────────────────────────────────

-- a block: kind, slot, payload length, 0, payload, zeros
abbrev pub block_shown : Row
block_shown = record {
  computed = block_of (station 1) (does (carrier_on 2)) ∷ block_of (station 1) (does (dial 3 usual)) ∷ [];
  expected = (1 ∷ 2 ∷ 0 ∷ 0
      ∷ 0 ∷ 0 ∷ 0 ∷ 0 ∷ 0 ∷ 0 ∷ 0 ∷ 0 ∷ 0 ∷ 0 ∷ 0 ∷ 0 ∷ 0 ∷ 0 ∷ 0 ∷ 0 ∷ 0 ∷ 0 ∷ 0 ∷ 0 ∷ 0 ∷ 0 ∷ 0 ∷ 0 ∷ 0 ∷ 0 ∷ 0 ∷ 0
      ∷ 0 ∷ 0 ∷ 0 ∷ 0 ∷ 0 ∷ 0 ∷ 0 ∷ 0 ∷ [])
      ∷ (5 ∷ 3 ∷ 7 ∷ 0 ∷ 5 ∷ 5 ∷ 5 ∷ 1 ∷ 2 ∷ 3 ∷ 4
      ∷ 0 ∷ 0 ∷ 0 ∷ 0 ∷ 0 ∷ 0 ∷ 0 ∷ 0 ∷ 0 ∷ 0 ∷ 0 ∷ 0 ∷ 0 ∷ 0 ∷ 0 ∷ 0 ∷ 0 ∷ 0 ∷ 0 ∷ 0 ∷ 0 ∷ 0 ∷ 0 ∷ 0 ∷ 0 ∷ 0 ∷ 0 ∷ 0
      ∷ 0 ∷ []) ∷ [];
}

-- four bytes each, low first
abbrev pub four_shown : Row
four_shown = record {
  computed = payload_of (station 1) (charge (charge_of 1 67305985 65536 16777216 4294967295 2309737967)) ∷ [];
  expected = (1 ∷ 2 ∷ 3 ∷ 4 ∷ 0 ∷ 0 ∷ 1 ∷ 0 ∷ 0 ∷ 0 ∷ 0 ∷ 1 ∷ 255 ∷ 255 ∷ 255 ∷ 255 ∷ 239 ∷ 205 ∷ 171 ∷ 137 ∷ []) ∷ [];
}

-- ── all of them ──────────────────────────────────────────────────────────────

abbrev pub call_cases : List Row
call_cases =
    picks_up_answers ∷ picks_up_second ∷ down_second ∷ up_ends ∷ up_unneeded ∷ carrier_elsewhere ∷ dialling_ended_dialling
    ∷ dialling_ended_carrier ∷ dialling_ended_twice ∷ dialling_ended_next_call ∷ dialling_ended_answered ∷ dialling_ended_both_sides
    ∷ dialling_ended_elsewhere ∷ dialling_ended_late ∷ dialling_ended_too_late ∷ picks_up_dialled_out ∷ up_dialled_out
    ∷ no_reply_dialled_out ∷ tick_dialled_out ∷ ship_end_dialled_out ∷ ship_end_answered ∷ ship_end_unanswered ∷ ship_end_stranger
    ∷ ninety_hours ∷ hold_repeats ∷ hold_stranger ∷ hold_not_given ∷ hold_then_freed ∷ hangs_answered ∷ hangs_dialling ∷ no_reply_due
    ∷ carrier_loss_due ∷ second_under_one ∷ operator_took ∷ operator_reserves ∷ operator_restores ∷ idle_ticks ∷ one_wait_due
    ∷ younger_due ∷ loss_before_reply ∷ block_shown ∷ four_shown ∷ []
