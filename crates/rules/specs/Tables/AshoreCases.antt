-- A case for each sentence of 02's no. 2, calls from ashore: what the last event of a short script prints. For its refusals: RefusalCases.
use Rattle.std.specs.Prelude.{List, [], ◌∷◌}
use Rattle.sequence.specs.declared.Field.TheVariants.{Channel}
use Rattle.rules.specs.Rules.Words.{simplex, duplex, Event}
use Rattle.rules.specs.Tables.Runs.{channel, seven, eight, sends, usual, calls, data_calls, accepts, accepts_in, declines}
use Rattle.rules.specs.Tables.Runs.{shore_calls, shore_asks, says_on, works, ends, ticks, dials_out, picks_up, hangs, regains, loses}
use Rattle.rules.specs.Tables.Runs.{reserves, restores}
use Rattle.rules.specs.Tables.Cases.{Row}
use Rattle.rules.specs.Tables.Scripts.{gives, charges, call_seven26, call_seven26_simplex, call_seven26_of7, call_seven26_longest}
use Rattle.rules.specs.Tables.Scripts.{call_seven27, call_eight26, over_seven_caller411, over_seven_caller_by_coast411}
use Rattle.rules.specs.Tables.Scripts.{over_seven_caller_by_coast15, ack_seven26_simplex, ring_back_eight26, unable109_seven, unable109_eight}

-- a call from ashore at 100; it rings from 130 on; it is answered at 300
abbrev pub called : List Event → List Event
called es = shore_calls 100 seven duplex ∷ es

abbrev pub ringing : List Event → List Event
ringing es = called (accepts 130 26 seven ∷ es)

abbrev pub answered : List Event → List Event
answered es = ringing (regains 300 0 ∷ es)

-- ── the call, its repeat, its drop ────────────────────────────────────────────

-- carrier on, the call with mode and 126, the channel, the caller's number and RQ; its repeat is due in 51
abbrev pub shore_call_sent : Row
shore_call_sent = record {
  computed = gives 1 (called []);
  expected = (0 ∷ 100 ∷ 2 ∷ 151 ∷ []) ∷ (1 ∷ 0 ∷ []) ∷ (3 ∷ 0 ∷ call_seven26) ∷ [];
}

-- in simplex
abbrev pub shore_call_simplex : Row
shore_call_simplex = record {
  computed = gives 1 (shore_calls 100 seven simplex ∷ []);
  expected = (0 ∷ 100 ∷ 2 ∷ 151 ∷ []) ∷ (1 ∷ 0 ∷ []) ∷ (3 ∷ 0 ∷ call_seven26_simplex) ∷ [];
}

-- a number of one digit, and one of sixteen
abbrev pub shore_call_odd : Row
shore_call_odd = record {
  computed = gives 1 (shore_asks (7 ∷ []) 100 seven 101 ∷ []);
  expected = (0 ∷ 100 ∷ 2 ∷ 151 ∷ []) ∷ (1 ∷ 0 ∷ []) ∷ (3 ∷ 0 ∷ call_seven26_of7) ∷ [];
}

abbrev pub shore_call_longest : Row
shore_call_longest = record {
  computed = gives 1
      (shore_asks (9 ∷ 8 ∷ 7 ∷ 6 ∷ 5 ∷ 4 ∷ 3 ∷ 2 ∷ 1 ∷ 0 ∷ 1 ∷ 2 ∷ 3 ∷ 4 ∷ 5 ∷ 6 ∷ []) 100 seven 101 ∷ []);
  expected = (0 ∷ 100 ∷ 2 ∷ 151 ∷ []) ∷ (1 ∷ 0 ∷ []) ∷ (3 ∷ 0 ∷ call_seven26_longest) ∷ [];
}

-- the lowest free slot
abbrev pub shore_call_lowest : Row
shore_call_lowest = record {
  computed = gives 3 (reserves 50 0 ∷ called []);
  expected = (0 ∷ 100 ∷ 2 ∷ 151 ∷ []) ∷ (1 ∷ 1 ∷ []) ∷ (3 ∷ 1 ∷ call_seven27) ∷ [];
}

-- one repeat, which a late tick does not put off
abbrev pub shore_call_again : Row
shore_call_again = record {
  computed = gives 1 (called (ticks 9999 ∷ []));
  expected = (0 ∷ 151 ∷ 1 ∷ 202 ∷ []) ∷ (3 ∷ 0 ∷ call_seven26) ∷ [];
}

-- in its own mode
abbrev pub shore_call_again_simplex : Row
shore_call_again_simplex = record {
  computed = gives 1 (shore_calls 100 seven simplex ∷ ticks 151 ∷ []);
  expected = (0 ∷ 151 ∷ 1 ∷ 202 ∷ []) ∷ (3 ∷ 0 ∷ call_seven26_simplex) ∷ [];
}

-- one tenth before each nothing is due
abbrev pub shore_call_waits : Row
shore_call_waits = record {
  computed = gives 1 (called (ticks 150 ∷ []));
  expected = (0 ∷ 150 ∷ 0 ∷ 151 ∷ []) ∷ [];
}

abbrev pub shore_call_waits_again : Row
shore_call_waits_again = record {
  computed = gives 1 (called (ticks 151 ∷ ticks 201 ∷ []));
  expected = (0 ∷ 201 ∷ 0 ∷ 202 ∷ []) ∷ [];
}

-- then dropped: carrier off, the tone, the line released
abbrev pub shore_call_dropped : Row
shore_call_dropped = record {
  computed = gives 1 (called (ticks 151 ∷ ticks 202 ∷ []));
  expected = (0 ∷ 202 ∷ 3 ∷ []) ∷ (2 ∷ 0 ∷ []) ∷ (10 ∷ 0 ∷ []) ∷ (6 ∷ 0 ∷ []) ∷ [];
}

-- and the slot is free: the same ship may be called again
abbrev pub shore_call_anew : Row
shore_call_anew = record {
  computed = gives 1 (called (ticks 151 ∷ ticks 202 ∷ shore_calls 210 seven duplex ∷ []));
  expected = (0 ∷ 210 ∷ 2 ∷ 261 ∷ []) ∷ (1 ∷ 0 ∷ []) ∷ (3 ∷ 0 ∷ call_seven26) ∷ [];
}

-- ── the ship's BQ ─────────────────────────────────────────────────────────────

-- the first one, after the first sending and after the second: ringing on, and a minute
abbrev pub bq_rings : Row
bq_rings = record {
  computed = gives 1 (ringing []);
  expected = (0 ∷ 130 ∷ 1 ∷ 731 ∷ []) ∷ (8 ∷ 0 ∷ []) ∷ [];
}

abbrev pub bq_rings_late : Row
bq_rings_late = record {
  computed = gives 1 (called (ticks 151 ∷ accepts 201 26 seven ∷ []));
  expected = (0 ∷ 201 ∷ 1 ∷ 802 ∷ []) ∷ (8 ∷ 0 ∷ []) ∷ [];
}

-- in the other mode: the same
abbrev pub bq_rings_simplex : Row
bq_rings_simplex = record {
  computed = gives 1 (called (accepts_in simplex 130 26 seven ∷ []));
  expected = (0 ∷ 130 ∷ 1 ∷ 731 ∷ []) ∷ (8 ∷ 0 ∷ []) ∷ [];
}

-- and the call keeps its own: a silent duplex ship has 5 s, a simplex one 45
abbrev pub bq_keeps_duplex : Row
bq_keeps_duplex = record {
  computed = gives 1 (called (accepts_in simplex 130 26 seven ∷ regains 300 0 ∷ loses 400 0 ∷ []));
  expected = (0 ∷ 400 ∷ 0 ∷ 451 ∷ []) ∷ [];
}

abbrev pub bq_keeps_simplex : Row
bq_keeps_simplex = record {
  computed = gives 1 (shore_calls 100 seven simplex ∷ accepts_in duplex 130 26 seven ∷ regains 300 0 ∷ loses 400 0 ∷ []);
  expected = (0 ∷ 400 ∷ 0 ∷ 851 ∷ []) ∷ [];
}

-- from another ship, with another channel, on the working channel: ignored
abbrev pub bq_of_another : Row
bq_of_another = record {
  computed = gives 1 (called (accepts 130 26 eight ∷ []));
  expected = (1 ∷ 130 ∷ 0 ∷ 151 ∷ []) ∷ [];
}

abbrev pub bq_for_another : Row
bq_for_another = record {
  computed = gives 2 (called (accepts 130 27 seven ∷ []));
  expected = (1 ∷ 130 ∷ 0 ∷ 151 ∷ []) ∷ [];
}

abbrev pub bq_working : Row
bq_working = record {
  computed = gives 1 (called (says_on 130 0 (sends seven 101 122 (Channel (channel 26)) usual) ∷ []));
  expected = (1 ∷ 130 ∷ 0 ∷ 151 ∷ []) ∷ [];
}

-- a second one: ignored, the minute runs on
abbrev pub bq_twice : Row
bq_twice = record {
  computed = gives 1 (ringing (accepts 140 26 seven ∷ []));
  expected = (1 ∷ 140 ∷ 0 ∷ 731 ∷ []) ∷ [];
}

-- after the answer: ignored
abbrev pub bq_answered : Row
bq_answered = record {
  computed = gives 1 (answered (accepts 310 26 seven ∷ []));
  expected = (1 ∷ 310 ∷ 0 ∷ []) ∷ [];
}

-- the minute is over: ringing off, carrier off, the tone, the line released
abbrev pub ringing_dropped : Row
ringing_dropped = record {
  computed = gives 1 (ringing (ticks 731 ∷ []));
  expected = (0 ∷ 731 ∷ 4 ∷ []) ∷ (9 ∷ 0 ∷ []) ∷ (2 ∷ 0 ∷ []) ∷ (10 ∷ 0 ∷ []) ∷ (6 ∷ 0 ∷ []) ∷ [];
}

-- and one tenth before it is not
abbrev pub ringing_waits : Row
ringing_waits = record {
  computed = gives 1 (ringing (ticks 730 ∷ []));
  expected = (0 ∷ 730 ∷ 0 ∷ 731 ∷ []) ∷ [];
}

-- ── its BQ with 104 ───────────────────────────────────────────────────────────

-- before it rings, after either sending
abbrev pub unable_called : Row
unable_called = record {
  computed = gives 1 (called (declines 130 seven ∷ []));
  expected = (0 ∷ 130 ∷ 3 ∷ []) ∷ (2 ∷ 0 ∷ []) ∷ (10 ∷ 0 ∷ []) ∷ (6 ∷ 0 ∷ []) ∷ [];
}

abbrev pub unable_called_again : Row
unable_called_again = record {
  computed = gives 1 (called (ticks 151 ∷ declines 160 seven ∷ []));
  expected = (0 ∷ 160 ∷ 3 ∷ []) ∷ (2 ∷ 0 ∷ []) ∷ (10 ∷ 0 ∷ []) ∷ (6 ∷ 0 ∷ []) ∷ [];
}

-- while it rings
abbrev pub unable_ringing : Row
unable_ringing = record {
  computed = gives 1 (ringing (declines 140 seven ∷ []));
  expected = (0 ∷ 140 ∷ 4 ∷ []) ∷ (9 ∷ 0 ∷ []) ∷ (2 ∷ 0 ∷ []) ∷ (10 ∷ 0 ∷ []) ∷ (6 ∷ 0 ∷ []) ∷ [];
}

-- from another ship, while it rings or not: ignored
abbrev pub unable_other : Row
unable_other = record {
  computed = gives 1 (called (declines 130 eight ∷ []));
  expected = (1 ∷ 130 ∷ 0 ∷ 151 ∷ []) ∷ [];
}

abbrev pub unable_other_ringing : Row
unable_other_ringing = record {
  computed = gives 1 (ringing (declines 140 eight ∷ []));
  expected = (1 ∷ 140 ∷ 0 ∷ 731 ∷ []) ∷ [];
}

-- of two ships that are called, its own call is dropped
abbrev pub unable_second : Row
unable_second = record {
  computed = gives 2 (called (shore_calls 110 eight duplex ∷ declines 130 eight ∷ []));
  expected = (0 ∷ 130 ∷ 3 ∷ 151 ∷ []) ∷ (2 ∷ 1 ∷ []) ∷ (10 ∷ 1 ∷ []) ∷ (6 ∷ 1 ∷ []) ∷ [];
}

-- after its transmission: ignored; and from a ship in ring-back, as before
abbrev pub unable_answered : Row
unable_answered = record {
  computed = gives 1 (answered (declines 310 seven ∷ []));
  expected = (1 ∷ 310 ∷ 0 ∷ []) ∷ [];
}

abbrev pub unable_rung_back : Row
unable_rung_back = record {
  computed = gives 1 (reserves 50 0 ∷ calls 100 seven duplex ∷ restores 200 0 ∷ declines 210 seven ∷ []);
  expected = (1 ∷ 210 ∷ 0 ∷ 251 ∷ []) ∷ [];
}

-- ── the ship's transmission ───────────────────────────────────────────────────

-- the first carrier up while it rings: ringing off, and no wait runs
abbrev pub up_answers : Row
up_answers = record {
  computed = gives 1 (answered []);
  expected = (0 ∷ 300 ∷ 1 ∷ []) ∷ (9 ∷ 0 ∷ []) ∷ [];
}

-- in the last tenth of the minute; one tenth later it is due
abbrev pub up_at_last : Row
up_at_last = record {
  computed = gives 1 (ringing (regains 730 0 ∷ []));
  expected = (0 ∷ 730 ∷ 1 ∷ []) ∷ (9 ∷ 0 ∷ []) ∷ [];
}

abbrev pub up_too_late : Row
up_too_late = record {
  computed = gives 1 (ringing (regains 731 0 ∷ []));
  expected = (33 ∷ 130 ∷ 0 ∷ 731 ∷ []) ∷ [];
}

-- a second one: done, and nothing changes
abbrev pub up_again : Row
up_again = record {
  computed = gives 1 (answered (regains 310 0 ∷ []));
  expected = (0 ∷ 310 ∷ 0 ∷ []) ∷ [];
}

-- before it rings: ignored, and no trace of it is left
abbrev pub up_called : Row
up_called = record {
  computed = gives 1 (called (regains 120 0 ∷ []));
  expected = (1 ∷ 120 ∷ 0 ∷ 151 ∷ []) ∷ [];
}

abbrev pub up_called_rings : Row
up_called_rings = record {
  computed = gives 1 (called (regains 120 0 ∷ accepts 130 26 seven ∷ []));
  expected = (0 ∷ 130 ∷ 1 ∷ 731 ∷ []) ∷ (8 ∷ 0 ∷ []) ∷ [];
}

-- carrier down before the answer: the same
abbrev pub down_called : Row
down_called = record {
  computed = gives 1 (called (loses 120 0 ∷ []));
  expected = (1 ∷ 120 ∷ 0 ∷ 151 ∷ []) ∷ [];
}

abbrev pub down_ringing : Row
down_ringing = record {
  computed = gives 1 (ringing (loses 140 0 ∷ []));
  expected = (1 ∷ 140 ∷ 0 ∷ 731 ∷ []) ∷ [];
}

abbrev pub down_ringing_answers : Row
down_ringing_answers = record {
  computed = gives 1 (ringing (loses 140 0 ∷ regains 300 0 ∷ []));
  expected = (0 ∷ 300 ∷ 1 ∷ []) ∷ (9 ∷ 0 ∷ []) ∷ [];
}

-- ── the caller ────────────────────────────────────────────────────────────────

-- hangs up, after either sending and while it rings: dropped without the tone
abbrev pub hangs_called : Row
hangs_called = record {
  computed = gives 1 (called (hangs 120 0 ∷ []));
  expected = (0 ∷ 120 ∷ 2 ∷ []) ∷ (2 ∷ 0 ∷ []) ∷ (6 ∷ 0 ∷ []) ∷ [];
}

abbrev pub hangs_called_again : Row
hangs_called_again = record {
  computed = gives 1 (called (ticks 151 ∷ hangs 160 0 ∷ []));
  expected = (0 ∷ 160 ∷ 2 ∷ []) ∷ (2 ∷ 0 ∷ []) ∷ (6 ∷ 0 ∷ []) ∷ [];
}

abbrev pub hangs_ringing : Row
hangs_ringing = record {
  computed = gives 1 (ringing (hangs 140 0 ∷ []));
  expected = (0 ∷ 140 ∷ 3 ∷ []) ∷ (9 ∷ 0 ∷ []) ∷ (2 ∷ 0 ∷ []) ∷ (6 ∷ 0 ∷ []) ∷ [];
}

-- his handset is off: an off-hook is ignored, before the ringing, in it and after the answer
abbrev pub picks_up_called : Row
picks_up_called = record {
  computed = gives 1 (called (picks_up 120 0 ∷ []));
  expected = (1 ∷ 120 ∷ 0 ∷ 151 ∷ []) ∷ [];
}

abbrev pub picks_up_ringing : Row
picks_up_ringing = record {
  computed = gives 1 (ringing (picks_up 140 0 ∷ []));
  expected = (1 ∷ 140 ∷ 0 ∷ 731 ∷ []) ∷ [];
}

abbrev pub picks_up_shore_answered : Row
picks_up_shore_answered = record {
  computed = gives 1 (answered (picks_up 310 0 ∷ []));
  expected = (1 ∷ 310 ∷ 0 ∷ []) ∷ [];
}

-- an end of dialling is ignored: nothing was dialled
abbrev pub dials_out_called : Row
dials_out_called = record {
  computed = gives 1 (called (dials_out 120 0 ∷ []));
  expected = (1 ∷ 120 ∷ 0 ∷ 151 ∷ []) ∷ [];
}

abbrev pub dials_out_ringing : Row
dials_out_ringing = record {
  computed = gives 1 (ringing (dials_out 140 0 ∷ []));
  expected = (1 ∷ 140 ∷ 0 ∷ 731 ∷ []) ∷ [];
}

-- ── what else the called ship sends ───────────────────────────────────────────

-- a sequence on the working channel before the answer: ignored
abbrev pub works_called : Row
works_called = record {
  computed = gives 1 (called (works 120 0 seven ∷ []));
  expected = (1 ∷ 120 ∷ 0 ∷ 151 ∷ []) ∷ [];
}

abbrev pub works_ringing : Row
works_ringing = record {
  computed = gives 1 (ringing (works 140 0 seven ∷ []));
  expected = (1 ∷ 140 ∷ 0 ∷ 731 ∷ []) ∷ [];
}

abbrev pub ends_called : Row
ends_called = record {
  computed = gives 1 (called (ends 120 0 seven ∷ []));
  expected = (1 ∷ 120 ∷ 0 ∷ 151 ∷ []) ∷ [];
}

abbrev pub ends_ringing : Row
ends_ringing = record {
  computed = gives 1 (ringing (ends 140 0 seven ∷ []));
  expected = (1 ∷ 140 ∷ 0 ∷ 731 ∷ []) ∷ [];
}

-- a request, simplex, duplex or data, before the ringing and in it: ignored, before rule a, though a slot is free
abbrev pub asks_called : Row
asks_called = record {
  computed = gives 2 (called (calls 110 seven duplex ∷ []));
  expected = (1 ∷ 110 ∷ 0 ∷ 151 ∷ []) ∷ [];
}

abbrev pub asks_called_simplex : Row
asks_called_simplex = record {
  computed = gives 2 (called (ticks 151 ∷ calls 160 seven simplex ∷ []));
  expected = (1 ∷ 160 ∷ 0 ∷ 202 ∷ []) ∷ [];
}

abbrev pub asks_ringing : Row
asks_ringing = record {
  computed = gives 2 (ringing (calls 140 seven duplex ∷ []));
  expected = (1 ∷ 140 ∷ 0 ∷ 731 ∷ []) ∷ [];
}

abbrev pub data_called : Row
data_called = record {
  computed = gives 2 (called (data_calls 110 seven ∷ []));
  expected = (1 ∷ 110 ∷ 0 ∷ 151 ∷ []) ∷ [];
}

abbrev pub data_ringing : Row
data_ringing = record {
  computed = gives 2 (ringing (data_calls 140 seven ∷ []));
  expected = (1 ∷ 140 ∷ 0 ∷ 731 ∷ []) ∷ [];
}

-- another ship's data is answered, and the ship's own after its transmission
abbrev pub data_of_another : Row
data_of_another = record {
  computed = gives 1 (called (data_calls 110 eight ∷ []));
  expected = (0 ∷ 110 ∷ 1 ∷ 151 ∷ []) ∷ (3 ∷ 255 ∷ unable109_eight) ∷ [];
}

abbrev pub data_shore_answered : Row
data_shore_answered = record {
  computed = gives 1 (answered (data_calls 310 seven ∷ []));
  expected = (0 ∷ 310 ∷ 1 ∷ []) ∷ (3 ∷ 255 ∷ unable109_seven) ∷ [];
}

-- ── a drop with a ship waiting ────────────────────────────────────────────────

-- the freed slot rings it back in the same event: no BQ, unable, hung up
abbrev pub dropped_rings_back : Row
dropped_rings_back = record {
  computed = gives 1 (called (calls 110 eight duplex ∷ ticks 151 ∷ ticks 202 ∷ []));
  expected = (0 ∷ 202 ∷ 5 ∷ 253 ∷ []) ∷ (2 ∷ 0 ∷ []) ∷ (10 ∷ 0 ∷ []) ∷ (6 ∷ 0 ∷ []) ∷ (1 ∷ 0 ∷ []) ∷ (3 ∷ 0 ∷ ring_back_eight26) ∷ [];
}

abbrev pub unable_rings_back : Row
unable_rings_back = record {
  computed = gives 1 (ringing (calls 140 eight duplex ∷ declines 150 seven ∷ []));
  expected = (0 ∷ 150 ∷ 6 ∷ 201 ∷ [])
      ∷ (9 ∷ 0 ∷ []) ∷ (2 ∷ 0 ∷ []) ∷ (10 ∷ 0 ∷ []) ∷ (6 ∷ 0 ∷ []) ∷ (1 ∷ 0 ∷ []) ∷ (3 ∷ 0 ∷ ring_back_eight26) ∷ [];
}

abbrev pub hung_rings_back : Row
hung_rings_back = record {
  computed = gives 1 (called (calls 110 eight duplex ∷ hangs 120 0 ∷ []));
  expected = (0 ∷ 120 ∷ 4 ∷ 171 ∷ []) ∷ (2 ∷ 0 ∷ []) ∷ (6 ∷ 0 ∷ []) ∷ (1 ∷ 0 ∷ []) ∷ (3 ∷ 0 ∷ ring_back_eight26) ∷ [];
}

-- ── once answered, a call like any other ──────────────────────────────────────

-- its ship's end: charged from the transmission, told with BQ and the caller's number, held
abbrev pub shore_ship_ends : Row
shore_ship_ends = record {
  computed = gives 1 (answered (ends 4410 0 seven ∷ []));
  expected = (0 ∷ 4410 ∷ 4 ∷ 4451 ∷ [])
      ∷ (charges 0 seven 300 4410 411 1) ∷ (6 ∷ 0 ∷ []) ∷ (4 ∷ 0 ∷ over_seven_caller411) ∷ (2 ∷ 0 ∷ []) ∷ [];
}

-- and once more in the hold
abbrev pub shore_hold_repeats : Row
shore_hold_repeats = record {
  computed = gives 1 (answered (ends 4410 0 seven ∷ ends 4430 0 seven ∷ []));
  expected = (0 ∷ 4430 ∷ 3 ∷ 4451 ∷ []) ∷ (1 ∷ 0 ∷ []) ∷ (4 ∷ 0 ∷ over_seven_caller411) ∷ (2 ∷ 0 ∷ []) ∷ [];
}

-- on-hook: told with 127, freed at once
abbrev pub shore_hangs : Row
shore_hangs = record {
  computed = gives 1 (answered (hangs 4410 0 ∷ []));
  expected = (0 ∷ 4410 ∷ 4 ∷ [])
      ∷ (charges 0 seven 300 4410 411 1) ∷ (6 ∷ 0 ∷ []) ∷ (4 ∷ 0 ∷ over_seven_caller_by_coast411) ∷ (2 ∷ 0 ∷ []) ∷ [];
}

-- carrier loss: to the due time
abbrev pub shore_fades : Row
shore_fades = record {
  computed = gives 1 (answered (loses 400 0 ∷ ticks 9999 ∷ []));
  expected = (0 ∷ 451 ∷ 4 ∷ [])
      ∷ (charges 0 seven 300 451 15 1) ∷ (6 ∷ 0 ∷ []) ∷ (4 ∷ 0 ∷ over_seven_caller_by_coast15) ∷ (2 ∷ 0 ∷ []) ∷ [];
}

-- rule c: a simplex ship whose carrier is absent asks again, and is offered the slot for its own number
abbrev pub shore_redialled : Row
shore_redialled = record {
  computed = gives 1 (shore_calls 100 seven simplex ∷ accepts 130 26 seven ∷ regains 300 0 ∷ loses 400 0 ∷ calls 450 seven simplex ∷ []);
  expected = (0 ∷ 450 ∷ 6 ∷ 611 ∷ [])
      ∷ (charges 0 seven 300 450 15 1) ∷ (6 ∷ 0 ∷ []) ∷ (4 ∷ 0 ∷ over_seven_caller_by_coast15) ∷ (2 ∷ 0 ∷ [])
      ∷ (1 ∷ 0 ∷ []) ∷ (3 ∷ 0 ∷ ack_seven26_simplex) ∷ [];
}

-- rule c with its carrier present, as it is from the transmission on: ignored
abbrev pub shore_carrier_present : Row
shore_carrier_present = record {
  computed = gives 1 (shore_calls 100 seven simplex ∷ accepts 130 26 seven ∷ regains 300 0 ∷ calls 450 seven simplex ∷ []);
  expected = (1 ∷ 450 ∷ 0 ∷ []) ∷ [];
}

-- two ships are called at once, each on its slot
abbrev pub shore_calls_both : Row
shore_calls_both = record {
  computed = gives 2 (reserves 50 0 ∷ called (restores 110 0 ∷ shore_calls 120 eight duplex ∷ []));
  expected = (0 ∷ 120 ∷ 2 ∷ 151 ∷ []) ∷ (1 ∷ 0 ∷ []) ∷ (3 ∷ 0 ∷ call_eight26) ∷ [];
}

-- ── all of them ──────────────────────────────────────────────────────────────

abbrev pub ashore_cases : List Row
ashore_cases =
    shore_call_sent ∷ shore_call_simplex ∷ shore_call_odd ∷ shore_call_longest ∷ shore_call_lowest ∷ shore_call_again ∷ shore_call_again_simplex
    ∷ shore_call_waits ∷ shore_call_waits_again ∷ shore_call_dropped ∷ shore_call_anew ∷ bq_rings ∷ bq_rings_late ∷ bq_rings_simplex
    ∷ bq_keeps_duplex ∷ bq_keeps_simplex ∷ bq_of_another ∷ bq_for_another ∷ bq_working ∷ bq_twice ∷ bq_answered ∷ ringing_dropped
    ∷ ringing_waits ∷ unable_called ∷ unable_called_again ∷ unable_ringing ∷ unable_other ∷ unable_other_ringing ∷ unable_second
    ∷ unable_answered ∷ unable_rung_back ∷ up_answers ∷ up_at_last ∷ up_too_late ∷ up_again ∷ up_called ∷ up_called_rings ∷ down_called
    ∷ down_ringing ∷ down_ringing_answers ∷ hangs_called ∷ hangs_called_again ∷ hangs_ringing ∷ picks_up_called ∷ picks_up_ringing
    ∷ picks_up_shore_answered ∷ dials_out_called ∷ dials_out_ringing ∷ works_called ∷ works_ringing ∷ ends_called ∷ ends_ringing ∷ asks_called
    ∷ asks_called_simplex ∷ asks_ringing ∷ data_called ∷ data_ringing ∷ data_of_another ∷ data_shore_answered ∷ dropped_rings_back
    ∷ unable_rings_back ∷ hung_rings_back ∷ shore_ship_ends ∷ shore_hold_repeats ∷ shore_hangs ∷ shore_fades ∷ shore_redialled
    ∷ shore_carrier_present ∷ shore_calls_both ∷ []
