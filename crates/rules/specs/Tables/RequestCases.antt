-- A case for each rule of a request, of the working call and of ring-back: what the last event of a short script prints.
use Rattle.std.specs.Prelude.{List, [], ◌∷◌}
use Rattle.sequence.specs.declared.Field.TheVariants.{Blank}
use Rattle.rules.specs.Rules.Words.{simplex, duplex}
use Rattle.rules.specs.Tables.Runs.{seven, eight, nine, sends, usual, calls_for, calls, data_calls, accepts, works}
use Rattle.rules.specs.Tables.Runs.{ticks, asks_anew, fades, says, says_on, picks_up, loses, reserves, restores}
use Rattle.rules.specs.Tables.Cases.{Row}
use Rattle.rules.specs.Tables.Phases.{waiting_with}
use Rattle.rules.specs.Tables.Scripts.{gives, elsewhere, waiting_ships, charges, unable109_seven, ack_seven26}
use Rattle.rules.specs.Tables.Scripts.{ack_seven26_again, ack_seven26_simplex, ack_eight26, over_seven_by_coast15}
use Rattle.rules.specs.Tables.Scripts.{over_seven_by_coast55, ring_back_eight26, unable103_seven, ring_back_seven26, ring_back_seven26_again}
use Rattle.rules.specs.Tables.Scripts.{ring_back_seven26_simplex, ack_seven27, unable103_eight, unable102_nine, ring_back_nine26}

-- ── what is ignored ───────────────────────────────────────────────────────────

-- an event not named for the phase: accepted, no action, clock moved
abbrev pub ignored_phase : Row
ignored_phase = record {
  computed = gives 1 (picks_up 100 0 ∷ []);
  expected = (1 ∷ 100 ∷ 0 ∷ []) ∷ [];
}

-- a call request to another station
abbrev pub ignored_address : Row
ignored_address = record {
  computed = gives 1 (says 100 (elsewhere 117) ∷ []);
  expected = (1 ∷ 100 ∷ 0 ∷ []) ∷ [];
}

-- a working call on channel 70, and a call request on a working channel
abbrev pub ignored_channel : Row
ignored_channel = record {
  computed = gives 1 (calls 100 seven duplex
      ∷ says 110 (sends seven 101 127 Blank usual)
      ∷ says_on 120 0 (sends eight 101 117 Blank usual) ∷ []);
  expected = (1 ∷ 120 ∷ 0 ∷ 261 ∷ []) ∷ [];
}

-- ── call request ──────────────────────────────────────────────────────────────

-- a. data, of a ship that is not being called
abbrev pub rule_a_shown : Row
rule_a_shown = record {
  computed = gives 1 (data_calls 100 seven ∷ []);
  expected = (0 ∷ 100 ∷ 1 ∷ []) ∷ (3 ∷ 255 ∷ unable109_seven) ∷ [];
}

-- b. the identical request again: the wait is unchanged
abbrev pub rule_b_repeated : Row
rule_b_repeated = record {
  computed = gives 1 (calls 100 seven duplex ∷ calls 150 seven duplex ∷ []);
  expected = (0 ∷ 150 ∷ 1 ∷ 261 ∷ []) ∷ (3 ∷ 0 ∷ ack_seven26) ∷ [];
}

-- b. with another number: offered afresh, 160 from now
abbrev pub rule_b_differs : Row
rule_b_differs = record {
  computed = gives 1 (calls 100 seven duplex ∷ calls_for (4 ∷ 2 ∷ []) 150 seven duplex ∷ []);
  expected = (0 ∷ 150 ∷ 1 ∷ 311 ∷ []) ∷ (3 ∷ 0 ∷ ack_seven26_again) ∷ [];
}

-- b. in another mode: the same
abbrev pub rule_b_other_mode : Row
rule_b_other_mode = record {
  computed = gives 1 (calls 100 seven duplex ∷ calls 150 seven simplex ∷ []);
  expected = (0 ∷ 150 ∷ 1 ∷ 311 ∷ []) ∷ (3 ∷ 0 ∷ ack_seven26_simplex) ∷ [];
}

-- b. from a ship in ring-back: offered afresh, with no carrier action
abbrev pub rule_b_in_ring_back : Row
rule_b_in_ring_back = record {
  computed = gives 1 (calls 100 seven duplex ∷ calls 110 eight duplex ∷ ticks 261 ∷ calls 270 eight duplex ∷ []);
  expected = (0 ∷ 270 ∷ 1 ∷ 431 ∷ []) ∷ (3 ∷ 0 ∷ ack_eight26) ∷ [];
}

-- b. from a ship whose slot is acknowledged: the same
abbrev pub rule_b_acknowledged : Row
rule_b_acknowledged = record {
  computed = gives 1 (calls 100 seven duplex ∷ calls 110 eight duplex ∷ ticks 261 ∷ accepts 270 26 eight ∷ calls 280 eight duplex ∷ []);
  expected = (0 ∷ 280 ∷ 1 ∷ 441 ∷ []) ∷ (3 ∷ 0 ∷ ack_eight26) ∷ [];
}

-- c. a duplex call is not touched, carrier or not
abbrev pub rule_c_duplex : Row
rule_c_duplex = record {
  computed = gives 1 (calls 100 seven duplex ∷ works 200 0 seven ∷ loses 300 0 ∷ calls 310 seven duplex ∷ []);
  expected = (1 ∷ 310 ∷ 0 ∷ 351 ∷ []) ∷ [];
}

-- c. nor a simplex call whose carrier is present
abbrev pub rule_c_present : Row
rule_c_present = record {
  computed = gives 1 (calls 100 seven simplex ∷ works 200 0 seven ∷ picks_up 300 0 ∷ calls 310 seven simplex ∷ []);
  expected = (1 ∷ 310 ∷ 0 ∷ []) ∷ [];
}

-- c. simplex with carrier absent: the coast ends that call, and rule e offers the slot again
abbrev pub rule_c_absent : Row
rule_c_absent = record {
  computed = gives 1 (calls 100 seven simplex ∷ works 200 0 seven ∷ picks_up 300 0 ∷ loses 400 0 ∷ calls 450 seven simplex ∷ []);
  expected = (0 ∷ 450 ∷ 6 ∷ 611 ∷ [])
      ∷ (charges 0 seven 300 450 15 1) ∷ (6 ∷ 0 ∷ []) ∷ (4 ∷ 0 ∷ over_seven_by_coast15) ∷ (2 ∷ 0 ∷ [])
      ∷ (1 ∷ 0 ∷ []) ∷ (3 ∷ 0 ∷ ack_seven26_simplex) ∷ [];
}

-- c. with a ship waiting: it is rung back first, and the asker joins the queue
abbrev pub rule_c_rings_back : Row
rule_c_rings_back = record {
  computed = gives 1 (calls 100 seven simplex ∷ works 200 0 seven ∷ calls 210 eight duplex
      ∷ picks_up 300 0 ∷ loses 400 0 ∷ calls 450 seven simplex ∷ []);
  expected = (0 ∷ 450 ∷ 7 ∷ 501 ∷ [])
      ∷ (charges 0 seven 300 450 15 1) ∷ (6 ∷ 0 ∷ []) ∷ (4 ∷ 0 ∷ over_seven_by_coast15) ∷ (2 ∷ 0 ∷ [])
      ∷ (1 ∷ 0 ∷ []) ∷ (3 ∷ 0 ∷ ring_back_eight26) ∷ (3 ∷ 255 ∷ unable103_seven) ∷ [];
}

-- d. a waiting ship asks again: its place and due time stay
abbrev pub rule_d_shown : Row
rule_d_shown = record {
  computed = gives 1 (reserves 50 0 ∷ calls 100 seven duplex ∷ calls 200 seven simplex ∷ []);
  expected = (0 ∷ 200 ∷ 1 ∷ 9101 ∷ []) ∷ (3 ∷ 255 ∷ unable103_seven) ∷ [];
}

-- d. and its new request is the one that is rung back
abbrev pub rule_d_replaced : Row
rule_d_replaced = record {
  computed = gives 1 (reserves 50 0 ∷ calls 100 seven duplex ∷ calls_for (4 ∷ 2 ∷ []) 200 seven duplex ∷ restores 300 0 ∷ []);
  expected = (0 ∷ 300 ∷ 2 ∷ 351 ∷ []) ∷ (1 ∷ 0 ∷ []) ∷ (3 ∷ 0 ∷ ring_back_seven26_again) ∷ [];
}

-- d. in its new mode
abbrev pub rule_d_other_mode : Row
rule_d_other_mode = record {
  computed = gives 1 (asks_anew duplex simplex []);
  expected = (0 ∷ 300 ∷ 2 ∷ 351 ∷ []) ∷ (1 ∷ 0 ∷ []) ∷ (3 ∷ 0 ∷ ring_back_seven26_simplex) ∷ [];
}

-- d. which then holds for its call: 45 s without carrier, charged to the due time
abbrev pub rule_d_simplex_fades : Row
rule_d_simplex_fades = record {
  computed = gives 1 (asks_anew duplex simplex (fades []));
  expected = (0 ∷ 600 ∷ 0 ∷ 1051 ∷ []) ∷ [];
}

abbrev pub rule_d_simplex_lost : Row
rule_d_simplex_lost = record {
  computed = gives 1 (asks_anew duplex simplex (fades (ticks 9999 ∷ [])));
  expected = (0 ∷ 1051 ∷ 4 ∷ []) ∷ (charges 0 seven 500 1051 55 1) ∷ (6 ∷ 0 ∷ []) ∷ (4 ∷ 0 ∷ over_seven_by_coast55) ∷ (2 ∷ 0 ∷ []) ∷ [];
}

-- d. and from simplex to duplex: 5 s
abbrev pub rule_d_other_mode_back : Row
rule_d_other_mode_back = record {
  computed = gives 1 (asks_anew simplex duplex []);
  expected = (0 ∷ 300 ∷ 2 ∷ 351 ∷ []) ∷ (1 ∷ 0 ∷ []) ∷ (3 ∷ 0 ∷ ring_back_seven26) ∷ [];
}

abbrev pub rule_d_duplex_fades : Row
rule_d_duplex_fades = record {
  computed = gives 1 (asks_anew simplex duplex (fades []));
  expected = (0 ∷ 600 ∷ 0 ∷ 651 ∷ []) ∷ [];
}

abbrev pub rule_d_duplex_lost : Row
rule_d_duplex_lost = record {
  computed = gives 1 (asks_anew simplex duplex (fades (ticks 9999 ∷ [])));
  expected = (0 ∷ 651 ∷ 4 ∷ []) ∷ (charges 0 seven 500 651 15 1) ∷ (6 ∷ 0 ∷ []) ∷ (4 ∷ 0 ∷ over_seven_by_coast15) ∷ (2 ∷ 0 ∷ []) ∷ [];
}

-- e. the lowest free slot
abbrev pub rule_e_lowest : Row
rule_e_lowest = record {
  computed = gives 3 (reserves 50 0 ∷ calls 100 seven duplex ∷ []);
  expected = (0 ∷ 100 ∷ 2 ∷ 261 ∷ []) ∷ (1 ∷ 1 ∷ []) ∷ (3 ∷ 1 ∷ ack_seven27) ∷ [];
}

-- f. no slot is free: the queue
abbrev pub rule_f_shown : Row
rule_f_shown = record {
  computed = gives 1 (calls 100 seven duplex ∷ calls 110 eight duplex ∷ []);
  expected = (0 ∷ 110 ∷ 1 ∷ 261 ∷ []) ∷ (3 ∷ 255 ∷ unable103_eight) ∷ [];
}

-- g. and when 32 ships wait, 104/102
abbrev pub rule_g_shown : Row
rule_g_shown = record {
  computed = waiting_with (waiting_ships 32) (calls 200 nine duplex);
  expected = (0 ∷ 200 ∷ 1 ∷ 9101 ∷ []) ∷ (3 ∷ 255 ∷ unable102_nine) ∷ [];
}

-- ── working call ──────────────────────────────────────────────────────────────

-- on an offered slot: the stored number, whatever the working call's own number and mode
abbrev pub working_dials : Row
working_dials = record {
  computed = gives 1 (calls 100 seven duplex ∷ says_on 200 0 (sends seven 100 127 Blank (4 ∷ 2 ∷ [])) ∷ []);
  expected = (0 ∷ 200 ∷ 1 ∷ 801 ∷ []) ∷ (5 ∷ 0 ∷ usual) ∷ [];
}

-- and the stored mode holds for the call: duplex, 5 s of silence
abbrev pub working_mode : Row
working_mode = record {
  computed = gives 1 (calls 100 seven duplex ∷ says_on 200 0 (sends seven 100 127 Blank usual) ∷ loses 300 0 ∷ []);
  expected = (0 ∷ 300 ∷ 0 ∷ 351 ∷ []) ∷ [];
}

-- from another ship: ignored
abbrev pub working_stranger : Row
working_stranger = record {
  computed = gives 1 (calls 100 seven duplex ∷ works 200 0 eight ∷ []);
  expected = (1 ∷ 200 ∷ 0 ∷ 261 ∷ []) ∷ [];
}

-- in ring-back, before the BQ: ignored
abbrev pub working_in_ring_back : Row
working_in_ring_back = record {
  computed = gives 1 (calls 100 seven duplex ∷ calls 110 eight duplex ∷ ticks 261 ∷ works 270 0 eight ∷ []);
  expected = (1 ∷ 270 ∷ 0 ∷ 312 ∷ []) ∷ [];
}

-- on an acknowledged slot: dialled
abbrev pub working_acknowledged : Row
working_acknowledged = record {
  computed = gives 1 (calls 100 seven duplex ∷ calls 110 eight duplex ∷ ticks 261 ∷ accepts 270 26 eight ∷ works 280 0 eight ∷ []);
  expected = (0 ∷ 280 ∷ 1 ∷ 881 ∷ []) ∷ (5 ∷ 0 ∷ usual) ∷ [];
}

-- offer due: carrier off, slot freed
abbrev pub offer_falls_due : Row
offer_falls_due = record {
  computed = gives 1 (calls 100 seven duplex ∷ ticks 261 ∷ []);
  expected = (0 ∷ 261 ∷ 1 ∷ []) ∷ (2 ∷ 0 ∷ []) ∷ [];
}

-- ── ring-back ─────────────────────────────────────────────────────────────────

-- a slot freed takes the oldest waiting ship in the same event
abbrev pub ring_back_oldest : Row
ring_back_oldest = record {
  computed = gives 1 (calls 100 seven duplex ∷ calls 110 eight duplex ∷ calls 120 nine duplex ∷ ticks 261 ∷ []);
  expected = (0 ∷ 261 ∷ 3 ∷ 312 ∷ []) ∷ (2 ∷ 0 ∷ []) ∷ (1 ∷ 0 ∷ []) ∷ (3 ∷ 0 ∷ ring_back_eight26) ∷ [];
}

-- 5 s later it is sent once more
abbrev pub ring_back_again : Row
ring_back_again = record {
  computed = gives 1 (calls 100 seven duplex ∷ calls 110 eight duplex ∷ ticks 261 ∷ ticks 312 ∷ []);
  expected = (0 ∷ 312 ∷ 1 ∷ 363 ∷ []) ∷ (3 ∷ 0 ∷ ring_back_eight26) ∷ [];
}

-- then dropped: carrier off, and the next ship is taken
abbrev pub ring_back_dropped : Row
ring_back_dropped = record {
  computed = gives 1 (calls 100 seven duplex ∷ calls 110 eight duplex ∷ calls 120 nine duplex ∷ ticks 261 ∷ ticks 312 ∷ ticks 363 ∷ []);
  expected = (0 ∷ 363 ∷ 3 ∷ 414 ∷ []) ∷ (2 ∷ 0 ∷ []) ∷ (1 ∷ 0 ∷ []) ∷ (3 ∷ 0 ∷ ring_back_nine26) ∷ [];
}

-- the ship's BQ that names the channel: acknowledged, 160
abbrev pub bq_acknowledged : Row
bq_acknowledged = record {
  computed = gives 1 (calls 100 seven duplex ∷ calls 110 eight duplex ∷ ticks 261 ∷ accepts 270 26 eight ∷ []);
  expected = (0 ∷ 270 ∷ 0 ∷ 431 ∷ []) ∷ [];
}

-- a BQ that names another channel: ignored
abbrev pub bq_other_channel : Row
bq_other_channel = record {
  computed = gives 1 (calls 100 seven duplex ∷ calls 110 eight duplex ∷ ticks 261 ∷ accepts 270 27 eight ∷ []);
  expected = (1 ∷ 270 ∷ 0 ∷ 312 ∷ []) ∷ [];
}

-- a second BQ: ignored
abbrev pub bq_second : Row
bq_second = record {
  computed = gives 1 (calls 100 seven duplex ∷ calls 110 eight duplex ∷ ticks 261 ∷ accepts 270 26 eight ∷ accepts 280 26 eight ∷ []);
  expected = (1 ∷ 280 ∷ 0 ∷ 431 ∷ []) ∷ [];
}

-- acknowledged and no working call: as an offer due
abbrev pub acknowledged_due : Row
acknowledged_due = record {
  computed = gives 1 (calls 100 seven duplex ∷ calls 110 eight duplex ∷ ticks 261 ∷ accepts 270 26 eight ∷ ticks 431 ∷ []);
  expected = (0 ∷ 431 ∷ 1 ∷ []) ∷ (2 ∷ 0 ∷ []) ∷ [];
}

-- a queue entry due is dropped
abbrev pub queue_entry_due : Row
queue_entry_due = record {
  computed = gives 1 (reserves 50 0 ∷ calls 100 seven duplex ∷ ticks 9101 ∷ []);
  expected = (0 ∷ 9101 ∷ 0 ∷ []) ∷ [];
}

-- ── all of them ──────────────────────────────────────────────────────────────

abbrev pub request_cases : List Row
request_cases =
    ignored_phase ∷ ignored_address ∷ ignored_channel ∷ rule_a_shown ∷ rule_b_repeated ∷ rule_b_differs ∷ rule_b_other_mode
    ∷ rule_b_in_ring_back ∷ rule_b_acknowledged ∷ rule_c_duplex ∷ rule_c_present ∷ rule_c_absent ∷ rule_c_rings_back ∷ rule_d_shown
    ∷ rule_d_replaced ∷ rule_d_other_mode ∷ rule_d_simplex_fades ∷ rule_d_simplex_lost ∷ rule_d_other_mode_back ∷ rule_d_duplex_fades
    ∷ rule_d_duplex_lost ∷ rule_e_lowest ∷ rule_f_shown ∷ rule_g_shown ∷ working_dials ∷ working_mode ∷ working_stranger
    ∷ working_in_ring_back ∷ working_acknowledged ∷ offer_falls_due ∷ ring_back_oldest ∷ ring_back_again ∷ ring_back_dropped
    ∷ bq_acknowledged ∷ bq_other_channel ∷ bq_second ∷ acknowledged_due ∷ queue_entry_due ∷ []
