-- Which events are named for which phase: a slot of the ship 200000007 in each phase, and everything that may happen to it.
use Rattle.std.specs.Prelude.{List, [], ◌∷◌, map, ℕ, None}
use Rattle.std.proofs.Math.Option.{none, some}
use Rattle.sequence.specs.declared.Field.TheVariants.{Blank, Channel}
use Rattle.rules.specs.Rules.Words.{simplex, duplex, Request, heard, dialling_ended, off_hook, on_hook, carrier_up, carrier_down}
use Rattle.rules.specs.Rules.Words.{takes, gives_back, What, tick, on_channel70, on_slot, Event}
use Rattle.rules.specs.Rules.Station.{offered, first_ring_back, second_ring_back, acknowledged, first_call, second_call, ringing}
use Rattle.rules.specs.Rules.Station.{dialling, dialled_out, answered}
use Rattle.rules.specs.Rules.Station.{Slot, free, taken, Waiting, Station}
use Rattle.rules.specs.Tables.Slots.{pending, busy, held}
use Rattle.rules.specs.Rules.Requests.{Out}
use Rattle.rules.specs.Rules.Verdict.{step}
use Rattle.rules.specs.Rules.Bytes.{kind_number}
use Rattle.rules.specs.Rules.Printed.{lines}
use Rattle.rules.specs.Tables.Runs.{channel, station, seven, eight, sends, at, usual, declines, shore_calls}
use Rattle.rules.specs.Tables.SoundCases.{from}

-- the answer, and the kinds of the actions
abbrev pub told : Out → List ℕ
told o = o.answer ∷ map kind_number o.acts

-- the request that the slot holds
abbrev pub asked : Request
asked = from seven duplex

abbrev pub simply : Request
simply = from seven simplex

-- the slot alone, at the clock 1000
abbrev pub alone : Slot → Station
alone s = record { clock = 1000; slots = s ∷ []; queue = []; last_call = 1 }

-- what an event prints in a station whose one slot is taken, at the clock 100, while ships wait
abbrev pub waiting_with : List Waiting → Event → List (List ℕ)
waiting_with q e = lines (station 1) (step (station 1) (record { clock = 100; slots = taken ∷ []; queue = q; last_call = 1 }) e)

-- what may happen, in the order of a row
abbrev pub happenings : List What
happenings =
    -- working call of the ship
    on_slot 0 (heard (sends seven 101 127 Blank usual))
    -- its end of call
    ∷ on_slot 0 (heard (sends seven 105 117 Blank usual))
    -- dialling ended
    ∷ on_slot 0 dialling_ended
    -- off-hook
    ∷ on_slot 0 off_hook
    -- on-hook
    ∷ on_slot 0 on_hook
    -- carrier up
    ∷ on_slot 0 carrier_up
    -- carrier down
    ∷ on_slot 0 carrier_down
    -- take
    ∷ on_slot 0 takes
    -- give back
    ∷ on_slot 0 gives_back
    -- its call request
    ∷ on_channel70 (sends seven 101 117 Blank usual)
    -- its BQ
    ∷ on_channel70 (sends seven 101 122 (Channel (channel 26)) usual)
    -- its data request
    ∷ on_channel70 (sends seven 106 117 Blank usual)
    -- another ship's working call
    ∷ on_slot 0 (heard (sends eight 101 127 Blank usual))
    -- another ship's end of call
    ∷ on_slot 0 (heard (sends eight 105 117 Blank usual))
    -- another ship's BQ
    ∷ on_channel70 (sends eight 101 122 (Channel (channel 26)) usual)
    -- a sequence that is none of these
    ∷ on_slot 0 (heard (sends seven 106 122 Blank usual))
    -- its BQ with 104 on the working channel
    ∷ on_slot 0 (heard (sends seven 104 122 Blank usual))
    -- its BQ with 104
    ∷ (declines 1000 seven).what
    -- another ship's BQ with 104
    ∷ (declines 1000 eight).what
    -- a call from ashore to it
    ∷ (shore_calls 1000 seven duplex).what
    -- to another ship
    ∷ (shore_calls 1000 eight duplex).what
    ∷ []

-- what the tick gives at which the slot's wait is due, and then each of them
abbrev pub row_of : Slot → List (List ℕ)
row_of s = told (step (station 1) (alone s) (at 1020 tick)) ∷ map (λ w. told (step (station 1) (alone s) (at 1000 w))) happenings

pub record Phase : Type 0 where
  pub slot : Slot
  pub gives : List (List ℕ)

-- on six lines: the tick, the ship's working call and end; the five signals; the operator's hand; its request, BQ and data;
-- another ship's three, and none of these; the three BQs with 104, the two calls from ashore.
-- 0 done, 1 ignored, 35, 37 and 38 refused; then 1 carrier on, 2 carrier off, 3 channel 70, 4 working channel, 5 dial, 6 release, 7 charge,
-- 8 ringing on, 9 ringing off, 10 the tone
abbrev pub phases : List Phase
phases =
    -- free
    record {
      slot = free;
      gives = (0 ∷ []) ∷ (1 ∷ []) ∷ (1 ∷ [])
          ∷ (1 ∷ []) ∷ (1 ∷ []) ∷ (1 ∷ []) ∷ (1 ∷ []) ∷ (1 ∷ [])
          ∷ (0 ∷ []) ∷ (35 ∷ [])
          ∷ (0 ∷ 1 ∷ 3 ∷ []) ∷ (1 ∷ []) ∷ (0 ∷ 3 ∷ [])
          ∷ (1 ∷ []) ∷ (1 ∷ []) ∷ (1 ∷ []) ∷ (1 ∷ [])
          ∷ (1 ∷ []) ∷ (1 ∷ []) ∷ (1 ∷ []) ∷ (0 ∷ 1 ∷ 3 ∷ []) ∷ (0 ∷ 1 ∷ 3 ∷ []) ∷ [];
    }
    -- taken
    ∷ record {
      slot = taken;
      gives = (0 ∷ []) ∷ (1 ∷ []) ∷ (1 ∷ [])
          ∷ (1 ∷ []) ∷ (1 ∷ []) ∷ (1 ∷ []) ∷ (1 ∷ []) ∷ (1 ∷ [])
          ∷ (35 ∷ []) ∷ (0 ∷ [])
          ∷ (0 ∷ 3 ∷ []) ∷ (1 ∷ []) ∷ (0 ∷ 3 ∷ [])
          ∷ (1 ∷ []) ∷ (1 ∷ []) ∷ (1 ∷ []) ∷ (1 ∷ [])
          ∷ (1 ∷ []) ∷ (1 ∷ []) ∷ (1 ∷ []) ∷ (37 ∷ []) ∷ (37 ∷ []) ∷ [];
    }
    -- offered
    ∷ record {
      slot = pending offered asked 1020;
      gives = (0 ∷ 2 ∷ []) ∷ (0 ∷ 5 ∷ []) ∷ (1 ∷ [])
          ∷ (1 ∷ []) ∷ (1 ∷ []) ∷ (1 ∷ []) ∷ (1 ∷ []) ∷ (1 ∷ [])
          ∷ (35 ∷ []) ∷ (35 ∷ [])
          ∷ (0 ∷ 3 ∷ []) ∷ (1 ∷ []) ∷ (0 ∷ 3 ∷ [])
          ∷ (1 ∷ []) ∷ (1 ∷ []) ∷ (1 ∷ []) ∷ (1 ∷ [])
          ∷ (1 ∷ []) ∷ (1 ∷ []) ∷ (1 ∷ []) ∷ (38 ∷ []) ∷ (37 ∷ []) ∷ [];
    }
    -- in ring-back
    ∷ record {
      slot = pending first_ring_back asked 1020;
      gives = (0 ∷ 3 ∷ []) ∷ (1 ∷ []) ∷ (1 ∷ [])
          ∷ (1 ∷ []) ∷ (1 ∷ []) ∷ (1 ∷ []) ∷ (1 ∷ []) ∷ (1 ∷ [])
          ∷ (35 ∷ []) ∷ (35 ∷ [])
          ∷ (0 ∷ 3 ∷ []) ∷ (0 ∷ []) ∷ (0 ∷ 3 ∷ [])
          ∷ (1 ∷ []) ∷ (1 ∷ []) ∷ (1 ∷ []) ∷ (1 ∷ [])
          ∷ (1 ∷ []) ∷ (1 ∷ []) ∷ (1 ∷ []) ∷ (38 ∷ []) ∷ (37 ∷ []) ∷ [];
    }
    -- in ring-back, sent again
    ∷ record {
      slot = pending second_ring_back asked 1020;
      gives = (0 ∷ 2 ∷ []) ∷ (1 ∷ []) ∷ (1 ∷ [])
          ∷ (1 ∷ []) ∷ (1 ∷ []) ∷ (1 ∷ []) ∷ (1 ∷ []) ∷ (1 ∷ [])
          ∷ (35 ∷ []) ∷ (35 ∷ [])
          ∷ (0 ∷ 3 ∷ []) ∷ (0 ∷ []) ∷ (0 ∷ 3 ∷ [])
          ∷ (1 ∷ []) ∷ (1 ∷ []) ∷ (1 ∷ []) ∷ (1 ∷ [])
          ∷ (1 ∷ []) ∷ (1 ∷ []) ∷ (1 ∷ []) ∷ (38 ∷ []) ∷ (37 ∷ []) ∷ [];
    }
    -- acknowledged
    ∷ record {
      slot = pending acknowledged asked 1020;
      gives = (0 ∷ 2 ∷ []) ∷ (0 ∷ 5 ∷ []) ∷ (1 ∷ [])
          ∷ (1 ∷ []) ∷ (1 ∷ []) ∷ (1 ∷ []) ∷ (1 ∷ []) ∷ (1 ∷ [])
          ∷ (35 ∷ []) ∷ (35 ∷ [])
          ∷ (0 ∷ 3 ∷ []) ∷ (1 ∷ []) ∷ (0 ∷ 3 ∷ [])
          ∷ (1 ∷ []) ∷ (1 ∷ []) ∷ (1 ∷ []) ∷ (1 ∷ [])
          ∷ (1 ∷ []) ∷ (1 ∷ []) ∷ (1 ∷ []) ∷ (38 ∷ []) ∷ (37 ∷ []) ∷ [];
    }
    -- called from ashore
    ∷ record {
      slot = pending first_call asked 1020;
      gives = (0 ∷ 3 ∷ []) ∷ (1 ∷ []) ∷ (1 ∷ [])
          ∷ (1 ∷ []) ∷ (1 ∷ []) ∷ (0 ∷ 2 ∷ 6 ∷ []) ∷ (1 ∷ []) ∷ (1 ∷ [])
          ∷ (35 ∷ []) ∷ (35 ∷ [])
          ∷ (1 ∷ []) ∷ (0 ∷ 8 ∷ []) ∷ (1 ∷ [])
          ∷ (1 ∷ []) ∷ (1 ∷ []) ∷ (1 ∷ []) ∷ (1 ∷ [])
          ∷ (1 ∷ []) ∷ (0 ∷ 2 ∷ 10 ∷ 6 ∷ []) ∷ (1 ∷ []) ∷ (38 ∷ []) ∷ (37 ∷ []) ∷ [];
    }
    -- called from ashore, sent again
    ∷ record {
      slot = pending second_call asked 1020;
      gives = (0 ∷ 2 ∷ 10 ∷ 6 ∷ []) ∷ (1 ∷ []) ∷ (1 ∷ [])
          ∷ (1 ∷ []) ∷ (1 ∷ []) ∷ (0 ∷ 2 ∷ 6 ∷ []) ∷ (1 ∷ []) ∷ (1 ∷ [])
          ∷ (35 ∷ []) ∷ (35 ∷ [])
          ∷ (1 ∷ []) ∷ (0 ∷ 8 ∷ []) ∷ (1 ∷ [])
          ∷ (1 ∷ []) ∷ (1 ∷ []) ∷ (1 ∷ []) ∷ (1 ∷ [])
          ∷ (1 ∷ []) ∷ (0 ∷ 2 ∷ 10 ∷ 6 ∷ []) ∷ (1 ∷ []) ∷ (38 ∷ []) ∷ (37 ∷ []) ∷ [];
    }
    -- called from ashore, ringing
    ∷ record {
      slot = pending ringing asked 1020;
      gives = (0 ∷ 9 ∷ 2 ∷ 10 ∷ 6 ∷ []) ∷ (1 ∷ []) ∷ (1 ∷ [])
          ∷ (1 ∷ []) ∷ (1 ∷ []) ∷ (0 ∷ 9 ∷ 2 ∷ 6 ∷ []) ∷ (0 ∷ 9 ∷ []) ∷ (1 ∷ [])
          ∷ (35 ∷ []) ∷ (35 ∷ [])
          ∷ (1 ∷ []) ∷ (1 ∷ []) ∷ (1 ∷ [])
          ∷ (1 ∷ []) ∷ (1 ∷ []) ∷ (1 ∷ []) ∷ (1 ∷ [])
          ∷ (1 ∷ []) ∷ (0 ∷ 9 ∷ 2 ∷ 10 ∷ 6 ∷ []) ∷ (1 ∷ []) ∷ (38 ∷ []) ∷ (37 ∷ []) ∷ [];
    }
    -- dialling
    ∷ record {
      slot = busy asked (dialling 1020) none;
      gives = (0 ∷ 6 ∷ 4 ∷ 2 ∷ []) ∷ (1 ∷ []) ∷ (0 ∷ 6 ∷ 4 ∷ 2 ∷ [])
          ∷ (0 ∷ []) ∷ (0 ∷ []) ∷ (0 ∷ 6 ∷ 4 ∷ 2 ∷ []) ∷ (0 ∷ []) ∷ (0 ∷ [])
          ∷ (35 ∷ []) ∷ (35 ∷ [])
          ∷ (1 ∷ []) ∷ (1 ∷ []) ∷ (0 ∷ 3 ∷ [])
          ∷ (1 ∷ []) ∷ (1 ∷ []) ∷ (1 ∷ []) ∷ (1 ∷ [])
          ∷ (1 ∷ []) ∷ (1 ∷ []) ∷ (1 ∷ []) ∷ (38 ∷ []) ∷ (37 ∷ []) ∷ [];
    }
    -- dialling, carrier absent
    ∷ record {
      slot = busy asked (dialling 1030) (some 1020);
      gives = (0 ∷ 6 ∷ 4 ∷ 2 ∷ []) ∷ (1 ∷ []) ∷ (0 ∷ 6 ∷ 4 ∷ 2 ∷ [])
          ∷ (0 ∷ []) ∷ (0 ∷ []) ∷ (0 ∷ 6 ∷ 4 ∷ 2 ∷ []) ∷ (0 ∷ []) ∷ (0 ∷ [])
          ∷ (35 ∷ []) ∷ (35 ∷ [])
          ∷ (1 ∷ []) ∷ (1 ∷ []) ∷ (0 ∷ 3 ∷ [])
          ∷ (1 ∷ []) ∷ (1 ∷ []) ∷ (1 ∷ []) ∷ (1 ∷ [])
          ∷ (1 ∷ []) ∷ (1 ∷ []) ∷ (1 ∷ []) ∷ (38 ∷ []) ∷ (37 ∷ []) ∷ [];
    }
    -- dialled out
    ∷ record {
      slot = busy asked (dialled_out 1020) none;
      gives = (0 ∷ 6 ∷ 4 ∷ 2 ∷ []) ∷ (1 ∷ []) ∷ (0 ∷ 6 ∷ 4 ∷ 2 ∷ [])
          ∷ (1 ∷ []) ∷ (0 ∷ []) ∷ (0 ∷ 6 ∷ 4 ∷ 2 ∷ []) ∷ (0 ∷ []) ∷ (0 ∷ [])
          ∷ (35 ∷ []) ∷ (35 ∷ [])
          ∷ (1 ∷ []) ∷ (1 ∷ []) ∷ (0 ∷ 3 ∷ [])
          ∷ (1 ∷ []) ∷ (1 ∷ []) ∷ (1 ∷ []) ∷ (1 ∷ [])
          ∷ (1 ∷ []) ∷ (1 ∷ []) ∷ (1 ∷ []) ∷ (38 ∷ []) ∷ (37 ∷ []) ∷ [];
    }
    -- dialled out, carrier absent
    ∷ record {
      slot = busy asked (dialled_out 1030) (some 1020);
      gives = (0 ∷ 6 ∷ 4 ∷ 2 ∷ []) ∷ (1 ∷ []) ∷ (0 ∷ 6 ∷ 4 ∷ 2 ∷ [])
          ∷ (1 ∷ []) ∷ (0 ∷ []) ∷ (0 ∷ 6 ∷ 4 ∷ 2 ∷ []) ∷ (0 ∷ []) ∷ (0 ∷ [])
          ∷ (35 ∷ []) ∷ (35 ∷ [])
          ∷ (1 ∷ []) ∷ (1 ∷ []) ∷ (0 ∷ 3 ∷ [])
          ∷ (1 ∷ []) ∷ (1 ∷ []) ∷ (1 ∷ []) ∷ (1 ∷ [])
          ∷ (1 ∷ []) ∷ (1 ∷ []) ∷ (1 ∷ []) ∷ (38 ∷ []) ∷ (37 ∷ []) ∷ [];
    }
    -- dialled out in simplex, carrier absent
    ∷ record {
      slot = busy simply (dialled_out 1030) (some 1020);
      gives = (0 ∷ 6 ∷ 4 ∷ 2 ∷ []) ∷ (1 ∷ []) ∷ (0 ∷ 6 ∷ 4 ∷ 2 ∷ [])
          ∷ (1 ∷ []) ∷ (0 ∷ []) ∷ (0 ∷ 6 ∷ 4 ∷ 2 ∷ []) ∷ (0 ∷ []) ∷ (0 ∷ [])
          ∷ (35 ∷ []) ∷ (35 ∷ [])
          ∷ (0 ∷ 6 ∷ 4 ∷ 2 ∷ 1 ∷ 3 ∷ []) ∷ (1 ∷ []) ∷ (0 ∷ 3 ∷ [])
          ∷ (1 ∷ []) ∷ (1 ∷ []) ∷ (1 ∷ []) ∷ (1 ∷ [])
          ∷ (1 ∷ []) ∷ (1 ∷ []) ∷ (1 ∷ []) ∷ (38 ∷ []) ∷ (37 ∷ []) ∷ [];
    }
    -- answered
    ∷ record {
      slot = busy asked (answered 900) none;
      gives = (0 ∷ []) ∷ (1 ∷ []) ∷ (0 ∷ 7 ∷ 6 ∷ 4 ∷ 2 ∷ [])
          ∷ (1 ∷ []) ∷ (1 ∷ []) ∷ (0 ∷ 7 ∷ 6 ∷ 4 ∷ 2 ∷ []) ∷ (0 ∷ []) ∷ (0 ∷ [])
          ∷ (35 ∷ []) ∷ (35 ∷ [])
          ∷ (1 ∷ []) ∷ (1 ∷ []) ∷ (0 ∷ 3 ∷ [])
          ∷ (1 ∷ []) ∷ (1 ∷ []) ∷ (1 ∷ []) ∷ (1 ∷ [])
          ∷ (1 ∷ []) ∷ (1 ∷ []) ∷ (1 ∷ []) ∷ (38 ∷ []) ∷ (37 ∷ []) ∷ [];
    }
    -- answered, carrier absent
    ∷ record {
      slot = busy asked (answered 900) (some 1020);
      gives = (0 ∷ 7 ∷ 6 ∷ 4 ∷ 2 ∷ []) ∷ (1 ∷ []) ∷ (0 ∷ 7 ∷ 6 ∷ 4 ∷ 2 ∷ [])
          ∷ (1 ∷ []) ∷ (1 ∷ []) ∷ (0 ∷ 7 ∷ 6 ∷ 4 ∷ 2 ∷ []) ∷ (0 ∷ []) ∷ (0 ∷ [])
          ∷ (35 ∷ []) ∷ (35 ∷ [])
          ∷ (1 ∷ []) ∷ (1 ∷ []) ∷ (0 ∷ 3 ∷ [])
          ∷ (1 ∷ []) ∷ (1 ∷ []) ∷ (1 ∷ []) ∷ (1 ∷ [])
          ∷ (1 ∷ []) ∷ (1 ∷ []) ∷ (1 ∷ []) ∷ (38 ∷ []) ∷ (37 ∷ []) ∷ [];
    }
    -- answered in simplex, carrier absent
    ∷ record {
      slot = busy simply (answered 900) (some 1020);
      gives = (0 ∷ 7 ∷ 6 ∷ 4 ∷ 2 ∷ []) ∷ (1 ∷ []) ∷ (0 ∷ 7 ∷ 6 ∷ 4 ∷ 2 ∷ [])
          ∷ (1 ∷ []) ∷ (1 ∷ []) ∷ (0 ∷ 7 ∷ 6 ∷ 4 ∷ 2 ∷ []) ∷ (0 ∷ []) ∷ (0 ∷ [])
          ∷ (35 ∷ []) ∷ (35 ∷ [])
          ∷ (0 ∷ 7 ∷ 6 ∷ 4 ∷ 2 ∷ 1 ∷ 3 ∷ []) ∷ (1 ∷ []) ∷ (0 ∷ 3 ∷ [])
          ∷ (1 ∷ []) ∷ (1 ∷ []) ∷ (1 ∷ []) ∷ (1 ∷ [])
          ∷ (1 ∷ []) ∷ (1 ∷ []) ∷ (1 ∷ []) ∷ (38 ∷ []) ∷ (37 ∷ []) ∷ [];
    }
    -- in its hold
    ∷ record {
      slot = held asked None 1020;
      gives = (0 ∷ []) ∷ (1 ∷ []) ∷ (0 ∷ 1 ∷ 4 ∷ 2 ∷ [])
          ∷ (1 ∷ []) ∷ (1 ∷ []) ∷ (1 ∷ []) ∷ (1 ∷ []) ∷ (1 ∷ [])
          ∷ (35 ∷ []) ∷ (35 ∷ [])
          ∷ (0 ∷ 3 ∷ []) ∷ (1 ∷ []) ∷ (0 ∷ 3 ∷ [])
          ∷ (1 ∷ []) ∷ (1 ∷ []) ∷ (1 ∷ []) ∷ (1 ∷ [])
          ∷ (1 ∷ []) ∷ (1 ∷ []) ∷ (1 ∷ []) ∷ (38 ∷ []) ∷ (37 ∷ []) ∷ [];
    }
    ∷ []
