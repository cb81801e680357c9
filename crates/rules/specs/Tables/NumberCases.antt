-- A case for each sentence of 02's no. 4, a number for every call: which numbers a short script gives, and what it prints once they are used up.
use Rattle.std.specs.Prelude.{List, [], ◌∷◌, ◌++◌, map, ℕ, length, replicate, None}
use Rattle.std.proofs.Math.Option.{none, some}
use Rattle.rules.specs.Rules.Words.{simplex, duplex, mode_number, Event}
use Rattle.rules.specs.Rules.Station.{offered, first_ring_back, acknowledged, first_call, ringing, answered, Slot, free, taken}
use Rattle.rules.specs.Rules.Station.{call_number_in, Waiting, Station, fresh}
use Rattle.rules.specs.Tables.Slots.{pending, busy, held}
use Rattle.rules.specs.Rules.Verdict.{step, final}
use Rattle.rules.specs.Rules.Printed.{lines}
use Rattle.rules.specs.Tables.Runs.{station, seven, eight, nine, usual, calls_for, calls, data_calls, accepts, shore_calls, works}
use Rattle.rules.specs.Tables.Runs.{ends, ticks, picks_up, hangs, regains, loses, reserves, restores}
use Rattle.rules.specs.Tables.Cases.{Row}
use Rattle.rules.specs.Tables.SoundCases.{from}
use Rattle.rules.specs.Tables.Scripts.{gives, waits, waiting_ships, charges, unable109_seven, ack_seven26, ack_seven26_simplex}
use Rattle.rules.specs.Tables.Scripts.{over_seven_by_coast0, over_seven_by_coast15, ring_back_seven26, ring_back_eight26, call_seven26}
use Rattle.rules.specs.Tables.Scripts.{unable107_seven, unable107_eight, unable107_seven_of42}

-- ── how a case is written ────────────────────────────────────────────────────

-- the last number given, and of each slot the number that it keeps
abbrev pub numbers_in : Station → List ℕ
numbers_in st = st.last_call ∷ map call_number_in st.slots

-- after a script, on a fresh station with so many channels
abbrev pub numbers : ℕ → List Event → List ℕ
numbers n es = numbers_in (final (station n) es (fresh (station n)))

-- after a script to which its last events are added one by one
abbrev pub one_by_one : ℕ → List Event → List Event → List (List ℕ)
one_by_one n es [] = numbers n es ∷ []
one_by_one n es (e ∷ more) = numbers n es ∷ one_by_one n (es ++ e ∷ []) more

-- a station at the clock 1000, its slots of the call 1, that has given so many numbers
abbrev pub having : ℕ → List Slot → List Waiting → Station
having n slots queue = record { clock = 1000; slots = slots; queue = queue; last_call = n }

-- which ships wait, and in which mode
abbrev pub waiting : List Waiting → List ℕ
waiting [] = []
waiting (w ∷ q) = w.request.who.ship ∷ mode_number w.request.mode ∷ waiting q

-- what each event prints then; behind them the numbers and the queue
abbrev pub tells : Station → List Event → List (List ℕ)
tells st [] = numbers_in st ∷ waiting st.queue ∷ []
tells st (e ∷ es) =
    lines (station (length st.slots)) (step (station (length st.slots)) st e)
    ++ tells (step (station (length st.slots)) st e).next es

-- ── which call gets a number ──────────────────────────────────────────────────

-- "Each offer .. that takes a slot gets the next call number from 1"
abbrev pub offers_numbered : Row
offers_numbered = record {
  computed = one_by_one 2 [] (calls 100 seven duplex ∷ calls 110 eight duplex ∷ ticks 261 ∷ calls 262 nine duplex ∷ []);
  expected = (0 ∷ 0 ∷ 0 ∷ []) ∷ (1 ∷ 1 ∷ 0 ∷ []) ∷ (2 ∷ 1 ∷ 2 ∷ []) ∷ (2 ∷ 0 ∷ 2 ∷ []) ∷ (3 ∷ 3 ∷ 2 ∷ []) ∷ [];
}

-- "a repeated acknowledgement keeps it"
abbrev pub repeat_keeps_number : Row
repeat_keeps_number = record {
  computed = one_by_one 1 (calls 100 seven duplex ∷ []) (calls 110 seven duplex ∷ calls 120 seven duplex ∷ []);
  expected = (1 ∷ 1 ∷ []) ∷ (1 ∷ 1 ∷ []) ∷ (1 ∷ 1 ∷ []) ∷ [];
}

-- "an offer made afresh takes a new one": another number, another mode
abbrev pub afresh_numbered : Row
afresh_numbered = record {
  computed = one_by_one 1 (calls 100 seven duplex ∷ []) (calls_for (4 ∷ 2 ∷ []) 110 seven duplex ∷ calls 120 seven simplex ∷ []);
  expected = (1 ∷ 1 ∷ []) ∷ (2 ∷ 2 ∷ []) ∷ (3 ∷ 3 ∷ []) ∷ [];
}

-- "ring-back": as its slot is taken; its repeat and the ship's BQ keep it, an offer afresh behind it takes the next
abbrev pub ring_back_numbered : Row
ring_back_numbered = record {
  computed = one_by_one 1 (reserves 50 0 ∷ calls 100 seven duplex ∷ [])
      (restores 200 0 ∷ ticks 251 ∷ accepts 260 26 seven ∷ calls 270 seven duplex ∷ []);
  expected = (0 ∷ 0 ∷ []) ∷ (1 ∷ 1 ∷ []) ∷ (1 ∷ 1 ∷ []) ∷ (1 ∷ 1 ∷ []) ∷ (2 ∷ 2 ∷ []) ∷ [];
}

-- "or call from ashore"; its second sending, the ringing, the answer and the hold keep it
abbrev pub shore_call_numbered : Row
shore_call_numbered = record {
  computed = one_by_one 1 []
      (shore_calls 100 seven duplex ∷ ticks 151 ∷ accepts 160 26 seven ∷ regains 200 0 ∷ ends 240 0 seven ∷ ticks 281 ∷
      shore_calls 290 seven duplex ∷ []);
  expected = (0 ∷ 0 ∷ []) ∷ (1 ∷ 1 ∷ []) ∷ (1 ∷ 1 ∷ []) ∷ (1 ∷ 1 ∷ []) ∷ (1 ∷ 1 ∷ []) ∷ (1 ∷ 1 ∷ []) ∷ (1 ∷ 0 ∷ []) ∷
      (2 ∷ 2 ∷ []) ∷ [];
}

-- a place in the queue, the same asked again, data, and calls from ashore refused with 37 and 38 take none
abbrev pub none_taken : Row
none_taken = record {
  computed = one_by_one 1 (calls 100 seven duplex ∷ [])
      (calls 110 eight duplex ∷ calls 111 eight simplex ∷ data_calls 112 nine ∷ shore_calls 113 nine duplex ∷
      shore_calls 114 seven duplex ∷ []);
  expected = replicate 6 (1 ∷ 1 ∷ []);
}

-- "The slot's record holds it": from its offer through dialling, answer and hold, whatever begins between
abbrev pub record_holds : Row
record_holds = record {
  computed = one_by_one 2 (calls 100 seven duplex ∷ [])
      (calls 110 eight duplex ∷ works 120 0 seven ∷ picks_up 130 0 ∷ loses 135 0 ∷ regains 137 0 ∷ ends 140 0 seven ∷ []);
  expected = (1 ∷ 1 ∷ 0 ∷ []) ∷ replicate 6 (2 ∷ 1 ∷ 2 ∷ []);
}

-- ── the charge ────────────────────────────────────────────────────────────────

-- "the charge action carries it as a fifth field": four bytes, low first; here of the second of two short calls of one ship
abbrev pub charge_numbered : Row
charge_numbered = record {
  computed = gives 1 (calls 100 seven duplex ∷ works 200 0 seven ∷ picks_up 300 0 ∷ hangs 309 0 ∷ calls 310 seven duplex ∷
      works 320 0 seven ∷ picks_up 330 0 ∷ hangs 339 0 ∷ []);
  expected = (0 ∷ 339 ∷ 4 ∷ [])
      ∷ (7 ∷ 0 ∷ 7 ∷ 194 ∷ 235 ∷ 11 ∷ 74 ∷ 1 ∷ 0 ∷ 0 ∷ 83 ∷ 1 ∷ 0 ∷ 0 ∷ 0 ∷ 0 ∷ 0 ∷ 0 ∷ 2 ∷ 0 ∷ 0 ∷ 0 ∷ [])
      ∷ (6 ∷ 0 ∷ []) ∷ (4 ∷ 0 ∷ over_seven_by_coast0) ∷ (2 ∷ 0 ∷ []) ∷ [];
}

-- the number of the offer that was dialled, not of the one that it took the place of, nor the last one given
abbrev pub charged_as_dialled : Row
charged_as_dialled = record {
  computed = gives 2 (calls 100 seven simplex ∷ calls 110 seven duplex ∷ calls 120 eight duplex ∷ works 130 0 seven ∷ picks_up 140 0 ∷
      hangs 149 0 ∷ []);
  expected = (0 ∷ 149 ∷ 4 ∷ 281 ∷ []) ∷ (charges 0 seven 140 149 0 2) ∷ (6 ∷ 0 ∷ []) ∷ (4 ∷ 0 ∷ over_seven_by_coast0) ∷ (2 ∷ 0 ∷ []) ∷ [];
}

-- ── the last number ───────────────────────────────────────────────────────────

-- 4,294,967,295 is given, and charged
abbrev pub last_given : Row
last_given = record {
  computed = tells (having 4294967294 (free ∷ []) [])
      (calls 1000 seven duplex ∷ works 1010 0 seven ∷ picks_up 1020 0 ∷ hangs 1029 0 ∷ []);
  expected = (0 ∷ 1000 ∷ 2 ∷ 1161 ∷ []) ∷ (1 ∷ 0 ∷ []) ∷ (3 ∷ 0 ∷ ack_seven26)
      ∷ (0 ∷ 1010 ∷ 1 ∷ 1611 ∷ []) ∷ (5 ∷ 0 ∷ usual) ∷ (0 ∷ 1020 ∷ 0 ∷ [])
      ∷ (0 ∷ 1029 ∷ 4 ∷ [])
      ∷ (7 ∷ 0 ∷ 7 ∷ 194 ∷ 235 ∷ 11 ∷ 252 ∷ 3 ∷ 0 ∷ 0 ∷ 5 ∷ 4 ∷ 0 ∷ 0 ∷ 0 ∷ 0 ∷ 0 ∷ 0 ∷ 255 ∷ 255 ∷ 255 ∷ 255 ∷ [])
      ∷ (6 ∷ 0 ∷ []) ∷ (4 ∷ 0 ∷ over_seven_by_coast0) ∷ (2 ∷ 0 ∷ []) ∷ (4294967295 ∷ 0 ∷ []) ∷ [] ∷ [];
}

-- to an offer afresh, to a ring-back, to a call from ashore
abbrev pub last_afresh : Row
last_afresh = record {
  computed = tells (having 4294967294 (pending offered (from seven duplex) 1161 ∷ []) []) (calls 1000 seven simplex ∷ []);
  expected = (0 ∷ 1000 ∷ 1 ∷ 1161 ∷ []) ∷ (3 ∷ 0 ∷ ack_seven26_simplex) ∷ (4294967295 ∷ 4294967295 ∷ []) ∷ [] ∷ [];
}

abbrev pub last_rung_back : Row
last_rung_back = record {
  computed = tells (having 4294967294 (taken ∷ []) (waits eight 2000 ∷ [])) (restores 1000 0 ∷ []);
  expected = (0 ∷ 1000 ∷ 2 ∷ 1051 ∷ []) ∷ (1 ∷ 0 ∷ []) ∷ (3 ∷ 0 ∷ ring_back_eight26) ∷ (4294967295 ∷ 4294967295 ∷ []) ∷ [] ∷ [];
}

abbrev pub last_called : Row
last_called = record {
  computed = tells (having 4294967294 (free ∷ []) []) (shore_calls 1000 seven duplex ∷ []);
  expected = (0 ∷ 1000 ∷ 2 ∷ 1051 ∷ []) ∷ (1 ∷ 0 ∷ []) ∷ (3 ∷ 0 ∷ call_seven26) ∷ (4294967295 ∷ 4294967295 ∷ []) ∷ [] ∷ [];
}

-- the next request, and the next call from ashore, with a slot free
abbrev pub behind_the_last : Row
behind_the_last = record {
  computed = tells (having 4294967294 (free ∷ free ∷ []) [])
      (calls 1000 seven duplex ∷ calls 1001 eight duplex ∷ shore_calls 1002 eight duplex ∷ []);
  expected = (0 ∷ 1000 ∷ 2 ∷ 1161 ∷ []) ∷ (1 ∷ 0 ∷ []) ∷ (3 ∷ 0 ∷ ack_seven26)
      ∷ (0 ∷ 1001 ∷ 1 ∷ 1161 ∷ []) ∷ (3 ∷ 255 ∷ unable107_eight)
      ∷ (37 ∷ 1001 ∷ 0 ∷ 1161 ∷ []) ∷ (4294967295 ∷ 4294967295 ∷ 0 ∷ []) ∷ [] ∷ [];
}

-- rule c's ring-back may take it: then its ship gets 107
abbrev pub last_rung_back_by_c : Row
last_rung_back_by_c = record {
  computed = tells (having 4294967294 (busy (from seven simplex) (answered 850) (some 1200) ∷ []) (waits eight 2000 ∷ []))
      (calls 1000 seven simplex ∷ []);
  expected = (0 ∷ 1000 ∷ 7 ∷ 1051 ∷ []) ∷ (charges 0 seven 850 1000 15 1) ∷ (6 ∷ 0 ∷ []) ∷ (4 ∷ 0 ∷ over_seven_by_coast15) ∷ (2 ∷ 0 ∷ [])
      ∷ (1 ∷ 0 ∷ []) ∷ (3 ∷ 0 ∷ ring_back_eight26) ∷ (3 ∷ 255 ∷ unable107_seven) ∷ (4294967295 ∷ 4294967295 ∷ []) ∷ [] ∷ [];
}

-- ── "once 4,294,967,295 has been given" ────────────────────────────────────────

abbrev pub exhausted : List Slot → List Waiting → Station
exhausted slots queue = having 4294967295 slots queue

-- rules a and b: data and a repeated acknowledgement are answered as ever
abbrev pub used_up_repeat : Row
used_up_repeat = record {
  computed = tells (exhausted (pending offered (from seven duplex) 1161 ∷ []) []) (data_calls 1000 seven ∷ calls 1001 seven duplex ∷ []);
  expected = (0 ∷ 1000 ∷ 1 ∷ 1161 ∷ []) ∷ (3 ∷ 255 ∷ unable109_seven) ∷ (0 ∷ 1001 ∷ 1 ∷ 1161 ∷ []) ∷ (3 ∷ 0 ∷ ack_seven26)
      ∷ (4294967295 ∷ 1 ∷ []) ∷ [] ∷ [];
}

-- "an offer afresh under rule b answer[s] 104/107 and change[s] nothing else": what is dialled is the old request
abbrev pub used_up_afresh : Row
used_up_afresh = record {
  computed = tells (exhausted (pending offered (from seven duplex) 1161 ∷ []) [])
      (calls_for (4 ∷ 2 ∷ []) 1000 seven duplex ∷ works 1001 0 seven ∷ []);
  expected = (0 ∷ 1000 ∷ 1 ∷ 1161 ∷ []) ∷ (3 ∷ 255 ∷ unable107_seven_of42) ∷ (0 ∷ 1001 ∷ 1 ∷ 1602 ∷ []) ∷ (5 ∷ 0 ∷ usual)
      ∷ (4294967295 ∷ 1 ∷ []) ∷ [] ∷ [];
}

-- in ring-back, which is then sent once more and acknowledged as ever
abbrev pub used_up_ring_back : Row
used_up_ring_back = record {
  computed = tells (exhausted (pending first_ring_back (from seven duplex) 1051 ∷ []) [])
      (calls 1000 seven duplex ∷ ticks 1051 ∷ accepts 1060 26 seven ∷ calls 1061 seven duplex ∷ []);
  expected = (0 ∷ 1000 ∷ 1 ∷ 1051 ∷ []) ∷ (3 ∷ 255 ∷ unable107_seven) ∷ (0 ∷ 1051 ∷ 1 ∷ 1102 ∷ []) ∷ (3 ∷ 0 ∷ ring_back_seven26)
      ∷ (0 ∷ 1060 ∷ 0 ∷ 1221 ∷ []) ∷ (0 ∷ 1061 ∷ 1 ∷ 1221 ∷ []) ∷ (3 ∷ 255 ∷ unable107_seven) ∷ (4294967295 ∷ 1 ∷ []) ∷ [] ∷ [];
}

-- rule c ends its call first; the ship that waits is not rung back
abbrev pub used_up_c : Row
used_up_c = record {
  computed = tells (exhausted (busy (from seven simplex) (answered 850) (some 1200) ∷ []) (waits eight 2000 ∷ []))
      (calls 1000 seven simplex ∷ []);
  expected = (0 ∷ 1000 ∷ 5 ∷ 2000 ∷ []) ∷ (charges 0 seven 850 1000 15 1) ∷ (6 ∷ 0 ∷ []) ∷ (4 ∷ 0 ∷ over_seven_by_coast15) ∷ (2 ∷ 0 ∷ [])
      ∷ (3 ∷ 255 ∷ unable107_seven) ∷ (4294967295 ∷ 0 ∷ []) ∷ (eight ∷ 101 ∷ []) ∷ [];
}

-- "rules d to g": d, the old request stays
abbrev pub used_up_d : Row
used_up_d = record {
  computed = tells (exhausted (taken ∷ []) (waits seven 2000 ∷ [])) (calls 1000 seven simplex ∷ []);
  expected = (0 ∷ 1000 ∷ 1 ∷ 2000 ∷ []) ∷ (3 ∷ 255 ∷ unable107_seven) ∷ (4294967295 ∷ 0 ∷ []) ∷ (seven ∷ 101 ∷ []) ∷ [];
}

-- e, with a slot free
abbrev pub used_up_e : Row
used_up_e = record {
  computed = tells (exhausted (free ∷ []) []) (calls 1000 seven duplex ∷ []);
  expected = (0 ∷ 1000 ∷ 1 ∷ []) ∷ (3 ∷ 255 ∷ unable107_seven) ∷ (4294967295 ∷ 0 ∷ []) ∷ [] ∷ [];
}

-- f, with room in the queue
abbrev pub used_up_f : Row
used_up_f = record {
  computed = tells (exhausted (taken ∷ []) []) (calls 1000 seven duplex ∷ []);
  expected = (0 ∷ 1000 ∷ 1 ∷ []) ∷ (3 ∷ 255 ∷ unable107_seven) ∷ (4294967295 ∷ 0 ∷ []) ∷ [] ∷ [];
}

-- g, with none: 107, not 102
abbrev pub used_up_g : Row
used_up_g = record {
  computed = lines (station 1) (step (station 1) (exhausted (taken ∷ []) (waiting_ships 32)) (calls 1000 seven duplex));
  expected = (0 ∷ 1000 ∷ 1 ∷ 9101 ∷ []) ∷ (3 ∷ 255 ∷ unable107_seven) ∷ [];
}

-- "no waiting ship is rung back": a slot given back, an acknowledged slot and a hold that fall due; the ships wait out their time
abbrev pub used_up_freed : Row
used_up_freed = record {
  computed = tells (exhausted (taken ∷ []) (waits eight 2000 ∷ [])) (restores 1000 0 ∷ ticks 2000 ∷ [])
      ++ tells (exhausted (pending acknowledged (from seven duplex) 1161 ∷ []) (waits eight 2000 ∷ [])) (ticks 1161 ∷ [])
      ++ tells (exhausted (held (from seven duplex) None 1041 ∷ []) (waits eight 2000 ∷ [])) (ticks 1041 ∷ []);
  expected = (0 ∷ 1000 ∷ 0 ∷ 2000 ∷ []) ∷ (0 ∷ 2000 ∷ 0 ∷ []) ∷ (4294967295 ∷ 0 ∷ []) ∷ []
      ∷ (0 ∷ 1161 ∷ 1 ∷ 2000 ∷ []) ∷ (2 ∷ 0 ∷ []) ∷ (4294967295 ∷ 0 ∷ []) ∷ (eight ∷ 101 ∷ [])
      ∷ (0 ∷ 1041 ∷ 0 ∷ 2000 ∷ []) ∷ (4294967295 ∷ 0 ∷ []) ∷ (eight ∷ 101 ∷ []) ∷ [];
}

-- nor where a call ends, or one from ashore is dropped while it rings
abbrev pub used_up_ended : Row
used_up_ended = record {
  computed = tells (exhausted (busy (from seven simplex) (answered 850) none ∷ []) (waits eight 2000 ∷ [])) (hangs 1000 0 ∷ [])
      ++ tells (exhausted (pending ringing (from seven duplex) 1601 ∷ []) (waits eight 2000 ∷ [])) (hangs 1000 0 ∷ []);
  expected = (0 ∷ 1000 ∷ 4 ∷ 2000 ∷ []) ∷ (charges 0 seven 850 1000 15 1) ∷ (6 ∷ 0 ∷ []) ∷ (4 ∷ 0 ∷ over_seven_by_coast15) ∷ (2 ∷ 0 ∷ [])
      ∷ (4294967295 ∷ 0 ∷ []) ∷ (eight ∷ 101 ∷ [])
      ∷ (0 ∷ 1000 ∷ 3 ∷ 2000 ∷ []) ∷ (9 ∷ 0 ∷ []) ∷ (2 ∷ 0 ∷ []) ∷ (6 ∷ 0 ∷ []) ∷ (4294967295 ∷ 0 ∷ []) ∷ (eight ∷ 101 ∷ []) ∷ [];
}

-- "and a caller ashore gets 37", with a slot free; but 38 before it
abbrev pub used_up_shore : Row
used_up_shore = record {
  computed = tells (exhausted (free ∷ []) (waits eight 2000 ∷ [])) (shore_calls 1000 seven duplex ∷ shore_calls 1000 eight duplex ∷ []);
  expected = (37 ∷ 1000 ∷ 0 ∷ 2000 ∷ []) ∷ (38 ∷ 1000 ∷ 0 ∷ 2000 ∷ []) ∷ (4294967295 ∷ 0 ∷ []) ∷ (eight ∷ 101 ∷ []) ∷ [];
}

-- a call from ashore that has its number rings and is answered as ever
abbrev pub used_up_called : Row
used_up_called = record {
  computed = tells (exhausted (pending first_call (from seven duplex) 1051 ∷ []) [])
      (calls 1000 seven duplex ∷ accepts 1010 26 seven ∷ regains 1020 0 ∷ []);
  expected = (1 ∷ 1000 ∷ 0 ∷ 1051 ∷ []) ∷ (0 ∷ 1010 ∷ 1 ∷ 1611 ∷ []) ∷ (8 ∷ 0 ∷ []) ∷ (0 ∷ 1020 ∷ 1 ∷ []) ∷ (9 ∷ 0 ∷ [])
      ∷ (4294967295 ∷ 1 ∷ []) ∷ [] ∷ [];
}

-- ── all of them ──────────────────────────────────────────────────────────────

abbrev pub number_cases : List Row
number_cases =
    offers_numbered ∷ repeat_keeps_number ∷ afresh_numbered ∷ ring_back_numbered ∷ shore_call_numbered ∷ none_taken ∷ record_holds ∷
    charge_numbered ∷ charged_as_dialled ∷ last_given ∷ last_afresh ∷ last_rung_back ∷ last_called ∷ behind_the_last ∷ last_rung_back_by_c ∷
    used_up_repeat ∷ used_up_afresh ∷ used_up_ring_back ∷ used_up_c ∷ used_up_d ∷ used_up_e ∷ used_up_f ∷ used_up_g ∷ used_up_freed ∷ used_up_ended ∷
    used_up_shore ∷ used_up_called ∷ []
