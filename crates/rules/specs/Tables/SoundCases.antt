-- Which station is sound and which is not: a case for each part of 01's sentence, and for each bound on both its sides.
use Rattle.std.specs.Prelude.{List, [], ◌∷◌, ℕ, replicate, Option as Optional, Some, None}
use Rattle.std.proofs.Math.Option.{Option, none, some}
use Rattle.units.specs.declared.Duration.{Duration}
use Rattle.rules.specs.Rules.Words.{Mode, simplex, duplex, Request, Config}
use Rattle.rules.specs.Rules.Station.{Kind, offered, first_ring_back, second_ring_back, acknowledged, first_call, second_call, ringing}
use Rattle.rules.specs.Rules.Station.{dialling, dialled_out, answered}
use Rattle.rules.specs.Rules.Station.{Slot, free, Waiting, Station}
use Rattle.rules.specs.Tables.Slots.{pending, busy, held}
use Rattle.rules.specs.Rules.Verdict.{verdict, set_up_verdict}
use Rattle.rules.specs.Tables.Runs.{station, seven, eight, usual, ticks, station_of}
use Rattle.rules.specs.Tables.Scripts.{waits, waiting_ships}

-- ── how a case is written ────────────────────────────────────────────────────

-- a request of a ship to a station, with a mode, a second telecommand and a number
abbrev pub asking : ℕ → ℕ → Mode → ℕ → List ℕ → Request
asking x s m second digits = record { who = record { ship = x; station = s }; mode = m; second = second; number = digits }

abbrev pub from : ℕ → Mode → Request
from x m = asking x 2001234 m 126 usual

abbrev pub lasting : ℕ → ℕ → ℕ → Optional Duration
lasting h m s = Some (record { hours = h; minutes = m; seconds = s })

-- each kind of a slot before its line is dialled
abbrev pub kinds : List Kind
kinds = offered ∷ first_ring_back ∷ second_ring_back ∷ acknowledged ∷ first_call ∷ second_call ∷ ringing ∷ []

-- at the clock 1000, on two channels
abbrev pub holding : List Slot → List Waiting → Station
holding slots queue = record { clock = 1000; slots = slots; queue = queue; last_call = 1 }

-- the verdict on a tick then
abbrev pub asked : Config → Station → Option ℕ
asked c st = verdict c st (ticks st.clock)

-- with one slot in use, or with one ship waiting
abbrev pub with : Slot → Option ℕ
with s = asked (station 2) (holding (s ∷ free ∷ []) [])

abbrev pub queued : List Waiting → Option ℕ
queued q = asked (station 2) (holding (free ∷ free ∷ []) q)

abbrev pub set_up : ℕ → List ℕ → Option ℕ
set_up n l = set_up_verdict (station_of n l)

pub record Judged : Type 0 where
  pub given : Option ℕ
  pub expected : Option ℕ

abbrev pub sounds : Option ℕ → Judged
sounds o = record { given = o; expected = none }

abbrev pub unsound : Option ℕ → Judged
unsound o = record { given = o; expected = some 29 }

abbrev pub refused36 : Option ℕ → Judged
refused36 o = record { given = o; expected = some 36 }

-- ── the cases ────────────────────────────────────────────────────────────────

-- 36: identity or channel list bad
abbrev pub set_up_cases : List Judged
set_up_cases =
    -- one channel
    sounds (set_up 2001234 (26 ∷ []))
    -- sixteen
    ∷ sounds (set_up 2001234 (1 ∷ 2 ∷ 3 ∷ 4 ∷ 5 ∷ 6 ∷ 7 ∷ 8 ∷ 9 ∷ 10 ∷ 11 ∷ 12 ∷ 28 ∷ 60 ∷ 71 ∷ 88 ∷ []))
    -- a ship's identity
    ∷ refused36 (set_up 200000007 (26 ∷ []))
    -- no channel
    ∷ refused36 (set_up 2001234 [])
    -- seventeen
    ∷ refused36 (set_up 2001234 (1 ∷ 2 ∷ 3 ∷ 4 ∷ 5 ∷ 6 ∷ 7 ∷ 8 ∷ 9 ∷ 10 ∷ 11 ∷ 12 ∷ 28 ∷ 60 ∷ 71 ∷ 88 ∷ 87 ∷ []))
    -- one twice
    ∷ refused36 (set_up 2001234 (26 ∷ 27 ∷ 26 ∷ []))
    -- 16 and 70 are not for working; nor is a number between or above, as MF and HF have
    ∷ refused36 (set_up 2001234 (16 ∷ []))
    -- 70
    ∷ refused36 (set_up 2001234 (70 ∷ []))
    -- 29
    ∷ refused36 (set_up 2001234 (29 ∷ []))
    -- 2182
    ∷ refused36 (set_up 2001234 (2182 ∷ []))
    ∷ []

-- identity, channels, stored requests, hold durations
abbrev pub stored_cases : List Judged
stored_cases =
    -- a station of two channels with nothing on them
    sounds (queued [])
    -- the identity is not a coast station's
    ∷ unsound (asked (station_of 200000007 (26 ∷ 27 ∷ [])) (holding (free ∷ free ∷ []) []))
    -- more slots than channels
    ∷ unsound (asked (station 2) (holding (free ∷ free ∷ free ∷ []) []))
    -- a request to this station
    ∷ sounds (with (pending offered (from seven duplex) 1161))
    -- to another
    ∷ unsound (with (pending offered (asking seven 2001235 duplex 126 usual) 1161))
    -- from no ship
    ∷ unsound (with (pending offered (asking 2001235 2001234 duplex 126 usual) 1161))
    -- a second telecommand 127
    ∷ unsound (with (pending offered (asking seven 2001234 duplex 127 usual) 1161))
    -- no digit
    ∷ unsound (with (pending offered (asking seven 2001234 duplex 126 []) 1161))
    -- a digit over 9
    ∷ unsound (with (pending offered (asking seven 2001234 duplex 126 (10 ∷ [])) 1161))
    -- sixteen digits
    ∷ sounds (with (pending offered (asking seven 2001234 duplex 126 (replicate 16 9)) 1161))
    -- seventeen
    ∷ unsound (with (pending offered (asking seven 2001234 duplex 126 (replicate 17 9)) 1161))
    -- to another, in a call from ashore
    ∷ unsound (with (pending first_call (asking seven 2001235 duplex 126 usual) 1051))
    -- with no digit
    ∷ unsound (with (pending ringing (asking seven 2001234 duplex 126 []) 1601))
    -- to no ship
    ∷ unsound (with (pending second_call (asking 2001235 2001234 duplex 126 usual) 1051))
    -- in a call
    ∷ unsound (with (busy (asking seven 2001235 duplex 126 usual) (answered 900) none))
    -- in a hold
    ∷ unsound (with (held (asking seven 2001235 duplex 126 usual) None 1041))
    -- in the queue
    ∷ unsound (queued (record { request = asking seven 2001235 duplex 126 usual; due = 9000 } ∷ []))
    -- a hold of 99 59 59
    ∷ sounds (with (held (from seven duplex) (lasting 99 59 59) 1041))
    -- of a hundred hours
    ∷ unsound (with (held (from seven duplex) (lasting 100 0 0) 1041))
    -- of sixty minutes
    ∷ unsound (with (held (from seven duplex) (lasting 0 60 0) 1041))
    -- of sixty seconds
    ∷ unsound (with (held (from seven duplex) (lasting 0 0 60) 1041))
    ∷ []

-- clock, queue, no ship twice
abbrev pub count_cases : List Judged
count_cases =
    -- the clock at the limit
    sounds (asked (station 2) (record { clock = 4000000000; slots = free ∷ free ∷ []; queue = []; last_call = 1 }))
    -- past it
    ∷ unsound (asked (station 2) (record { clock = 4000000001; slots = free ∷ free ∷ []; queue = []; last_call = 1 }))
    -- 32 ships wait
    ∷ sounds (queued (waiting_ships 32))
    -- 33
    ∷ unsound (queued (waiting_ships 33))
    -- a ship waits twice
    ∷ unsound (queued (waits seven 2000 ∷ waits seven 2000 ∷ []))
    -- a ship waits and is offered a slot
    ∷ unsound (asked (station 2) (holding (pending offered (from seven duplex) 1161 ∷ free ∷ []) (waits seven 2000 ∷ [])))
    -- a ship has two slots
    ∷ unsound (asked (station 2)
    (holding (pending first_ring_back (from seven duplex) 1051 ∷ busy (from seven duplex) (answered 900) none ∷ []) []))
    -- one of them dialled out
    ∷ unsound (asked (station 2)
    (holding (busy (from seven duplex) (dialled_out 1601) none ∷ pending offered (from seven duplex) 1161 ∷ []) []))
    -- a ship is called from ashore and waits
    ∷ unsound (asked (station 2) (holding (pending first_call (from seven duplex) 1051 ∷ free ∷ []) (waits seven 2000 ∷ [])))
    -- and has a slot: called twice, called and offered, ringing and in a call
    ∷ unsound (asked (station 2)
    (holding (pending first_call (from seven duplex) 1051 ∷ pending second_call (from seven duplex) 1051 ∷ []) []))
    ∷ unsound (asked (station 2)
    (holding (pending offered (from seven duplex) 1161 ∷ pending second_call (from seven duplex) 1051 ∷ []) []))
    ∷ unsound (asked (station 2)
    (holding (pending ringing (from seven duplex) 1601 ∷ busy (from seven duplex) (answered 900) none ∷ []) []))
    -- two ships are called
    ∷ sounds (asked (station 2)
    (holding (pending ringing (from seven duplex) 1601 ∷ pending first_call (from eight duplex) 1051 ∷ []) []))
    -- a called ship may have a slot in its hold
    ∷ sounds (asked (station 2) (holding (held (from seven duplex) None 1041 ∷ pending first_call (from seven duplex) 1051 ∷ []) []))
    -- a ship in its hold may wait, and may have a slot
    ∷ sounds (asked (station 2) (holding (held (from seven duplex) None 1041 ∷ pending offered (from seven duplex) 1161 ∷ []) []))
    ∷ []

-- each due time, and each answered start
abbrev pub time_cases : List Judged
time_cases =
    -- an answered start at the clock
    sounds (with (busy (from seven duplex) (answered 1000) none))
    -- after it
    ∷ unsound (with (busy (from seven duplex) (answered 1001) none))
    -- an offer, from the clock
    ∷ sounds (with (pending offered (from seven duplex) 1000))
    -- before it
    ∷ unsound (with (pending offered (from seven duplex) 999))
    -- to the clock plus its wait and 1
    ∷ sounds (with (pending offered (from seven duplex) 1161))
    -- one tenth further
    ∷ unsound (with (pending offered (from seven duplex) 1162))
    -- a ring-back, from the clock
    ∷ sounds (with (pending first_ring_back (from seven duplex) 1000))
    -- before it
    ∷ unsound (with (pending first_ring_back (from seven duplex) 999))
    -- to the clock plus its wait and 1
    ∷ sounds (with (pending first_ring_back (from seven duplex) 1051))
    -- one tenth further
    ∷ unsound (with (pending first_ring_back (from seven duplex) 1052))
    -- a ring-back sent again, from the clock
    ∷ sounds (with (pending second_ring_back (from seven duplex) 1000))
    -- before it
    ∷ unsound (with (pending second_ring_back (from seven duplex) 999))
    -- to the clock plus its wait and 1
    ∷ sounds (with (pending second_ring_back (from seven duplex) 1051))
    -- one tenth further
    ∷ unsound (with (pending second_ring_back (from seven duplex) 1052))
    -- an acknowledged slot, from the clock
    ∷ sounds (with (pending acknowledged (from seven duplex) 1000))
    -- before it
    ∷ unsound (with (pending acknowledged (from seven duplex) 999))
    -- to the clock plus its wait and 1
    ∷ sounds (with (pending acknowledged (from seven duplex) 1161))
    -- one tenth further
    ∷ unsound (with (pending acknowledged (from seven duplex) 1162))
    -- a call from ashore, from the clock
    ∷ sounds (with (pending first_call (from seven duplex) 1000))
    -- before it
    ∷ unsound (with (pending first_call (from seven duplex) 999))
    -- to the clock plus its wait and 1
    ∷ sounds (with (pending first_call (from seven duplex) 1051))
    -- one tenth further
    ∷ unsound (with (pending first_call (from seven duplex) 1052))
    -- a call from ashore sent again, from the clock
    ∷ sounds (with (pending second_call (from seven duplex) 1000))
    -- before it
    ∷ unsound (with (pending second_call (from seven duplex) 999))
    -- to the clock plus its wait and 1
    ∷ sounds (with (pending second_call (from seven duplex) 1051))
    -- one tenth further
    ∷ unsound (with (pending second_call (from seven duplex) 1052))
    -- a call from ashore that rings, from the clock
    ∷ sounds (with (pending ringing (from seven duplex) 1000))
    -- before it
    ∷ unsound (with (pending ringing (from seven duplex) 999))
    -- to the clock plus its wait and 1
    ∷ sounds (with (pending ringing (from seven duplex) 1601))
    -- one tenth further
    ∷ unsound (with (pending ringing (from seven duplex) 1602))
    -- a line being dialled, from the clock
    ∷ sounds (with (busy (from seven duplex) (dialling 1000) none))
    -- before it
    ∷ unsound (with (busy (from seven duplex) (dialling 999) none))
    -- to the clock plus its wait and 1
    ∷ sounds (with (busy (from seven duplex) (dialling 1601) none))
    -- one tenth further
    ∷ unsound (with (busy (from seven duplex) (dialling 1602) none))
    -- a line dialled out, from the clock
    ∷ sounds (with (busy (from seven duplex) (dialled_out 1000) none))
    -- before it
    ∷ unsound (with (busy (from seven duplex) (dialled_out 999) none))
    -- to the clock plus its wait and 1
    ∷ sounds (with (busy (from seven duplex) (dialled_out 1601) none))
    -- one tenth further
    ∷ unsound (with (busy (from seven duplex) (dialled_out 1602) none))
    -- a carrier wait, duplex, from the clock
    ∷ sounds (with (busy (from seven duplex) (answered 900) (some 1000)))
    -- before it
    ∷ unsound (with (busy (from seven duplex) (answered 900) (some 999)))
    -- to the clock plus its wait and 1
    ∷ sounds (with (busy (from seven duplex) (answered 900) (some 1051)))
    -- one tenth further
    ∷ unsound (with (busy (from seven duplex) (answered 900) (some 1052)))
    -- a carrier wait, simplex, from the clock
    ∷ sounds (with (busy (from seven simplex) (answered 900) (some 1000)))
    -- before it
    ∷ unsound (with (busy (from seven simplex) (answered 900) (some 999)))
    -- to the clock plus its wait and 1
    ∷ sounds (with (busy (from seven simplex) (answered 900) (some 1451)))
    -- one tenth further
    ∷ unsound (with (busy (from seven simplex) (answered 900) (some 1452)))
    -- a hold, from the clock
    ∷ sounds (with (held (from seven duplex) None 1000))
    -- before it
    ∷ unsound (with (held (from seven duplex) None 999))
    -- to the clock plus its wait and 1
    ∷ sounds (with (held (from seven duplex) None 1041))
    -- one tenth further
    ∷ unsound (with (held (from seven duplex) None 1042))
    -- a queue entry, from the clock
    ∷ sounds (queued (waits seven 1000 ∷ []))
    -- before it
    ∷ unsound (queued (waits seven 999 ∷ []))
    -- to the clock plus its wait and 1
    ∷ sounds (queued (waits seven 10001 ∷ []))
    -- one tenth further
    ∷ unsound (queued (waits seven 10002 ∷ []))
    ∷ []
