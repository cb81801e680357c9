-- The cases that 01 marks P, "Hold begun at 6000" and "Number 7", in one table; and its sample script.
use Rattle.std.specs.Prelude.{List, [], ◌∷◌, ℕ}
use Rattle.sequence.specs.declared.Field.TheVariants.{Blank}
use Rattle.sequence.specs.Layout.{layout}
use Rattle.rules.specs.Rules.Words.{Event}
use Rattle.rules.specs.Rules.Station.{fresh}
use Rattle.rules.specs.Rules.Bytes.{number_of}
use Rattle.rules.specs.Rules.Printed.{last_printed}
use Rattle.rules.specs.Tables.Runs.{ticks, station, usual, says, says_on, picks_up, hangs, regains, loses, reserves}

-- ── the sequences ────────────────────────────────────────────────────────────

-- what the ship 200056789 sends to the station 002001234, by the layout
abbrev pub from_ship : ℕ → ℕ → List ℕ → List ℕ
from_ship first end digits =
    layout (record {
      address = 2001234;
      sender = 200056789;
      first = first;
      second = 126;
      field = Blank;
      number = number_of digits;
      end = end;
    })

-- P1: "request, 24 symbols"
abbrev pub p1 : List ℕ
p1 = 123 ∷ 0 ∷ 20 ∷ 1 ∷ 23 ∷ 40 ∷ 100 ∷ 20 ∷ 0 ∷ 56 ∷ 78 ∷ 90 ∷ 101 ∷ 126 ∷ 126 ∷ 126 ∷ 126 ∷ 105 ∷ 5 ∷ 55 ∷ 12 ∷ 34 ∷ 117 ∷ 104 ∷ []

-- P2: "its answer on channel 26"
abbrev pub p2 : List ℕ
p2 = 123 ∷ 20 ∷ 0 ∷ 56 ∷ 78 ∷ 90 ∷ 100 ∷ 0 ∷ 20 ∷ 1 ∷ 23 ∷ 40 ∷ 101 ∷ 126 ∷ 90 ∷ 0 ∷ 26 ∷ 105 ∷ 5 ∷ 55 ∷ 12 ∷ 34 ∷ 122 ∷ 89 ∷ []

-- P3: "queued"
abbrev pub p3 : List ℕ
p3 = 123 ∷ 20 ∷ 0 ∷ 56 ∷ 78 ∷ 90 ∷ 100 ∷ 0 ∷ 20 ∷ 1 ∷ 23 ∷ 40 ∷ 104 ∷ 103 ∷ 126 ∷ 126 ∷ 126 ∷ 105 ∷ 5 ∷ 55 ∷ 12 ∷ 34 ∷ 122 ∷ 115 ∷ []

-- P4: "working call"
abbrev pub p4 : List ℕ
p4 = 123 ∷ 0 ∷ 20 ∷ 1 ∷ 23 ∷ 40 ∷ 100 ∷ 20 ∷ 0 ∷ 56 ∷ 78 ∷ 90 ∷ 101 ∷ 126 ∷ 126 ∷ 126 ∷ 126 ∷ 105 ∷ 5 ∷ 55 ∷ 12 ∷ 34 ∷ 127 ∷ 98 ∷ []

-- P5: "ship's end"
abbrev pub p5 : List ℕ
p5 = 123 ∷ 0 ∷ 20 ∷ 1 ∷ 23 ∷ 40 ∷ 100 ∷ 20 ∷ 0 ∷ 56 ∷ 78 ∷ 90 ∷ 105 ∷ 126 ∷ 126 ∷ 126 ∷ 126 ∷ 105 ∷ 5 ∷ 55 ∷ 12 ∷ 34 ∷ 117 ∷ 100 ∷ []

-- P6: "its answer after 6 min 50 s"
abbrev pub p6 : List ℕ
p6 = 123 ∷ 20 ∷ 0 ∷ 56 ∷ 78 ∷ 90 ∷ 100 ∷ 0 ∷ 20 ∷ 1 ∷ 23 ∷ 40 ∷ 105 ∷ 126 ∷ 0 ∷ 6 ∷ 50 ∷ 105 ∷ 5 ∷ 55 ∷ 12 ∷ 34 ∷ 122 ∷ 33 ∷ []

-- its like after so many seconds: 6 min 51 s in P8; 99 h 59 min 59 s and 100 h in P9; 8 min 20 s, repeated in the hold
abbrev pub over411 : List ℕ
over411 = 123 ∷ 20 ∷ 0 ∷ 56 ∷ 78 ∷ 90 ∷ 100 ∷ 0 ∷ 20 ∷ 1 ∷ 23 ∷ 40 ∷ 105 ∷ 126 ∷ 0 ∷ 6 ∷ 51 ∷ 105 ∷ 5 ∷ 55 ∷ 12 ∷ 34 ∷ 122 ∷ 32 ∷ []

abbrev pub over359999 : List ℕ
over359999 = 123 ∷ 20 ∷ 0 ∷ 56 ∷ 78 ∷ 90 ∷ 100 ∷ 0 ∷ 20 ∷ 1 ∷ 23 ∷ 40 ∷ 105 ∷ 126 ∷ 99 ∷ 59 ∷ 59 ∷ 105 ∷ 5 ∷ 55 ∷ 12 ∷ 34 ∷ 122 ∷ 118 ∷ []

abbrev pub over360000 : List ℕ
over360000 =
    123 ∷ 20 ∷ 0 ∷ 56 ∷ 78 ∷ 90 ∷ 100 ∷ 0 ∷ 20 ∷ 1 ∷ 23 ∷ 40 ∷ 105 ∷ 126 ∷ 126 ∷ 126 ∷ 126 ∷ 105 ∷ 5 ∷ 55 ∷ 12 ∷ 34 ∷ 122 ∷ 107 ∷ []

abbrev pub over500 : List ℕ
over500 = 123 ∷ 20 ∷ 0 ∷ 56 ∷ 78 ∷ 90 ∷ 100 ∷ 0 ∷ 20 ∷ 1 ∷ 23 ∷ 40 ∷ 105 ∷ 126 ∷ 0 ∷ 8 ∷ 20 ∷ 105 ∷ 5 ∷ 55 ∷ 12 ∷ 34 ∷ 122 ∷ 9 ∷ []

-- ── what leads to a case ─────────────────────────────────────────────────────

abbrev pub asks : ℕ → Event
asks t = says t p1

abbrev pub works : ℕ → Event
works t = says_on t 0 p4

abbrev pub ends : ℕ → Event
ends t = says_on t 0 p5

-- a call that is answered at 1000
abbrev pub answered_at1000 : List Event → List Event
answered_at1000 es = asks 900 ∷ works 950 ∷ picks_up 1000 0 ∷ es

-- the same in simplex
abbrev pub simplex_at900 : List Event → List Event
simplex_at900 es = says 900 (from_ship 100 117 usual) ∷ works 950 ∷ es

-- what the last event prints, on a fresh station with channel 26
abbrev pub gives : List Event → List (List ℕ)
gives es = last_printed (station 1) es (fresh (station 1))

-- ── the table ────────────────────────────────────────────────────────────────

pub record Row : Type 0 where
  pub computed : List (List ℕ)
  pub expected : List (List ℕ)

abbrev pub cases : List Row
cases =
    -- P1: the request by the layout
    record {
      computed = from_ship 101 117 usual ∷ [];
      expected = p1 ∷ [];
    }
    -- P2: "identities exchanged, field 90 0 26, 122"
    ∷ record {
      computed = gives (asks 100 ∷ []);
      expected = (0 ∷ 100 ∷ 2 ∷ 261 ∷ []) ∷ (1 ∷ 0 ∷ []) ∷ (3 ∷ 0 ∷ p2) ∷ [];
    }
    -- P3: the slot being taken: "104 103, 126s, 122"
    ∷ record {
      computed = gives (reserves 50 0 ∷ asks 100 ∷ []);
      expected = (0 ∷ 100 ∷ 1 ∷ 9101 ∷ []) ∷ (3 ∷ 255 ∷ p3) ∷ [];
    }
    -- P4: by the layout; and it dials
    ∷ record {
      computed = from_ship 101 127 usual ∷ gives (asks 100 ∷ works 200 ∷ []);
      expected = p4 ∷ (0 ∷ 200 ∷ 1 ∷ 801 ∷ []) ∷ (5 ∷ 0 ∷ usual) ∷ [];
    }
    -- P5: by the layout
    ∷ record {
      computed = from_ship 105 117 usual ∷ [];
      expected = p5 ∷ [];
    }
    -- P6, P7: "off-hook 1000, end 5109: 410 s"
    ∷ record {
      computed = gives (answered_at1000 (ends 5109 ∷ []));
      expected = (0 ∷ 5109 ∷ 4 ∷ 5150 ∷ [])
          ∷ (7 ∷ 0 ∷ 213 ∷ 159 ∷ 236 ∷ 11 ∷ 232 ∷ 3 ∷ 0 ∷ 0 ∷ 245 ∷ 19 ∷ 0 ∷ 0 ∷ 154 ∷ 1 ∷ 0 ∷ 0 ∷ 1 ∷ 0 ∷ 0 ∷ 0 ∷ [])
          ∷ (6 ∷ 0 ∷ []) ∷ (4 ∷ 0 ∷ p6) ∷ (2 ∷ 0 ∷ []) ∷ [];
    }
    -- P8: "end 5110: 411 s"
    ∷ record {
      computed = gives (answered_at1000 (ends 5110 ∷ []));
      expected = (0 ∷ 5110 ∷ 4 ∷ 5151 ∷ [])
          ∷ (7 ∷ 0 ∷ 213 ∷ 159 ∷ 236 ∷ 11 ∷ 232 ∷ 3 ∷ 0 ∷ 0 ∷ 246 ∷ 19 ∷ 0 ∷ 0 ∷ 155 ∷ 1 ∷ 0 ∷ 0 ∷ 1 ∷ 0 ∷ 0 ∷ 0 ∷ [])
          ∷ (6 ∷ 0 ∷ []) ∷ (4 ∷ 0 ∷ over411) ∷ (2 ∷ 0 ∷ []) ∷ [];
    }
    -- P9: "3,599,999 tenths: 99 59 59"
    ∷ record {
      computed = gives (answered_at1000 (ends 3600999 ∷ []));
      expected = (0 ∷ 3600999 ∷ 4 ∷ 3601040 ∷ [])
          ∷ (7 ∷ 0 ∷ 213 ∷ 159 ∷ 236 ∷ 11 ∷ 232 ∷ 3 ∷ 0 ∷ 0 ∷ 103 ∷ 242 ∷ 54 ∷ 0 ∷ 63 ∷ 126 ∷ 5 ∷ 0 ∷ 1 ∷ 0 ∷ 0 ∷ 0 ∷ [])
          ∷ (6 ∷ 0 ∷ []) ∷ (4 ∷ 0 ∷ over359999) ∷ (2 ∷ 0 ∷ []) ∷ [];
    }
    -- P9: "3,600,000: 126s"
    ∷ record {
      computed = gives (answered_at1000 (ends 3601000 ∷ []));
      expected = (0 ∷ 3601000 ∷ 4 ∷ 3601041 ∷ [])
          ∷ (7 ∷ 0 ∷ 213 ∷ 159 ∷ 236 ∷ 11 ∷ 232 ∷ 3 ∷ 0 ∷ 0 ∷ 104 ∷ 242 ∷ 54 ∷ 0 ∷ 64 ∷ 126 ∷ 5 ∷ 0 ∷ 1 ∷ 0 ∷ 0 ∷ 0 ∷ [])
          ∷ (6 ∷ 0 ∷ []) ∷ (4 ∷ 0 ∷ over360000) ∷ (2 ∷ 0 ∷ []) ∷ [];
    }
    -- P10: "offer at 100: working call at 260 dials"
    ∷ record {
      computed = gives (asks 100 ∷ works 260 ∷ []);
      expected = (0 ∷ 260 ∷ 1 ∷ 861 ∷ []) ∷ (5 ∷ 0 ∷ usual) ∷ [];
    }
    -- P10: "at 261 gets 33"
    ∷ record {
      computed = gives (asks 100 ∷ works 261 ∷ []);
      expected = (33 ∷ 100 ∷ 0 ∷ 261 ∷ []) ∷ [];
    }
    -- P11: "carrier down at 1000: due 1051 duplex"
    ∷ record {
      computed = gives (asks 900 ∷ works 950 ∷ loses 1000 0 ∷ []);
      expected = (0 ∷ 1000 ∷ 0 ∷ 1051 ∷ []) ∷ [];
    }
    -- P11: "1451 simplex"
    ∷ record {
      computed = gives (simplex_at900 (loses 1000 0 ∷ []));
      expected = (0 ∷ 1000 ∷ 0 ∷ 1451 ∷ []) ∷ [];
    }
    -- P12: "queued at 2000: due 11001"
    ∷ record {
      computed = gives (reserves 50 0 ∷ asks 2000 ∷ []);
      expected = (0 ∷ 2000 ∷ 1 ∷ 11001 ∷ []) ∷ (3 ∷ 255 ∷ p3) ∷ [];
    }
    -- Hold begun at 6000: "repeat at 6040 answered, due 6041"
    ∷ record {
      computed = gives (answered_at1000 (ends 6000 ∷ ends 6040 ∷ []));
      expected = (0 ∷ 6040 ∷ 3 ∷ 6041 ∷ [])
          ∷ (1 ∷ 0 ∷ []) ∷ (4 ∷ 0 ∷ over500) ∷ (2 ∷ 0 ∷ []) ∷ [];
    }
    -- Number 7: "105 7"
    ∷ record {
      computed = gives (says 100 (from_ship 101 117 (7 ∷ [])) ∷ []);
      expected = (0 ∷ 100 ∷ 2 ∷ 261 ∷ [])
          ∷ (1 ∷ 0 ∷ [])
          ∷ (3 ∷ 0 ∷ 123 ∷ 20 ∷ 0 ∷ 56 ∷ 78 ∷ 90 ∷ 100 ∷ 0 ∷ 20 ∷ 1 ∷ 23 ∷ 40 ∷ 101 ∷ 126 ∷ 90 ∷ 0 ∷ 26 ∷ 105 ∷ 7 ∷ 122 ∷ 66 ∷ [])
          ∷ [];
    }
    ∷ []

-- ── the sample script ────────────────────────────────────────────────────────

-- Q 100 (P1), H 90 0, U 261 0, T 261, after S 002001234 26
abbrev pub sample : List Event
sample = asks 100 ∷ hangs 90 0 ∷ regains 261 0 ∷ ticks 261 ∷ []

abbrev pub sample_shows : List (List (List ℕ))
sample_shows =
    ((0 ∷ 100 ∷ 2 ∷ 261 ∷ []) ∷ (1 ∷ 0 ∷ []) ∷ (3 ∷ 0 ∷ p2) ∷ [])
    ∷ ((32 ∷ 100 ∷ 0 ∷ 261 ∷ []) ∷ [])
    ∷ ((33 ∷ 100 ∷ 0 ∷ 261 ∷ []) ∷ [])
    ∷ ((0 ∷ 261 ∷ 1 ∷ []) ∷ (2 ∷ 0 ∷ []) ∷ [])
    ∷ []
