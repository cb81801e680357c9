-- Runs that a class can follow: what happens, and what is to be charged for it.
use Rattle.std.specs.Prelude.{List, [], ◌∷◌, map, ℕ, take}
use Rattle.units.specs.declared.Channel.{Channel as ChannelNumber}
use Rattle.sequence.specs.declared.Field.{Field}
use Rattle.sequence.specs.declared.Field.TheVariants.{Blank, Channel}
use Rattle.sequence.specs.Layout.{layout}
use Rattle.rules.specs.Rules.Words.{Mode, simplex, duplex, mode_number, Config, Happened, heard, dialling_ended, off_hook, on_hook}
use Rattle.rules.specs.Rules.Words.{carrier_up, carrier_down, takes, gives_back, tick, on_channel70, on_slot, from_ashore, What, Event}
use Rattle.rules.specs.Rules.Actions.{Charge, charge_of}
use Rattle.rules.specs.Rules.Bytes.{number_of}
use Rattle.rules.specs.Rules.Verdict.{room_needed}
use Rattle.rules.specs.ListAlone.Reading.{Numbered}

-- ── how a run is written ─────────────────────────────────────────────────────

abbrev pub channel : ℕ → ChannelNumber
channel n = record { 0 = n }

-- a station with its identity and its channels
abbrev pub station_of : ℕ → List ℕ → Config
station_of n l = record { identity = n; channels = map channel l }

-- with the first n of three channels
abbrev pub station : ℕ → Config
station n = station_of 2001234 (take n (26 ∷ 27 ∷ 28 ∷ []))

-- three ships
abbrev pub seven : ℕ
seven = 200000007

abbrev pub eight : ℕ
eight = 200000008

abbrev pub nine : ℕ
nine = 200000009

-- the symbols of a sequence from a ship
abbrev pub sends : ℕ → ℕ → ℕ → Field → List ℕ → List ℕ
sends x first end field digits =
    layout (record { address = 2001234; sender = x; first = first; second = 126; field = field; number = number_of digits; end = end })

-- with just the room that is needed
abbrev pub at : ℕ → What → Event
at t w = record { time = t; room = room_needed; what = w }

abbrev pub usual : List ℕ
usual = 5 ∷ 5 ∷ 5 ∷ 1 ∷ 2 ∷ 3 ∷ 4 ∷ []

-- symbols on channel 70
abbrev pub says : ℕ → List ℕ → Event
says t m = at t (on_channel70 m)

abbrev pub calls_for : List ℕ → ℕ → ℕ → Mode → Event
calls_for digits t x m = says t (sends x (mode_number m) 117 Blank digits)

-- a call request
abbrev pub calls : ℕ → ℕ → Mode → Event
calls t x m = calls_for usual t x m

-- a data request
abbrev pub data_calls : ℕ → ℕ → Event
data_calls t x = says t (sends x 106 117 Blank usual)

-- a BQ that names a channel, in duplex; in either mode
abbrev pub accepts : ℕ → ℕ → ℕ → Event
accepts t n x = says t (sends x 101 122 (Channel (channel n)) usual)

abbrev pub accepts_in : Mode → ℕ → ℕ → ℕ → Event
accepts_in m t n x = says t (sends x (mode_number m) 122 (Channel (channel n)) usual)

-- a BQ with 104
abbrev pub declines : ℕ → ℕ → Event
declines t x = says t (sends x 104 122 Blank usual)

-- a caller ashore, and his call to a ship; with any mode and any digits
abbrev pub caller : List ℕ
caller = 6 ∷ 1 ∷ 2 ∷ 3 ∷ 4 ∷ 5 ∷ []

abbrev pub shore_calls : ℕ → ℕ → Mode → Event
shore_calls t x m = at t (from_ashore (record { ship = x; mode = mode_number m; digits = caller }))

abbrev pub shore_asks : List ℕ → ℕ → ℕ → ℕ → Event
shore_asks digits t x m = at t (from_ashore (record { ship = x; mode = m; digits = digits }))

-- what happens on a slot: symbols on its working channel, a signal, the operator's hand
abbrev pub on : ℕ → ℕ → Happened → Event
on t i h = at t (on_slot i h)

abbrev pub says_on : ℕ → ℕ → List ℕ → Event
says_on t i m = on t i (heard m)

abbrev pub dials_out : ℕ → ℕ → Event
dials_out t i = on t i dialling_ended

abbrev pub picks_up : ℕ → ℕ → Event
picks_up t i = on t i off_hook

abbrev pub hangs : ℕ → ℕ → Event
hangs t i = on t i on_hook

abbrev pub regains : ℕ → ℕ → Event
regains t i = on t i carrier_up

abbrev pub loses : ℕ → ℕ → Event
loses t i = on t i carrier_down

abbrev pub reserves : ℕ → ℕ → Event
reserves t i = on t i takes

abbrev pub restores : ℕ → ℕ → Event
restores t i = on t i gives_back

-- a working call, an end of call
abbrev pub works : ℕ → ℕ → ℕ → Event
works t i x = says_on t i (sends x 101 127 Blank usual)

abbrev pub ends : ℕ → ℕ → ℕ → Event
ends t i x = says_on t i (sends x 105 117 Blank usual)

-- with a room of so many bytes
abbrev pub ticks_in : ℕ → ℕ → Event
ticks_in room t = record { time = t; room = room; what = tick }

abbrev pub ticks : ℕ → Event
ticks t = at t tick

-- a waiting ship asks again in another mode, and is rung back
abbrev pub asks_anew : Mode → Mode → List Event → List Event
asks_anew o m es = reserves 50 0 ∷ calls 100 seven o ∷ calls 200 seven m ∷ restores 300 0 ∷ es

-- it agrees, is dialled, is answered at 500, and loses its carrier at 600
abbrev pub fades : List Event → List Event
fades es = accepts 310 26 seven ∷ works 400 0 seven ∷ picks_up 500 0 ∷ loses 600 0 ∷ es

-- entry, slot, ship, beginning, end, seconds, call number
abbrev pub paid : ℕ → ℕ → ℕ → ℕ → ℕ → ℕ → ℕ → Numbered Charge
paid k i x b e s n = record { entry = k; it = charge_of i x b e s n }

pub record Run : Type 0 where
  pub slots : ℕ
  pub events : List Event
  pub owing : List (Numbered Charge)

-- ── the four stops ───────────────────────────────────────────────────────────

-- by its ship's end of call; a second off-hook and another ship's end change nothing, and the end is repeated in the hold
abbrev pub ship_ended : Run
ship_ended = record {
  slots = 1;
  events = calls 100 seven simplex ∷ works 200 0 seven ∷ picks_up 300 0 ∷ picks_up 310 0 ∷ ends 325 0 eight
      ∷ ends 330 0 seven ∷ ends 340 0 seven ∷ ticks 371 ∷ [];
  owing = paid 5 0 seven 300 330 3 1 ∷ [];
}

-- by on-hook; a duplex call is not ended by another request of its ship
abbrev pub hung_up : Run
hung_up = record {
  slots = 1;
  events = calls 100 seven duplex ∷ works 200 0 seven ∷ picks_up 300 0 ∷ loses 400 0 ∷ calls 410 seven duplex
      ∷ regains 420 0 ∷ hangs 500 0 ∷ [];
  owing = paid 6 0 seven 300 500 20 1 ∷ [];
}

-- by carrier loss of a silent simplex ship; a second carrier down does not restart the wait
abbrev pub silent : Run
silent = record {
  slots = 1;
  events = calls 100 seven simplex ∷ works 200 0 seven ∷ picks_up 300 0 ∷ loses 400 0 ∷ loses 500 0 ∷ ticks 851 ∷ [];
  owing = paid 5 0 seven 300 851 55 1 ∷ [];
}

-- by rule c on the only slot, with a ship waiting: it is rung back, and the asker joins the queue
abbrev pub redialled : Run
redialled = record {
  slots = 1;
  events = calls 100 seven simplex ∷ works 200 0 seven ∷ calls 210 eight duplex ∷ picks_up 300 0 ∷ loses 400 0
      ∷ calls 450 seven simplex ∷ accepts 460 26 eight ∷ works 470 0 eight ∷ picks_up 480 0 ∷ hangs 600 0 ∷ [];
  owing = paid 5 0 seven 300 450 15 1 ∷ paid 9 0 eight 480 600 12 2 ∷ [];
}

-- ── dialling ended (02, no. 1) ───────────────────────────────────────────────

-- a slow exchange dials for 590 tenths; the called person answers in the last tenth of the minute after it: charged from then
abbrev pub slow_exchange : Run
slow_exchange = record {
  slots = 1;
  events = calls 100 seven duplex ∷ works 200 0 seven ∷ dials_out 790 0 ∷ dials_out 800 0 ∷ picks_up 1390 0 ∷ dials_out 1400 0
      ∷ hangs 1500 0 ∷ [];
  owing = paid 6 0 seven 1390 1500 11 1 ∷ [];
}

-- ── calls from ashore (02, no. 2) ─────────────────────────────────────────────

-- answered: charged from the first carrier up while it rings, and not from the call, from either BQ, from a carrier before the ringing
-- or from off-hook; ended by its ship
abbrev pub shore_answered : Run
shore_answered = record {
  slots = 1;
  events = shore_calls 100 seven duplex ∷ regains 110 0 ∷ ticks 151 ∷ accepts 170 26 seven ∷ accepts 180 26 seven ∷ picks_up 190 0
      ∷ regains 200 0 ∷ regains 210 0 ∷ picks_up 220 0 ∷ ends 512 0 seven ∷ ends 520 0 seven ∷ ticks 553 ∷ [];
  owing = paid 9 0 seven 200 512 31 1 ∷ [];
}

-- never answered, though a carrier was heard before it rang and the caller's handset is off: dropped; the waiting ship's call is charged
abbrev pub shore_dropped : Run
shore_dropped = record {
  slots = 1;
  events = shore_calls 100 seven simplex ∷ calls 110 eight duplex ∷ regains 120 0 ∷ accepts 130 26 seven ∷ picks_up 140 0 ∷ ticks 731
      ∷ accepts 740 26 eight ∷ works 750 0 eight ∷ picks_up 760 0 ∷ hangs 863 0 ∷ [];
  owing = paid 9 0 eight 760 863 10 2 ∷ [];
}

-- unable, and a caller who hangs up: nothing is charged
abbrev pub shore_unable : Run
shore_unable = record {
  slots = 1;
  events = shore_calls 100 seven duplex ∷ accepts 130 26 seven ∷ declines 140 seven ∷ shore_calls 200 eight duplex ∷ accepts 230 26 eight
      ∷ hangs 240 0 ∷ shore_calls 300 nine duplex ∷ hangs 310 0 ∷ [];
  owing = [];
}

-- two at once: the later one answers first; the duplex one by its carrier loss, the simplex one by rule c
abbrev pub shore_two : Run
shore_two = record {
  slots = 2;
  events = shore_calls 100 seven simplex ∷ shore_calls 110 eight duplex ∷ accepts 120 27 eight ∷ accepts_in simplex 130 26 seven
      ∷ regains 140 1 ∷ calls 145 seven simplex ∷ regains 150 0 ∷ loses 400 1 ∷ loses 410 0 ∷ ticks 9999 ∷ calls 500 seven simplex ∷ [];
  owing = paid 9 1 eight 140 451 31 2 ∷ paid 10 0 seven 150 500 35 1 ∷ [];
}

-- by the caller's on-hook; then a call of the ship itself on that slot
abbrev pub shore_hung : Run
shore_hung = record {
  slots = 1;
  events = shore_calls 100 seven duplex ∷ accepts 130 26 seven ∷ regains 200 0 ∷ hangs 309 0 ∷ calls 320 seven duplex ∷ works 330 0 seven
      ∷ regains 340 0 ∷ picks_up 350 0 ∷ hangs 450 0 ∷ [];
  owing = paid 3 0 seven 200 309 10 1 ∷ paid 8 0 seven 350 450 10 2 ∷ [];
}

-- ── late ticks, and waits due together ────────────────────────────────────────

-- the carrier of a duplex ship goes at 2000, and the tick comes late
abbrev pub late : Run
late = record {
  slots = 2;
  events = calls 100 seven duplex ∷ works 200 0 seven ∷ picks_up 700 0 ∷ loses 2000 0 ∷ ticks 9999 ∷ ticks 9999 ∷ [];
  owing = paid 4 0 seven 700 2051 135 1 ∷ [];
}

-- a waiting ship asked in duplex and then in simplex: it has its 45 s; the other way round, 5 s
abbrev pub anew_simplex : Run
anew_simplex = record {
  slots = 1;
  events = asks_anew duplex simplex (fades (ticks 9999 ∷ []));
  owing = paid 8 0 seven 500 1051 55 1 ∷ [];
}

abbrev pub anew_duplex : Run
anew_duplex = record {
  slots = 1;
  events = asks_anew simplex duplex (fades (ticks 9999 ∷ []));
  owing = paid 8 0 seven 500 651 15 1 ∷ [];
}

-- two carriers lost with one due time: the lower slot by the first tick, the other by the second
abbrev pub together : Run
together = record {
  slots = 2;
  events = calls 100 seven duplex ∷ calls 101 eight duplex ∷ works 200 0 seven ∷ works 200 1 eight ∷ picks_up 300 1
      ∷ picks_up 310 0 ∷ loses 400 1 ∷ loses 400 0 ∷ ticks 500 ∷ ticks 500 ∷ [];
  owing = paid 8 0 seven 310 451 14 1 ∷ paid 9 1 eight 300 451 15 2 ∷ [];
}

-- carrier loss and no reply due together, of an unanswered call
abbrev pub hurried : Run
hurried = record {
  slots = 1;
  events = calls 100 seven duplex ∷ works 200 0 seven ∷ loses 750 0 ∷ ticks 900 ∷ [];
  owing = [];
}

-- a reply that does not come is not charged
abbrev pub unanswered : Run
unanswered = record {
  slots = 1;
  events = calls 100 seven simplex ∷ works 200 0 seven ∷ ends 300 0 eight ∷ ticks 801 ∷ [];
  owing = [];
}

-- ── each figure, by the tick that stops another call ─────────────────────────

-- Here a wait that charges nothing falls due shortly before the carrier wait of an answered call: of two late ticks the second
-- stops that call. With another figure the first one would.

-- a repeated call keeps its offer's wait
abbrev pub repeated : Run
repeated = record {
  slots = 3;
  events = calls 100 seven duplex ∷ calls 110 eight duplex ∷ works 115 1 eight ∷ picks_up 120 1
      ∷ calls 150 seven duplex ∷ loses 210 1 ∷ ticks 300 ∷ ticks 300 ∷ [];
  owing = paid 7 1 eight 120 261 14 2 ∷ [];
}

-- with another number the slot is offered afresh, so the first tick stops the call
abbrev pub renumbered : Run
renumbered = record {
  slots = 3;
  events = calls 100 seven duplex ∷ calls 110 eight duplex ∷ works 115 1 eight ∷ picks_up 120 1
      ∷ calls_for (4 ∷ 2 ∷ []) 150 seven duplex ∷ loses 210 1 ∷ ticks 300 ∷ ticks 300 ∷ [];
  owing = paid 6 1 eight 120 261 14 2 ∷ [];
}

-- the hold
abbrev pub holding : Run
holding = record {
  slots = 2;
  events = calls 100 seven duplex ∷ calls 101 eight duplex ∷ works 110 0 seven ∷ works 111 1 eight ∷ picks_up 120 1
      ∷ picks_up 121 0 ∷ loses 195 1 ∷ ends 200 0 seven ∷ ticks 300 ∷ ticks 300 ∷ [];
  owing = paid 7 0 seven 121 200 7 1 ∷ paid 9 1 eight 120 246 12 2 ∷ [];
}

-- the reply, its dialling never ended
abbrev pub replying : Run
replying = record {
  slots = 2;
  events = calls 100 seven duplex ∷ calls 101 eight duplex ∷ works 200 0 seven ∷ works 201 1 eight ∷ picks_up 210 1
      ∷ loses 755 1 ∷ ticks 900 ∷ ticks 900 ∷ [];
  owing = paid 7 1 eight 210 806 59 2 ∷ [];
}

-- the reply, 600 from the first end of dialling and not from the second
abbrev pub dialled_replying : Run
dialled_replying = record {
  slots = 2;
  events = calls 100 seven duplex ∷ calls 101 eight duplex ∷ works 200 0 seven ∷ works 201 1 eight ∷ picks_up 210 1
      ∷ dials_out 300 0 ∷ dials_out 310 0 ∷ loses 855 1 ∷ ticks 1000 ∷ ticks 1000 ∷ [];
  owing = paid 9 1 eight 210 906 69 2 ∷ [];
}

-- the quarter hour
abbrev pub queueing : Run
queueing = record {
  slots = 1;
  events = calls 100 seven duplex ∷ works 110 0 seven ∷ picks_up 120 0 ∷ calls 200 eight duplex ∷ loses 9155 0
      ∷ ticks 9300 ∷ ticks 9300 ∷ [];
  owing = paid 6 0 seven 120 9206 908 1 ∷ [];
}

-- the ring-back
abbrev pub ringing_back : Run
ringing_back = record {
  slots = 2;
  events = calls 100 seven duplex ∷ calls 101 eight duplex ∷ works 110 0 seven ∷ works 111 1 eight ∷ picks_up 120 0
      ∷ picks_up 121 1 ∷ calls 130 nine duplex ∷ hangs 300 0 ∷ loses 305 1 ∷ ticks 400 ∷ ticks 400 ∷ [];
  owing = paid 7 0 seven 120 300 18 1 ∷ paid 10 1 eight 121 356 23 2 ∷ [];
}

-- the call from ashore: its repeat, by the first of two late ticks, and its drop
abbrev pub calling : Run
calling = record {
  slots = 2;
  events = calls 100 eight duplex ∷ works 110 0 eight ∷ picks_up 120 0 ∷ shore_calls 200 seven duplex ∷ loses 205 0 ∷ ticks 300
      ∷ ticks 300 ∷ [];
  owing = paid 6 0 eight 120 256 13 1 ∷ [];
}

abbrev pub calling_again : Run
calling_again = record {
  slots = 2;
  events = calls 100 eight duplex ∷ works 110 0 eight ∷ picks_up 120 0 ∷ shore_calls 200 seven duplex ∷ ticks 251 ∷ loses 256 0 ∷ ticks 400
      ∷ ticks 400 ∷ [];
  owing = paid 7 0 eight 120 307 18 1 ∷ [];
}

-- its minute of ringing, from the first BQ and not from the second
abbrev pub ringing_up : Run
ringing_up = record {
  slots = 2;
  events = calls 100 eight duplex ∷ works 110 0 eight ∷ picks_up 120 0 ∷ shore_calls 200 seven duplex ∷ accepts 210 27 seven
      ∷ accepts 220 27 seven ∷ loses 765 0 ∷ ticks 900 ∷ ticks 900 ∷ [];
  owing = paid 8 0 eight 120 816 69 1 ∷ [];
}

-- ── a long call ──────────────────────────────────────────────────────────────

-- a call of 100 hours is charged all its seconds
abbrev pub hundred_hours : Run
hundred_hours = record {
  slots = 1;
  events = calls 100 seven duplex ∷ works 200 0 seven ∷ picks_up 300 0 ∷ ends 3600300 0 seven ∷ [];
  owing = paid 3 0 seven 300 3600300 360000 1 ∷ [];
}

abbrev pub runs : List Run
runs =
    ship_ended ∷ hung_up ∷ silent ∷ redialled ∷ slow_exchange ∷ shore_answered ∷ shore_dropped ∷ shore_unable ∷ shore_two ∷ shore_hung
    ∷ late ∷ anew_simplex ∷ anew_duplex ∷ together ∷ hurried ∷ unanswered ∷ repeated ∷ renumbered ∷ holding ∷ replying
    ∷ dialled_replying ∷ queueing ∷ ringing_back ∷ calling ∷ calling_again ∷ ringing_up ∷ hundred_hours ∷ []
