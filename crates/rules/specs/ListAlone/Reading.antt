-- The list alone, second part: the moment of an entry, the four stops, what an event says, what a deed says, the list read,
-- and the answered tenths counted. Nothing of the rules is used here.
use Rattle.std.specs.Prelude.{List, [], ◌∷◌, ◌++◌, map, Bool, true, false, cond, ◌&&◌, ℕ, suc, ◌+◌, ◌-◌, ◌*◌, eqb}
use Rattle.std.proofs.Math.Option.{Option, none, some}
use Rattle.rules.specs.Rules.Places.{drop_at, mod_at}
use Rattle.rules.specs.Rules.Words.{Party, is, Mode, simplex, duplex, Request, Config}
use Rattle.rules.specs.Rules.Words.{Signal, line_dialled_out, line_lifted, line_hung, carrier_heard, carrier_lost}
use Rattle.rules.specs.Rules.Words.{Happened, heard, signal, operator, Ashore, What, tick, on_channel70, on_slot, from_ashore}
use Rattle.rules.specs.Rules.Words.{ashore_in, Event}
use Rattle.rules.specs.Rules.Words.{Deed, carrier_on, carrier_off, acknowledge, call_ship, unable, dial, release_line}
use Rattle.rules.specs.Rules.Words.{ringing_on, ringing_off, busy_tone}
use Rattle.rules.specs.Rules.Waits.{of_queue, loss, main, Due}
use Rattle.rules.specs.Rules.Heard.{Heard, call_request, data_request, bq, working_call, end_of_call, declined, nothing, meaning}
use Rattle.rules.specs.ListAlone.Book.{Note, Stop, after, silence, offer_time, ring_back_time, call_time, ringing_time, dialling_time}
use Rattle.rules.specs.ListAlone.Book.{reply_time, hold_time}
use Rattle.rules.specs.ListAlone.Book.{queue_time, Begun, begun_as, Said, silent, told_b_q, told_r_q, settled, Call, quiet, called, dialled, talking}
use Rattle.rules.specs.ListAlone.Book.{Column, Place, Book, at_column, at_places, column, falls}
unfoldable use Rattle.rules.specs.ListAlone.Book.{alike}

-- ── the moment of an entry ───────────────────────────────────────────────────

-- the wait that it fires: a tick alone fires one
abbrev pub falls_at : Book → ℕ → What → Option Due
falls_at b t tick = falls t b
falls_at b t (on_channel70 m) = none
falls_at b t (on_slot i h) = none
falls_at b t (from_ashore a) = none

abbrev pub falling : Book → Event → Option Due
falling b e = falls_at b e.time e.what

abbrev pub moment_of : ℕ → Option Due → ℕ
moment_of t none = t
moment_of t (some p) = p.at

-- the time at which the entry happens: its own, or the due time of the wait that it fires
abbrev pub moment : Book → Event → ℕ
moment b e = moment_of e.time (falling b e)

-- ── the four stops, of the calls as they stand before the entry ──────────────

abbrev pub stop_of : ℕ → ℕ → Call → List Stop
stop_of t i quiet = []
stop_of t i (called o rings) = []
stop_of t i (dialled o ended) = []
stop_of t i (talking o b) =
    record {
      slot = i;
      ship = o.request.who.ship;
      start = record { 0 = b };
      stop = record { 0 = t };
      call_number = o.call_number;
    }
    ∷ []

abbrev pub call_of : Party → Call → Bool
call_of x quiet = false
call_of x (called o rings) = false
call_of x (dialled o ended) = is x o.request.who
call_of x (talking o b) = is x o.request.who

-- "its ship's end of call on that slot"
abbrev pub stops_said : ℕ → ℕ → Call → Heard → List Stop
stops_said t i k (call_request r) = []
stops_said t i k (data_request x n) = []
stops_said t i k (bq j x) = []
stops_said t i k (working_call x) = []
stops_said t i k (end_of_call x) = cond (call_of x k) (stop_of t i k) []
stops_said t i k (declined x) = []
stops_said t i k nothing = []

-- and "on-hook"
abbrev pub stops_signal : ℕ → ℕ → Call → Signal → List Stop
stops_signal t i k line_dialled_out = []
stops_signal t i k line_lifted = []
stops_signal t i k line_hung = stop_of t i k
stops_signal t i k carrier_heard = []
stops_signal t i k carrier_lost = []

abbrev pub stops_on : Config → ℕ → ℕ → Call → Happened → List Stop
stops_on c t i k (heard m) = stops_said t i k (meaning c m)
stops_on c t i k (signal g) = stops_signal t i k g
stops_on c t i k (operator h) = []

-- "carrier absent until a tick fires its wait"
abbrev pub stops_due : ℕ → Book → Option Due → List Stop
stops_due t b none = []
stops_due t b (some p) = elim p.what [ of_queue k ↦ [] | loss i ↦ stop_of t i (column b i).call | main i ↦ [] ]

abbrev pub lost : Mode → Option ℕ → Bool
lost simplex (some d) = true
lost simplex none = false
lost duplex g = false

-- "rule c": the ship of an answered simplex call asks again while its carrier is absent
abbrev pub asked_again : Party → Call → Option ℕ → Bool
asked_again x quiet g = false
asked_again x (called o rings) g = false
asked_again x (dialled o ended) g = false
asked_again x (talking o b) g = is x o.request.who && lost o.request.mode g

abbrev pub stops_again : ℕ → Party → ℕ → List Column → List Stop
stops_again t x i [] = []
stops_again t x i (l ∷ ls) = cond (asked_again x l.call l.gone) (stop_of t i l.call) [] ++ stops_again t x (suc i) ls

abbrev pub stops_heard : ℕ → List Column → Heard → List Stop
stops_heard t ls (call_request r) = stops_again t r.who 0 ls
stops_heard t ls (data_request x n) = []
stops_heard t ls (bq i x) = []
stops_heard t ls (working_call x) = []
stops_heard t ls (end_of_call x) = []
stops_heard t ls (declined x) = []
stops_heard t ls nothing = []

-- the calls that an entry stops at the moment t, if it fires the wait f
abbrev pub stops_at : Config → ℕ → Book → Option Due → What → List Stop
stops_at c t b f tick = stops_due t b f
stops_at c t b f (on_channel70 m) = stops_heard t b.columns (meaning c m)
stops_at c t b f (on_slot i h) = stops_on c t i (column b i).call h
stops_at c t b f (from_ashore a) = []

-- ── what an event says ───────────────────────────────────────────────────────

-- an answered call has stopped
abbrev pub gone_after : Call → Option ℕ → Option ℕ
gone_after quiet g = g
gone_after (called o rings) g = g
gone_after (dialled o ended) g = g
gone_after (talking o b) g = none

abbrev pub closed : Call → Call
closed quiet = quiet
closed (called o rings) = called o rings
closed (dialled o ended) = dialled o ended
closed (talking o b) = quiet

abbrev pub close : Column → Column
close l = record { said = l.said; wait = l.wait; call = closed l.call; gone = gone_after l.call l.gone }

abbrev pub with_wait : Option ℕ → Column → Column
with_wait w l = record { said = l.said; wait = w; call = l.call; gone = l.gone }

abbrev pub with_gone : Option ℕ → Column → Column
with_gone g l = record { said = l.said; wait = l.wait; call = l.call; gone = g }

-- the exchange has dialled: the called person's minute begins, once in a call
abbrev pub dial_out_call : ℕ → Call → Column → Column
dial_out_call t quiet l = l
dial_out_call t (called o rings) l = l
dial_out_call t (dialled o false) l = record { said = l.said; wait = some (after t reply_time); call = dialled o true; gone = l.gone }
dial_out_call t (dialled o true) l = l
dial_out_call t (talking o b) l = l

abbrev pub dial_out : ℕ → Column → Column
dial_out t l = dial_out_call t l.call l

-- off-hook on a dialled line: it talks from then on, and its wait ends
abbrev pub pick_up_call : ℕ → Call → Column → Column
pick_up_call t quiet l = l
pick_up_call t (called o rings) l = l
pick_up_call t (dialled o ended) l = record { said = l.said; wait = none; call = talking o t; gone = l.gone }
pick_up_call t (talking o b) l = l

abbrev pub pick_up : ℕ → Column → Column
pick_up t l = pick_up_call t l.call l

-- carrier up: the carrier is there; while a call from ashore rings, it is the ship's answer, and its wait ends
abbrev pub come_up_call : ℕ → Call → Column → Column
come_up_call t quiet l = with_gone none l
come_up_call t (called o false) l = with_gone none l
come_up_call t (called o true) l = record { said = l.said; wait = none; call = talking o t; gone = none }
come_up_call t (dialled o ended) l = with_gone none l
come_up_call t (talking o b) l = with_gone none l

abbrev pub come_up : ℕ → Column → Column
come_up t l = come_up_call t l.call l

-- absent from t on, unless it is absent already
abbrev pub absent_from : ℕ → Mode → Option ℕ → Option ℕ
absent_from t m none = some (after t (silence m))
absent_from t m (some d) = some d

abbrev pub lose_call : ℕ → Call → Column → Column
lose_call t quiet l = l
lose_call t (called o rings) l = l
lose_call t (dialled o ended) l = with_gone (absent_from t o.request.mode l.gone) l
lose_call t (talking o b) l = with_gone (absent_from t o.request.mode l.gone) l

abbrev pub lose : ℕ → Column → Column
lose t l = lose_call t l.call l

-- the ship's end of call: the line is held for it
abbrev pub sign_off : ℕ → Party → Column → Column
sign_off t x l = cond (call_of x l.call) (record { said = l.said; wait = some (after t hold_time); call = quiet; gone = none }) l

abbrev pub hear_said : ℕ → Heard → Column → Column
hear_said t (call_request r) l = l
hear_said t (data_request x n) l = l
hear_said t (bq i x) l = l
hear_said t (working_call x) l = l
hear_said t (end_of_call x) l = sign_off t x l
hear_said t (declined x) l = l
hear_said t nothing l = l

abbrev pub hear_signal : ℕ → Signal → Column → Column
hear_signal t line_dialled_out l = dial_out t l
hear_signal t line_lifted l = pick_up t l
hear_signal t line_hung l = close l
hear_signal t carrier_heard l = come_up t l
hear_signal t carrier_lost l = lose t l

abbrev pub hear_column : Config → ℕ → Happened → Column → Column
hear_column c t (heard m) l = hear_said t (meaning c m) l
hear_column c t (signal g) l = hear_signal t g l
hear_column c t (operator h) l = l

-- the ship's BQ to a ring-back
abbrev pub settle_said : ℕ → Party → Said → Column → Column
settle_said t x silent l = l
settle_said t x (told_b_q o) l = l
settle_said t x (told_r_q o) l = cond (is x o.request.who)
    (record { said = settled o; wait = some (after t offer_time); call = l.call; gone = l.gone })
    l
settle_said t x (settled o) l = l

-- the ship's BQ to a call from ashore, the first one: it rings
abbrev pub begin_ringing_call : ℕ → Party → Call → Column → Column
begin_ringing_call t x quiet l = l
begin_ringing_call t x (called o false) l = cond (is x o.request.who)
    (record { said = l.said; wait = some (after t ringing_time); call = called o true; gone = l.gone })
    l
begin_ringing_call t x (called o true) l = l
begin_ringing_call t x (dialled o ended) l = l
begin_ringing_call t x (talking o b) l = l

abbrev pub begin_ringing : ℕ → Party → Column → Column
begin_ringing t x l = begin_ringing_call t x l.call l

abbrev pub settle : ℕ → Party → Column → Column
settle t x l = settle_said t x l.said (begin_ringing t x l)

-- a request from the ship of an answered simplex call whose carrier is absent
abbrev pub again : Party → Column → Column
again x l = cond (asked_again x l.call l.gone) (close l) l

abbrev pub hear_heard : ℕ → Heard → Book → Book
hear_heard t (call_request r) b =
    record { now = b.now; columns = map (again r.who) b.columns; places = b.places; given = b.given }
hear_heard t (data_request x n) b = b
hear_heard t (bq i x) b = at_column i (settle t x) b
hear_heard t (working_call x) b = b
hear_heard t (end_of_call x) b = b
hear_heard t (declined x) b = b
hear_heard t nothing b = b

-- the wait that the tick fires is over
abbrev pub hear_due : Book → Option Due → Book
hear_due b none = b
hear_due b (some p) =
    elim p.what [ of_queue k ↦ at_places (drop_at k) b | loss i ↦ at_column i close b | main i ↦ at_column i (with_wait none) b ]

abbrev pub hear : Config → ℕ → Option Due → What → Book → Book
hear c t f tick b = hear_due b f
hear c t f (on_channel70 m) b = hear_heard t (meaning c m) b
hear c t f (on_slot i h) b = at_column i (hear_column c t h) b
hear c t f (from_ashore a) b = b

-- what channel 70 says to this station
abbrev pub heard_at : Config → What → Heard
heard_at c tick = nothing
heard_at c (on_channel70 m) = meaning c m
heard_at c (on_slot i h) = nothing
heard_at c (from_ashore a) = nothing

-- ── what a deed says ─────────────────────────────────────────────────────────

-- a column, and the last call number given: a call that begins on it has the next one (02, no. 4)
pub record CountedColumn : Type 0 where
  pub line : Column
  pub given : ℕ

abbrev pub begins : (Begun → Column) → Request → ℕ → CountedColumn
begins f r n = record { line = f (begun_as (n + 1) r); given = n + 1 }

abbrev pub goes_on : Column → ℕ → CountedColumn
goes_on l n = record { line = l; given = n }

-- the column i so read
abbrev pub at_counted_column : ℕ → (Column → ℕ → CountedColumn) → Book → Book
at_counted_column i f b =
    record {
      now = b.now;
      columns = mod_at (λ l. (f l b.given).line) i b.columns;
      places = b.places;
      given = (f (column b i) b.given).given;
    }

abbrev pub told : ℕ → Column → Begun → Column
told t l o = record { said = told_b_q o; wait = some (after t offer_time); call = l.call; gone = l.gone }

-- an acknowledgement that repeats the one before it leaves the wait as it is, and begins no call
abbrev pub tell_said : ℕ → Request → Said → Column → ℕ → CountedColumn
tell_said t r silent l n = begins (told t l) r n
tell_said t r (told_b_q o) l n = cond (alike r o.request) (goes_on l n) (begins (told t l) r n)
tell_said t r (told_r_q o) l n = begins (told t l) r n
tell_said t r (settled o) l n = begins (told t l) r n

abbrev pub tell : ℕ → Request → Column → ℕ → CountedColumn
tell t r l n = tell_said t r l.said l n

abbrev pub rung : ℕ → Column → Begun → Column
rung t l o = record { said = told_r_q o; wait = some (after t ring_back_time); call = l.call; gone = l.gone }

-- a ring-back, or the same once more
abbrev pub rings_back : ℕ → Request → Said → Column → ℕ → CountedColumn
rings_back t r silent l n = begins (rung t l) r n
rings_back t r (told_b_q o) l n = begins (rung t l) r n
rings_back t r (told_r_q o) l n = goes_on (rung t l (begun_as o.call_number r)) n
rings_back t r (settled o) l n = begins (rung t l) r n

abbrev pub leave : Party → List Place → List Place
leave x [] = []
leave x (p ∷ ps) = cond (is x p.who) ps (p ∷ leave x ps)

-- a call from ashore, its first sending or its second
abbrev pub take_up : Begun → Call → Call
take_up n quiet = called n false
take_up n (called o rings) = called n rings
take_up n (dialled o ended) = called n false
take_up n (talking o b) = talking o b

abbrev pub call_up : ℕ → Column → Begun → Column
call_up t l o = record { said = silent; wait = some (after t call_time); call = take_up o l.call; gone = none }

-- a call to a ship in an entry that nobody ashore has asked for: the second sending of a call from ashore, or a ring-back
abbrev pub summon_call : ℕ → Request → Call → Column → ℕ → CountedColumn
summon_call t r quiet l n = rings_back t r l.said l n
summon_call t r (called o rings) l n = goes_on (call_up t l (begun_as o.call_number r)) n
summon_call t r (dialled o ended) l n = rings_back t r l.said l n
summon_call t r (talking o b) l n = rings_back t r l.said l n

abbrev pub summon : ℕ → Request → Column → ℕ → CountedColumn
summon t r l n = summon_call t r l.call l n

-- in the entry of a caller ashore: its first sending
abbrev pub first_call_up : ℕ → Request → Column → ℕ → CountedColumn
first_call_up t r l n = begins (call_up t l) r n

-- by what was asked ashore in the same entry. A ship that is rung back leaves the queue; one that is called has no place in it to leave
abbrev pub send_call : Option Ashore → ℕ → ℕ → Request → Book → Book
send_call none t i r b = at_places (leave r.who) (at_counted_column i (summon t r) b)
send_call (some a) t i r b = at_counted_column i (first_call_up t r) b

abbrev pub begin_call : Begun → Call → Call
begin_call n quiet = dialled n false
begin_call n (called o rings) = dialled n false
begin_call n (dialled o ended) = dialled n false
begin_call n (talking o b) = talking o b

-- "Carrier counts as present"; the exchange has a minute to dial
abbrev pub dial_req : ℕ → Begun → Column → Column
dial_req t o l = record { said = silent; wait = some (after t dialling_time); call = begin_call o l.call; gone = none }

-- dialled for the ship and in the mode that channel 70 last named, with that call's number
abbrev pub dial_said : ℕ → Said → Column → Column
dial_said t silent l = l
dial_said t (told_b_q o) l = dial_req t o l
dial_said t (told_r_q o) l = dial_req t o l
dial_said t (settled o) l = dial_req t o l

abbrev pub dial_up : ℕ → Column → Column
dial_up t l = dial_said t l.said l

abbrev pub let_go_call : Call → Column → Column
let_go_call quiet l = l
let_go_call (called o rings) l = record { said = l.said; wait = none; call = quiet; gone = none }
let_go_call (dialled o ended) l = record { said = l.said; wait = none; call = quiet; gone = none }
let_go_call (talking o b) l = l

-- the line is released; a call that is answered goes on to one of its stops
abbrev pub let_go : Column → Column
let_go l = let_go_call l.call l

abbrev pub hush : Column → Column
hush l = record { said = silent; wait = l.wait; call = l.call; gone = l.gone }

-- told 104/103: the ship joins the queue, unless it stands there
abbrev pub join : ℕ → Party → List Place → List Place
join t x [] = record { who = x; due = after t queue_time } ∷ []
join t x (p ∷ ps) = cond (is x p.who) (p ∷ ps) (p ∷ join t x ps)

abbrev pub queued : ℕ → ℕ → Party → Book → Book
queued t n x b = cond (eqb n 103) (at_places (join t x) b) b

-- a deed of an entry in which q, if anything, was asked ashore; the caller's ringing and his tone say nothing of the call
abbrev pub read : Option Ashore → ℕ → Deed → Book → Book
read q t (carrier_on i) b = b
read q t (carrier_off i) b = at_column i hush b
read q t (acknowledge i r) b = at_counted_column i (tell t r) b
read q t (call_ship i r) b = send_call q t i r b
read q t (unable n x digits) b = queued t n x b
read q t (dial i digits) b = at_column i (dial_up t) b
read q t (release_line i) b = at_column i let_go b
read q t (ringing_on i) b = b
read q t (ringing_off i) b = b
read q t (busy_tone i) b = b

unfoldable pub reads : Option Ashore → ℕ → List Deed → Book → Book
reads q t [] b = b
reads q t (d ∷ ds) b = reads q t ds (read q t d b)

-- ── the list read ────────────────────────────────────────────────────────────

abbrev pub set_now : ℕ → Book → Book
set_now t b = record { now = t; columns = b.columns; places = b.places; given = b.given }

-- the book after an entry: its event heard, then its deeds read
unfoldable pub turn : Config → Book → Note → Book
turn c b n =
    reads (ashore_in n.event.what) (moment b n.event) n.deeds
    (hear c (moment b n.event) (falling b n.event) n.event.what (set_now (moment b n.event) b))

unfoldable pub stops_in : Config → Book → Note → List Stop
stops_in c b n = stops_at c (moment b n.event) b (falling b n.event) n.event.what

-- a thing with the number of the entry in which it stands
pub record Numbered (A : Type 0) : Type 0 where
  pub entry : ℕ
  pub it : A

abbrev pub numbered : {A : Type 0} → ℕ → List A → List (Numbered A) → List (Numbered A)
numbered k [] r = r
numbered k (s ∷ ss) r = record { entry = k; it = s } ∷ numbered k ss r

unfoldable pub stops : Config → ℕ → List Note → Book → List (Numbered Stop)
stops c k [] b = []
stops c k (n ∷ ns) b = numbered k (stops_in c b n) (stops c (suc k) ns (turn c b n))

-- the book after the list
unfoldable pub read_all : Config → List Note → Book → Book
read_all c [] b = b
read_all c (n ∷ ns) b = read_all c ns (turn c b n)

-- ── the answered tenths, counted ─────────────────────────────────────────────

abbrev pub is_talking : Call → ℕ
is_talking quiet = 0
is_talking (called o rings) = 0
is_talking (dialled o ended) = 0
is_talking (talking o b) = 1

abbrev pub talkers : List Column → ℕ
talkers [] = 0
talkers (l ∷ ls) = is_talking l.call + talkers ls

-- by time: each entry moves the time on, and every answered call that runs meanwhile counts
unfoldable pub counted : Config → List Note → Book → ℕ
counted c [] b = 0
counted c (n ∷ ns) b = (moment b n.event - b.now) * talkers b.columns + counted c ns (turn c b n)

-- by calls: what a call has talked up to t, if it is answered and not stopped
abbrev pub talked : ℕ → Call → ℕ
talked t quiet = 0
talked t (called o rings) = 0
talked t (dialled o ended) = 0
talked t (talking o b) = t - b

abbrev pub talked_by : ℕ → List Column → ℕ
talked_by t [] = 0
talked_by t (l ∷ ls) = talked t l.call + talked_by t ls

abbrev pub lengths : List (Numbered Stop) → ℕ
lengths [] = 0
lengths (s ∷ ss) = (s.it.stop.0 - s.it.start.0) + lengths ss

-- the calls that stopped, and those that still talk at the end of the list
unfoldable pub counted_by_calls : Config → List Note → Book → ℕ
counted_by_calls c ns b = lengths (stops c 0 ns b) + talked_by (read_all c ns b).now (read_all c ns b).columns
