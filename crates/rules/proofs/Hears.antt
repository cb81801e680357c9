-- What a deed and an event say on a column, as to who talks on it: nothing, or a call begins, or one stops. It speaks of the list alone.
use mathlib.Core.Path.{◌≡◌, refl, ◌∙◌}
use mathlib.Core.List.{List, [], map}
use mathlib.Core.Bool.{Bool, true, false, cond}
use mathlib.Core.Option.{Option, none, some}
use Prim.Native.Nat.{ℕ}
use lib.Dec.{eqb}
use Rattle.rules.specs.Rules.Places.{mod_at, drop_at}
use Rattle.rules.specs.Rules.Words.{Party, is, Request, Config, Ashore, line_dialled_out, line_lifted, line_hung, carrier_heard, carrier_lost, Happened, heard, signal, operator, answering_on, What, on_slot, Deed, carrier_on, carrier_off, acknowledge, call_ship, unable, dial, release_line, ringing_on, ringing_off, busy_tone, tick, on_channel70, from_ashore, transmitting_on}
use Rattle.rules.specs.Rules.Heard.{Heard, call_request, data_request, bq, working_call, end_of_call, declined, nothing, meaning}
use Rattle.rules.specs.ListAlone.Book.{Stop, after, offer_time, ringing_time, alike, Begun, Said, silent, told_b_q, told_r_q, settled, Call, quiet, called, dialled, talking, Column, Book, at_places, Place, column}
use Rattle.rules.specs.ListAlone.Reading.{close, dial_out, pick_up, lose, sign_off, hear_said, hear_column, settle, settle_said, begin_ringing, begin_ringing_call, come_up, take_up, rings_back, summon, first_call_up, CountedColumn, goes_on, begins, told, tell, begin_call, dial_up, let_go, hush, join, queued, read, with_wait, again, hear_heard, hear_due, hear, set_now, stop_of, call_of, stops_said, stops_on, stops_due, stops_again, stops_heard, stops_at}
use Rattle.rules.specs.Rules.Waits.{Wait, of_queue, loss, main, Due}

abbrev pub column-of : Said → Option ℕ → Call → Option ℕ → Column
column-of s w c g = record { said = s; wait = w; call = c; gone = g }

-- the answered part of a call
abbrev pub talk : Call → Call
talk quiet = quiet
talk (called r b) = quiet
talk (dialled x o) = quiet
talk (talking x b) = talking x b

pub talk-is : (c : Call) (x : Begun) (t : ℕ) → talk c ≡ talking x t → c ≡ talking x t
talk-is quiet x t h = cc
talk-is (called r b) x t h = cc
talk-is (dialled y o) x t h = cc
talk-is (talking y b) x t h = h

-- ── what leaves the answered part alone ──────────────────────────────────────

abbrev pub Same : (Column → Column) → Type 0
Same f = (l : Column) → talk (f l).call ≡ talk l.call

cond_same : (c : Call) (b : Bool) (x y : Column) → talk x.call ≡ c → talk y.call ≡ c → talk (cond b x y).call ≡ c
cond_same c true x y p q = p
cond_same c false x y p q = q

counted_same : (c : Call) (b : Bool) (x y : CountedColumn) → talk x.line.call ≡ c → talk y.line.call ≡ c → talk (cond b x y).line.call ≡ c
counted_same c true x y p q = p
counted_same c false x y p q = q

tell-same : (u : ℕ) (r : Request) (n : ℕ) → Same (λ l. (tell u r l n).line)
tell-same u r n l = go l.said
  where
    go : (s : Said) → talk (tell u r (column-of s l.wait l.call l.gone) n).line.call ≡ talk l.call
    go silent = refl
    go (told_b_q o) = counted_same _ (alike r o.request) (goes_on (column-of (told_b_q o) l.wait l.call l.gone) n) (begins (told u (column-of (told_b_q o) l.wait l.call l.gone)) r n) refl refl
    go (told_r_q o) = refl
    go (settled o) = refl

begin-same : (r : Begun) (c : Call) → talk (begin_call r c) ≡ talk c
begin-same r quiet = refl
begin-same r (called q b) = refl
begin-same r (dialled x o) = refl
begin-same r (talking x b) = refl

dial-same : (u : ℕ) → Same (dial_up u)
dial-same u l = go l.said
  where
    go : (s : Said) → talk (dial_up u (column-of s l.wait l.call l.gone)).call ≡ talk l.call
    go silent = refl
    go (told_b_q r) = begin-same r l.call
    go (told_r_q r) = begin-same r l.call
    go (settled r) = begin-same r l.call

release-same : Same let_go
release-same l = go l.call
  where
    go : (c : Call) → talk (let_go (column-of l.said l.wait c l.gone)).call ≡ talk c
    go quiet = refl
    go (called r b) = refl
    go (dialled x o) = refl
    go (talking x b) = refl

lose-same : (u : ℕ) → Same (lose u)
lose-same u l = go l.call
  where
    go : (c : Call) → talk (lose u (column-of l.said l.wait c l.gone)).call ≡ talk c
    go quiet = refl
    go (called r b) = refl
    go (dialled x o) = refl
    go (talking x b) = refl

dial-out-same : (u : ℕ) → Same (dial_out u)
dial-out-same u l = go l.call
  where
    go : (c : Call) → talk (dial_out u (column-of l.said l.wait c l.gone)).call ≡ talk c
    go quiet = refl
    go (called r b) = refl
    go (dialled x false) = refl
    go (dialled x true) = refl
    go (talking x b) = refl

take_same : (r : Begun) (c : Call) → talk (take_up r c) ≡ talk c
take_same r quiet = refl
take_same r (called q b) = refl
take_same r (dialled x o) = refl
take_same r (talking x b) = refl

ring-back-same : (u : ℕ) (r : Request) (n : ℕ) (s : Said) (l : Column) → talk (rings_back u r s l n).line.call ≡ talk l.call
ring-back-same u r n silent l = refl
ring-back-same u r n (told_b_q o) l = refl
ring-back-same u r n (told_r_q o) l = refl
ring-back-same u r n (settled o) l = refl

summon-same : (u : ℕ) (r : Request) (n : ℕ) → Same (λ l. (summon u r l n).line)
summon-same u r n l = go l.call
  where
    go : (c : Call) → talk (summon u r (column-of l.said l.wait c l.gone) n).line.call ≡ talk c
    go quiet = ring-back-same u r n l.said _
    go (called q b) = refl
    go (dialled x o) = ring-back-same u r n l.said _
    go (talking x b) = ring-back-same u r n l.said _

ring-same : (u : ℕ) (x : Party) → Same (begin_ringing u x)
ring-same u x l = go l.call
  where
    go : (c : Call) → talk (begin_ringing_call u x c (column-of l.said l.wait c l.gone)).call ≡ talk c
    go quiet = refl
    go (called r false) = cond_same _ (is x r.request.who) (column-of l.said (some (after u ringing_time)) (called r true) l.gone) (column-of l.said l.wait (called r false) l.gone) refl refl
    go (called r true) = refl
    go (dialled y o) = refl
    go (talking y b) = refl

settle-same : (u : ℕ) (x : Party) → Same (settle u x)
settle-same u x l = go l.said (begin_ringing u x l) ∙ ring-same u x l
  where
    go : (s : Said) (k : Column) → talk (settle_said u x s k).call ≡ talk k.call
    go silent k = refl
    go (told_b_q r) k = refl
    go (told_r_q r) k = cond_same _ (is x r.request.who) (column-of (settled r) (some (after u offer_time)) k.call k.gone) k refl refl
    go (settled r) k = refl

-- ── what a deed says ─────────────────────────────────────────────────────────

pub queued-columns : (u n : ℕ) (x : Party) (b : Book) → (queued u n x b).columns ≡ b.columns
queued-columns u n x b = go (eqb n 103)
  where
    go : (c : Bool) → (cond c (at_places (join u x) b) b).columns ≡ b.columns
    go true = refl
    go false = refl

-- no deed begins or stops an answered call
pub data Leaves (ls : List Column) : List Column → Type 0 where
  elsewhere : Leaves ls ls
  at-column : (i : ℕ) (f : Column → Column) → Same f → Leaves ls (mod_at f i ls)

pub read-leaves : (q : Option Ashore) (u : ℕ) (d : Deed) (b : Book) → Leaves b.columns (read q u d b).columns
read-leaves q u (carrier_on i) b = elsewhere
read-leaves q u (carrier_off i) b = at-column i hush (λ l. refl)
read-leaves q u (acknowledge i r) b = at-column i (λ l. (tell u r l b.given).line) (tell-same u r b.given)
read-leaves none u (call_ship i r) b = at-column i (λ l. (summon u r l b.given).line) (summon-same u r b.given)
read-leaves (some q) u (call_ship i r) b = at-column i (λ l. (first_call_up u r l b.given).line) (λ l. take_same _ l.call)
read-leaves q u (unable n x digits) b = rw (queued-columns u n x b) elsewhere
read-leaves q u (dial i n) b = at-column i (dial_up u) (dial-same u)
read-leaves q u (release_line i) b = at-column i let_go release-same
read-leaves q u (ringing_on i) b = elsewhere
read-leaves q u (ringing_off i) b = elsewhere
read-leaves q u (busy_tone i) b = elsewhere

-- ── what an event says, on the column i at the time u ──────────────────────────

-- it is read by f, and a call k on the column gives the stops s k
pub data Hears (u i : ℕ) (e : What) : (Column → Column) → (Call → List Stop) → Type 0 where
  says_nothing : (f : Column → Column) → Same f → Hears u i e f (λ k. [])
  says-begun : e ≡ answering_on i → Hears u i e (pick_up u) (λ k. [])
  says-answered : e ≡ transmitting_on i → Hears u i e (come_up u) (λ k. [])
  says-over : Hears u i e close (stop_of u i)
  says-end : (x : Party) → Hears u i e (sign_off u x) (λ k. cond (call_of x k) (stop_of u i k) [])

said-hears : (u i : ℕ) (e : What) (m : Heard) → Hears u i e (hear_said u m) (λ k. stops_said u i k m)
said-hears u i e (call_request r) = says_nothing (λ l. l) (λ l. refl)
said-hears u i e (data_request x n) = says_nothing (λ l. l) (λ l. refl)
said-hears u i e (bq j x) = says_nothing (λ l. l) (λ l. refl)
said-hears u i e (working_call x) = says_nothing (λ l. l) (λ l. refl)
said-hears u i e (end_of_call x) = says-end x
said-hears u i e (declined x) = says_nothing (λ l. l) (λ l. refl)
said-hears u i e nothing = says_nothing (λ l. l) (λ l. refl)

column-hears : (cfg : Config) (u i : ℕ) (h : Happened) → Hears u i (on_slot i h) (hear_column cfg u h) (λ k. stops_on cfg u i k h)
column-hears cfg u i (heard m) = said-hears u i (on_slot i (heard m)) (meaning cfg m)
column-hears cfg u i (signal line_dialled_out) = says_nothing (dial_out u) (dial-out-same u)
column-hears cfg u i (signal line_lifted) = says-begun refl
column-hears cfg u i (signal line_hung) = says-over
column-hears cfg u i (signal carrier_heard) = says-answered refl
column-hears cfg u i (signal carrier_lost) = says_nothing (lose u) (lose-same u)
column-hears cfg u i (operator h) = says_nothing (λ l. l) (λ l. refl)

-- ── what an event says of the whole book b, at its moment u ──────────────────

-- the book that it is read into, and the calls that it stops: no column is concerned, or one, or all are asked whether a call of x is over
pub data Hearing (u : ℕ) (e : What) (b : Book) : Book → List Stop → Type 0 where
  no-column : (ps : List Place) → Hearing u e b (record { now = u; columns = b.columns; places = ps; given = b.given }) []
  one-column : (i : ℕ) (f : Column → Column) (s : Call → List Stop) → Hears u i e f s → Hearing u e b (record { now = u; columns = mod_at f i b.columns; places = b.places; given = b.given }) (s (column b i).call)
  all-columns : (x : Party) → Hearing u e b (record { now = u; columns = map (again x) b.columns; places = b.places; given = b.given }) (stops_again u x 0 b.columns)

module _ (u : ℕ) (e : What) (b : Book) where
  wait-hearing : (w : Wait) (d : ℕ) → Hearing u e b (hear_due (set_now u b) (some record { what = w; at = d })) (stops_due u b (some record { what = w; at = d }))
  wait-hearing (of_queue k) d = no-column (drop_at k b.places)
  wait-hearing (loss i) d = one-column i close (stop_of u i) says-over
  wait-hearing (main i) d = one-column i (with_wait none) (λ k. []) (says_nothing (with_wait none) (λ l. refl))

  due-hearing : (o : Option Due) → Hearing u e b (hear_due (set_now u b) o) (stops_due u b o)
  due-hearing none = no-column b.places
  due-hearing (some p) = wait-hearing p.what p.at

  heard-hearing : (m : Heard) → Hearing u e b (hear_heard u m (set_now u b)) (stops_heard u b.columns m)
  heard-hearing (call_request r) = all-columns r.who
  heard-hearing (data_request x n) = no-column b.places
  heard-hearing (bq i x) = one-column i (settle u x) (λ k. []) (says_nothing (settle u x) (settle-same u x))
  heard-hearing (working_call x) = no-column b.places
  heard-hearing (end_of_call x) = no-column b.places
  heard-hearing (declined x) = no-column b.places
  heard-hearing nothing = no-column b.places

pub event-hearing : (cfg : Config) (u : ℕ) (b : Book) (o : Option Due) (w : What) → Hearing u w b (hear cfg u o w (set_now u b)) (stops_at cfg u b o w)
event-hearing cfg u b o tick = due-hearing u tick b o
event-hearing cfg u b o (on_channel70 m) = heard-hearing u (on_channel70 m) b (meaning cfg m)
event-hearing cfg u b o (from_ashore a) = no-column b.places
event-hearing cfg u b o (on_slot i h) = one-column i (hear_column cfg u h) (λ k. stops_on cfg u i k h) (column-hears cfg u i h)
