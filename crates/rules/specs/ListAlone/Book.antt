-- The list alone, first part: what a reader of the list keeps, and which of its waits is due.
-- Nothing of the rules is used here; the figures and the comparison of requests are written from the sentences of 01 and 02.
use Rattle.std.specs.Prelude.{List, [], ◌∷◌, map, Bool, true, false, ◌&&◌, ℕ, suc, ◌+◌, ◌*◌, eqb, get_or, length, replicate}
use Rattle.std.proofs.Math.Option.{Option, none}
use Rattle.units.specs.declared.Tenths.{Tenths}
use Rattle.rules.specs.Rules.Places.{mod_at}
use Rattle.rules.specs.Rules.Words.{Party, is, Mode, simplex, duplex, Request, Config, Event, Deed}
use Rattle.rules.specs.Rules.Waits.{loss, main, Due, running, earliest, if_due, queue_table}

-- an entry of the list: an event with the deeds given; no deed is a charge or tells a length of time
pub record Note : Type 0 where
  pub event : Event
  pub deeds : List Deed

-- a call answered at `start` that stopped at `stop`, with its number
pub record Stop : Type 0 where
  pub slot : ℕ
  pub ship : ℕ
  pub start : Tenths
  pub stop : Tenths
  pub call_number : ℕ

-- ── the figures, in seconds, and the comparison of requests ──────────────────

-- s seconds begun at t, their last tenth included: over one tenth later
abbrev pub after : ℕ → ℕ → ℕ
after t s = t + (10 * s + 1)

-- how long a silent ship has
abbrev pub silence : Mode → ℕ
silence simplex = 45
silence duplex = 5

abbrev pub offer_time : ℕ
offer_time = 16

abbrev pub ring_back_time : ℕ
ring_back_time = 5

-- 02, no. 2: "one repeat after 5 s, dropped after another 5 s"
abbrev pub call_time : ℕ
call_time = 5

-- "starts the ringing and a wait of one minute"
abbrev pub ringing_time : ℕ
ringing_time = 60

-- 02, no. 1: "the wait is 600 for dialling itself"
abbrev pub dialling_time : ℕ
dialling_time = 60

-- "at it a new wait of 600 begins"
abbrev pub reply_time : ℕ
reply_time = 60

abbrev pub hold_time : ℕ
hold_time = 4

abbrev pub queue_time : ℕ
queue_time = 15 * 60

abbrev pub alike_mode : Mode → Mode → Bool
alike_mode simplex simplex = true
alike_mode simplex duplex = false
alike_mode duplex simplex = false
alike_mode duplex duplex = true

abbrev pub alike_digits : List ℕ → List ℕ → Bool
alike_digits [] [] = true
alike_digits [] (b ∷ bs) = false
alike_digits (a ∷ rest) [] = false
alike_digits (a ∷ rest) (b ∷ bs) = eqb a b && alike_digits rest bs

-- one ship asks twice for one number, in one mode and with one second telecommand
unfoldable pub alike : Request → Request → Bool
alike a b = is a.who b.who && (alike_mode a.mode b.mode && (eqb a.second b.second && alike_digits a.number b.number))

-- ── what the list tells of a slot ────────────────────────────────────────────

-- a call that channel 70 began: for which request, and with which call number, counted from the list
pub record Begun : Type 0 where
  pub request : Request
  pub call_number : ℕ

abbrev pub begun_as : ℕ → Request → Begun
begun_as n r = record { request = r; call_number = n }

-- what channel 70 last carried about it, since its carrier was switched off
pub data Said : Type 0 where
  silent : Said
  told_b_q : Begun → Said
  told_r_q : Begun → Said
  settled : Begun → Said  -- the ship has answered the ring-back

-- the call on it: from ashore or dialled, and not released; answered and not stopped
pub data Call : Type 0 where
  quiet : Call
  called : Begun → Bool → Call  -- from ashore: whether it rings
  dialled : Begun → Bool → Call  -- whether its dialling has ended
  talking : Begun → ℕ → Call  -- since when

pub record Column : Type 0 where
  pub said : Said
  pub wait : Option ℕ  -- due time of its wait
  pub call : Call
  pub gone : Option ℕ  -- due time of its carrier wait

pub record Place : Type 0 where
  pub who : Party
  pub due : ℕ

pub record Book : Type 0 where
  pub now : ℕ
  pub columns : List Column
  pub places : List Place
  pub given : ℕ  -- how many calls have begun: the last call number

abbrev pub blank : Column
blank = record { said = silent; wait = none; call = quiet; gone = none }

-- before the first entry
unfoldable pub blank_book : Config → Book
blank_book c = record { now = 0; columns = replicate (length c.channels) blank; places = []; given = 0 }

abbrev pub at_column : ℕ → (Column → Column) → Book → Book
at_column i f b = record { now = b.now; columns = mod_at f i b.columns; places = b.places; given = b.given }

abbrev pub at_places : (List Place → List Place) → Book → Book
at_places f b = record { now = b.now; columns = b.columns; places = f b.places; given = b.given }

abbrev pub column : Book → ℕ → Column
column b i = get_or b.columns i blank

-- ── which wait is due: 01's order ─────────────────────────────────────────────

-- "slots, lowest first; in one slot carrier loss before no reply"
abbrev pub column_table : ℕ → List Column → List Due
column_table i [] = []
column_table i (l ∷ ls) = running (loss i) l.gone (running (main i) l.wait (column_table (suc i) ls))

-- every wait that runs: "queue entries, oldest first; slots"
abbrev pub waits_in : Book → List Due
waits_in b = queue_table 0 (map (λ p. p.due) b.places) (column_table 0 b.columns)

unfoldable pub falls : ℕ → Book → Option Due
falls t b = if_due t (earliest (waits_in b))
