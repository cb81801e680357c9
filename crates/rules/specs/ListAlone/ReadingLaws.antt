-- What the reading means, said of any book and any entry, with no station in sight.
use Rattle.std.specs.Prelude.{◌≡◌, ◌⊎◌, List, [], ◌∷◌, ◌++◌, true, false, ℕ, ◌≤◌, ◌<◌, get_or, length}
use Rattle.std.proofs.Math.Option.{none, some}
use Rattle.rules.specs.Rules.Places.{Each}
use Rattle.rules.specs.Rules.Words.{Config, answering_on, transmitting_on, Deed}
use Rattle.rules.specs.Rules.Waits.{of_queue, Due, queue_table}
use Rattle.rules.specs.ListAlone.Book.{Note, Stop, Begun, Call, called, dialled, talking, Book, column, waits_in, falls}
use Rattle.rules.specs.ListAlone.Reading.{turn, stops_in, moment}

-- ── 01's order of waits, without the function that finds the earliest ─────────

-- d stands in the table l: no wait before it is due as early, and none behind it is due earlier
pub record First (l : List Due) (d : Due) : Type 0 where
  pub before : List Due
  pub after : List Due
  pub split : l ≡ before ++ d ∷ after
  pub later : Each (λ p. d.at < p.at) before
  pub not_earlier : Each (λ p. d.at ≤ p.at) after

-- the wait that a tick at t fires is due at or before t, and is the first of the earliest
unfoldable pub FiredIsFirst : Type 0
FiredIsFirst = (t : ℕ) (b : Book) (d : Due) → falls t b ≡ some d → (d.at ≤ t) × First (waits_in b) d

-- where none fires, every wait is due after t
unfoldable pub NoneFired : Type 0
NoneFired = (t : ℕ) (b : Book) → falls t b ≡ none → Each (λ p. t < p.at) (waits_in b)

-- a queue entry is named by its place
unfoldable pub QueueNamed : Type 0
QueueNamed = (ds : List ℕ) (slots : List Due) (k : ℕ) (none : Due) → k < length ds
    → get_or (queue_table 0 ds slots) k none ≡ record { what = of_queue k; at = get_or ds k 0 }

-- ── a call's beginning and its end ───────────────────────────────────────────

abbrev pub In : Stop → List Stop → Type 0
In s [] = ⊥
In s (r ∷ l) = (s ≡ r) ⊎ In s l

abbrev pub stop_at : ℕ → Begun → ℕ → ℕ → Stop
stop_at i o b t =
    record {
      slot = i;
      ship = o.request.who.ship;
      start = record { 0 = b };
      stop = record { 0 = t };
      call_number = o.call_number;
    }

-- dialled and not released, whether its dialling has ended or not
abbrev pub IsDialled : Begun → Call → Type 0
IsDialled o k = (k ≡ dialled o false) ⊎ (k ≡ dialled o true)

-- called from ashore, and ringing
abbrev pub IsRinging : Begun → Call → Type 0
IsRinging o k = k ≡ called o true

-- a slot talks after an entry only if it talked before, or the entry answers it while it was dialled, or its ship transmits while it rings
unfoldable pub Begins : Type 0
Begins = (c : Config) (b : Book) (n : Note) (i : ℕ) (o : Begun) (t : ℕ) → (column (turn c b n) i).call ≡ talking o t
    → ((column b i).call ≡ talking o t)
    ⊎ (((n.event.what ≡ answering_on i) × ((moment b n.event ≡ t) × IsDialled o (column b i).call))
    ⊎ ((n.event.what ≡ transmitting_on i) × ((moment b n.event ≡ t) × IsRinging o (column b i).call)))

-- a dialled slot that is answered talks since that time
unfoldable pub Lifts : Type 0
Lifts = (c : Config) (t room : ℕ) (ds : List Deed) (b : Book) (i : ℕ) (o : Begun) → IsDialled o (column b i).call
    → (column (turn c b (record { event = record { time = t; room = room; what = answering_on i }; deeds = ds })) i).call ≡ talking o t

-- and a ringing slot whose ship transmits
unfoldable pub Transmits : Type 0
Transmits = (c : Config) (t room : ℕ) (ds : List Deed) (b : Book) (i : ℕ) (o : Begun) → IsRinging o (column b i).call
    → (column (turn c b (record { event = record { time = t; room = room; what = transmitting_on i }; deeds = ds })) i).call ≡ talking o t

-- a slot that talked talks on, or the entry holds its stop, with its beginning and the entry's moment
unfoldable pub Ends : Type 0
Ends = (c : Config) (b : Book) (n : Note) (i : ℕ) (o : Begun) (t : ℕ) → (column b i).call ≡ talking o t
    → ((column (turn c b n) i).call ≡ talking o t) ⊎ In (stop_at i o t (moment b n.event)) (stops_in c b n)
