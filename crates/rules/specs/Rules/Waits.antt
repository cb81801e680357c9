-- The waits and 01's order of them.
use Rattle.std.specs.Prelude.{List, [], ◌∷◌, cond, ℕ, suc, leb}
use Rattle.std.proofs.Math.Option.{Option, none, some}

pub data Wait : Type 0 where
  of_queue : ℕ → Wait  -- a place in the queue
  loss : ℕ → Wait  -- carrier loss in a slot
  main : ℕ → Wait  -- the other wait of a slot

pub record Due : Type 0 where
  pub what : Wait
  pub at : ℕ

-- a wait before others, if it runs
abbrev pub running : Wait → Option ℕ → List Due → List Due
running w none r = r
running w (some d) r = record { what = w; at = d } ∷ r

abbrev pub sooner : Due → Option Due → Option Due
sooner p none = some p
sooner p (some q) = cond (leb p.at q.at) (some p) (some q)

-- the earliest; of several due together the first of the list
abbrev pub earliest : List Due → Option Due
earliest [] = none
earliest (p ∷ r) = sooner p (earliest r)

-- "due at or before t"
abbrev pub if_due : ℕ → Option Due → Option Due
if_due t none = none
if_due t (some p) = cond (leb p.at t) (some p) none

-- "queue entries, oldest first", and behind them the slots
abbrev pub queue_table : ℕ → List ℕ → List Due → List Due
queue_table k [] r = r
queue_table k (d ∷ ds) r = record { what = of_queue k; at = d } ∷ queue_table (suc k) ds r
