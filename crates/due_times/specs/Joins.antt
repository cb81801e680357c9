-- Waits set before others, the earliest in front.
use Rattle.std.specs.Prelude.{ℕ, suc, List, [], ◌∷◌}
use Rattle.std.proofs.Math.Option.{Option, none, some}
use Rattle.rules.specs.Rules.Waits as T
use Rattle.rules.specs.Rules.Waits.{of_queue, sooner}

-- a wait that may run, set before the others
abbrev pub join_due : T.Wait → Option ℕ → Option T.Due → Option T.Due
join_due w none e = e
join_due w (some d) e = sooner (record { what = w; at = d }) e

-- the due times of waiting ships, set before the others
abbrev pub queue_joined : ℕ → List ℕ → Option T.Due → Option T.Due
queue_joined k [] e = e
queue_joined k (d ∷ ds) e = sooner (record { what = of_queue k; at = d }) (queue_joined (suc k) ds e)
