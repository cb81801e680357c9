-- What the records of the rack stand for: arrays as the lists of the model, a stored request as the model's.
use Rattle.std.specs.Prelude.{ℕ, List, map, take, drop}
use Rattle.sequence.specs.declared.Number.{Number}
use Rattle.rules.specs.Rules.Words as W
use Rattle.rules.specs.Rules.Words.{simplex, duplex}
use Rattle.requests.specs.declared.Mode.{Mode}
use Rattle.requests.specs.declared.Mode.TheVariants.{Simplex, Duplex}
use Rattle.requests.specs.declared.Request.{Request}

-- the first n of an array, each as what it stands for
unfoldable pub viewed : {A B : Type 0} → (A → B) → ℕ → List A → List B
viewed v n l = map v (take n l)

-- what is left of it from the place i on
unfoldable pub left : {A B : Type 0} → (A → B) → ℕ → List A → ℕ → List B
left v n l i = drop i (viewed v n l)

-- an element as it is
abbrev pub itself : {A : Type 0} → A → A
itself x = x

abbrev pub party_of : ℕ → ℕ → W.Party
party_of ship station = record { ship = ship; station = station }

abbrev pub mode_of : Mode → W.Mode
mode_of Simplex = simplex
mode_of Duplex = duplex

-- the digits in use
unfoldable pub digits_of : Number → List ℕ
digits_of n = viewed itself n.count n.digits

unfoldable pub request_of : Request → W.Request
request_of q =
    record {
      who = record { ship = q.ship; station = q.station };
      mode = mode_of q.mode;
      second = q.second;
      number = digits_of q.number;
    }
