-- A call request: what goes on behind an outcome, and what does not.
use Prim.Native.Nat.{ℕ}
use mathlib.Core.Bool.{Bool, true, false, cond}
use Rattle.std.specs.Prelude.{Option, Some, None}
use mathlib.Core.Path.{◌≡◌, refl}
use lib.Dec.{ltb}
use Rattle.units.specs.declared.Tenths.{Tenths}
use Rattle.rules.specs.Rules.Words.{Request}
use Rattle.rules.specs.Rules.Sound.{queue_room}
use Rattle.rules.specs.Rules.Station as R
use Rattle.slots.specs.declared.Phase.{Phase}
use Rattle.slots.specs.declared.QueuePlace.{QueuePlace}
use Rattle.slots.proofs.PhaseLaws.{by-phase}
use Rattle.outcomes.specs.declared.Outcome.{Outcome}
use Rattle.outcomes.specs.declared.Outcome.TheVariants.{Joins, Unable}
use Rattle.outcomes.specs.Does.{goes_on, out_of, whole_of}
use Rattle.deciding.specs.Decides.{bq_by, declined_by, data_by, newcomer_by, d_to_g_by}

-- nothing goes on
pub ends_there : (i : ℕ) (own : R.Dealing) (q : Request) (o : Outcome) (st : R.Station) → goes_on o ≡ false → whole_of i own q o st ≡ out_of i own q o st
unfolding whole_of
ends_there i own q o st h = rw h

newcomer-ends : (found : Bool) (n : ℕ) → goes_on (newcomer_by found n) ≡ false
newcomer-ends true n = refl
newcomer-ends false n = go (ltb n queue_room)
  where
    go : (b : Bool) → goes_on (cond b Joins (Unable 102)) ≡ false
    go true = refl
    go false = refl

pub d-to-g-ends : (spent : Bool) (place : Option QueuePlace) (found : Bool) (n : ℕ) → goes_on (d_to_g_by spent place found n) ≡ false
d-to-g-ends true place found n = refl
d-to-g-ends false (Some k) found n = refl
d-to-g-ends false None found n = newcomer-ends found n

pub bq-ends : (own : Bool) (t : Tenths) (p : Phase) → goes_on (bq_by own t p) ≡ false
bq-ends false t = λ p. refl
bq-ends true t = by-phase _ refl (λ d. refl) (λ d. refl) (λ d. refl) (λ d. refl) (λ d c. refl) (λ d c. refl) (λ d n. refl) refl (λ d c. refl) (λ d. refl) (λ d. refl) (λ d. refl)

pub declined-ends : (p : Phase) → goes_on (declined_by p) ≡ false
declined-ends = by-phase _ refl (λ d. refl) (λ d. refl) (λ d. refl) (λ d. refl) (λ d c. refl) (λ d c. refl) (λ d n. refl) refl (λ d c. refl) (λ d. refl) (λ d. refl) (λ d. refl)

pub data-ends : (called : Bool) → goes_on (data_by called) ≡ false
data-ends true = refl
data-ends false = refl
