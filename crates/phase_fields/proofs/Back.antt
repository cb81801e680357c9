-- The numbers of a phase stand for it.
use mathlib.Core.Path.{◌≡◌, refl}
use Rattle.units.specs.declared.Duration.{Duration}
use Rattle.std.specs.Prelude.{Option as Optional, Some, None}
use Rattle.slots.specs.declared.Carrier.{Carrier}
use Rattle.slots.specs.declared.Carrier.TheVariants.{Present, Lost}
use Rattle.slots.specs.declared.Phase.{Phase}
use Rattle.slots.proofs.PhaseLaws.{by-phase}
use Rattle.phase_fields.specs.Phases.{carrier_fields, lasted_fields, carrier_from, lasted_from, ashore_from, phase_fields, phase_from}

carrier-back : (c : Carrier) → carrier_from (carrier_fields c) ≡ c
unfolding carrier_from
carrier-back Present = refl
carrier-back (Lost t) = refl

lasted-back : (n : Optional Duration) → lasted_from (lasted_fields n) ≡ n
unfolding lasted_from
lasted-back None = refl
lasted-back (Some d) = refl

pub phase-back : (p : Phase) → phase_from (phase_fields p) ≡ p
unfolding phase_from ashore_from
phase-back = by-phase _ refl (λ t. refl) (λ t. refl) (λ t. refl) (λ t. refl) (λ t c. rw (carrier-back c)) (λ t c. rw (carrier-back c)) (λ t n. rw (lasted-back n)) refl (λ t c. rw (carrier-back c)) (λ t. refl) (λ t. refl) (λ t. refl)
