-- The next due time, for Rattle and for C, and the clock for C. None changes anything or tells a count, and the first refuses nothing.
use Rattle.std.specs.Prelude.{ℕ, ◌%◌, ◌≡◌, List}
use Rattle.std.specs.Prelude.{Option as Optional, None}
use contract.Lifetimes.{Lfts}
use Rattle.rules.specs.Rules.Words.{Config}
use Rattle.units.specs.declared.Tenths.{Tenths}
use Rattle.station.specs.declared.Station.{Station}
use Rattle.station.proofs.Station.next_due.Reads as Station-next_due
use Rattle.coast.proofs.setting.coast_next_due.Reads as coast_next_due
use Rattle.coast.proofs.setting.coast_clock.Reads as coast_clock
use Rattle.station_theorems.specs.Steps.{Step, Trace, last_of}
use Rattle.useless_versions.specs.Versions.{Always, AfterTheFirst, Signs, NoUselessVersion, Anything}

pub data DueBy : Station → Optional Tenths → Type 0 where
  by-next-due : (κs : Lfts 0) (a : _) (r : _) (s : _) → Station-next_due.Post κs a r s → DueBy a.0 r

-- a station that a trace from set-up handed back last, whichever were asked about before
pub record HandedOut (past : List Station) (s : Station) : Type 0 where
  pub config : Config
  pub steps : List Step
  pub trace : Trace config steps
  pub handed : s ≡ last_of trace.first steps

-- neither one fixed reply, nor after the first only that nothing is due
unfoldable pub NoUselessNextDue : Type 0
NoUselessNextDue = (f : List Station → Station → Optional Tenths) → ((past : List Station) (s : Station) → DueBy s (f past s))
    → ((d : Optional Tenths) → Always HandedOut f (λ s y. y ≡ d) → ⊥) × (AfterTheFirst HandedOut f (λ s y. y ≡ None) → ⊥)

pub data DueInC : List ℕ → ℕ → Type 0 where
  by-coast-next-due : (κs : Lfts 1) (a : _) (r : _) (s : _) → coast_next_due.Post κs a r s → DueInC a.0.now r

-- the answer is the lowest byte, as for an event
abbrev pub told_signs : Signs (List ℕ) ℕ
told_signs = record { answer = λ y. y % 256; idle = λ b y. ⊥; miscounted = λ b y. ⊥ }

unfoldable pub NoUselessNextDueInC : Type 0
NoUselessNextDueInC = NoUselessVersion Anything told_signs DueInC

pub data ClockInC : List ℕ → ℕ → Type 0 where
  by-coast-clock : (κs : Lfts 1) (a : _) (r : _) (s : _) → coast_clock.Post κs a r s → ClockInC a.0.now r

unfoldable pub NoUselessClockInC : Type 0
NoUselessClockInC = NoUselessVersion Anything told_signs ClockInC
