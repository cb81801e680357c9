-- A slot by the request that it keeps, as the tables write it: of the call number 1.
use Rattle.std.proofs.Math.Option.{Option}
use Rattle.std.specs.Prelude.{ℕ, Option as Optional}
use Rattle.units.specs.declared.Duration.{Duration}
use Rattle.rules.specs.Rules.Words.{Request}
use Rattle.rules.specs.Rules.Station.{Kind, Stage, dealing, Slot, pending as pending_of, busy as busy_of, held as held_of}

abbrev pub pending : Kind → Request → ℕ → Slot
pending k r d = pending_of k (dealing 1 r) d

abbrev pub busy : Request → Stage → Option ℕ → Slot
busy r g c = busy_of (dealing 1 r) g c

abbrev pub held : Request → Optional Duration → ℕ → Slot
held r n d = held_of (dealing 1 r) n d
