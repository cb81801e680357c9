use mathlib.Core.Path.{◌≡◌}
use Rattle.sending.specs.Laid.{places_laid}
use Rattle.sending.proofs.lay_phasing.Given as goal

abbrev pub invariant-loop-place : goal.invariant-loop-place
invariant-loop-place l = l.room ≡ places_laid l.symbols 0 l.place l.initial.room
