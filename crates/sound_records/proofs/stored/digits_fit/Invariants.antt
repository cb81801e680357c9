use Rattle.sound_records.specs.Kept.{digits_fit}
use lib.ListN.{drop}
use mathlib.Core.Bool.{◌&&◌}
use mathlib.Core.Path.{◌≡◌}
use Rattle.sound_records.proofs.stored.digits_fit.Given as goal

abbrev pub invariant-loop-place : goal.invariant-loop-place
invariant-loop-place l = (l.fit && digits_fit l.count l.place (drop l.place l.digits)) ≡ digits_fit l.count 0 l.digits
