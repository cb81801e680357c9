use Rattle.sequence.specs.Reading.{digits_of, sixteen}
use lib.ListN.{take, drop}
use mathlib.Core.Path.{◌≡◌}
use Rattle.reading.proofs.digits.sixteen_digits.Given as goal

abbrev pub invariant-loop-i : goal.invariant-loop-i
invariant-loop-i l = l.digits ≡ sixteen (drop l.start (digits_of (take l.i l.pairs)))
