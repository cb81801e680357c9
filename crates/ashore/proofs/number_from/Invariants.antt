use mathlib.Core.Path.{◌≡◌}
use Rattle.rules.specs.Rules.Bytes.{padded}
use Rattle.requests.specs.Views.{viewed}
use Rattle.ashore.specs.Stored.{stored_digit}
use Rattle.ashore.proofs.number_from.Given as goal

abbrev pub invariant-loop-i : goal.invariant-loop-i
invariant-loop-i l = l.stored ≡ padded 0 16 (viewed stored_digit l.i l.digit-items)
