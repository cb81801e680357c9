use Prim.Native.Nat.{◌≤◌}
use mathlib.Core.Path.{◌≡◌}
use lib.ListN.{drop}
use Rattle.lines.specs.Readable.{inside, scan}
use Rattle.lines.proofs.fields.digits_from.Given as goal

abbrev pub invariant-loop-i : goal.invariant-loop-i
invariant-loop-i l = (scan (inside l.value) (drop l.i l.text) ≡ scan (inside l.before) (drop l.start l.text)) × (l.value ≤ 4294967295)
