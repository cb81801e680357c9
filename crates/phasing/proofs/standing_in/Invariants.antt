use Prim.Native.Nat.{◌+◌, ◌*◌, ◌≤◌}
use mathlib.Core.Path.{◌≡◌}
use lib.ListN.{drop}
use Rattle.phasing.specs.Characters.{standing}
use Rattle.phasing.proofs.standing_in.Given as goal

abbrev pub invariant-loop-i : goal.invariant-loop-i
invariant-loop-i l = (l.count + standing l.characters (drop l.i l.wanted) (l.place + 2 * l.i) ≡ standing l.characters l.wanted l.place) × (l.count ≤ l.i)
