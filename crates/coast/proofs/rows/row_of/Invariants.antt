use Prim.Native.Nat.{ℕ, ◌<◌}
use mathlib.Core.Path.{◌≡◌}
use lib.ListN.{length}
use Rattle.rules.specs.Rules.Bytes.{padded}
use Rattle.requests.specs.Views.{viewed}
use Rattle.coast.proofs.rows.row_of.Given as goal

abbrev pub invariant-loop-i : goal.invariant-loop-i
invariant-loop-i g l =
    (length l.row ≡ g.row.N)
    × ((view : ℕ → g.row.T.Denot) → ((byte : ℕ) (value : g.row.T.Denot) → byte < 256 → goal.F-post g l.what byte value → value ≡ view byte)
    → l.row ≡ padded l.fn.blank g.row.N (viewed view l.i l.bytes))
