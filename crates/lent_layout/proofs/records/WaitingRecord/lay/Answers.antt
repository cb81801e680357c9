use Prim.Native.Nat.{◌≤◌}
use mathlib.Core.Path.{◌∙◌}
use native.Mathlib.Omega.{arith}
use lib.ListN.{length}
use Rattle.lent_layout.proofs.LayLaws.{waiting-laid}
use Rattle.lent_layout.proofs.records.WaitingRecord.lay.Goals as goal

pub returns : goal.returns
returns c = let a = c.args in
    let h : a.place ≤ length a.room.now = omega arith in
    c.lay_request.ensures ∙ (rw (c.lay.ensures, c.low_first.ensures) (waiting-laid a.self.now a.room.now a.place h))
