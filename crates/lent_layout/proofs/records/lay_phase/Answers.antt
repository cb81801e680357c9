use Prim.Native.Nat.{◌≤◌}
use mathlib.Core.Path.{◌∙◌}
use native.Mathlib.Omega.{arith}
use lib.ListN.{length}
use Rattle.lent_layout.proofs.LayLaws.{phase-laid}
use Rattle.lent_layout.proofs.records.lay_phase.Goals as goal

pub returns : goal.returns
returns c = let a = c.args in
    let h : a.place ≤ length a.room.now = omega arith in
    c.lay-5.ensures ∙ (rw (c.lay-4.ensures, c.lay-3.ensures, c.lay-2.ensures, c.lay.ensures, c.low_first-2.ensures, c.low_first.ensures) (phase-laid a.fields a.room.now a.place h))
