use Prim.Native.Nat.{◌≤◌}
use mathlib.Core.Path.{◌∙◌}
use native.Mathlib.Omega.{arith}
use lib.ListN.{length}
use Rattle.lent_layout.specs.Layout.{slot_fields}
use Rattle.lent_layout.proofs.LayLaws.{slot-laid}
use Rattle.lent_layout.proofs.records.SlotRecord.lay.Goals as goal

pub returns : goal.returns
unfolding slot_fields
returns c = let a = c.args in
    let h : a.place ≤ length a.room.now = omega arith in
    c.lay_request.ensures
    ∙ (rw (c.lay-2.ensures, c.lay.ensures, c.lay_phase.ensures, c.low_first-2.ensures, c.low_first.ensures) (slot-laid a.self.now _ a.room.now a.place c.phase_fields.ensures h))
