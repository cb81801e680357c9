use Prim.Native.Nat.{min}
use mathlib.Core.Path.{◌≡◌, ◌∙◌}
use native.Mathlib.Omega.{arith}
use lib.ListN.{length-set, length-replicate}
use Rattle.layouts.specs.Records.{records_at}
use Rattle.lent_layout.proofs.LayLaws.{padded_none, record-read, records-read}
use Rattle.lent_layout.proofs.records.records_from.Goals as goal

pub loop-i-init : goal.loop-i-init
unfolding records_at
loop-i-init g c = (rw c.blank-records.ensures (padded_none g.T.Record.blank g.row.N), length-replicate g.row.N _)

pub loop-i-preserved : goal.loop-i-preserved
loop-i-preserved g c =
    let l = c.loop-i in
    let r = g.T.Record in
    (rw (l.invariant.0, c.read.ensures, c.SIZE.ensures) (record-read (r.told c.args.bytes.now) r.SIZE r.blank g.row.N l.i c.args.place (omega arith)), simp length-set l.invariant.1)

pub returns : goal.returns
returns g c =
    let a = c.args in
    let r = g.T.Record in
    let e : c.loop-i.i ≡ min a.count g.row.N = omega arith in
    (rw e at c.loop-i.invariant.0) ∙ records-read (r.told a.bytes.now) r.SIZE r.blank g.row.N a.count a.place
