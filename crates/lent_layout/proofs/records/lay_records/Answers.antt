use Prim.Native.Nat.{min}
use mathlib.Core.Path.{◌≡◌}
use mathlib.Core.List.{[], flat_map}
use native.Mathlib.Omega.{arith}
use lib.Seq.{paste-zero}
use Rattle.layouts.specs.Fields.{laid}
use Rattle.lent_layout.proofs.LayLaws.{record-laid, blanks-laid}
use Rattle.lent_layout.proofs.records.lay_records.Goals as goal

pub loop-i-init : goal.loop-i-init
unfolding laid flat_map
loop-i-init g c = paste-zero _ c.args.place []

pub loop-i-preserved : goal.loop-i-preserved
loop-i-preserved g c =
    let a = c.args in
    let l = c.loop-i in
    let r = g.T.Record in
    rw (c.lay.ensures, l.invariant, c.SIZE.ensures) (record-laid r.bytes_of r.SIZE g.met.T.Record.sized a.room.now a.place l.i a.records.now c.index-records-i.result (omega arith) (omega arith))

pub returns : goal.returns
returns g c =
    let a = c.args in
    let r = g.T.Record in
    let laws = g.met.T.Record in
    let used : c.min-used.result ≡ min a.count g.row.N = omega arith in
    let laid_all : c.loop-i.i ≡ min a.count g.row.N = omega arith in
    rw (c.lay_zeros.ensures, c.loop-i.invariant, laid_all, c.SIZE-3.ensures, c.SIZE-2.ensures, used) (blanks-laid r.bytes_of r.SIZE laws.sized r.blank laws.zeros a.room.now a.place g.row.N a.count a.records.now (omega arith) (omega arith))
