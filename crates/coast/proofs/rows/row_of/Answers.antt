use Prim.Native.Nat.{◌<◌, min}
use mathlib.Core.Path.{◌≡◌}
use native.Mathlib.Omega.{arith}
use lib.ListN.{length, get_or, length-set, length-replicate}
use Rattle.requests.specs.Views.{viewed}
use Rattle.requests.proofs.ArrayLaws.{laid_more, viewed-min}
use Rattle.lent_layout.proofs.LayLaws.{padded_none}
use Rattle.coast.proofs.rows.row_of.Goals as goal

pub loop-i-init : goal.loop-i-init
unfolding viewed
loop-i-init g c = (length-replicate g.row.N _, λ view same. padded_none c.args.blank g.row.N)

pub loop-i-preserved : goal.loop-i-preserved
loop-i-preserved g c =
    let a = c.args in
    let l = c.loop-i in
    let byte = get_or a.bytes.now l.i 0 in
    let fits : byte < 256 = omega (arith, c.type_inv.bytes l.i) in (
      simp length-set l.invariant.0,
      λ view same.
          rw (l.invariant.1 view same, same byte c.what.result fits c.what.ensures) (laid_more view a.blank g.row.N l.i a.bytes.now 0 (omega arith) (omega arith)),
    )

pub returns : goal.returns
returns g c = λ view same.
    let a = c.args in
    let all : c.loop-i.i ≡ min g.row.N (length a.bytes.now) = omega arith in
    rw (c.loop-i.invariant.1 view same, all, viewed-min view g.row.N a.bytes.now)
