use Prim.Native.Nat.{◌+◌, ◌<◌}
use mathlib.Core.Path.{sym, ◌∙◌}
use native.Mathlib.Omega.{arith}
use native.Mathlib.Nat.{add-zero}
use borrow.Author.Tests.{lt-leb}
use lib.ListN.{get_or}
use Rattle.lent_layout.specs.Layout.{request_fields}
use Rattle.lent_layout.specs.Numbers.{request_from}
use Rattle.lent_layout.proofs.LayLaws.{request-digits}
use Rattle.lent_layout.proofs.asked.request_at.Goals as goal
use Rattle.lent_layout.proofs.asked.request_at.Goals.{in-0, in-1}

pub returns-in_default : goal.returns-in_default
unfolding request_from request_fields
returns-in_default c =
    let other : 1 < get_or c.args.bytes.now (c.args.place + 8) 0 = omega arith in
    rw (lt-leb _ 1 other) c.blank_request.ensures

pub returns : goal.returns
unfolding request_from request_fields
returns c =
    let digits = c.digits_at.ensures ∙ sym (request-digits c.args.bytes.now c.args.place) in
    elim c.match-bytes-place.branch [
      | in-0 w ↦ rw (w.mode-is, w.in-0.is, add-zero c.args.place, c.four_at-2.ensures, c.four_at.ensures, digits)
      | in-1 w ↦ rw (w.mode-is, w.in-1.is, add-zero c.args.place, c.four_at-2.ensures, c.four_at.ensures, digits)
    ]
