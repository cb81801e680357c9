use Prim.Native.Nat.{◌≤◌}
use mathlib.Core.Path.{◌≡◌, ◌∙◌}
use native.Mathlib.Omega.{arith}
use lib.ListN.{length}
use Rattle.lent_layout.proofs.LayLaws.{request-laid}
use borrow.Author.Rules.{rules}
use Rattle.lent_layout.proofs.asked.lay_request.Goals as goal

pub returns : goal.returns
returns c = let a = c.args in
    let good = c.well_formed in
    let w : length a.request.now.number.digits ≡ 16 = search rules in
    let h : a.place ≤ length a.room.now = omega (arith, c.requires) in
    c.lay-4.ensures ∙ (rw (c.lay-3.ensures, c.lay-2.ensures, c.lay.ensures, c.low_first-2.ensures, c.low_first.ensures, c.mode_mark.ensures) (request-laid a.request.now a.room.now a.place w h))
