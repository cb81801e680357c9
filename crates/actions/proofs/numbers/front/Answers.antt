use borrow.Author.Rules.{rules}
use lib.ListN.{length}
use mathlib.Core.Path.{◌≡◌}
use Rattle.actions.proofs.ActionLaws.{fronted}
use Rattle.actions.proofs.numbers.front.Goals as goal

pub returns : goal.returns
returns g c = let n = c.args.number in
    let w : length n.digits ≡ 16 = search rules in
    rw (c.copy_from_slice.ensures.after, c.min-used.ensures) (fronted g.row.N n w c.requires)
