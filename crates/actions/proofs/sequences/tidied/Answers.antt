use Rattle.actions.proofs.ActionLaws.{digits-few}
use Rattle.actions.proofs.sequences.tidied.Goals as goal
use borrow.Author.Rules.{rules}
use lib.ListN.{length}
use mathlib.Core.Path.{◌≡◌, sym, ◌∙◌}

pub returns : goal.returns
returns c = let n = c.args.number in
    let w : length n.digits ≡ 16 = search rules in
    rw (c.min.ensures ∙ sym (digits-few n w), c.front.ensures)
