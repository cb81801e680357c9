use Rattle.actions.proofs.ActionLaws.{both, made, digits-few}
use Rattle.requests.specs.Views.{digits_of}
use borrow.Author.Rules.{rules}
use lib.ListN.{length}
use native.Mathlib.Omega.{arith}
use mathlib.Core.Path.{◌≡◌, sym, ◌∙◌}
use Rattle.actions.proofs.deeds.dial.Goals as goal

pub returns : goal.returns
returns c = let n = c.args.number in
    let w : length n.digits ≡ 16 = search rules in
    let l = digits-few n w in
    let r = both _ _ (digits_of n) _ (omega arith) (made _ _ _ (digits_of n) _ (c.min.ensures ∙ sym l) c.front.ensures) in
    record { value = r.0; result_value = r.1 }
