use borrow.Author.Rules.{rules}
use lib.ListN.{length}
use mathlib.Core.Path.{◌≡◌, ◌∙◌}
use Rattle.requests.specs.Views.{digits_of}
use Rattle.requests.proofs.NumberLaws.{by_digit, digits-front}
use Rattle.requests.proofs.sameness.same_number.Goals as goal

pub returns : goal.returns
returns c = let x = c.args.asked in let y = c.args.stored in
    let e : length x.digits ≡ 16 = search rules in
    let f : length y.digits ≡ 16 = search rules in
    c.eq.ensures ∙ rw (c.min-count.ensures, c.min-stored_count.ensures, digits-front x e, digits-front y f) (by_digit (digits_of x) (digits_of y))
