use borrow.Author.Tests.{le-leb, tests}
use lib.Dec.{leb}
use Rattle.std.proofs.Common.{rules}
use Rattle.std.proofs.lemmas.Iterator.{YieldsList-from_slice}
use Rattle.std.proofs.lemmas.Iterator.Search.{all_from_yields_List}
use Rattle.ashore.proofs.StoredLaws.{digits_listed}
use Rattle.ashore.proofs.digits_keep.Goals as goal

pub returns-then-digits-le-DIGITS : goal.returns-then-digits-le-DIGITS
returns-then-digits-le-DIGITS c =
    let l = c.args.digits.now in
    let small = all_from_yields_List (λ d. leb d 9) _ _ c.all.result c.all.ensures.ran (YieldsList-from_slice l cc) (λ x b q k. search (rules, tests)) in
    rw (digits_listed l, le-leb _ _ c.if-digits-le-DIGITS.true.0, le-leb _ _ c.if-digits-le-DIGITS.true.1) small
