use mathlib.Core.Bool.{false, ◌||◌}
use lib.Dec.{eqb}
use mathlib.Core.Path.{◌∙◌}
use borrow.Author.Tests.{tests}
use Rattle.std.proofs.Common.{rules}
use Rattle.std.proofs.lemmas.Iterator.{YieldsList-from_slice}
use Rattle.std.proofs.lemmas.Iterator.Consumers.{fold_from_yields_List}
use Rattle.distinct.proofs.ApartLaws.{fold-among}
use Rattle.distinct.proofs.is_among.Goals as goal

pub returns : goal.returns
returns c =
    let x = c.args.number in
    fold_from_yields_List _ (λ b y. b || eqb x y) false c.fold.result c.fold.ensures.ran (YieldsList-from_slice c.args.numbers.now cc) (λ a y b q k. search (rules, tests))
    ∙ fold-among x false c.args.numbers.now
