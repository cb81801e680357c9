use mathlib.Core.Bool.{true, ◌&&◌}
use lib.Dec.{leb}
use mathlib.Core.Path.{◌∙◌}
use Rattle.std.proofs.Common.{rules}
use Rattle.std.proofs.lemmas.Iterator.{YieldsList-from_slice}
use Rattle.std.proofs.lemmas.Iterator.Consumers.{fold_from_yields_List}
use Rattle.sequence.proofs.Rest.{fold-within}
use Rattle.sequence.proofs.Tests.{tests}
use Rattle.sequence.proofs.symbols.all_at_most.Goals as goal

pub returns : goal.returns
returns c =
    let most = c.args.most in
    fold_from_yields_List _ (λ b a. b && leb a most) true c.fold.result c.fold.ensures.ran (YieldsList-from_slice c.args.symbols.now cc) (λ a y b q k. search (rules, tests))
    ∙ fold-within most true c.args.symbols.now
