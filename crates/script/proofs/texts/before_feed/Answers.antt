use lib.Dec.{eqb}
use Rattle.std.proofs.Common.{rules, tests}
use Rattle.std.proofs.lemmas.Iterator.{YieldsList-from_slice}
use Rattle.std.proofs.lemmas.Iterator.Search.{position_from_yields_List}
use Rattle.script.proofs.TextLaws.{before-feed}
use Rattle.script.proofs.texts.before_feed.Goals as goal

pub returns-clause-value : goal.returns-clause-value
returns-clause-value c = let l = c.args.bytes.now in
    before-feed l c.position.result _
    (position_from_yields_List (λ b. eqb b 10) _ _ _ c.position.ensures.ran (YieldsList-from_slice l cc) (λ x b q k. search (rules, tests)))
    c.unwrap_or.ensures
