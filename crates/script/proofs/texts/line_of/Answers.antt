use mathlib.Core.Path.{◌≡◌}
use lib.ListN.{length}
use Rattle.script.proofs.TextLaws.{kept-says}
use borrow.Author.Rules.{rules}
use Rattle.script.proofs.texts.line_of.Goals as goal

pub returns : goal.returns
returns c = let w : length c.args.text.bytes ≡ 201 = search rules in
    rw (kept-says c.args.text c.min.result w c.min.ensures) at c.read.ensures
