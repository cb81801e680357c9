use Rattle.characters.specs.Code.{symbol_of, no_character}
use Rattle.characters.proofs.RowLaws.{at_place}
use Rattle.characters.proofs.CodeLaws.{over-is-none}
use Rattle.characters.proofs.symbol_of.Goals as goal

pub returns-then-character-lt-NO_CHARACTER : goal.returns-then-character-lt-NO_CHARACTER
returns-then-character-lt-NO_CHARACTER c = rw c.symbol_table-table.ensures (at_place symbol_of no_character c.args.character c.if-character-lt-NO_CHARACTER.true)

pub returns : goal.returns
returns c = over-is-none c.args.character c.if-character-lt-NO_CHARACTER.false
