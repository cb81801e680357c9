use Rattle.characters.proofs.CodeLaws.{over-is-none}
use Rattle.coast.proofs.transmissions.coast_read_character.Goals as goal

pub returns-then-character : goal.returns-then-character
returns-then-character c = over-is-none c.args.character c.if-character.true

pub returns : goal.returns
returns c = c.symbol_of.ensures
