use Rattle.characters.specs.Code.{character_of}
use borrow.Author.Tests.{lt-leb}
use Rattle.coast.proofs.transmissions.coast_write_character.Goals as goal

pub returns-then-symbol : goal.returns-then-symbol
unfolding character_of
returns-then-symbol c = rw (lt-leb _ _ c.if-symbol.true)

pub returns : goal.returns
returns c = c.character_of.ensures
