use mathlib.Core.Path.{sym, ap, ◌∙◌}
use Rattle.characters.specs.Code.{symbol_of, no_character}
use Rattle.characters.proofs.RowLaws.{at_place}
use Rattle.characters.proofs.CodeLaws.{over-is-none}
use Rattle.phasing.proofs.CharacterLaws.{heard-is}
use Rattle.receiving.proofs.copies.Heard.at.Goals as goal

pub returns-then-character-lt-NO_CHARACTER : goal.returns-then-character-lt-NO_CHARACTER
returns-then-character-lt-NO_CHARACTER c = rw c.args.self.now.is_table
    (at_place symbol_of no_character _ c.if-character-lt-NO_CHARACTER.true ∙ ap symbol_of c.character_at-character.ensures ∙ sym (heard-is _ _))

pub returns : goal.returns
returns c = over-is-none _ c.if-character-lt-NO_CHARACTER.false ∙ ap symbol_of c.character_at-character.ensures ∙ sym (heard-is _ _)
