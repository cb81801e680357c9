use mathlib.Core.Path.{sym}
use Rattle.phasing.proofs.CharacterLaws.{before-first, handed-in, past-last}
use Rattle.phasing.proofs.character_at.Goals as goal

pub returns-then-place-lt-MOST_LOST : goal.returns-then-place-lt-MOST_LOST
returns-then-place-lt-MOST_LOST c = sym (before-first _ _ c.if-place-lt-MOST_LOST.true)

pub returns-then-i-characters : goal.returns-then-i-characters
returns-then-i-characters c = sym (handed-in _ _ c.if-place-lt-MOST_LOST.false c.if-i-characters.true)

pub returns : goal.returns
returns c = sym (past-last _ _ c.if-place-lt-MOST_LOST.false c.if-i-characters.false)
