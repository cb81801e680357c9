use mathlib.Core.Path.{sym, ◌∙◌}
use borrow.Author.Tests.{lt-leb, le-leb}
use Rattle.lent_layout.specs.Meanings.{meaning_in, meaning_from}
use Rattle.lent_layout.proofs.LayLaws.{meaning-digits}
use Rattle.lent_layout.proofs.said.meaning_from.Goals as goal

pub returns-then-bytes-lt-MEANING_SIZE : goal.returns-then-bytes-lt-MEANING_SIZE
unfolding meaning_from
returns-then-bytes-lt-MEANING_SIZE c = rw (lt-leb _ _ c.if-bytes-lt-MEANING_SIZE.true) c.blank_meaning.ensures

pub returns : goal.returns
unfolding meaning_from meaning_in
returns c = rw (le-leb _ _ c.if-bytes-lt-MEANING_SIZE.false, c.four_at-2.ensures, c.four_at.ensures, c.field_from.ensures, c.digits_at.ensures ∙ sym (meaning-digits c.args.bytes.now))
