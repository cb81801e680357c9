use mathlib.Core.Path.{◌≡◌, ◌∙◌}
use borrow.Author.Tests.{lt-leb, le-leb}
use lib.ListN.{length}
use Rattle.lent_layout.specs.Meanings.{meaning_laid}
use Rattle.lent_layout.proofs.LayLaws.{meaning-laid}
use borrow.Author.Rules.{rules}
use Rattle.lent_layout.proofs.said.lay_meaning.Goals as goal

pub returns-then-room-lt-MEANING_SIZE : goal.returns-then-room-lt-MEANING_SIZE
unfolding meaning_laid
returns-then-room-lt-MEANING_SIZE c = rw (lt-leb _ _ c.if-room-lt-MEANING_SIZE.true)

pub returns : goal.returns
unfolding meaning_laid
returns c = let a = c.args in
    let good = c.well_formed in
    let w : length a.meaning.number.digits ≡ 16 = search rules in
    rw (le-leb _ _ c.if-room-lt-MEANING_SIZE.false) (c.lay-4.ensures ∙ (rw (c.lay-3.ensures, c.lay-2.ensures, c.lay.ensures, c.low_first.ensures, c.low_first-address.ensures) (meaning-laid a.meaning _ a.room.now w c.field_bytes-held.ensures)))
