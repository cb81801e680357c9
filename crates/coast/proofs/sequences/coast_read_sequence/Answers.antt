use mathlib.Core.Path.{sym}
use borrow.Author.Tests.{le-leb}
use borrow.Author.Rules.{rules}
use Rattle.sequence.proofs.AnswerLaws.{refused, read-ok, read-err}
use Rattle.coast.specs.Sequences.{read_answer, meaning_after}
use Rattle.coast.proofs.sequences.coast_read_sequence.Goals as goal

pub returns-in-Ok : goal.returns-in-Ok
unfolding read_answer meaning_after
returns-in-Ok c =
    let room = le-leb _ _ c.if-meaning-lt-MEANING_SIZE.false in
    let read = read-ok c.args.symbols.now c.in-Ok.by_value (sym c.in-Ok.ensures) in
    record { value = rw (room, read.0); meaning_written = rw (room, read.0, read.1) c.lay_meaning.ensures }

pub returns-in-Err : goal.returns-in-Err
unfolding read_answer meaning_after
returns-in-Err c =
    let room = le-leb _ _ c.if-meaning-lt-MEANING_SIZE.false in
    let read = read-err c.args.symbols.now c.in-Err.refusal (sym c.in-Err.ensures) in
    record { value = rw (room, read.0) (search rules); meaning_written = rw (room, read.0, refused c.in-Err.refusal) }
