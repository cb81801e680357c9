use mathlib.Core.Path.{sym}
use Rattle.std.proofs.lemmas.Result.{err_from_is_err_and}
use Rattle.transmission.specs.Writing.{transmission_written, room_after_writing}
use Rattle.transmission.proofs.AnswerLaws.{refused, answered-ok, answered-err}
use Rattle.sending.proofs.Done.{done-fit}
use Rattle.sending.proofs.write_transmission.Goals as goal

pub returns-in_err-judge : goal.returns-in_err-judge
unfolding transmission_written room_after_writing
returns-in_err-judge c = let p = err_from_is_err_and c.from_residual.result c.from_residual.ensures.1 in
    let e = answered-err _ _ _ (sym c.in_err-judge.ensures) in
    record { value = rw (p.1, p.2, e); room_written = rw (e, refused _) }

pub lay-requires : goal.lay-requires
lay-requires c = done-fit _ _ (answered-ok _ _ _ (sym c.in_ok-judge.ensures)).0

pub returns : goal.returns
unfolding transmission_written room_after_writing
returns c = let e = (answered-ok _ _ _ (sym c.in_ok-judge.ensures)).0 in
    record { value = rw (e, c.lay.ensures.value); room_written = rw e c.lay.ensures.room_written }
