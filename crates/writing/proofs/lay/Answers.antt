use Rattle.writing.proofs.LayLaws.{body-laid, check-joined, check-laid}
use Rattle.writing.proofs.Valid.{body-length}
use Rattle.writing.proofs.Asked.{count-most}
use mathlib.Core.Path.{refl, ◌∙◌}
use native.Mathlib.Omega.{arith}
use Rattle.writing.proofs.lay.Goals as goal

pub returns-clause-room_written : goal.returns-clause-room_written
returns-clause-room_written c = let m = c.args.meaning in
    let k = count-most m c.requires.0 in
    let b = body-length m c.requires.0 in
    let front = c.lay_front-before_pairs.ensures in
    let pairs = c.lay_pairs-before_end.ensures in
    let end = c.lay_symbol-check.ensures in
    check-laid m c.args.room.now _ _ _ (omega arith) (omega arith)
    (end.room_written ∙ rw pairs.room_written (body-laid m c.args.room.now _ _ c.requires.0 c.requires.1 refl (omega arith) front.room_written))
    (end.value ∙ rw (pairs.value, front.value) (check-joined m))
