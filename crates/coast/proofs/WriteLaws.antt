-- How much the writer writes.
use Prim.Native.Nat.{ℕ, ◌≤◌}
use mathlib.Core.Path.{◌≡◌, sym, ap}
use native.Mathlib.Omega.{arith}
use lib.ListN.{length}
use Rattle.std.specs.Prelude.{Ok}
use Rattle.sequence.specs.declared.Meaning.{Meaning}
use Rattle.sequence.specs.Answers.{is_done}
use Rattle.sequence.specs.Layout.{layout}
use Rattle.sequence.specs.Writing.{writing_answer, written_of}
use Rattle.sequence.proofs.AnswerLaws.{answered-ok}
use Rattle.writing.proofs.EvenedLaws.{fit}
use Rattle.writing.proofs.Valid.{parts, written, layout-length}

-- no more than 28 bytes
pub written-le : (m : Meaning) (room count : ℕ) → Ok count ≡ written_of m room → count ≤ 28
unfolding written_of
written-le m room count e =
    let h = answered-ok (writing_answer m room) (length (layout m)) count (sym e) in
    let v = (written m room (ap is_done h.0)).0 in
    omega (arith, h.1, layout-length m v, (fit m.number (parts m v).number).most)
