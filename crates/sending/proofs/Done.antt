-- What the answer done says of the symbols and the room.
use Prim.Native.Nat.{ℕ}
use mathlib.Core.Path.{◌≡◌, ap}
use mathlib.Core.List.{List}
use lib.Dec.{leb}
use lib.ListN.{length}
use borrow.Author.Tests.{leb-true}
use Rattle.sequence.specs.Figures.{shortest, longest}
use Rattle.sequence.specs.Reading.{length_in}
use Rattle.sequence.proofs.Tests.{both_true}
use Rattle.transmission.specs.Answers.{done, is_done}
use Rattle.transmission.specs.Writing.{writing_answer}
use Rattle.transmission.proofs.WritingLaws.{done-writable}
use Rattle.sending.specs.Laid.{Fit}

pub done-fit : (s room : List ℕ) → writing_answer s (length room) ≡ done → Fit s room
unfolding length_in
done-fit s room e =
    let w = done-writable s room (ap is_done e) in
    let l = both_true (leb shortest (length s)) (leb (length s) longest) w.size in
    record { least = leb-true _ _ l.0; most = leb-true _ _ l.1; wide = w.wide }
