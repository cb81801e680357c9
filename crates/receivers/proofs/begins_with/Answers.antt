use mathlib.Core.Path.{◌≡◌, sym, ◌∙◌}
use mathlib.Core.Bool.{true}
use native.Mathlib.Omega.{arith}
use lib.Dec.{leb}
use lib.ListN.{length}
use borrow.Author.Tests.{le-leb}
use Rattle.receivers.specs.Finding.{begins_with}
use Rattle.receivers.proofs.LengthLaws.{read-valid, too_few, no-end-there}
use Rattle.receivers.proofs.begins_with.Goals as goal
use Rattle.receivers.proofs.begins_with.Goals.{then-bytes-count-via-then-bytes-count, then-bytes-count-via-else-bytes-count+then-not-end_ok}

pub returns-then-bytes-count : goal.returns-then-bytes-count
returns-then-bytes-count c = elim c.then-bytes-count.branch [
  | then-bytes-count-via-then-bytes-count w ↦ sym (too_few _ _ w.if-bytes-count.true)
  | then-bytes-count-via-else-bytes-count+then-not-end_ok w ↦ sym (no-end-there _ _ (sym w.end_ok.ensures ∙ w.if-not-end_ok.true))
]

pub returns : goal.returns
unfolding begins_with
returns c = let a = c.args in
    let fits : leb a.count (length a.bytes.now) ≡ true = le-leb a.count (length a.bytes.now) (omega arith) in
    rw (fits, c.is_ok.ensures.value, c.read.ensures) (read-valid _)
