use mathlib.Core.Path.{◌≡◌}
use lib.ListN.{length}
use Rattle.printing.specs.Texts.{Put}
use Rattle.printing.specs.Replies.{action_texts}
use Rattle.printing.proofs.rows.put_actions.Given as goal

abbrev pub invariant-loop-i : goal.invariant-loop-i
invariant-loop-i l = Put l.initial.out l.out l.at l.next (action_texts l.i l.blocks) × (length l.out ≡ length l.initial.out)
