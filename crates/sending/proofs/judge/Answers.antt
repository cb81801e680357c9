use mathlib.Core.Path.{sym, ◌∙◌}
use borrow.Author.Tests.{lt-leb, le-leb}
use Rattle.sequence.specs.Reading.{length_in}
use Rattle.transmission.specs.Writing.{writing_refusals, writing_answer}
use Rattle.sending.proofs.judge.Goals as goal
use Rattle.sending.proofs.judge.Goals.{then-symbols-lt-SHORTEST-via-then-symbols-lt-SHORTEST, then-symbols-lt-SHORTEST-via-else-symbols-lt-SHORTEST+then-symbols-gt-LONGEST}

pub returns-then-room : goal.returns-then-room
unfolding writing_answer writing_refusals
returns-then-room c = rw (lt-leb _ _ c.if-room.true)

pub returns-then-symbols-lt-SHORTEST : goal.returns-then-symbols-lt-SHORTEST
unfolding writing_answer writing_refusals length_in
returns-then-symbols-lt-SHORTEST c = rw (le-leb _ _ c.if-room.false)
    (elim c.then-symbols-lt-SHORTEST.branch [
      | then-symbols-lt-SHORTEST-via-then-symbols-lt-SHORTEST w ↦ rw (lt-leb _ _ w.if-symbols-lt-SHORTEST.true)
      | then-symbols-lt-SHORTEST-via-else-symbols-lt-SHORTEST+then-symbols-gt-LONGEST w ↦
          rw (le-leb _ _ w.if-symbols-lt-SHORTEST.false, lt-leb _ _ w.if-symbols-gt-LONGEST.true)
    ])

pub returns-then-not-all_at_most : goal.returns-then-not-all_at_most
unfolding writing_answer writing_refusals length_in
returns-then-not-all_at_most c = rw (le-leb _ _ c.if-room.false, le-leb _ _ c.if-symbols-lt-SHORTEST.false, le-leb _ _ c.if-symbols-gt-LONGEST.false)
    (rw (sym c.all_at_most.ensures ∙ c.if-not-all_at_most.true))

pub returns : goal.returns
unfolding writing_answer writing_refusals length_in
returns c = rw (le-leb _ _ c.if-room.false, le-leb _ _ c.if-symbols-lt-SHORTEST.false, le-leb _ _ c.if-symbols-gt-LONGEST.false)
    (rw (sym c.all_at_most.ensures ∙ c.if-not-all_at_most.false))
