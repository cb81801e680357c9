use mathlib.Core.List.{map}
use mathlib.Core.Path.{◌≡◌}
use Rattle.requests.specs.Views.{left}
use Rattle.slots.specs.Views.{waiting_view, due_view, due_of}
use Rattle.slots.specs.Images.{tidy_waiting, blank_waiting}
use Rattle.slots.proofs.TidyLaws.{done_from}
use Rattle.due_times.specs.Joins.{queue_joined}
use Rattle.station.proofs.tidying.queue_anew.Given as goal

abbrev pub invariant-loop-i : goal.invariant-loop-i
invariant-loop-i l = record {
  laid : l.queue ≡ done_from tidy_waiting blank_waiting l.waiting l.fn.queue l.i;
  joined : due_view l.first ≡ queue_joined l.i (map due_of (left waiting_view l.waiting l.fn.queue l.i)) (due_view l.fn.first);
}
