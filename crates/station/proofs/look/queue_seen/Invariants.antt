use mathlib.Core.List.{map}
use mathlib.Core.Path.{◌≡◌}
use lib.ListN.{length}
use Rattle.rules.specs.Rules.Places.{all}
use Rattle.requests.specs.Views.{left, itself}
use Rattle.slots.specs.Views.{waiting_view, due_view, due_of}
use Rattle.due_times.specs.Joins.{queue_joined}
use Rattle.sound_records.specs.Kept.{waiting_sound}
use Rattle.station.proofs.look.queue_seen.Given as goal

abbrev pub invariant-loop-i : goal.invariant-loop-i
invariant-loop-i l = record {
  sound : l.sound ≡ all (waiting_sound l.mast l.clock) (left itself (length l.queue) l.queue l.i);
  first : due_view l.first ≡ queue_joined l.i (map due_of (left waiting_view (length l.queue) l.queue l.i)) (due_view l.fn.first);
}
