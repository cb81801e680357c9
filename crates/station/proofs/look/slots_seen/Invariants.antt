use mathlib.Core.Path.{◌≡◌}
use lib.ListN.{length}
use Rattle.rules.specs.Rules.Places.{all}
use Rattle.rules.specs.Rules.Waits.{earliest}
use Rattle.rules.specs.Rules.Station.{slot_table}
use Rattle.requests.specs.Views.{left, itself}
use Rattle.slots.specs.Views.{slot_view, due_view}
use Rattle.sound_records.specs.Kept.{slot_sound}
use Rattle.station.proofs.look.slots_seen.Given as goal

abbrev pub invariant-loop-i : goal.invariant-loop-i
invariant-loop-i l = record {
  sound : l.sound ≡ all (slot_sound l.mast l.clock) (left itself (length l.slots) l.slots l.i);
  first : due_view l.first ≡ earliest (slot_table l.i (left slot_view (length l.slots) l.slots l.i));
}
