use mathlib.Core.Path.{◌≡◌}
use Rattle.rules.specs.Rules.Waits.{earliest}
use Rattle.rules.specs.Rules.Station.{slot_table}
use Rattle.requests.specs.Views.{left}
use Rattle.slots.specs.Views.{slot_view, due_view}
use Rattle.slots.specs.Images.{tidy_slot, blank_slot}
use Rattle.slots.proofs.TidyLaws.{done_from}
use Rattle.station.proofs.tidying.slots_anew.Given as goal

abbrev pub invariant-loop-i : goal.invariant-loop-i
invariant-loop-i l = record {
  laid : l.slots ≡ done_from tidy_slot blank_slot l.count l.fn.slots l.i;
  first : due_view l.first ≡ earliest (slot_table l.i (left slot_view l.count l.fn.slots l.i));
}
