use mathlib.Core.Path.{refl, ◌∙◌}
use lib.ListN.{length}
use Rattle.rules.specs.Rules.Places.{is_some}
use Rattle.rules.specs.Rules.Station.{set_clock, none_left, used_up}
use Rattle.slots.specs.Views.{found_view}
use Rattle.deciding.proofs.RuleLaws.{d-to-g-is}
use Rattle.station.specs.Model.{model_of}
use Rattle.station.specs.Pieces.{slot_found}
use Rattle.station.proofs.AskLaws.{d-to-g-ends}
use Rattle.station.proofs.ShoreLaws.{found-is, slot-told}
use Rattle.station.proofs.Station.d_to_g.Goals as goal

pub returns : goal.returns
unfolding model_of set_clock used_up
returns c = let free = c.first_free-free in
    let x = c.args in
    let s = x.self.now in
    let f = found_view free.result in
    let told = c.is_some.ensures ∙ slot-told free.result in
    record {
      by_index = λ t own q. rw (c.d_to_g.ensures, c.slot_found.ensures, told, c.none_left-spent.ensures, c.queue_length-waiting.ensures)
          (d-to-g-is (slot_found free.result).0 (set_clock t (model_of s)) own q (none_left s.last.0) refl x.place f free.ensures (found-is free.result));
      outcome_value = rw (c.d_to_g.ensures, told, c.none_left-spent.ensures, c.queue_length-waiting.ensures)
          (d-to-g-ends (none_left s.last.0) x.place (is_some f) (length (model_of s).queue));
    }
