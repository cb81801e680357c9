use mathlib.Core.Path.{◌≡◌, ap, ◌∙◌}
use native.Mathlib.Omega.{arith}
use lib.ListN.{length, get_or}
use borrow.Author.Rules.{rules}
use Rattle.slots.specs.Views.{waiting_view}
use Rattle.slots.specs.Images.{blank_waiting}
use Rattle.station.specs.Model.{model_of}
use Rattle.station.proofs.PlaceLaws.{oldest-in, oldest-past, queue-length}
use Rattle.station.proofs.SceneLaws.{shows}
use Rattle.station.proofs.Station.scene.Goals as goal
use Rattle.station.proofs.Station.scene.Goals.{then-waiting-gt0, else-waiting-gt0}

pub returns : goal.returns
returns c =
    let x = c.args in
    let s = x.self.now in
    let long : length s.queue ≡ 32 = search rules in
    let first : waiting_view c.if-waiting-gt0.oldest ≡ get_or (model_of s).queue 0 (waiting_view blank_waiting) = elim c.if-waiting-gt0.branch [
      | then-waiting-gt0 w ↦ ap waiting_view w.oldest-is ∙ oldest-in s long (omega (arith, w.if-waiting-gt0.true, c.queue_length-waiting.ensures, queue-length s long))
      | else-waiting-gt0 w ↦ ap waiting_view (w.oldest-is ∙ w.blank_waiting-oldest.ensures) ∙ oldest-past s long (omega (arith, w.if-waiting-gt0.false, c.queue_length-waiting.ensures, queue-length s long))
    ] in
    shows s x.now.time x.number x.request c.slot_there-slot.result c.if-waiting-gt0.oldest c.queue_length-waiting.result c.ringable.result c.slot_there-slot.ensures first c.queue_length-waiting.ensures c.ringable.ensures
