use mathlib.Core.Logic.{inl, inr}
use mathlib.Core.Path.{refl, ap, ◌∙◌}
use Rattle.rules.specs.Rules.Station as R
use Rattle.rules.specs.Rules.Station.{set_clock, is_called_in}
use Rattle.rules.specs.Rules.Requests.{called_at, being_called}
use Rattle.slots.proofs.PhaseLaws.{called-view}
use Rattle.slots.specs.Views.{dealing_of}
use Rattle.station.specs.Model.{model_of}
use Rattle.station.specs.Pieces.{slot_of}
use Rattle.station.proofs.PlaceLaws.{slot-view}
use Rattle.station.proofs.Station.is_being_called.Goals as goal

pub returns-in-Nowhere : goal.returns-in-Nowhere
unfolding being_called
returns-in-Nowhere c = λ t.
    elim c.in-Nowhere.is [
      | inl e ↦ let h = rw e at (c.stands.ensures t) in rw (← h) refl
      | inr (k, e) ↦ let h = rw e at (c.stands.ensures t) in rw (← h) refl
    ]

pub returns-in-Holds : goal.returns-in-Holds
unfolding being_called set_clock
returns-in-Holds c = λ t.
    let x = c.args in
    let i = c.in-Holds.slot.0 in
    let y = slot_of x.self.now i in
    let st : R.Station = set_clock t (model_of x.self.now) in
    let h = rw c.in-Holds.is at (c.stands.ensures t) in
    rw (c.is_called.ensures, c.slot_there.ensures)
    (called-view y.phase (dealing_of y) ∙ ap is_called_in (slot-view x.self.now i) ∙ ap (called_at st) h)
