use mathlib.Core.Path.{refl, ◌∙◌}
use Rattle.gate.specs.declared.Refusal.TheVariants.{BarredHand}
use Rattle.station.proofs.PlaceLaws.{slot-view}
use Rattle.station.proofs.GateLaws.{asked-plainly, none-so-far, refused-here, passed-one, failed-one, judged-err}
use Rattle.station.proofs.Station.open_slot.Goals as goal

pub returns-in_err-judge_slot : goal.returns-in_err-judge_slot
returns-in_err-judge_slot c = let x = c.args in
    judged-err _ c.in_err-judge_slot.field-0.0 _ c.from_residual.ensures.1 (λ e h. h) (refused-here _ _ c.in_err-judge_slot.ensures ∙ asked-plainly x.self.now x.look c.requires x.size x.time.0 x.slot.0 x.what)

pub returns-in_err-unless : goal.returns-in_err-unless
returns-in_err-unless c = let x = c.args in
    judged-err _ c.in_err-unless.field-0.0 _ c.from_residual-in_err-unless.ensures.1 (λ e h. h)
    (none-so-far c.in_ok-judge_slot.ensures (failed-one _ _ BarredHand _ (rw (c.may_happen.ensures, c.slot_there-the_slot.ensures, slot-view x.self.now x.slot.0) at c.in_err-unless.ensures))
    ∙ asked-plainly x.self.now x.look c.requires x.size x.time.0 x.slot.0 x.what)

pub returns : goal.returns
returns c = let x = c.args in (
  none-so-far c.in_ok-judge_slot.ensures (passed-one _ BarredHand (rw (c.may_happen.ensures, c.slot_there-the_slot.ensures, slot-view x.self.now x.slot.0) at c.in_ok-unless.ensures) refl)
      ∙ asked-plainly x.self.now x.look c.requires x.size x.time.0 x.slot.0 x.what,
  c.slot_there-the_slot.ensures,
)
