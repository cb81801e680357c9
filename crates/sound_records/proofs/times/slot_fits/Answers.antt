use Rattle.requests.specs.Views.{request_of}
use Rattle.slots.specs.Views.{dealing_of}
use Rattle.slots.proofs.PhaseLaws.{fits-view}
use Rattle.sound_records.proofs.times.slot_fits.Goals as goal

pub returns-then-loss_fits : goal.returns-then-loss_fits
unfolding request_of
returns-then-loss_fits c = let x = c.args in rw (fits-view x.clock.0 x.slot.phase (dealing_of x.slot), ← c.carrier_in.ensures, ← c.span_of.ensures, ← c.loss_fits.ensures, c.if-loss_fits.true, ← c.span_fits.ensures)

pub returns-else-loss_fits : goal.returns-else-loss_fits
unfolding request_of
returns-else-loss_fits c = let x = c.args in rw (fits-view x.clock.0 x.slot.phase (dealing_of x.slot), ← c.carrier_in.ensures, ← c.loss_fits.ensures, c.if-loss_fits.false)
