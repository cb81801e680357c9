use Rattle.slots.specs.Views.{named, dealing_of}
use Rattle.slots.proofs.PhaseLaws.{keeps-view}
use Rattle.sound_records.specs.Kept.{slot_exact}
use Rattle.sound_records.proofs.stored.slot_stored.Goals as goal

pub returns-then-not-stores : goal.returns-then-not-stores
unfolding slot_exact
returns-then-not-stores c = let x = c.args in rw (keeps-view (named x.mast) x.slot.phase (dealing_of x.slot), ← c.stores.ensures, c.if-not-stores.true)

pub returns-then-lasted_keeps : goal.returns-then-lasted_keeps
unfolding slot_exact
returns-then-lasted_keeps c = let x = c.args in rw (keeps-view (named x.mast) x.slot.phase (dealing_of x.slot), ← c.stores.ensures, c.if-not-stores.false, ← c.lasted_in.ensures, ← c.lasted_keeps.ensures, c.if-lasted_keeps.true, ← c.request_stored.ensures)

pub returns-else-lasted_keeps : goal.returns-else-lasted_keeps
unfolding slot_exact
returns-else-lasted_keeps c = let x = c.args in rw (keeps-view (named x.mast) x.slot.phase (dealing_of x.slot), ← c.stores.ensures, c.if-not-stores.false, ← c.lasted_in.ensures, ← c.lasted_keeps.ensures, c.if-lasted_keeps.false)
