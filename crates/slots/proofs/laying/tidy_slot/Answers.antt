use Rattle.requests.specs.Images.{tidy_request}
use Rattle.slots.proofs.PhaseLaws.{phase-back, stored-image, number-view}
use Rattle.slots.specs.Images.{tidy_slot, slot_image}
use Rattle.slots.specs.Views.{dealing_of}
use mathlib.Core.Path.{sym, ◌∙◌}
use Rattle.slots.proofs.laying.tidy_slot.Goals as goal

pub returns-then-stores : goal.returns-then-stores
unfolding tidy_slot slot_image tidy_request
returns-then-stores c = let s = c.args.slot in rw (c.tidy_request.ensures, phase-back s.phase (dealing_of s), stored-image s.phase (dealing_of s), number-view s.phase (dealing_of s), (sym c.stores.ensures ∙ c.if-stores.true))

pub returns : goal.returns
unfolding tidy_slot slot_image tidy_request
returns c = let s = c.args.slot in rw (c.blank_request.ensures, phase-back s.phase (dealing_of s), stored-image s.phase (dealing_of s), number-view s.phase (dealing_of s), (sym c.stores.ensures ∙ c.if-stores.false))
