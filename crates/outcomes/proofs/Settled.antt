-- Any two results that meet a contract are equal.
use mathlib.Core.Path.{◌≡◌, sym, ◌∙◌}
use contract.Lifetimes.{Lfts}
use Rattle.outcomes.proofs.parts.lasted_of.Reads as lasted_of
use Rattle.outcomes.proofs.parts.answer_of.Reads as answer_of
use Rattle.outcomes.proofs.parts.goes_on.Reads as goes_on
use Rattle.outcomes.proofs.parts.ringable.Reads as ringable
use Rattle.outcomes.proofs.parts.last_after.Reads as last_after
use Rattle.outcomes.proofs.parts.turn_of.Reads as turn_of
use Rattle.outcomes.proofs.parts.queue_change.Reads as queue_change
use Rattle.outcomes.proofs.parts.entered.Reads as entered

pub lasted_of-settled : (κs : Lfts 0) (a : _) (r r' : _) (s s' : _) → lasted_of.Post κs a r s → lasted_of.Post κs a r' s' → r ≡ r'
lasted_of-settled κs a r r' s s' p q = p ∙ sym q

pub answer_of-settled : (κs : Lfts 0) (a : _) (r r' : _) (s s' : _) → answer_of.Post κs a r s → answer_of.Post κs a r' s' → r ≡ r'
answer_of-settled κs a r r' s s' p q = p ∙ sym q

pub goes-on-settled : (κs : Lfts 0) (a : _) (r r' : _) (s s' : _) → goes_on.Post κs a r s → goes_on.Post κs a r' s' → r ≡ r'
goes-on-settled κs a r r' s s' p q = p ∙ sym q

pub ringable-settled : (κs : Lfts 0) (a : _) (r r' : _) (s s' : _) → ringable.Post κs a r s → ringable.Post κs a r' s' → r ≡ r'
ringable-settled κs a r r' s s' p q = p ∙ sym q

pub last_after-settled : (κs : Lfts 0) (a : _) (r r' : _) (s s' : _) → last_after.Post κs a r s → last_after.Post κs a r' s' → r ≡ r'
last_after-settled κs a r r' s s' p q = p ∙ sym q

pub turn_of-settled : (κs : Lfts 0) (a : _) (r r' : _) (s s' : _) → turn_of.Post κs a r s → turn_of.Post κs a r' s' → r ≡ r'
turn_of-settled κs a r r' s s' p q = p ∙ sym q

pub queue_change-settled : (κs : Lfts 0) (a : _) (r r' : _) (s s' : _) → queue_change.Post κs a r s → queue_change.Post κs a r' s' → r ≡ r'
queue_change-settled κs a r r' s s' p q = p ∙ sym q

pub entered-settled : (κs : Lfts 0) (a : _) (r r' : _) (s s' : _) → entered.Post κs a r s → entered.Post κs a r' s' → r ≡ r'
entered-settled κs a r r' s s' p q = p ∙ sym q
