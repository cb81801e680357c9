-- Any two results that meet a contract are equal.
use mathlib.Core.Path.{◌≡◌, sym, ◌∙◌}
use contract.Lifetimes.{Lfts}
use Rattle.deciding.proofs.by_signal.Reads as by_signal
use Rattle.deciding.proofs.by_hand.Reads as by_hand
use Rattle.deciding.proofs.coast_end.Reads as coast_end
use Rattle.deciding.proofs.working_call.Reads as working_call
use Rattle.deciding.proofs.ship_end.Reads as ship_end
use Rattle.deciding.proofs.bq.Reads as bq
use Rattle.deciding.proofs.declined.Reads as declined
use Rattle.deciding.proofs.data_asked.Reads as data_asked
use Rattle.deciding.proofs.main_due.Reads as main_due
use Rattle.deciding.proofs.asked_again.Reads as asked_again
use Rattle.deciding.proofs.d_to_g.Reads as d_to_g

pub by_signal-settled : (κs : Lfts 0) (a : _) (r r' : _) (s s' : _) → by_signal.Post κs a r s → by_signal.Post κs a r' s' → r ≡ r'
by_signal-settled κs a r r' s s' p q = p ∙ sym q

pub by-hand-settled : (κs : Lfts 0) (a : _) (r r' : _) (s s' : _) → by_hand.Post κs a r s → by_hand.Post κs a r' s' → r ≡ r'
by-hand-settled κs a r r' s s' p q = p ∙ sym q

pub coast_end-settled : (κs : Lfts 0) (a : _) (r r' : _) (s s' : _) → coast_end.Post κs a r s → coast_end.Post κs a r' s' → r ≡ r'
coast_end-settled κs a r r' s s' p q = p ∙ sym q

pub working_call-settled : (κs : Lfts 0) (a : _) (r r' : _) (s s' : _) → working_call.Post κs a r s → working_call.Post κs a r' s' → r ≡ r'
working_call-settled κs a r r' s s' p q = p ∙ sym q

pub ship_end-settled : (κs : Lfts 0) (a : _) (r r' : _) (s s' : _) → ship_end.Post κs a r s → ship_end.Post κs a r' s' → r ≡ r'
ship_end-settled κs a r r' s s' p q = p ∙ sym q

pub bq-settled : (κs : Lfts 0) (a : _) (r r' : _) (s s' : _) → bq.Post κs a r s → bq.Post κs a r' s' → r ≡ r'
bq-settled κs a r r' s s' p q = p ∙ sym q

pub declined-settled : (κs : Lfts 0) (a : _) (r r' : _) (s s' : _) → declined.Post κs a r s → declined.Post κs a r' s' → r ≡ r'
declined-settled κs a r r' s s' p q = p ∙ sym q

pub data_asked-settled : (κs : Lfts 0) (a : _) (r r' : _) (s s' : _) → data_asked.Post κs a r s → data_asked.Post κs a r' s' → r ≡ r'
data_asked-settled κs a r r' s s' p q = p ∙ sym q

pub main_due-settled : (κs : Lfts 0) (a : _) (r r' : _) (s s' : _) → main_due.Post κs a r s → main_due.Post κs a r' s' → r ≡ r'
main_due-settled κs a r r' s s' p q = p ∙ sym q

pub asked_again-settled : (κs : Lfts 0) (a : _) (r r' : _) (s s' : _) → asked_again.Post κs a r s → asked_again.Post κs a r' s' → r ≡ r'
asked_again-settled κs a r r' s s' p q = p ∙ sym q

pub d_to_g-settled : (κs : Lfts 0) (a : _) (r r' : _) (s s' : _) → d_to_g.Post κs a r s → d_to_g.Post κs a r' s' → r ≡ r'
d_to_g-settled κs a r r' s s' p q = p ∙ sym q
