-- Any two results that meet a contract are equal.
use mathlib.Core.Path.{◌≡◌, sym, ◌∙◌}
use contract.Lifetimes.{Lfts}
use Rattle.requests.proofs.blank_request.Reads as blank_request
use Rattle.requests.proofs.sameness.is_by.Reads as is_by
use Rattle.requests.proofs.sameness.same_request.Reads as same_request

pub blank_request-settled : (κs : Lfts 0) (a : _) (r r' : _) (s s' : _) → blank_request.Post κs a r s → blank_request.Post κs a r' s' → r ≡ r'
blank_request-settled κs a r r' s s' p q = p ∙ sym q

pub is_by-settled : (κs : Lfts 0) (a : _) (r r' : _) (s s' : _) → is_by.Post κs a r s → is_by.Post κs a r' s' → r ≡ r'
is_by-settled κs a r r' s s' p q = p ∙ sym q

pub same_request-settled : (κs : Lfts 0) (a : _) (r r' : _) (s s' : _) → same_request.Post κs a r s → same_request.Post κs a r' s' → r ≡ r'
same_request-settled κs a r r' s s' p q = p ∙ sym q
