-- Any two results that meet a contract are equal.
use mathlib.Core.Path.{◌≡◌, sym, ◌∙◌}
use contract.Lifetimes.{Lfts}
use Rattle.ashore.proofs.is_mode.Reads as is_mode
use Rattle.ashore.proofs.digits_keep.Reads as digits_keep
use Rattle.ashore.proofs.request_from.Reads as request_from

pub is_mode-settled : (κs : Lfts 0) (a : _) (r r' : _) (s s' : _) → is_mode.Post κs a r s → is_mode.Post κs a r' s' → r ≡ r'
is_mode-settled κs a r r' s s' p q = p ∙ sym q

pub digits_keep-settled : (κs : Lfts 1) (a : _) (r r' : _) (s s' : _) → digits_keep.Post κs a r s → digits_keep.Post κs a r' s' → r ≡ r'
digits_keep-settled κs a r r' s s' p q = p ∙ sym q

pub request_from-settled : (κs : Lfts 1) (a : _) (r r' : _) (s s' : _) → request_from.Post κs a r s → request_from.Post κs a r' s' → r ≡ r'
request_from-settled κs a r r' s s' p q = p ∙ sym q
