-- Any two results that meet a contract are equal.
use mathlib.Core.Path.{◌≡◌, sym, ◌∙◌}
use contract.Lifetimes.{Lfts}
use Rattle.distinct.proofs.all_apart.Reads as all_apart

pub all-apart-settled : (κs : Lfts 1) (a : _) (r r' : _) (s s' : _) → all_apart.Post κs a r s → all_apart.Post κs a r' s' → r ≡ r'
all-apart-settled κs a r r' s s' p q = p ∙ sym q
