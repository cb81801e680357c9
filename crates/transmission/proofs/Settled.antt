-- Any two results that meet a contract are equal.
use mathlib.Core.Path.{◌≡◌, sym, ◌∙◌}
use contract.Lifetimes.{Lfts}
use Rattle.transmission.proofs.Refusal.number.Reads as Refusal-number

pub Refusal-number-settled : (κs : Lfts 0) (a : _) (r r' : _) (s s' : _)
    → Refusal-number.Post κs a r s → Refusal-number.Post κs a r' s' → r ≡ r'
Refusal-number-settled κs a r r' s s' p q = p ∙ sym q
