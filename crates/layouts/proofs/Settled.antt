-- Any two results that meet a contract are equal.
use mathlib.Core.Path.{◌≡◌, sym, ◌∙◌}
use contract.Lifetimes.{Lfts}
use Rattle.layouts.proofs.low_first.Reads as low_first

pub low-first-settled : (κs : Lfts 0) (a : _) (r r' : _) (s s' : _)
    → low_first.Post κs a r s → low_first.Post κs a r' s' → r ≡ r'
low-first-settled κs a r r' s s' p q = p ∙ sym q
