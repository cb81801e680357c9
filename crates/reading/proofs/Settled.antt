-- Any two results that meet a contract are equal.
use mathlib.Core.Path.{◌≡◌, sym, ◌∙◌}
use contract.Lifetimes.{Lfts}
use Rattle.reading.proofs.blank_meaning.Reads as blank_meaning
use Rattle.reading.proofs.read.Reads as read

pub blank_meaning-settled : (κs : Lfts 0) (a : _) (r r' : _) (s s' : _)
    → blank_meaning.Post κs a r s → blank_meaning.Post κs a r' s' → r ≡ r'
blank_meaning-settled κs a r r' s s' p q = p ∙ sym q

pub read-settled : (κs : Lfts 1) (a : _) (r r' : _) (s s' : _) → read.Post κs a r s → read.Post κs a r' s' → r ≡ r'
read-settled κs a r r' s s' p q = p ∙ sym q
