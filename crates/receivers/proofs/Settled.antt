-- Any two results that meet a contract are equal.
use mathlib.Core.Path.{◌≡◌, sym, ◌∙◌}
use contract.Lifetimes.{Lfts}
use Rattle.receivers.proofs.first_in.Reads as first_in
use Rattle.receivers.proofs.find.Reads as find
use Rattle.receivers.proofs.find_sequence.Reads as find_sequence

pub first_in-settled : (κs : Lfts 1) (a : _) (r r' : _) (s s' : _) → first_in.Post κs a r s → first_in.Post κs a r' s' → r ≡ r'
first_in-settled κs a r r' s s' p q = p ∙ sym q

pub find-settled : (κs : Lfts 2) (a : _) (r r' : _) (s s' : _) → find.Post κs a r s → find.Post κs a r' s' → r ≡ r'
find-settled κs a r r' s s' p q = p ∙ sym q

pub find_sequence-settled : (κs : Lfts 1) (a : _) (r r' : _) (s s' : _)
    → find_sequence.Post κs a r s → find_sequence.Post κs a r' s' → (r.now ≡ r'.now) × (r.ref_ptr ≡ r'.ref_ptr)
find_sequence-settled κs a r r' s s' p q = (p.0 ∙ sym q.0, p.1 ∙ sym q.1)
