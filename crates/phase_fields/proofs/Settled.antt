-- Any two results that meet a contract are equal.
use mathlib.Core.Path.{◌≡◌, sym, ◌∙◌}
use contract.Lifetimes.{Lfts}
use Rattle.phase_fields.proofs.phase_fields.Reads as phase_fields
use Rattle.phase_fields.proofs.phase_from.Reads as phase_from

pub phase_fields-settled : (κs : Lfts 0) (a : _) (r r' : _) (s s' : _)
    → phase_fields.Post κs a r s → phase_fields.Post κs a r' s' → r ≡ r'
phase_fields-settled κs a r r' s s' p q = p ∙ sym q

pub phase_from-settled : (κs : Lfts 0) (a : _) (r r' : _) (s s' : _)
    → phase_from.Post κs a r s → phase_from.Post κs a r' s' → r ≡ r'
phase_from-settled κs a r r' s s' p q = p ∙ sym q
