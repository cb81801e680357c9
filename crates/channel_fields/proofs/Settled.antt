-- Any two results that meet a contract are equal.
use mathlib.Core.Path.{◌≡◌, sym, ◌∙◌}
use contract.Lifetimes.{Lfts}
use Rattle.channel_fields.proofs.field_bytes.Reads as field_bytes
use Rattle.channel_fields.proofs.field_from.Reads as field_from

pub field_bytes-settled : (κs : Lfts 0) (a : _) (r r' : _) (s s' : _)
    → field_bytes.Post κs a r s → field_bytes.Post κs a r' s' → r ≡ r'
field_bytes-settled κs a r r' s s' p q = p ∙ sym q

pub field_from-settled : (κs : Lfts 0) (a : _) (r r' : _) (s s' : _)
    → field_from.Post κs a r s → field_from.Post κs a r' s' → r ≡ r'
field_from-settled κs a r r' s s' p q = p ∙ sym q
