-- Any two results that meet a contract are equal.
use mathlib.Core.Path.{◌≡◌, sym, ◌∙◌}
use contract.Lifetimes.{Lfts}
use Rattle.units.proofs.Tenths.whole_seconds.Reads as Tenths-whole_seconds
use Rattle.units.proofs.Seconds.count.Reads as Seconds-count
use Rattle.units.proofs.Seconds.duration.Reads as Seconds-duration

pub Tenths-whole_seconds-settled : (κs : Lfts 0) (a : _) (r r' : _) (s s' : _)
    → Tenths-whole_seconds.Post κs a r s → Tenths-whole_seconds.Post κs a r' s' → r ≡ r'
Tenths-whole_seconds-settled κs a r r' s s' p q = p ∙ sym q

pub Seconds-count-settled : (κs : Lfts 0) (a : _) (r r' : _) (s s' : _)
    → Seconds-count.Post κs a r s → Seconds-count.Post κs a r' s' → r ≡ r'
Seconds-count-settled κs a r r' s s' p q = p ∙ sym q

pub Seconds-duration-settled : (κs : Lfts 0) (a : _) (r r' : _) (s s' : _)
    → Seconds-duration.Post κs a r s → Seconds-duration.Post κs a r' s' → r ≡ r'
Seconds-duration-settled κs a r r' s s' p q = p ∙ sym q
