-- Any two results that meet a contract are equal.
use mathlib.Core.Path.{◌≡◌, sym, ◌∙◌}
use contract.Lifetimes.{Lfts}
use Rattle.sending.proofs.write_transmission.Reads as write_transmission

pub write_transmission-settled : (κs : Lfts 2) (a : _) (r r' : _) (s s' : _)
    → write_transmission.Post κs a r s → write_transmission.Post κs a r' s'
    → (r ≡ r') × (s.1.0.now ≡ s'.1.0.now)
write_transmission-settled κs a r r' s s' p q = (p.0 ∙ sym q.0, p.1 ∙ sym q.1)
