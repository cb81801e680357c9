-- Any two results that meet a contract are equal.
use mathlib.Core.Path.{◌≡◌, sym, ◌∙◌}
use contract.Lifetimes.{Lfts}
use Rattle.blocks.proofs.lay.Reads as lay

pub lay-settled : (κs : Lfts 1) (a : _) (r r' : _) (s s' : _) → lay.Post κs a r s → lay.Post κs a r' s' → (r ≡ r') × (s.1.1.0.now ≡ s'.1.1.0.now)
lay-settled κs a r r' s s' p q = (p.0 ∙ sym q.0, p.1 ∙ sym q.1)
