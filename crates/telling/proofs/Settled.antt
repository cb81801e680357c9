-- Any two results that meet a contract are equal.
use mathlib.Core.Path.{◌≡◌, sym, ◌∙◌}
use contract.Lifetimes.{Lfts}
use Rattle.telling.proofs.Scene.tell.Reads as Scene-tell

pub Scene-tell-settled : (κs : Lfts 1) (a : _) (r r' : _) (s s' : _) → Scene-tell.Post κs a r s → Scene-tell.Post κs a r' s' → (r ≡ r') × (s.1.1.1.0.now ≡ s'.1.1.1.0.now)
Scene-tell-settled κs a r r' s s' p q = (p.0 ∙ sym q.0, p.1 ∙ sym q.1)
