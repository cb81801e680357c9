-- Any two results that meet a contract are equal.
use mathlib.Core.Path.{◌≡◌, sym, ◌∙◌}
use contract.Lifetimes.{Lfts}
use Rattle.printing.proofs.put_reply.Reads as put_reply

pub put_reply-settled : (κs : Lfts 2) (a : _) (r r' : _) (s s' : _) → put_reply.Post κs a r s → put_reply.Post κs a r' s' → (r ≡ r') × (s.1.1.1.1.1.0.now ≡ s'.1.1.1.1.1.0.now)
put_reply-settled κs a r r' s s' p q = (p.0 ∙ sym q.0, p.1 ∙ sym q.1)
