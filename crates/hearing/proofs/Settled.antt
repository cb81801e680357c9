-- Any two results that meet a contract are equal.
use mathlib.Core.Path.{◌≡◌, sym, ◌∙◌}
use contract.Lifetimes.{Lfts}
use Rattle.hearing.proofs.SaidLaws.{heard-one}
use Rattle.hearing.proofs.heard_in.Reads as heard_in

pub heard_in-settled : (κs : Lfts 1) (a : _) (r r' : _) (s s' : _) → heard_in.Post κs a r s → heard_in.Post κs a r' s' → r ≡ r'
heard_in-settled κs a r r' s s' p q = heard-one _ _ (p.0 ∙ sym q.0) (p.1 ∙ sym q.1)
