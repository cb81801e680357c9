-- Any two results that meet a contract are equal.
use mathlib.Core.Path.{◌≡◌, sym, ◌∙◌}
use contract.Lifetimes.{Lfts}
use Rattle.gate.proofs.RefusalLaws.{verdict-one}
use Rattle.gate.proofs.Refusal.number.Reads as Refusal-number
use Rattle.gate.proofs.Look.judge.Reads as Look-judge
use Rattle.gate.proofs.Look.judge_now.Reads as Look-judge_now
use Rattle.gate.proofs.Look.judge_slot.Reads as Look-judge_slot

pub Refusal-number-settled : (κs : Lfts 0) (a : _) (r r' : _) (s s' : _) → Refusal-number.Post κs a r s → Refusal-number.Post κs a r' s' → r ≡ r'
Refusal-number-settled κs a r r' s s' p q = p ∙ sym q

pub Look-judge-settled : (κs : Lfts 0) (a : _) (r r' : _) (s s' : _) → Look-judge.Post κs a r s → Look-judge.Post κs a r' s' → r ≡ r'
Look-judge-settled κs a r r' s s' p q = verdict-one _ _ (p ∙ sym q)

pub Look-judge_now-settled : (κs : Lfts 0) (a : _) (r r' : _) (s s' : _) → Look-judge_now.Post κs a r s → Look-judge_now.Post κs a r' s' → r ≡ r'
Look-judge_now-settled κs a r r' s s' p q = verdict-one _ _ (p ∙ sym q)

pub Look-judge_slot-settled : (κs : Lfts 0) (a : _) (r r' : _) (s s' : _) → Look-judge_slot.Post κs a r s → Look-judge_slot.Post κs a r' s' → r ≡ r'
Look-judge_slot-settled κs a r r' s s' p q = verdict-one _ _ (p ∙ sym q)
