-- Any two results that meet a contract are equal.
use mathlib.Core.Path.{◌≡◌, sym, ap, ◌∙◌}
use contract.Lifetimes.{Lfts}
use Rattle.slots.proofs.ViewLaws.{due-one}
use Rattle.due_times.proofs.carrier_wait.Reads as carrier_wait
use Rattle.due_times.proofs.due_after.Reads as due_after
use Rattle.due_times.proofs.due_by.Reads as due_by
use Rattle.due_times.proofs.falls_due.Reads as falls_due
use Rattle.due_times.proofs.sooner_of.Reads as sooner_of
use Rattle.due_times.proofs.loss_due.Reads as loss_due
use Rattle.due_times.proofs.main_due.Reads as main_due

pub carrier_wait-settled : (κs : Lfts 0) (a : _) (r r' : _) (s s' : _) → carrier_wait.Post κs a r s → carrier_wait.Post κs a r' s' → r ≡ r'
carrier_wait-settled κs a r r' s s' p q = ap (λ n. record { 0 = n }) (p ∙ sym q)

pub due_after-settled : (κs : Lfts 0) (a : _) (r r' : _) (s s' : _) → due_after.Post κs a r s → due_after.Post κs a r' s' → r ≡ r'
due_after-settled κs a r r' s s' p q = ap (λ n. record { 0 = n }) (p ∙ sym q)

pub due_by-settled : (κs : Lfts 0) (a : _) (r r' : _) (s s' : _) → due_by.Post κs a r s → due_by.Post κs a r' s' → r ≡ r'
due_by-settled κs a r r' s s' p q = due-one _ _ (p ∙ sym q)

pub falls_due-settled : (κs : Lfts 0) (a : _) (r r' : _) (s s' : _) → falls_due.Post κs a r s → falls_due.Post κs a r' s' → r ≡ r'
falls_due-settled κs a r r' s s' p q = p ∙ sym q

pub sooner_of-settled : (κs : Lfts 0) (a : _) (r r' : _) (s s' : _) → sooner_of.Post κs a r s → sooner_of.Post κs a r' s' → r ≡ r'
sooner_of-settled κs a r r' s s' p q = due-one _ _ (p ∙ sym q)

pub loss_due-settled : (κs : Lfts 0) (a : _) (r r' : _) (s s' : _) → loss_due.Post κs a r s → loss_due.Post κs a r' s' → r ≡ r'
loss_due-settled κs a r r' s s' p q = due-one _ _ (p ∙ sym q)

pub main_due-settled : (κs : Lfts 0) (a : _) (r r' : _) (s s' : _) → main_due.Post κs a r s → main_due.Post κs a r' s' → r ≡ r'
main_due-settled κs a r r' s s' p q = due-one _ _ (p ∙ sym q)
