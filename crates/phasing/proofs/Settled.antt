-- Any two results that meet a contract are equal.
use mathlib.Core.Path.{◌≡◌, sym, ◌∙◌}
use contract.Lifetimes.{Lfts}
use Rattle.phasing.proofs.character_at.Reads as character_at
use Rattle.phasing.proofs.best_start.Reads as best_start

pub character_at-settled : (κs : Lfts 1) (a : _) (r r' : _) (s s' : _) → character_at.Post κs a r s → character_at.Post κs a r' s' → r ≡ r'
character_at-settled κs a r r' s s' p q = p ∙ sym q

pub best_start-settled : (κs : Lfts 1) (a : _) (r r' : _) (s s' : _) → best_start.Post κs a r s → best_start.Post κs a r' s' → r ≡ r'
best_start-settled κs a r r' s s' p q = p ∙ sym q
