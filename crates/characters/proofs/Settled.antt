-- Any two results that meet a contract are equal.
use mathlib.Core.Path.{◌≡◌, sym, ◌∙◌}
use contract.Lifetimes.{Lfts}
use Rattle.characters.proofs.character_of.Reads as character_of
use Rattle.characters.proofs.symbol_table.Reads as symbol_table
use Rattle.characters.proofs.symbol_of.Reads as symbol_of

pub character_of-settled : (κs : Lfts 0) (a : _) (r r' : _) (s s' : _) → character_of.Post κs a r s → character_of.Post κs a r' s' → r ≡ r'
character_of-settled κs a r r' s s' p q = p ∙ sym q

pub symbol_table-settled : (κs : Lfts 0) (a : _) (r r' : _) (s s' : _) → symbol_table.Post κs a r s → symbol_table.Post κs a r' s' → r ≡ r'
symbol_table-settled κs a r r' s s' p q = p ∙ sym q

pub symbol_of-settled : (κs : Lfts 0) (a : _) (r r' : _) (s s' : _) → symbol_of.Post κs a r s → symbol_of.Post κs a r' s' → r ≡ r'
symbol_of-settled κs a r r' s s' p q = p ∙ sym q
