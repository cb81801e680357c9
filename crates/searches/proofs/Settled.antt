-- Any two results that meet a contract are equal.
use mathlib.Core.Path.{◌≡◌, sym, ◌∙◌}
use contract.Lifetimes.{Lfts}
use Rattle.slots.proofs.ViewLaws.{found-one, place-one, standing-one}
use Rattle.searches.proofs.first_free.Reads as first_free
use Rattle.searches.proofs.slot_named.Reads as slot_named
use Rattle.searches.proofs.kept_for.Reads as kept_for
use Rattle.searches.proofs.place_of.Reads as place_of
use Rattle.searches.proofs.standing.Reads as standing

pub first_free-settled : (κs : Lfts 1) (a : _) (r r' : _) (s s' : _) → first_free.Post κs a r s → first_free.Post κs a r' s' → r ≡ r'
first_free-settled κs a r r' s s' p q = found-one _ _ (p ∙ sym q)

pub slot_named-settled : (κs : Lfts 1) (a : _) (r r' : _) (s s' : _) → slot_named.Post κs a r s → slot_named.Post κs a r' s' → r ≡ r'
slot_named-settled κs a r r' s s' p q = found-one _ _ (p ∙ sym q)

pub kept-for-settled : (κs : Lfts 1) (a : _) (r r' : _) (s s' : _) → kept_for.Post κs a r s → kept_for.Post κs a r' s' → r ≡ r'
kept-for-settled κs a r r' s s' p q = found-one _ _ (p ∙ sym q)

pub place-of-settled : (κs : Lfts 1) (a : _) (r r' : _) (s s' : _) → place_of.Post κs a r s → place_of.Post κs a r' s' → r ≡ r'
place-of-settled κs a r r' s s' p q = place-one _ _ (p ∙ sym q)

pub standing-settled : (κs : Lfts 2) (a : _) (r r' : _) (s s' : _) → standing.Post κs a r s → standing.Post κs a r' s' → r ≡ r'
standing-settled κs a r r' s s' p q = standing-one _ _ (p ∙ sym q)
