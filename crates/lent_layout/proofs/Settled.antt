-- Any two results that meet a contract are equal.
use mathlib.Core.Path.{◌≡◌, refl, sym, ◌∙◌}
use contract.Lifetimes.{Lfts}
use Rattle.lent_layout.proofs.said.lay_meaning.Reads as lay_meaning
use Rattle.lent_layout.proofs.said.meaning_from.Reads as meaning_from
use Rattle.lent_layout.proofs.station_from.Reads as station_from
use Rattle.lent_layout.proofs.lay_station.Reads as lay_station

pub station_from-settled : (κs : Lfts 1) (a : _) (r r' : _) (s s' : _)
    → station_from.Post κs a r s → station_from.Post κs a r' s' → r ≡ r'
station_from-settled κs a r r' s s' p q = p ∙ sym q

pub lay_station-settled : (κs : Lfts 2) (a : _) (r r' : _) (s s' : _)
    → lay_station.Post κs a r s → lay_station.Post κs a r' s' → (r ≡ r') × (s.1.0.now ≡ s'.1.0.now)
lay_station-settled κs a r r' s s' p q = (refl, p ∙ sym q)

pub meaning_from-settled : (κs : Lfts 1) (a : _) (r r' : _) (s s' : _)
    → meaning_from.Post κs a r s → meaning_from.Post κs a r' s' → r ≡ r'
meaning_from-settled κs a r r' s s' p q = p ∙ sym q

pub lay_meaning-settled : (κs : Lfts 1) (a : _) (r r' : _) (s s' : _)
    → lay_meaning.Post κs a r s → lay_meaning.Post κs a r' s' → (r ≡ r') × (s.1.0.now ≡ s'.1.0.now)
lay_meaning-settled κs a r r' s s' p q = (refl, p ∙ sym q)
