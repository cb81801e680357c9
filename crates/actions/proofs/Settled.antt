-- Any two results that meet a contract are equal.
use mathlib.Core.Path.{◌≡◌, sym, ◌∙◌}
use contract.Lifetimes.{Lfts}
use Rattle.actions.proofs.deeds.carrier_on.Reads as carrier_on
use Rattle.actions.proofs.deeds.carrier_off.Reads as carrier_off
use Rattle.actions.proofs.deeds.release_line.Reads as release_line
use Rattle.actions.proofs.deeds.ringing_on.Reads as ringing_on
use Rattle.actions.proofs.deeds.ringing_off.Reads as ringing_off
use Rattle.actions.proofs.deeds.busy_tone.Reads as busy_tone
use Rattle.actions.proofs.deeds.dial.Reads as dial
use Rattle.actions.proofs.deeds.lasted.Reads as lasted
use Rattle.actions.proofs.deeds.charge.Reads as charge
use Rattle.actions.proofs.sequences.acknowledgement.Reads as acknowledgement
use Rattle.actions.proofs.sequences.call_ship.Reads as call_ship
use Rattle.actions.proofs.sequences.unable.Reads as unable
use Rattle.actions.proofs.sequences.unable_to.Reads as unable_to
use Rattle.actions.proofs.sequences.over.Reads as over

pub carrier_on-settled : (κs : Lfts 0) (a : _) (r r' : _) (s s' : _) → carrier_on.Post κs a r s → carrier_on.Post κs a r' s' → r ≡ r'
carrier_on-settled κs a r r' s s' p q = p.0 ∙ sym q.0

pub carrier_off-settled : (κs : Lfts 0) (a : _) (r r' : _) (s s' : _) → carrier_off.Post κs a r s → carrier_off.Post κs a r' s' → r ≡ r'
carrier_off-settled κs a r r' s s' p q = p.0 ∙ sym q.0

pub release_line-settled : (κs : Lfts 0) (a : _) (r r' : _) (s s' : _) → release_line.Post κs a r s → release_line.Post κs a r' s' → r ≡ r'
release_line-settled κs a r r' s s' p q = p.0 ∙ sym q.0

pub ringing_on-settled : (κs : Lfts 0) (a : _) (r r' : _) (s s' : _) → ringing_on.Post κs a r s → ringing_on.Post κs a r' s' → r ≡ r'
ringing_on-settled κs a r r' s s' p q = p.0 ∙ sym q.0

pub ringing_off-settled : (κs : Lfts 0) (a : _) (r r' : _) (s s' : _) → ringing_off.Post κs a r s → ringing_off.Post κs a r' s' → r ≡ r'
ringing_off-settled κs a r r' s s' p q = p.0 ∙ sym q.0

pub busy_tone-settled : (κs : Lfts 0) (a : _) (r r' : _) (s s' : _) → busy_tone.Post κs a r s → busy_tone.Post κs a r' s' → r ≡ r'
busy_tone-settled κs a r r' s s' p q = p.0 ∙ sym q.0

pub dial-settled : (κs : Lfts 0) (a : _) (r r' : _) (s s' : _) → dial.Post κs a r s → dial.Post κs a r' s' → r ≡ r'
dial-settled κs a r r' s s' p q = p.0 ∙ sym q.0

pub lasted-settled : (κs : Lfts 0) (a : _) (r r' : _) (s s' : _) → lasted.Post κs a r s → lasted.Post κs a r' s' → r ≡ r'
lasted-settled κs a r r' s s' p q = p ∙ sym q

pub charge-settled : (κs : Lfts 0) (a : _) (r r' : _) (s s' : _) → charge.Post κs a r s → charge.Post κs a r' s' → r ≡ r'
charge-settled κs a r r' s s' p q = p.0 ∙ sym q.0

pub acknowledgement-settled : (κs : Lfts 0) (a : _) (r r' : _) (s s' : _) → acknowledgement.Post κs a r s → acknowledgement.Post κs a r' s' → r ≡ r'
acknowledgement-settled κs a r r' s s' p q = p.0 ∙ sym q.0

pub call_ship-settled : (κs : Lfts 0) (a : _) (r r' : _) (s s' : _) → call_ship.Post κs a r s → call_ship.Post κs a r' s' → r ≡ r'
call_ship-settled κs a r r' s s' p q = p.0 ∙ sym q.0

pub unable-settled : (κs : Lfts 0) (a : _) (r r' : _) (s s' : _) → unable.Post κs a r s → unable.Post κs a r' s' → r ≡ r'
unable-settled κs a r r' s s' p q = p.0 ∙ sym q.0

pub unable_to-settled : (κs : Lfts 0) (a : _) (r r' : _) (s s' : _) → unable_to.Post κs a r s → unable_to.Post κs a r' s' → r ≡ r'
unable_to-settled κs a r r' s s' p q = p.0 ∙ sym q.0

pub over-settled : (κs : Lfts 0) (a : _) (r r' : _) (s s' : _) → over.Post κs a r s → over.Post κs a r' s' → r ≡ r'
over-settled κs a r r' s s' p q = p.0 ∙ sym q.0
