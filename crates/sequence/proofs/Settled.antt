-- Any two results that meet a contract are equal.
use mathlib.Core.Path.{◌≡◌, sym, ◌∙◌}
use contract.Lifetimes.{Lfts}
use Rattle.sequence.proofs.Refusal.number.Reads as Refusal-number
use Rattle.sequence.proofs.unless.Reads as unless
use Rattle.sequence.proofs.symbols.at.Reads as at
use Rattle.sequence.proofs.symbols.all_at_most.Reads as all_at_most
use Rattle.sequence.proofs.symbols.exclusive_or.Reads as exclusive_or
use Rattle.sequence.proofs.parts.is_ship.Reads as is_ship
use Rattle.sequence.proofs.parts.is_coast.Reads as is_coast
use Rattle.sequence.proofs.parts.identities_ok.Reads as identities_ok
use Rattle.sequence.proofs.parts.is_call.Reads as is_call
use Rattle.sequence.proofs.parts.telecommands_ok.Reads as telecommands_ok
use Rattle.sequence.proofs.parts.channel_ok.Reads as channel_ok
use Rattle.sequence.proofs.parts.duration_ok.Reads as duration_ok
use Rattle.sequence.proofs.parts.number_ok.Reads as number_ok
use Rattle.sequence.proofs.parts.end_ok.Reads as end_ok

pub Refusal-number-settled : (κs : Lfts 0) (a : _) (r r' : _) (s s' : _) → Refusal-number.Post κs a r s → Refusal-number.Post κs a r' s' → r ≡ r'
Refusal-number-settled κs a r r' s s' p q = p ∙ sym q

pub unless-settled : (g : _) (laws : _) (copy : _) (clone : _) (dict : _) (κs : Lfts 1) (a : _) (r r' : _) (s s' : _) → unless.Post g laws copy clone dict κs a r s → unless.Post g laws copy clone dict κs a r' s' → r ≡ r'
unless-settled g laws copy clone dict κs a r r' s s' p q = p ∙ sym q

pub at-settled : (κs : Lfts 1) (a : _) (r r' : _) (s s' : _) → at.Post κs a r s → at.Post κs a r' s' → r ≡ r'
at-settled κs a r r' s s' p q = p ∙ sym q

pub all_at_most-settled : (κs : Lfts 1) (a : _) (r r' : _) (s s' : _) → all_at_most.Post κs a r s → all_at_most.Post κs a r' s' → r ≡ r'
all_at_most-settled κs a r r' s s' p q = p ∙ sym q

pub exclusive_or-settled : (κs : Lfts 1) (a : _) (r r' : _) (s s' : _) → exclusive_or.Post κs a r s → exclusive_or.Post κs a r' s' → r ≡ r'
exclusive_or-settled κs a r r' s s' p q = p ∙ sym q

pub is_ship-settled : (κs : Lfts 0) (a : _) (r r' : _) (s s' : _) → is_ship.Post κs a r s → is_ship.Post κs a r' s' → r ≡ r'
is_ship-settled κs a r r' s s' p q = p ∙ sym q

pub is_coast-settled : (κs : Lfts 0) (a : _) (r r' : _) (s s' : _) → is_coast.Post κs a r s → is_coast.Post κs a r' s' → r ≡ r'
is_coast-settled κs a r r' s s' p q = p ∙ sym q

pub identities_ok-settled : (κs : Lfts 0) (a : _) (r r' : _) (s s' : _) → identities_ok.Post κs a r s → identities_ok.Post κs a r' s' → r ≡ r'
identities_ok-settled κs a r r' s s' p q = p ∙ sym q

pub is-call-settled : (κs : Lfts 0) (a : _) (r r' : _) (s s' : _) → is_call.Post κs a r s → is_call.Post κs a r' s' → r ≡ r'
is-call-settled κs a r r' s s' p q = p ∙ sym q

pub telecommands_ok-settled : (κs : Lfts 0) (a : _) (r r' : _) (s s' : _) → telecommands_ok.Post κs a r s → telecommands_ok.Post κs a r' s' → r ≡ r'
telecommands_ok-settled κs a r r' s s' p q = p ∙ sym q

pub channel_ok-settled : (κs : Lfts 0) (a : _) (r r' : _) (s s' : _) → channel_ok.Post κs a r s → channel_ok.Post κs a r' s' → r ≡ r'
channel_ok-settled κs a r r' s s' p q = p ∙ sym q

pub duration_ok-settled : (κs : Lfts 0) (a : _) (r r' : _) (s s' : _) → duration_ok.Post κs a r s → duration_ok.Post κs a r' s' → r ≡ r'
duration_ok-settled κs a r r' s s' p q = p ∙ sym q

pub number-ok-settled : (κs : Lfts 0) (a : _) (r r' : _) (s s' : _) → number_ok.Post κs a r s → number_ok.Post κs a r' s' → r ≡ r'
number-ok-settled κs a r r' s s' p q = p ∙ sym q

pub end_ok-settled : (κs : Lfts 0) (a : _) (r r' : _) (s s' : _) → end_ok.Post κs a r s → end_ok.Post κs a r' s' → r ≡ r'
end_ok-settled κs a r r' s s' p q = p ∙ sym q
