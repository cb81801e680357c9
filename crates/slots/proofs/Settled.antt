-- Any two results that meet a contract are equal.
use mathlib.Core.Path.{◌≡◌, sym, ◌∙◌}
use contract.Lifetimes.{Lfts}
use Rattle.slots.proofs.ViewLaws.{when-one}
use Rattle.slots.proofs.laying.free_on.Reads as free_on
use Rattle.slots.proofs.laying.blank_slot.Reads as blank_slot
use Rattle.slots.proofs.laying.blank_waiting.Reads as blank_waiting
use Rattle.slots.proofs.laying.tidy_slot.Reads as tidy_slot
use Rattle.slots.proofs.laying.tidy_waiting.Reads as tidy_waiting
use Rattle.slots.proofs.numbers.none_left.Reads as none_left
use Rattle.slots.proofs.numbers.number_after.Reads as number_after
use Rattle.slots.proofs.stores.Reads as stores
use Rattle.slots.proofs.has_ship.Reads as has_ship
use Rattle.slots.proofs.is_called.Reads as is_called
use Rattle.slots.proofs.is_free.Reads as is_free
use Rattle.slots.proofs.is_taken.Reads as is_taken
use Rattle.slots.proofs.loss_of.Reads as loss_of
use Rattle.slots.proofs.main_of.Reads as main_of
use Rattle.slots.proofs.mast.is_ours.Reads as is_ours
use Rattle.slots.proofs.mast.mast_keeps.Reads as mast_keeps
use Rattle.slots.proofs.lasted_in.Reads as lasted_in
use Rattle.slots.proofs.span_of.Reads as span_of
use Rattle.slots.proofs.carrier_in.Reads as carrier_in

pub free-on-settled : (κs : Lfts 0) (a : _) (r r' : _) (s s' : _) → free_on.Post κs a r s → free_on.Post κs a r' s' → r ≡ r'
free-on-settled κs a r r' s s' p q = p ∙ sym q

pub blank_slot-settled : (κs : Lfts 0) (a : _) (r r' : _) (s s' : _) → blank_slot.Post κs a r s → blank_slot.Post κs a r' s' → r ≡ r'
blank_slot-settled κs a r r' s s' p q = p ∙ sym q

pub blank_waiting-settled : (κs : Lfts 0) (a : _) (r r' : _) (s s' : _) → blank_waiting.Post κs a r s → blank_waiting.Post κs a r' s' → r ≡ r'
blank_waiting-settled κs a r r' s s' p q = p ∙ sym q

pub is-ours-settled : (κs : Lfts 0) (a : _) (r r' : _) (s s' : _) → is_ours.Post κs a r s → is_ours.Post κs a r' s' → r ≡ r'
is-ours-settled κs a r r' s s' p q = p ∙ sym q

pub mast_keeps-settled : (κs : Lfts 0) (a : _) (r r' : _) (s s' : _) → mast_keeps.Post κs a r s → mast_keeps.Post κs a r' s' → r ≡ r'
mast_keeps-settled κs a r r' s s' p q = p ∙ sym q

pub none-left-settled : (κs : Lfts 0) (a : _) (r r' : _) (s s' : _) → none_left.Post κs a r s → none_left.Post κs a r' s' → r ≡ r'
none-left-settled κs a r r' s s' p q = p ∙ sym q

pub number_after-settled : (κs : Lfts 0) (a : _) (r r' : _) (s s' : _) → number_after.Post κs a r s → number_after.Post κs a r' s' → r ≡ r'
number_after-settled κs a r r' s s' p q = p ∙ sym q

pub stores-settled : (κs : Lfts 0) (a : _) (r r' : _) (s s' : _) → stores.Post κs a r s → stores.Post κs a r' s' → r ≡ r'
stores-settled κs a r r' s s' p q = p ∙ sym q

pub has_ship-settled : (κs : Lfts 0) (a : _) (r r' : _) (s s' : _) → has_ship.Post κs a r s → has_ship.Post κs a r' s' → r ≡ r'
has_ship-settled κs a r r' s s' p q = p ∙ sym q

pub is_called-settled : (κs : Lfts 0) (a : _) (r r' : _) (s s' : _) → is_called.Post κs a r s → is_called.Post κs a r' s' → r ≡ r'
is_called-settled κs a r r' s s' p q = p ∙ sym q

pub is-free-settled : (κs : Lfts 0) (a : _) (r r' : _) (s s' : _) → is_free.Post κs a r s → is_free.Post κs a r' s' → r ≡ r'
is-free-settled κs a r r' s s' p q = p ∙ sym q

pub is_taken-settled : (κs : Lfts 0) (a : _) (r r' : _) (s s' : _) → is_taken.Post κs a r s → is_taken.Post κs a r' s' → r ≡ r'
is_taken-settled κs a r r' s s' p q = p ∙ sym q

pub tidy_slot-settled : (κs : Lfts 0) (a : _) (r r' : _) (s s' : _) → tidy_slot.Post κs a r s → tidy_slot.Post κs a r' s' → r ≡ r'
tidy_slot-settled κs a r r' s s' p q = p ∙ sym q

pub tidy_waiting-settled : (κs : Lfts 0) (a : _) (r r' : _) (s s' : _) → tidy_waiting.Post κs a r s → tidy_waiting.Post κs a r' s' → r ≡ r'
tidy_waiting-settled κs a r r' s s' p q = p ∙ sym q

pub loss_of-settled : (κs : Lfts 0) (a : _) (r r' : _) (s s' : _) → loss_of.Post κs a r s → loss_of.Post κs a r' s' → r ≡ r'
loss_of-settled κs a r r' s s' p q = when-one _ _ (p ∙ sym q)

pub main_of-settled : (κs : Lfts 0) (a : _) (r r' : _) (s s' : _) → main_of.Post κs a r s → main_of.Post κs a r' s' → r ≡ r'
main_of-settled κs a r r' s s' p q = when-one _ _ (p ∙ sym q)

pub lasted_in-settled : (κs : Lfts 0) (a : _) (r r' : _) (s s' : _) → lasted_in.Post κs a r s → lasted_in.Post κs a r' s' → r ≡ r'
lasted_in-settled κs a r r' s s' p q = p ∙ sym q

pub span-of-settled : (κs : Lfts 0) (a : _) (r r' : _) (s s' : _) → span_of.Post κs a r s → span_of.Post κs a r' s' → r ≡ r'
span-of-settled κs a r r' s s' p q = p ∙ sym q

pub carrier_in-settled : (κs : Lfts 0) (a : _) (r r' : _) (s s' : _) → carrier_in.Post κs a r s → carrier_in.Post κs a r' s' → r ≡ r'
carrier_in-settled κs a r r' s s' p q = p ∙ sym q
