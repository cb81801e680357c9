-- Any two results that meet a contract are equal.
use mathlib.Core.Path.{◌≡◌, sym, ◌∙◌}
use contract.Lifetimes.{Lfts}
use Rattle.coast_c.proofs.sequences.coast_read_sequence.Reads as coast_read_sequence
use Rattle.coast_c.proofs.sequences.coast_write_sequence.Reads as coast_write_sequence
use Rattle.coast_c.proofs.finding.coast_find_sequence.Reads as coast_find_sequence
use Rattle.coast_c.proofs.transmissions.coast_write_character.Reads as coast_write_character
use Rattle.coast_c.proofs.transmissions.coast_read_character.Reads as coast_read_character
use Rattle.coast_c.proofs.transmissions.coast_write_transmission.Reads as coast_write_transmission
use Rattle.coast_c.proofs.transmissions.coast_read_transmission.Reads as coast_read_transmission
use Rattle.coast_c.proofs.setting.coast_set_up.Reads as coast_set_up
use Rattle.coast_c.proofs.setting.coast_next_due.Reads as coast_next_due
use Rattle.coast_c.proofs.setting.coast_clock.Reads as coast_clock
use Rattle.coast_c.proofs.events.coast_tick.Reads as coast_tick
use Rattle.coast_c.proofs.shore_calls.coast_call_from_ashore.Reads as coast_call_from_ashore
use Rattle.coast_c.proofs.events.coast_heard_on_channel_70.Reads as coast_heard_on_channel_70
use Rattle.coast_c.proofs.events.coast_heard_on_slot.Reads as coast_heard_on_slot
use Rattle.coast_c.proofs.events.coast_carrier_up.Reads as coast_carrier_up
use Rattle.coast_c.proofs.events.coast_carrier_down.Reads as coast_carrier_down
use Rattle.coast_c.proofs.events.coast_dialling_ended.Reads as coast_dialling_ended
use Rattle.coast_c.proofs.events.coast_off_hook.Reads as coast_off_hook
use Rattle.coast_c.proofs.events.coast_on_hook.Reads as coast_on_hook
use Rattle.coast_c.proofs.events.coast_take.Reads as coast_take
use Rattle.coast_c.proofs.events.coast_give_back.Reads as coast_give_back

pub coast_read_sequence-settled : (κs : Lfts 2) (a : _) (r r' : _) (s s' : _)
    → coast_read_sequence.Post κs a r s → coast_read_sequence.Post κs a r' s' → (r ≡ r') × (s.1.0.now ≡ s'.1.0.now)
coast_read_sequence-settled κs a r r' s s' p q = (p.0 ∙ sym q.0, p.1 ∙ sym q.1)

pub coast_write_sequence-settled : (κs : Lfts 2) (a : _) (r r' : _) (s s' : _)
    → coast_write_sequence.Post κs a r s → coast_write_sequence.Post κs a r' s' → (r ≡ r') × (s.1.0.now ≡ s'.1.0.now)
coast_write_sequence-settled κs a r r' s s' p q = (p.0 ∙ sym q.0, p.1 ∙ sym q.1)

pub coast_find_sequence-settled : (κs : Lfts 2) (a : _) (r r' : _) (s s' : _)
    → coast_find_sequence.Post κs a r s → coast_find_sequence.Post κs a r' s' → r ≡ r'
coast_find_sequence-settled κs a r r' s s' p q = p ∙ sym q

pub coast_write_character-settled : (κs : Lfts 0) (a : _) (r r' : _) (s s' : _)
    → coast_write_character.Post κs a r s → coast_write_character.Post κs a r' s' → r ≡ r'
coast_write_character-settled κs a r r' s s' p q = p ∙ sym q

pub coast_read_character-settled : (κs : Lfts 0) (a : _) (r r' : _) (s s' : _)
    → coast_read_character.Post κs a r s → coast_read_character.Post κs a r' s' → r ≡ r'
coast_read_character-settled κs a r r' s s' p q = p ∙ sym q

pub coast_write_transmission-settled : (κs : Lfts 2) (a : _) (r r' : _) (s s' : _)
    → coast_write_transmission.Post κs a r s → coast_write_transmission.Post κs a r' s' → (r ≡ r') × (s.1.0.now ≡ s'.1.0.now)
coast_write_transmission-settled κs a r r' s s' p q = (p.0 ∙ sym q.0, p.1 ∙ sym q.1)

pub coast_read_transmission-settled : (κs : Lfts 2) (a : _) (r r' : _) (s s' : _)
    → coast_read_transmission.Post κs a r s → coast_read_transmission.Post κs a r' s' → (r ≡ r') × (s.1.0.now ≡ s'.1.0.now)
coast_read_transmission-settled κs a r r' s s' p q = (p.0 ∙ sym q.0, p.1 ∙ sym q.1)

pub coast_set_up-settled : (κs : Lfts 2) (a : _) (r r' : _) (s s' : _)
    → coast_set_up.Post κs a r s → coast_set_up.Post κs a r' s' → (r ≡ r') × (s.1.1.0.now ≡ s'.1.1.0.now)
coast_set_up-settled κs a r r' s s' p q = (p.0 ∙ sym q.0, p.1 ∙ sym q.1)

pub coast_next_due-settled : (κs : Lfts 1) (a : _) (r r' : _) (s s' : _)
    → coast_next_due.Post κs a r s → coast_next_due.Post κs a r' s' → r ≡ r'
coast_next_due-settled κs a r r' s s' p q = p ∙ sym q

pub coast_clock-settled : (κs : Lfts 1) (a : _) (r r' : _) (s s' : _)
    → coast_clock.Post κs a r s → coast_clock.Post κs a r' s' → r ≡ r'
coast_clock-settled κs a r r' s s' p q = p ∙ sym q

pub coast_tick-settled : (κs : Lfts 2) (a : _) (r r' : _) (s s' : _)
    → coast_tick.Post κs a r s → coast_tick.Post κs a r' s' → (r ≡ r') × (s.0.now ≡ s'.0.now) × (s.1.1.0.now ≡ s'.1.1.0.now)
coast_tick-settled κs a r r' s s' p q = (p.0 ∙ sym q.0, p.1.0 ∙ sym q.1.0, p.1.1 ∙ sym q.1.1)

pub coast_heard_on_channel_70-settled : (κs : Lfts 3) (a : _) (r r' : _) (s s' : _)
    → coast_heard_on_channel_70.Post κs a r s → coast_heard_on_channel_70.Post κs a r' s' → (r ≡ r') × (s.0.now ≡ s'.0.now) × (s.1.1.1.0.now ≡ s'.1.1.1.0.now)
coast_heard_on_channel_70-settled κs a r r' s s' p q = (p.0 ∙ sym q.0, p.1.0 ∙ sym q.1.0, p.1.1 ∙ sym q.1.1)

pub coast_heard_on_slot-settled : (κs : Lfts 3) (a : _) (r r' : _) (s s' : _)
    → coast_heard_on_slot.Post κs a r s → coast_heard_on_slot.Post κs a r' s' → (r ≡ r') × (s.0.now ≡ s'.0.now) × (s.1.1.1.1.0.now ≡ s'.1.1.1.1.0.now)
coast_heard_on_slot-settled κs a r r' s s' p q = (p.0 ∙ sym q.0, p.1.0 ∙ sym q.1.0, p.1.1 ∙ sym q.1.1)

pub coast_carrier_up-settled : (κs : Lfts 2) (a : _) (r r' : _) (s s' : _)
    → coast_carrier_up.Post κs a r s → coast_carrier_up.Post κs a r' s' → (r ≡ r') × (s.0.now ≡ s'.0.now) × (s.1.1.1.0.now ≡ s'.1.1.1.0.now)
coast_carrier_up-settled κs a r r' s s' p q = (p.0 ∙ sym q.0, p.1.0 ∙ sym q.1.0, p.1.1 ∙ sym q.1.1)

pub coast_carrier_down-settled : (κs : Lfts 2) (a : _) (r r' : _) (s s' : _)
    → coast_carrier_down.Post κs a r s → coast_carrier_down.Post κs a r' s' → (r ≡ r') × (s.0.now ≡ s'.0.now) × (s.1.1.1.0.now ≡ s'.1.1.1.0.now)
coast_carrier_down-settled κs a r r' s s' p q = (p.0 ∙ sym q.0, p.1.0 ∙ sym q.1.0, p.1.1 ∙ sym q.1.1)

pub coast_dialling_ended-settled : (κs : Lfts 2) (a : _) (r r' : _) (s s' : _)
    → coast_dialling_ended.Post κs a r s → coast_dialling_ended.Post κs a r' s' → (r ≡ r') × (s.0.now ≡ s'.0.now) × (s.1.1.1.0.now ≡ s'.1.1.1.0.now)
coast_dialling_ended-settled κs a r r' s s' p q = (p.0 ∙ sym q.0, p.1.0 ∙ sym q.1.0, p.1.1 ∙ sym q.1.1)

pub coast_off_hook-settled : (κs : Lfts 2) (a : _) (r r' : _) (s s' : _)
    → coast_off_hook.Post κs a r s → coast_off_hook.Post κs a r' s' → (r ≡ r') × (s.0.now ≡ s'.0.now) × (s.1.1.1.0.now ≡ s'.1.1.1.0.now)
coast_off_hook-settled κs a r r' s s' p q = (p.0 ∙ sym q.0, p.1.0 ∙ sym q.1.0, p.1.1 ∙ sym q.1.1)

pub coast_on_hook-settled : (κs : Lfts 2) (a : _) (r r' : _) (s s' : _)
    → coast_on_hook.Post κs a r s → coast_on_hook.Post κs a r' s' → (r ≡ r') × (s.0.now ≡ s'.0.now) × (s.1.1.1.0.now ≡ s'.1.1.1.0.now)
coast_on_hook-settled κs a r r' s s' p q = (p.0 ∙ sym q.0, p.1.0 ∙ sym q.1.0, p.1.1 ∙ sym q.1.1)

pub coast_take-settled : (κs : Lfts 2) (a : _) (r r' : _) (s s' : _)
    → coast_take.Post κs a r s → coast_take.Post κs a r' s' → (r ≡ r') × (s.0.now ≡ s'.0.now) × (s.1.1.1.0.now ≡ s'.1.1.1.0.now)
coast_take-settled κs a r r' s s' p q = (p.0 ∙ sym q.0, p.1.0 ∙ sym q.1.0, p.1.1 ∙ sym q.1.1)

pub coast_give_back-settled : (κs : Lfts 2) (a : _) (r r' : _) (s s' : _)
    → coast_give_back.Post κs a r s → coast_give_back.Post κs a r' s' → (r ≡ r') × (s.0.now ≡ s'.0.now) × (s.1.1.1.0.now ≡ s'.1.1.1.0.now)
coast_give_back-settled κs a r r' s s' p q = (p.0 ∙ sym q.0, p.1.0 ∙ sym q.1.0, p.1.1 ∙ sym q.1.1)

pub coast_call_from_ashore-settled : (κs : Lfts 3) (a : _) (r r' : _) (s s' : _)
    → coast_call_from_ashore.Post κs a r s → coast_call_from_ashore.Post κs a r' s' → (r ≡ r') × (s.0.now ≡ s'.0.now) × (s.1.1.1.1.1.0.now ≡ s'.1.1.1.1.1.0.now)
coast_call_from_ashore-settled κs a r r' s s' p q = (p.0 ∙ sym q.0, p.1.0 ∙ sym q.1.0, p.1.1 ∙ sym q.1.1)
