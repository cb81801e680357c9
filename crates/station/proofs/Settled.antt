-- Any two results that meet a contract are equal.
use mathlib.Core.Path.{◌≡◌, sym, ◌∙◌}
use contract.Lifetimes.{Lfts}
use Rattle.station.proofs.Station.blank.Reads as Station-blank
use Rattle.station.proofs.Station.is_sound.Reads as Station-is_sound
use Rattle.station.proofs.Station.next_due.Reads as Station-next_due
use Rattle.station.proofs.Station.heard_on_channel_70.Reads as Station-heard_on_channel_70
use Rattle.station.proofs.Station.heard_on_slot.Reads as Station-heard_on_slot
use Rattle.station.proofs.Station.plainly.Reads as Station-plainly
use Rattle.station.proofs.Station.dialling_ended.Reads as Station-dialling_ended
use Rattle.station.proofs.Station.off_hook.Reads as Station-off_hook
use Rattle.station.proofs.Station.carrier_up.Reads as Station-carrier_up
use Rattle.station.proofs.Station.carrier_down.Reads as Station-carrier_down
use Rattle.station.proofs.Station.take.Reads as Station-take
use Rattle.station.proofs.Station.on_hook.Reads as Station-on_hook
use Rattle.station.proofs.Station.give_back.Reads as Station-give_back
use Rattle.station.proofs.Station.set_up.Reads as Station-set_up
use Rattle.station.proofs.Station.call_from_ashore.Reads as Station-call_from_ashore
use Rattle.station.proofs.Station.tick.Reads as Station-tick

pub Station-blank-settled : (κs : Lfts 0) (a : _) (r r' : _) (s s' : _)
    → Station-blank.Post κs a r s → Station-blank.Post κs a r' s' → r ≡ r'
Station-blank-settled κs a r r' s s' p q = p ∙ sym q

pub Station-is_sound-settled : (κs : Lfts 0) (a : _) (r r' : _) (s s' : _)
    → Station-is_sound.Post κs a r s → Station-is_sound.Post κs a r' s' → r ≡ r'
Station-is_sound-settled κs a r r' s s' p q = p ∙ sym q

pub Station-next_due-settled : (κs : Lfts 0) (a : _) (r r' : _) (s s' : _)
    → Station-next_due.Post κs a r s → Station-next_due.Post κs a r' s' → r ≡ r'
Station-next_due-settled κs a r r' s s' p q = p ∙ sym q

pub Station-plainly-settled : (κs : Lfts 1) (a : _) (r r' : _) (s s' : _)
    → Station-plainly.Post κs a r s → Station-plainly.Post κs a r' s' → (r ≡ r') × (s.1.1.1.1.0.now ≡ s'.1.1.1.1.0.now)
Station-plainly-settled κs a r r' s s' p q = (p.0 ∙ sym q.0, p.1 ∙ sym q.1)

pub Station-dialling_ended-settled : (κs : Lfts 1) (a : _) (r r' : _) (s s' : _)
    → Station-dialling_ended.Post κs a r s → Station-dialling_ended.Post κs a r' s' → (r ≡ r') × (s.1.1.1.0.now ≡ s'.1.1.1.0.now)
Station-dialling_ended-settled κs a r r' s s' p q = (p.0 ∙ sym q.0, p.1 ∙ sym q.1)

pub Station-off_hook-settled : (κs : Lfts 1) (a : _) (r r' : _) (s s' : _)
    → Station-off_hook.Post κs a r s → Station-off_hook.Post κs a r' s' → (r ≡ r') × (s.1.1.1.0.now ≡ s'.1.1.1.0.now)
Station-off_hook-settled κs a r r' s s' p q = (p.0 ∙ sym q.0, p.1 ∙ sym q.1)

pub Station-carrier_up-settled : (κs : Lfts 1) (a : _) (r r' : _) (s s' : _)
    → Station-carrier_up.Post κs a r s → Station-carrier_up.Post κs a r' s' → (r ≡ r') × (s.1.1.1.0.now ≡ s'.1.1.1.0.now)
Station-carrier_up-settled κs a r r' s s' p q = (p.0 ∙ sym q.0, p.1 ∙ sym q.1)

pub Station-carrier_down-settled : (κs : Lfts 1) (a : _) (r r' : _) (s s' : _)
    → Station-carrier_down.Post κs a r s → Station-carrier_down.Post κs a r' s' → (r ≡ r') × (s.1.1.1.0.now ≡ s'.1.1.1.0.now)
Station-carrier_down-settled κs a r r' s s' p q = (p.0 ∙ sym q.0, p.1 ∙ sym q.1)

pub Station-take-settled : (κs : Lfts 1) (a : _) (r r' : _) (s s' : _)
    → Station-take.Post κs a r s → Station-take.Post κs a r' s' → (r ≡ r') × (s.1.1.1.0.now ≡ s'.1.1.1.0.now)
Station-take-settled κs a r r' s s' p q = (p.0 ∙ sym q.0, p.1 ∙ sym q.1)

pub Station-on_hook-settled : (κs : Lfts 1) (a : _) (r r' : _) (s s' : _)
    → Station-on_hook.Post κs a r s → Station-on_hook.Post κs a r' s' → (r ≡ r') × (s.1.1.1.0.now ≡ s'.1.1.1.0.now)
Station-on_hook-settled κs a r r' s s' p q = (p.0 ∙ sym q.0, p.1 ∙ sym q.1)

pub Station-give_back-settled : (κs : Lfts 1) (a : _) (r r' : _) (s s' : _)
    → Station-give_back.Post κs a r s → Station-give_back.Post κs a r' s' → (r ≡ r') × (s.1.1.1.0.now ≡ s'.1.1.1.0.now)
Station-give_back-settled κs a r r' s s' p q = (p.0 ∙ sym q.0, p.1 ∙ sym q.1)

pub Station-set_up-settled : (κs : Lfts 1) (a : _) (r r' : _) (s s' : _)
    → Station-set_up.Post κs a r s → Station-set_up.Post κs a r' s' → r ≡ r'
Station-set_up-settled κs a r r' s s' p q = p ∙ sym q

pub Station-tick-settled : (κs : Lfts 1) (a : _) (r r' : _) (s s' : _)
    → Station-tick.Post κs a r s → Station-tick.Post κs a r' s' → (r ≡ r') × (s.1.1.0.now ≡ s'.1.1.0.now)
Station-tick-settled κs a r r' s s' p q = (p.0 ∙ sym q.0, p.1 ∙ sym q.1)

pub Station-heard_on_slot-settled : (κs : Lfts 2) (a : _) (r r' : _) (s s' : _)
    → Station-heard_on_slot.Post κs a r s → Station-heard_on_slot.Post κs a r' s' → (r ≡ r') × (s.1.1.1.1.0.now ≡ s'.1.1.1.1.0.now)
Station-heard_on_slot-settled κs a r r' s s' p q = (p.0 ∙ sym q.0, p.1 ∙ sym q.1)

pub Station-heard_on_channel_70-settled : (κs : Lfts 2) (a : _) (r r' : _) (s s' : _)
    → Station-heard_on_channel_70.Post κs a r s → Station-heard_on_channel_70.Post κs a r' s' → (r ≡ r') × (s.1.1.1.0.now ≡ s'.1.1.1.0.now)
Station-heard_on_channel_70-settled κs a r r' s s' p q = (p.0 ∙ sym q.0, p.1 ∙ sym q.1)

pub Station-call_from_ashore-settled : (κs : Lfts 2) (a : _) (r r' : _) (s s' : _)
    → Station-call_from_ashore.Post κs a r s → Station-call_from_ashore.Post κs a r' s' → (r ≡ r') × (s.1.1.1.1.1.0.now ≡ s'.1.1.1.1.1.0.now)
Station-call_from_ashore-settled κs a r r' s s' p q = (p.0 ∙ sym q.0, p.1 ∙ sym q.1)
