-- Any two results that meet a contract are equal.
use mathlib.Core.Path.{◌≡◌, sym, ◌∙◌}
use contract.Lifetimes.{Lfts}
use Rattle.sound_records.proofs.slot_sound.Reads as slot_sound
use Rattle.sound_records.proofs.waiting_sound.Reads as waiting_sound

pub slot_sound-settled : (κs : Lfts 0) (a : _) (r r' : _) (s s' : _) → slot_sound.Post κs a r s → slot_sound.Post κs a r' s' → r ≡ r'
slot_sound-settled κs a r r' s s' p q = p ∙ sym q

pub waiting_sound-settled : (κs : Lfts 0) (a : _) (r r' : _) (s s' : _) → waiting_sound.Post κs a r s → waiting_sound.Post κs a r' s' → r ≡ r'
waiting_sound-settled κs a r r' s s' p q = p ∙ sym q
