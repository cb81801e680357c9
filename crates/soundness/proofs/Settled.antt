-- Any two results that meet a contract are equal.
use mathlib.Core.Path.{◌≡◌, sym, ◌∙◌}
use contract.Lifetimes.{Lfts}
use Rattle.soundness.proofs.config_keeps.Reads as config_keeps
use Rattle.soundness.proofs.head_sound.Reads as head_sound

pub config_keeps-settled : (κs : Lfts 1) (a : _) (r r' : _) (s s' : _) → config_keeps.Post κs a r s → config_keeps.Post κs a r' s' → r ≡ r'
config_keeps-settled κs a r r' s s' p q = p ∙ sym q

pub head_sound-settled : (κs : Lfts 0) (a : _) (r r' : _) (s s' : _) → head_sound.Post κs a r s → head_sound.Post κs a r' s' → r ≡ r'
head_sound-settled κs a r r' s s' p q = p ∙ sym q
