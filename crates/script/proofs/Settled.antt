-- Any two results that meet a contract are equal.
use mathlib.Core.Path.{◌≡◌, sym, ◌∙◌}
use contract.Lifetimes.{Lfts}
use Rattle.script.proofs.Session.begin.Reads as Session-begin
use Rattle.script.proofs.Session.feed.Reads as Session-feed
use Rattle.script.proofs.Session.finish.Reads as Session-finish

pub Session-begin-settled : (κs : Lfts 0) (a : _) (r r' : _) (s s' : _) → Session-begin.Post κs a r s → Session-begin.Post κs a r' s' → r ≡ r'
Session-begin-settled κs a r r' s s' p q = p ∙ sym q

pub Session-feed-settled : (κs : Lfts 2) (a : _) (r r' : _) (s s' : _)
    → Session-feed.Post κs a r s → Session-feed.Post κs a r' s' → (r ≡ r') × (s.1.1.0.now ≡ s'.1.1.0.now)
Session-feed-settled κs a r r' s s' p q = (p.0 ∙ sym q.0, p.1 ∙ sym q.1)

pub Session-finish-settled : (κs : Lfts 1) (a : _) (r r' : _) (s s' : _)
    → Session-finish.Post κs a r s → Session-finish.Post κs a r' s' → (r ≡ r') × (s.1.0.now ≡ s'.1.0.now)
Session-finish-settled κs a r r' s s' p q = (p.0 ∙ sym q.0, p.1 ∙ sym q.1)
