-- Any two results that meet a contract are equal.
use mathlib.Core.Path.{◌≡◌}
use contract.Lifetimes.{Lfts}
use Rattle.lines.proofs.ReadLaws.{read-alike}
use Rattle.lines.specs.Readable.{reads_as}
use Rattle.lines.proofs.read.Reads as read

pub read-settled : (κs : Lfts 1) (a : _) (r r' : _) (s s' : _) → read.Post κs a r s → read.Post κs a r' s' → r ≡ r'
read-settled κs a r r' s s' p q = read-alike r r' (reads_as a.0.now) p q
