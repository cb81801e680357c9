-- The finder of the first sequence in two receivers' bytes, for Rattle and for C: neither has a useless version.
use Rattle.std.specs.Prelude.{ℕ, List}
use contract.Lifetimes.{Lfts}
use Rattle.receivers.proofs.find_sequence.Reads as find_sequence
use Rattle.coast.proofs.finding.coast_find_sequence.Reads as coast_find_sequence
use Rattle.useless_versions.specs.Versions.{NoFixedReply}

-- it changes nothing; the refusal is the empty stretch
pub record Heard : Type 0 where
  pub first : List ℕ
  pub second : List ℕ

pub data FindsBy : Heard → List ℕ → Type 0 where
  by-find-sequence : (κs : Lfts 1) (a : _) (r : _) (s : _) → find_sequence.Post κs a r s
      → FindsBy (record { first = a.0.now; second = a.1.0.now }) r.now

unfoldable pub NoUselessFinder : Type 0
NoUselessFinder = NoFixedReply FindsBy

pub data FindsInC : Heard → ℕ → Type 0 where
  by-coast-find-sequence : (κs : Lfts 2) (a : _) (r : _) (s : _) → coast_find_sequence.Post κs a r s
      → FindsInC (record { first = a.0.now; second = a.1.0.now }) r

unfoldable pub NoUselessFindInC : Type 0
NoUselessFindInC = NoFixedReply FindsInC
