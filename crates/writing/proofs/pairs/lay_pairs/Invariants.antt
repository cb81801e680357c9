use Rattle.sequence.specs.Symbols.{exclusive_or}
use Rattle.sequence.specs.Number.{evened, pairs_of}
use lib.Seq.{paste}
use lib.ListN.{length, drop}
use mathlib.Core.Path.{◌≡◌}
use Rattle.writing.proofs.pairs.lay_pairs.Given as goal

abbrev pub invariant-loop-j : goal.invariant-loop-j
invariant-loop-j l = let pairs = pairs_of (evened l.number) in record {
  laid : l.room ≡ paste l.initial.room 18 pairs l.j;
  joined : exclusive_or l.check (drop l.j pairs) ≡ exclusive_or l.before pairs;
  wide : length l.room ≡ length l.initial.room;
}
