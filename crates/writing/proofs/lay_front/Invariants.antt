use lib.Seq.{paste}
use Rattle.sequence.specs.Symbols.{exclusive_or}
use lib.ListN.{length, drop}
use mathlib.Core.Path.{◌≡◌}
use Rattle.writing.proofs.lay_front.Given as goal

abbrev pub invariant-loop-i : goal.invariant-loop-i
invariant-loop-i l = record {
  laid : l.room ≡ paste l.initial.room 0 l.symbols l.i;
  joined : exclusive_or l.check (drop l.i l.symbols) ≡ exclusive_or 0 l.symbols;
  wide : length l.room ≡ length l.initial.room;
}
