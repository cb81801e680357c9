use mathlib.Core.Path.{◌≡◌}
use lib.ListN.{length, take}
use Rattle.printing.specs.Texts.{numbers_text, Put}
use Rattle.printing.proofs.texts.put_fields.Given as goal

abbrev pub invariant-loop-number : goal.invariant-loop-number
invariant-loop-number l = Put l.initial.out l.out l.at l.next (numbers_text (take l.number-index l.numbers)) × (length l.out ≡ length l.initial.out)
