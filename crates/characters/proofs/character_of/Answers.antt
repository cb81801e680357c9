use Prim.Native.Nat.{ℕ, ◌+◌, ◌-◌, ◌*◌, ◌/◌, ◌%◌}
use native.Mathlib.Omega.{arith}
use borrow.Author.Tests.{lt-leb, le-leb}
use lib.Count.{ones}
use Rattle.characters.specs.Code.{zeros, ten_units, character_of}
use Rattle.characters.proofs.RowLaws.{at_place}
use Rattle.characters.proofs.CodeLaws.{ones-in-symbol}
use Rattle.characters.proofs.character_of.Goals as goal

-- the units of a count: computed, the eight entries are these
abbrev units : ℕ → ℕ
units count = 128 * (count / 4) + 256 * (count / 2 % 2) + 512 * (count % 2)

pub returns-then-symbol-gt-LAST_SYMBOL : goal.returns-then-symbol-gt-LAST_SYMBOL
unfolding character_of
returns-then-symbol-gt-LAST_SYMBOL c = rw (lt-leb _ _ c.if-symbol-gt-LAST_SYMBOL.true)

pub overflow_sub-zeros : goal.overflow_sub-zeros
overflow_sub-zeros c = ones-in-symbol c.args.symbol c.if-symbol-gt-LAST_SYMBOL.false

pub overflow_cast-result-2 : goal.overflow_cast-result-2
overflow_cast-result-2 c = omega arith

pub offset_bounds-zeros : goal.offset_bounds-zeros
offset_bounds-zeros c = omega arith

pub bounds-zeros : goal.bounds-zeros
bounds-zeros c = omega arith

pub overflow_add-result : goal.overflow_add-result
overflow_add-result c = omega (arith, at_place units 8 (7 - ones c.args.symbol) (omega arith))

pub returns : goal.returns
unfolding character_of ten_units zeros
returns c = rw (le-leb _ _ c.if-symbol-gt-LAST_SYMBOL.false, at_place units 8 (7 - ones c.args.symbol) (omega arith)) (omega arith)
