use Prim.Native.Nat.{◌+◌, ◌-◌, ◌*◌, ◌%◌}
use native.Mathlib.Omega.{arith}
use lib.ListN.{get_or}
use Rattle.transmission.specs.Phasing.{most_lost}
use Rattle.phasing.proofs.StartLaws.{passed_over, looked-at}
use Rattle.phasing.proofs.start_with.Goals as goal
use Rattle.phasing.proofs.start_with.Goals.{then-symbol-lt-LAST_RX_PHASING_SYMBOL-via-then-symbol-lt-LAST_RX_PHASING_SYMBOL, then-symbol-lt-LAST_RX_PHASING_SYMBOL-via-else-symbol-lt-LAST_RX_PHASING_SYMBOL+then-symbol-gt-FIRST_RX_PHASING_SYMBOL}

pub returns-then-symbol-lt-LAST_RX_PHASING_SYMBOL : goal.returns-then-symbol-lt-LAST_RX_PHASING_SYMBOL
returns-then-symbol-lt-LAST_RX_PHASING_SYMBOL c best b = passed_over c.args.characters.now c.args.i best c.requires b
    (λ q h. elim c.then-symbol-lt-LAST_RX_PHASING_SYMBOL.branch [
      | then-symbol-lt-LAST_RX_PHASING_SYMBOL-via-then-symbol-lt-LAST_RX_PHASING_SYMBOL w ↦ omega (arith, w.if-symbol-lt-LAST_RX_PHASING_SYMBOL.true, h.its-units, h.of-eight)
      | then-symbol-lt-LAST_RX_PHASING_SYMBOL-via-else-symbol-lt-LAST_RX_PHASING_SYMBOL+then-symbol-gt-FIRST_RX_PHASING_SYMBOL w ↦ omega (arith, w.if-symbol-gt-FIRST_RX_PHASING_SYMBOL.true, h.its-units, h.of-eight)
    ])

pub returns-then-i-behind : goal.returns-then-i-behind
returns-then-i-behind c best b = passed_over c.args.characters.now c.args.i best c.requires b
    (λ q h. omega (arith, c.if-i-behind.true, h.its-units, h.its-place))

pub returns : goal.returns
returns c best b = let start = most_lost + c.args.i - (1 + 2 * (111 - get_or c.args.characters.now (2 * c.args.i) 0 % 128)) in
    rw c.start_at.ensures
    (looked-at c.args.characters.now c.args.i best c.requires b start (omega arith)
    (λ q h. omega (arith, h.its-units, h.its-place, h.of-eight)))
