use mathlib.Core.Path.{sym, ◌∙◌}
use native.Mathlib.Omega.{arith}
use Rattle.transmission.proofs.SymbolLaws.{ends-from-19, ends-here, ends-later}
use Rattle.receiving.proofs.copies.count_of.Goals as goal

pub loop-place-init : goal.loop-place-init
loop-place-init c = ends-from-19 _

pub returns-then-end_ok : goal.returns-then-end_ok
returns-then-end_ok c = let l = c.loop-place in
    sym (ends-here c.args.symbols.now l.place c.loop-place-test.true (omega arith) (sym c.if-end_ok.ensures)) ∙ l.invariant

pub loop-place-preserved : goal.loop-place-preserved
loop-place-preserved c = let l = c.loop-place in
    sym (ends-later c.args.symbols.now l.place c.loop-place-test.true (omega arith) (sym c.if-end_ok.ensures)) ∙ l.invariant
