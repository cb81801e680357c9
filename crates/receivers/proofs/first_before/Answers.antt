use mathlib.Core.Path.{sym, ap, ◌∙◌}
use native.Mathlib.Omega.{arith}
use Rattle.receivers.specs.Finding.{length_at}
use Rattle.receivers.proofs.FirstLaws.{from-the-first, found-later, cut-from}
use Rattle.receivers.proofs.Search.{too-late}
use Rattle.receivers.proofs.first_before.Goals as goal

pub loop-place-init : goal.loop-place-init
loop-place-init c = (c.format_from-place.ensures.0 ∙ from-the-first _, c.requires)

pub loop-place-preserved : goal.loop-place-preserved
loop-place-preserved c = let b = c.args.bytes.now in
    let l = c.loop-place in
    let none = sym (c.in_default.ensures ∙ ap length_at (cut-from b l.place)) in
    let later = sym (found-later b l.place (omega arith) none) in
    (c.format_from-place-in-loop-place.ensures.0 ∙ later ∙ l.invariant.0, l.invariant.1)

pub returns : goal.returns
returns c = let l = c.loop-place in
    sym (too-late _ l.place (omega arith)) ∙ l.invariant.0
