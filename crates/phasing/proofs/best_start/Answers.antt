use Prim.Native.Nat.{◌+◌}
use native.Mathlib.Omega.{arith}
use Rattle.transmission.specs.Phasing.{most_lost}
use Rattle.phasing.proofs.StartLaws.{none_before, best-behind, best-whole}
use Rattle.std.specs.Prelude.{Some}
use Rattle.phasing.proofs.best_start.Goals as goal
use Rattle.phasing.proofs.best_start.Goals.{in-Some-best, in-None}

pub loop-i-init : goal.loop-i-init
loop-i-init c = none_before c.args.characters.now

pub returns : goal.returns
returns c = let l = c.loop-i in
    best-behind c.args.characters.now l.i l.best (omega arith) l.invariant

pub returns-then-better-eq-WHOLE_PHASING : goal.returns-then-better-eq-WHOLE_PHASING
returns-then-better-eq-WHOLE_PHASING c = let l = c.loop-i in
    let b = c.in-Some.ensures l.best l.invariant in
    best-whole c.args.characters.now (most_lost + (l.i + 1)) (Some c.match-best.better) c.if-better-eq-WHOLE_PHASING.true
    (elim c.match-best.branch [
      | in-Some-best w ↦ rw (w.better-is, w.better_of-better.ensures) (rw w.in-Some-best.is at b)
      | in-None w ↦ rw w.better-is (rw w.in-None.is at b)
    ])
