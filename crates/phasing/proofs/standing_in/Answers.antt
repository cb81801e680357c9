use mathlib.Core.Path.{sym, ◌∙◌}
use native.Mathlib.Omega.{arith}
use Rattle.phasing.proofs.CharacterLaws.{one_more, no_more}
use Rattle.phasing.proofs.standing_in.Goals as goal
use Rattle.phasing.proofs.standing_in.Goals.{then-character_at-character, else-character_at-character}

pub loop-i-preserved : goal.loop-i-preserved
loop-i-preserved c = let l = c.loop-i in
    let h = c.loop-i-test.true in
    let e = c.character_at.ensures in
    elim c.if-character_at-character.branch [
      | then-character_at-character w ↦
          (rw w.count-is (one_more _ _ _ l.i l.count h (sym e ∙ w.if-character_at-character.true) l.invariant.0), omega arith)
      | else-character_at-character w ↦
          (rw w.count-is (no_more _ _ _ l.i l.count h (λ k. w.if-character_at-character.false (e ∙ k)) l.invariant.0), omega arith)
    ]
