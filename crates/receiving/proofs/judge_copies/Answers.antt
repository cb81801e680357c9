use mathlib.Core.Path.{sym}
use native.Mathlib.Omega.{arith}
use Rattle.transmission.specs.Phasing.{characters_of, heard}
use Rattle.transmission.proofs.HeardLaws.{length-heard-bytes}
use Rattle.receiving.proofs.AnswerLaws.{start-most, count-in-most, inside, all-good, all-bad, one-missing}
use Rattle.receiving.proofs.judge_copies.Goals as goal

pub returns-in_default : goal.returns-in_default
returns-in_default c = rw (← all-good _ _ _ c.requires.0 c.requires.1 (sym c.in_default.ensures))

pub overflow_add-start : goal.overflow_add-start
overflow_add-start c = omega (arith, c.requires.0, start-most c.args.characters.now)

pub overflow_add-start-2 : goal.overflow_add-start-2
overflow_add-start-2 c = let t = heard (characters_of c.args.characters.now) in
    let k = inside t _ _ c.requires.0 c.requires.1 _ (sym c.in-Some.ensures) in
    omega (arith, c.requires.0, start-most c.args.characters.now, k, count-in-most t)

pub returns-then-start-k : goal.returns-then-start-k
returns-then-start-k c = let t = heard (characters_of c.args.characters.now) in
    let l = length-heard-bytes c.args.characters.now in
    rw (← all-bad t _ _ c.requires.0 c.requires.1 _ (sym c.in-Some.ensures) _ l c.if-start-k.true)

pub returns : goal.returns
returns c = let t = heard (characters_of c.args.characters.now) in
    let l = length-heard-bytes c.args.characters.now in
    rw (← one-missing t _ _ c.requires.0 c.requires.1 _ (sym c.in-Some.ensures) _ l c.if-start-k.false)
