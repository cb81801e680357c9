use Prim.Native.Nat.{min}
use mathlib.Core.List.{map}
use mathlib.Core.Path.{◌≡◌, refl, sym, ap, ◌∙◌}
use native.Mathlib.Omega.{arith}
use lib.ListN.{length, take, length-take}
use lib.Seq.{take_all}
use Rattle.rules.specs.Rules.Bytes.{padded}
use Rattle.requests.specs.Views.{viewed}
use Rattle.requests.proofs.ArrayLaws.{laid_more, viewed-length, viewed-min}
use Rattle.ashore.specs.Stored.{stored_digit, stored_digits}
use Rattle.ashore.proofs.number_from.Goals as goal

pub loop-i-init : goal.loop-i-init
unfolding padded viewed
loop-i-init c = refl

pub loop-i-preserved : goal.loop-i-preserved
loop-i-preserved c = let l = c.loop-i in rw (l.invariant, c.stored_digit.ensures) (laid_more stored_digit 0 16 l.i _ 0 (omega (arith, length-take c.min-count.result c.args.digits.now)) (omega arith))

pub returns : goal.returns
unfolding stored_digits viewed
returns c = let l = c.loop-i in
    let d = c.args.digits.now in
    let t = take c.min-count.result d in
    let n : c.min-count.result ≡ min 16 (length d) = omega arith in
    let e : l.i ≡ length t = omega arith in
    let whole : viewed stored_digit l.i t ≡ viewed stored_digit 16 d =
    ap (λ k. viewed stored_digit k t) e ∙ ap (map stored_digit) (take_all (length t) t (omega arith)) ∙ ap (λ k. viewed stored_digit k d) n ∙ viewed-min stored_digit 16 d in
    let digits : l.stored ≡ padded 0 16 (viewed stored_digit 16 d) = l.invariant ∙ ap (padded 0 16) whole in
    rw (digits, n ∙ sym (viewed-length stored_digit 16 d))
