use mathlib.Core.Path.{◌≡◌, sym, ◌∙◌}
use native.Mathlib.Omega.{arith}
use lib.ListN.{length}
use Rattle.std.proofs.Common.{rules}
use Rattle.std.proofs.lemmas.List.{ext_get_or}
use Rattle.rules.specs.Rules.Bytes.{padded}
use Rattle.requests.specs.Views.{viewed, itself}
use Rattle.rules.proofs.Payloads.{padded-length}
use Rattle.slots.proofs.TidyLaws.{digit-at}
use Rattle.slots.proofs.laying.cleared.Goals as goal

pub returns : goal.returns
returns c =
    let x = c.args in
    let g = c.loop-place in
    let l = viewed itself x.count x.digits in
    let long : length g.digit-items ≡ 16 = search rules in
    let wide : length x.digits ≡ 16 = search rules in
    ext_get_or 0 g.digit-items (padded 0 16 l) (long ∙ sym (padded-length 0 16 l)) (λ k h. g.invariant.done k (omega arith) ∙ sym (digit-at 16 x.count x.digits k wide (omega arith)))
