use Rattle.actions.proofs.ActionLaws.{kind-number, made, both, laid, sent-short}
use Rattle.actions.specs.Sent.{sent}
use Rattle.std.specs.Result.{result_unwrap_or}
use lib.ListN.{length}
use native.Mathlib.Omega.{arith}
use mathlib.Core.Path.{◌≡◌, ap, ◌∙◌}
use Rattle.actions.proofs.sequences.send.Goals as goal

pub overflow_cast-length : goal.overflow_cast-length
overflow_cast-length c = let m = c.args.meaning in
    let e : c.unwrap_or-length.result ≡ length (sent m) = c.unwrap_or-length.ensures ∙ ap (λ w. result_unwrap_or w 0) c.write.ensures.value ∙ (laid m).0 in
    omega (arith, sent-short m)

pub returns : goal.returns
returns c = let m = c.args.meaning in
    let e : c.unwrap_or-length.result ≡ length (sent m) = c.unwrap_or-length.ensures ∙ ap (λ w. result_unwrap_or w 0) c.write.ensures.value ∙ (laid m).0 in
    let r = both _ _ (sent m) _ (omega (arith, sent-short m)) (made _ _ _ (sent m) _ e (c.write.ensures.room_written ∙ (laid m).1)) in
    rw (← kind-number c.args.kind) (record { value = r.0; result_value = r.1 })
