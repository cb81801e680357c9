use Rattle.rules.specs.Rules.Heard.{addressed}
use Rattle.hearing.proofs.heard_in.Goals as goal

pub returns-then-not-is_ours-clause-result_value : goal.returns-then-not-is_ours-clause-result_value
unfolding addressed
returns-then-not-is_ours-clause-result_value c = rw (← c.is_ours.ensures, c.if-not-is_ours.true)

pub returns-clause-result_value : goal.returns-clause-result_value
unfolding addressed
returns-clause-result_value c = rw (c.asked_in-request.ensures, ← c.is_ours.ensures, c.if-not-is_ours.false) (c.kind_of-kind.ensures _ (c.named.ensures c.args.mast))
