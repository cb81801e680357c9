use mathlib.Core.Bool.{cond}
use mathlib.Core.Logic.{inl, inr}
use mathlib.Core.Path.{ap, ◌∙◌}
use Rattle.rules.specs.Rules.Station as R
use Rattle.rules.specs.Rules.Station.{set_clock}
use Rattle.rules.specs.Rules.Requests.{ignored, rule_a}
use Rattle.rules.specs.Rules.Calls.{heard_on70}
use Rattle.requests.specs.Views.{request_of}
use Rattle.outcomes.specs.Does.{out_of, whole_of}
use Rattle.deciding.proofs.RuleLaws.{data_is}
use Rattle.station.specs.Model.{model_of}
use Rattle.station.specs.Pieces.{own_of, whole_at}
use Rattle.station.proofs.AskLaws.{ends_there, data-ends}
use Rattle.station.proofs.Station.choice.Goals as goal

pub returns-in-CallRequest : goal.returns-in-CallRequest
unfolding heard_on70
returns-in-CallRequest c = rw c.in-CallRequest.is c.asked.ensures

pub returns-in-DataRequest : goal.returns-in-DataRequest
unfolding whole_at heard_on70
returns-in-DataRequest c = let x = c.args in
    let q = request_of x.heard.request in
    let st : R.Station = set_clock x.now.time.0 (model_of x.self.now) in
    rw (c.in-DataRequest.is, c.of_none.ensures, c.data_asked.ensures)
    (ends_there 0 _ q _ st (data-ends c.is_being_called-called.result)
    ∙ data_is 0 st (own_of x.self.now 0) q c.is_being_called-called.result
    ∙ ap (λ b. cond b (ignored st) (rule_a st q.who q.number)) (c.is_being_called-called.ensures x.now.time.0))

pub returns-in-Bq : goal.returns-in-Bq
unfolding heard_on70 set_clock
returns-in-Bq c = rw c.in-Bq.is c.agreed.ensures

pub returns-in-WorkingCall : goal.returns-in-WorkingCall
unfolding whole_at whole_of out_of heard_on70
returns-in-WorkingCall c = rw c.of_none-in-WorkingCall.ensures (elim c.in-WorkingCall.is [ inl e ↦ rw e | inr e ↦ elim e [ inl f ↦ rw f | inr f ↦ rw f ] ])
