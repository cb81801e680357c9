use Rattle.station.specs.Model.{config_of}
use Rattle.gate.specs.declared.Refusal.TheVariants.{Sequence}
use Rattle.station.proofs.GateLaws.{judged-err}
use Rattle.station.proofs.EventLaws.{read-done, read-refused}
use Rattle.station.proofs.Station.hears.Goals as goal

pub returns-in_err-meaning : goal.returns-in_err-meaning
returns-in_err-meaning c =
    judged-err _ (Sequence c.in_err-meaning.field-0.0) _ c.from_residual.ensures.1 (λ e h. h) (read-refused c.args.symbols.now c.in_err-meaning.field-0.0 c.in_err-meaning.ensures)

pub returns : goal.returns
unfolding config_of
returns c =
    let r = read-done c.args.symbols.now c.in_ok-meaning.meaning c.in_ok-meaning.ensures in
    (r.0, rw (← r.1) (c.heard_in.ensures.request_value, c.heard_in.ensures.result_value))
