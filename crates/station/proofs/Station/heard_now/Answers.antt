use mathlib.Core.Path.{refl, ◌∙◌}
use Rattle.station.proofs.GateLaws.{heard-now, none-so-far, refused-here, judged-err, judged-as}
use Rattle.station.proofs.Station.heard_now.Goals as goal

pub returns-in_err-judge_now : goal.returns-in_err-judge_now
returns-in_err-judge_now c = let x = c.args in
    judged-err _ c.in_err-judge_now.field-0.0 _ c.from_residual.ensures.1 (λ e h. h) (refused-here _ _ c.in_err-judge_now.ensures ∙ heard-now x.self.now x.look c.requires x.size x.time.0 x.symbols.now)

pub returns : goal.returns
returns c = let x = c.args in
    judged-as _ _ (none-so-far c.in_ok-judge_now.ensures refl ∙ heard-now x.self.now x.look c.requires x.size x.time.0 x.symbols.now) c.hears.ensures
