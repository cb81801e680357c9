use mathlib.Core.Path.{refl, ◌∙◌}
use Rattle.rules.specs.Rules.Ashore.{ashore_request}
use Rattle.station.specs.Model.{model_of, config_of}
use Rattle.sequence.specs.declared.Refusal.TheVariants.{BadIdentities, BadTelecommands, BadNumber}
use Rattle.gate.specs.declared.Refusal.TheVariants.{Sequence, ShipEngaged}
use Rattle.station.proofs.GateLaws.{asked-ashore, none-so-far, refused-here, passed-one, failed-one, judged-err}
use Rattle.station.proofs.ShoreLaws.{to-take}
use Rattle.station.proofs.Station.slot_for.Goals as goal

pub returns-in_err-judge_now : goal.returns-in_err-judge_now
returns-in_err-judge_now c = let x = c.args in
    judged-err _ c.in_err-judge_now.field-0.0 _ c.from_residual.ensures.1 (λ e h. h)
    (refused-here _ _ c.in_err-judge_now.ensures ∙ asked-ashore x.self.now x.look c.requires x.size x.time.0 (record { ship = x.ship; mode = x.mode; digits = x.digits.now }))

pub returns-in_err-unless : goal.returns-in_err-unless
returns-in_err-unless c = let x = c.args in
    judged-err _ c.in_err-unless.field-0.0 _ c.from_residual-in_err-unless.ensures.1 (λ e h. h)
    (none-so-far c.in_ok-judge_now.ensures (failed-one _ _ (Sequence BadIdentities) _ (rw c.is_ship.ensures at c.in_err-unless.ensures))
    ∙ asked-ashore x.self.now x.look c.requires x.size x.time.0 (record { ship = x.ship; mode = x.mode; digits = x.digits.now }))

pub returns-in_err-unless-2 : goal.returns-in_err-unless-2
returns-in_err-unless-2 c = let x = c.args in
    judged-err _ c.in_err-unless-2.field-0.0 _ c.from_residual-in_err-unless-2.ensures.1 (λ e h. h)
    (none-so-far c.in_ok-judge_now.ensures (passed-one _ (Sequence BadIdentities) (rw c.is_ship.ensures at c.in_ok-unless.ensures) (failed-one _ _ (Sequence BadTelecommands) _ (rw c.is_mode.ensures at c.in_err-unless-2.ensures)))
    ∙ asked-ashore x.self.now x.look c.requires x.size x.time.0 (record { ship = x.ship; mode = x.mode; digits = x.digits.now }))

pub returns-in_err-unless-3 : goal.returns-in_err-unless-3
returns-in_err-unless-3 c = let x = c.args in
    judged-err _ c.in_err-unless-3.field-0.0 _ c.from_residual-in_err-unless-3.ensures.1 (λ e h. h)
    (none-so-far c.in_ok-judge_now.ensures (passed-one _ (Sequence BadIdentities) (rw c.is_ship.ensures at c.in_ok-unless.ensures) (passed-one _ (Sequence BadTelecommands) (rw c.is_mode.ensures at c.in_ok-unless-2.ensures) (failed-one _ _ (Sequence BadNumber) _ (rw c.digits_keep.ensures at c.in_err-unless-3.ensures))))
    ∙ asked-ashore x.self.now x.look c.requires x.size x.time.0 (record { ship = x.ship; mode = x.mode; digits = x.digits.now }))

pub returns-in_err-unless-4 : goal.returns-in_err-unless-4
unfolding ashore_request config_of
returns-in_err-unless-4 c = let x = c.args in
    judged-err _ c.in_err-unless-4.field-0.0 _ c.from_residual-in_err-unless-4.ensures.1 (λ e h. h)
    (none-so-far c.in_ok-judge_now.ensures (passed-one _ (Sequence BadIdentities) (rw c.is_ship.ensures at c.in_ok-unless.ensures) (passed-one _ (Sequence BadTelecommands) (rw c.is_mode.ensures at c.in_ok-unless-2.ensures) (passed-one _ (Sequence BadNumber) (rw c.digits_keep.ensures at c.in_ok-unless-3.ensures) (failed-one _ _ ShipEngaged _ (rw c.is_engaged-engaged.ensures at c.in_err-unless-4.ensures)))))
    ∙ asked-ashore x.self.now x.look c.requires x.size x.time.0 (record { ship = x.ship; mode = x.mode; digits = x.digits.now }))

pub returns : goal.returns
unfolding ashore_request config_of
returns c = let x = c.args in
    rw c.ok_or.ensures.value (to-take (model_of x.self.now) c.slot_to_take.result c.slot_to_take.ensures _
    (none-so-far c.in_ok-judge_now.ensures (passed-one _ (Sequence BadIdentities) (rw c.is_ship.ensures at c.in_ok-unless.ensures) (passed-one _ (Sequence BadTelecommands) (rw c.is_mode.ensures at c.in_ok-unless-2.ensures) (passed-one _ (Sequence BadNumber) (rw c.digits_keep.ensures at c.in_ok-unless-3.ensures) (passed-one _ ShipEngaged (rw c.is_engaged-engaged.ensures at c.in_ok-unless-4.ensures) refl))))
    ∙ asked-ashore x.self.now x.look c.requires x.size x.time.0 (record { ship = x.ship; mode = x.mode; digits = x.digits.now })))
