use mathlib.Core.Path.{◌≡◌, sym, ◌∙◌}
use lib.ListN.{length}
use Rattle.rules.specs.Rules.Bytes.{padded}
use Rattle.slots.specs.Views.{alone}
use Rattle.station.proofs.SetLaws.{set-up-refused, none-chosen, keeps-chosen, set-up-done}
use borrow.Author.Rules.{rules}
use Rattle.station.proofs.Station.set_up.Goals as goal

pub returns-then-count-gt-MOST_SLOTS : goal.returns-then-count-gt-MOST_SLOTS
returns-then-count-gt-MOST_SLOTS c = let a = c.args in
    set-up-refused _ (none-chosen (alone a.identity) a.channels.now a.count c.if-count-gt-MOST_SLOTS.true)

pub returns-then-not-config_keeps : goal.returns-then-not-config_keeps
returns-then-not-config_keeps c = let a = c.args in
    let keeps = keeps-chosen (alone a.identity) a.channels.now a.count (search rules) c.if-count-gt-MOST_SLOTS.false _ c.listed-slots.ensures in
    set-up-refused _ (sym keeps ∙ sym c.config_keeps.ensures ∙ c.if-not-config_keeps.true)

pub returns : goal.returns
unfolding padded
returns c = let a = c.args in
    let w : length a.channels.now ≡ 16 = search rules in
    let keeps = keeps-chosen (alone a.identity) a.channels.now a.count w c.if-count-gt-MOST_SLOTS.false _ c.listed-slots.ensures in
    rw (c.blank_waiting.ensures, c.listed-slots.ensures) (set-up-done (alone a.identity) a.channels.now a.count w c.if-count-gt-MOST_SLOTS.false (sym keeps ∙ sym c.config_keeps.ensures ∙ c.if-not-config_keeps.false))
