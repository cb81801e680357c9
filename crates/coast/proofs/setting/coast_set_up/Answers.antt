use mathlib.Core.Path.{◌≡◌, refl, ◌∙◌}
use borrow.Author.Tests.{eq-eqb, ne_eqb}
use borrow.Author.Rules.{rules}
use Rattle.std.specs.Prelude.{Ok, Err}
use Rattle.slots.specs.Views.{alone}
use Rattle.station.specs.Step.{given, set_up_of, set_up_by}
use Rattle.station.proofs.SetLaws.{too_long, set-up-refused, set-up-numbers}
use Rattle.lent_layout.proofs.Computed.{sized-computed}
use Rattle.coast.specs.Events.{set_up_returned, station_set_up}
use Rattle.coast.proofs.SetUpLaws.{nowhere}
use Rattle.coast.proofs.setting.coast_set_up.Goals as goal

pub returns-then-station-ne-STATION_SIZE : goal.returns-then-station-ne-STATION_SIZE
unfolding set_up_returned station_set_up
returns-then-station-ne-STATION_SIZE c = let a = c.args in
    let other = sized-computed a.station.now ∙ ne_eqb _ _ c.if-station-ne-STATION_SIZE.true in
    record { value = rw other; station_kept = nowhere (set_up_of (given a.identity a.channels.now)) a.station.now other }

pub returns-then-channels-gt-SLOTS : goal.returns-then-channels-gt-SLOTS
unfolding set_up_returned station_set_up
returns-then-channels-gt-SLOTS c = let a = c.args in
    let right = sized-computed a.station.now ∙ eq-eqb _ _ c.if-station-ne-STATION_SIZE.false in
    let u = set-up-refused (given a.identity a.channels.now) (too_long (alone a.identity) a.channels.now c.if-channels-gt-SLOTS.true) in
    record { value = rw (right, ← u) (search rules); station_kept = rw (← u) }

pub returns-in-Ok : goal.returns-in-Ok
unfolding set_up_returned station_set_up
returns-in-Ok c = let a = c.args in
    let right = sized-computed a.station.now ∙ eq-eqb _ _ c.if-station-ne-STATION_SIZE.false in
    let u : Ok c.in-Ok.begun ≡ set_up_of (given a.identity a.channels.now) = unfold set_up_by in c.in-Ok.ensures ∙ rw c.channels_in.ensures (set-up-numbers a.identity a.channels.now _ refl) in
    record { value = rw (right, ← u); station_kept = rw (← u) c.lay_station.ensures }

pub returns-in-Err : goal.returns-in-Err
unfolding set_up_returned station_set_up
returns-in-Err c = let a = c.args in
    let right = sized-computed a.station.now ∙ eq-eqb _ _ c.if-station-ne-STATION_SIZE.false in
    let u : Err c.in-Err.refusal ≡ set_up_of (given a.identity a.channels.now) = unfold set_up_by in c.in-Err.ensures ∙ rw c.channels_in.ensures (set-up-numbers a.identity a.channels.now _ refl) in
    record { value = rw (right, ← u) (search rules); station_kept = rw (← u) }
