use mathlib.Core.Path.{ap, ◌∙◌}
use Rattle.coast.specs.Events.{packed, kept, returned, station_after, room_left}
use Rattle.coast.proofs.DigitLaws.{sliced, called-with}
use Rattle.coast.proofs.shore_calls.coast_call_from_ashore.Goals as goal

pub returns : goal.returns
unfolding returned station_after room_left
returns c = let a = c.args in
    let digits = a.digits.now in
    let q = called-with _ _ c.station_from-by_value.ensures a.time a.ship a.mode a.room.now digits _ (sliced _ _ digits c.min-count.ensures c.numbers_in-numbers.ensures) in
    let stepped = c.call_from_ashore-stepped.ensures.value ∙ q.0 in
    let back = c.hand_back.ensures in
    record { value = back.value ∙ ap packed stepped; station_kept = back.station_kept ∙ ap (kept a.station.now) stepped; room_written = c.call_from_ashore-stepped.ensures.room_written ∙ q.1 }
