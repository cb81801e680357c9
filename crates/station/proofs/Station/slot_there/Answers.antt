use mathlib.Core.Path.{◌≡◌, ◌∙◌}
use native.Mathlib.Omega.{arith}
use lib.ListN.{length}
use borrow.Author.Rules.{rules}
use Rattle.station.proofs.PlaceLaws.{slot-in, slot-past}
use Rattle.station.proofs.Station.slot_there.Goals as goal

pub returns-then-number-min : goal.returns-then-number-min
returns-then-number-min c =
    let s = c.args.self.now in
    let wide : length s.slots ≡ 16 = search rules in
    slot-in s wide c.args.number.0 (omega arith)

pub returns-else-number-min : goal.returns-else-number-min
returns-else-number-min c =
    let s = c.args.self.now in
    let wide : length s.slots ≡ 16 = search rules in
    c.blank_slot.ensures ∙ slot-past s wide c.args.number.0 (omega arith)
