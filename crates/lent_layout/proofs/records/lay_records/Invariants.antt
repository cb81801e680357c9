use mathlib.Core.Path.{◌≡◌}
use mathlib.Core.List.{flat_map}
use lib.ListN.{take}
use Rattle.layouts.specs.Fields.{laid}
use Rattle.lent_layout.proofs.records.lay_records.Given as goal

abbrev pub invariant-loop-i : goal.invariant-loop-i
invariant-loop-i g l = l.room ≡ laid l.initial.room l.place (flat_map g.T.Record.bytes_of (take l.i l.records))
