use mathlib.Core.Path.{◌≡◌}
use lib.ListN.{length}
use Rattle.rules.specs.Rules.Bytes.{padded}
use Rattle.layouts.specs.Records.{records_at}
use Rattle.lent_layout.proofs.records.records_from.Given as goal

abbrev pub invariant-loop-i : goal.invariant-loop-i
invariant-loop-i g l =
    let r = g.T.Record in
    (l.records ≡ padded r.blank g.row.N (records_at (r.told l.bytes) l.i r.SIZE l.place)) × (length l.records ≡ g.row.N)
