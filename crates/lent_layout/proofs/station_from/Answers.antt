use mathlib.Core.Path.{sym, ◌∙◌}
use borrow.Author.Tests.{eq-eqb, ne_eqb}
use Rattle.lent_layout.specs.Layout.{request_fields, slot_fields, head_fields, layout_version}
use Rattle.lent_layout.specs.Stations.{current, station_from}
use Rattle.lent_layout.proofs.Computed.{sized-computed}
use Rattle.lent_layout.proofs.StationLaws.{station-read}
use Rattle.lent_layout.proofs.station_from.Goals as goal
use Rattle.lent_layout.proofs.station_from.Goals.{then-bytes-ne-STATION_SIZE-via-then-bytes-ne-STATION_SIZE, then-bytes-ne-STATION_SIZE-via-else-bytes-ne-STATION_SIZE+then-bytes-ne-LAYOUT_VERSION}

pub returns-then-bytes-ne-STATION_SIZE : goal.returns-then-bytes-ne-STATION_SIZE
unfolding station_from current layout_version head_fields slot_fields request_fields
returns-then-bytes-ne-STATION_SIZE c = let b = c.args.bytes.now in
    elim c.then-bytes-ne-STATION_SIZE.branch [
      | then-bytes-ne-STATION_SIZE-via-then-bytes-ne-STATION_SIZE w ↦ rw (sized-computed b ∙ ne_eqb _ _ w.if-bytes-ne-STATION_SIZE.true) c.blank.ensures
      | then-bytes-ne-STATION_SIZE-via-else-bytes-ne-STATION_SIZE+then-bytes-ne-LAYOUT_VERSION w ↦ rw (sized-computed b ∙ eq-eqb _ _ w.if-bytes-ne-STATION_SIZE.false, ne_eqb _ _ w.if-bytes-ne-LAYOUT_VERSION.true) c.blank.ensures
    ]

pub returns : goal.returns
unfolding station_from current layout_version head_fields slot_fields request_fields
returns c = let b = c.args.bytes.now in
    rw (sized-computed b ∙ eq-eqb _ _ c.if-bytes-ne-STATION_SIZE.false, eq-eqb _ _ c.if-bytes-ne-LAYOUT_VERSION.false, c.four_at-3.ensures, c.four_at-2.ensures, c.four_at.ensures, c.records_from-2.ensures, c.records_from.ensures) (sym (station-read b))
