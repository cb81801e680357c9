use mathlib.Core.Path.{sym, ◌∙◌}
use borrow.Author.Tests.{eq-eqb, ne_eqb}
use Rattle.lent_layout.specs.Layout.{request_fields, slot_fields, head_fields}
use Rattle.lent_layout.specs.Stations.{station_laid}
use Rattle.lent_layout.proofs.Computed.{station-size-computed, sized-computed}
use Rattle.lent_layout.proofs.StationLaws.{station-laid}
use Rattle.lent_layout.proofs.lay_station.Goals as goal

pub returns-then-bytes-ne-STATION_SIZE : goal.returns-then-bytes-ne-STATION_SIZE
unfolding station_laid
returns-then-bytes-ne-STATION_SIZE c = rw (sized-computed c.args.bytes.now ∙ ne_eqb _ _ c.if-bytes-ne-STATION_SIZE.true)

pub returns : goal.returns
unfolding station_laid head_fields slot_fields request_fields
returns c = let b = c.args.bytes.now in
    rw (sized-computed b ∙ eq-eqb _ _ c.if-bytes-ne-STATION_SIZE.false, c.lay_records-2.ensures, c.lay_records.ensures, c.lay_head.ensures)
    (station-laid c.args.station.now b (c.if-bytes-ne-STATION_SIZE.false ∙ sym station-size-computed))
