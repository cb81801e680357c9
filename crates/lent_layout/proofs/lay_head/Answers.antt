use Rattle.lent_layout.specs.Layout.{layout_version}
use Rattle.lent_layout.proofs.StationLaws.{head-laid}
use Rattle.lent_layout.proofs.lay_head.Goals as goal

pub returns : goal.returns
unfolding layout_version
returns c = let s = c.args.station.now in
    rw (c.lay-5.ensures, c.lay-4.ensures, c.lay-3.ensures, c.lay-2.ensures, c.lay.ensures, c.low_first-3.ensures, c.low_first-2.ensures, c.low_first.ensures)
    (head-laid s.clock s.mast s.count s.waiting s.last c.args.bytes.now)
