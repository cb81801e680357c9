use Rattle.station.proofs.PlaceLaws.{queue-length}
use mathlib.Core.Path.{◌≡◌, ◌∙◌}
use lib.ListN.{length}
use borrow.Author.Rules.{rules}
use Rattle.station.proofs.Station.queue_length.Goals as goal

pub returns : goal.returns
returns c =
    let s = c.args.self.now in
    let long : length s.queue ≡ 32 = search rules in
    c.min.ensures ∙ queue-length s long
