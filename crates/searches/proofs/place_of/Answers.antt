use Rattle.std.proofs.Common.{rules}
use Rattle.std.proofs.lemmas.Iterator.{YieldsList-from_slice, YieldsList-from_take}
use Rattle.std.proofs.lemmas.Iterator.Search.{position_from_yields_List}
use mathlib.Core.Path.{◌≡◌, ◌∙◌}
use Rattle.rules.specs.Rules.Requests.{waits_for}
use Rattle.requests.specs.Views.{party_of}
use Rattle.slots.specs.Views.{waiting_view, place_view}
use Rattle.searches.proofs.SearchLaws.{place, lowest-found}
use Rattle.searches.proofs.place_of.Goals as goal

pub returns : goal.returns
returns c =
    let found = position_from_yields_List (λ s. waits_for (party_of c.args.ship c.args.station) (waiting_view s)) _ _ c.position-place.result c.position-place.ensures.ran (YieldsList-from_take c.args.waiting (YieldsList-from_slice c.args.queue.now cc) cc) (λ x b q k. search rules) in
    let e : place_view c.map.result ≡ place c.position-place.result = search rules in
    e ∙ lowest-found waiting_view (waits_for (party_of c.args.ship c.args.station)) c.args.waiting c.args.queue.now _ found
