use Rattle.std.proofs.Common.{rules}
use Rattle.std.proofs.lemmas.Iterator.{YieldsList-from_slice, YieldsList-from_take}
use Rattle.std.proofs.lemmas.Iterator.Search.{position_from_yields_List}
use mathlib.Core.Path.{◌≡◌, ◌∙◌}
use Rattle.rules.specs.Rules.Ashore.{keeps_for}
use Rattle.requests.specs.Views.{party_of}
use Rattle.slots.specs.Views.{slot_view, found_view}
use Rattle.searches.proofs.SearchLaws.{place, lowest-found}
use Rattle.searches.proofs.kept_for.Goals as goal

pub returns : goal.returns
returns c =
    let found = position_from_yields_List (λ s. keeps_for (party_of c.args.ship c.args.station) (slot_view s)) _ _ c.position-place.result c.position-place.ensures.ran (YieldsList-from_take c.args.count (YieldsList-from_slice c.args.slots.now cc) cc) (λ x b q k. search rules) in
    let e : found_view c.map.result ≡ place c.position-place.result = search rules in
    e ∙ lowest-found slot_view (keeps_for (party_of c.args.ship c.args.station)) c.args.count c.args.slots.now _ found
