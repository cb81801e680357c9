use Rattle.std.proofs.Common.{rules}
use Rattle.std.proofs.lemmas.Iterator.{YieldsList-from_slice, YieldsList-from_take}
use Rattle.std.proofs.lemmas.Iterator.Search.{position_from_yields_List}
use mathlib.Core.Path.{◌≡◌, ◌∙◌}
use Rattle.rules.specs.Rules.Station.{is_free}
use Rattle.slots.specs.Views.{slot_view, found_view}
use Rattle.searches.proofs.SearchLaws.{place, lowest-found}
use Rattle.searches.proofs.first_free.Goals as goal

pub returns : goal.returns
returns c =
    let found = position_from_yields_List (λ s. is_free (slot_view s)) _ _ c.position-place.result c.position-place.ensures.ran (YieldsList-from_take c.args.count (YieldsList-from_slice c.args.slots.now cc) cc) (λ x b q k. search rules) in
    let e : found_view c.map.result ≡ place c.position-place.result = search rules in
    e ∙ lowest-found slot_view (is_free) c.args.count c.args.slots.now _ found
