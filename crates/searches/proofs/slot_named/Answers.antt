use Rattle.std.proofs.Common.{rules}
use Rattle.std.proofs.lemmas.Iterator.{YieldsList-from_slice, YieldsList-from_take}
use Rattle.std.proofs.lemmas.Iterator.Search.{position_from_yields_List}
use mathlib.Core.Path.{◌≡◌, ◌∙◌}
use Rattle.rules.specs.Rules.Heard.{same_channel}
use Rattle.slots.specs.Views.{channel_of, found_view}
use Rattle.searches.proofs.SearchLaws.{place, lowest-found}
use Rattle.searches.proofs.slot_named.Goals as goal

pub returns : goal.returns
returns c =
    let found = position_from_yields_List (λ s. same_channel c.args.wanted (channel_of s)) _ _ c.position-place.result c.position-place.ensures.ran (YieldsList-from_take c.args.count (YieldsList-from_slice c.args.slots.now cc) cc) (λ x b q k. search rules) in
    let e : found_view c.map.result ≡ place c.position-place.result = search rules in
    e ∙ lowest-found channel_of (same_channel c.args.wanted) c.args.count c.args.slots.now _ found
