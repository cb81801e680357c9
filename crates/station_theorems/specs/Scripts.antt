-- Every list of events is one that a trace can take: what is claimed of traces is claimed of something.
use Rattle.std.specs.Prelude.{◌≡◌, List}
use Rattle.std.proofs.Math.Option.{none}
use Rattle.rules.specs.Rules.Words.{Config, Event}
use Rattle.rules.specs.Rules.Verdict.{set_up_verdict}
use Rattle.station_theorems.specs.Steps.{Step, Trace, events_in}

pub record Traced (c : Config) (es : List Event) : Type 0 where
  pub steps : List Step
  pub trace : Trace c steps
  pub script : events_in steps ≡ es

unfoldable pub EveryScriptIsTraced : Type 0
EveryScriptIsTraced = (c : Config) → set_up_verdict c ≡ none → (es : List Event) → Traced c es
