-- Every list of events is one that a host can hand in: what is claimed of a host's calls is claimed of something.
use Rattle.std.specs.Prelude.{ℕ, ◌<◌, ◌≡◌, List, map, length}
use Rattle.std.proofs.Math.Option.{none}
use Rattle.rules.specs.Rules.Words.{Config, Event}
use Rattle.rules.specs.Rules.Station.{Station}
use Rattle.rules.specs.Rules.Verdict.{verdict, set_up_verdict}
use Rattle.host_theorems.specs.Calls.{Call, HostRun, WhatInC}

pub record Hosted (c : Config) (es : List Event) (rooms : List (List ℕ)) : Type 0 where
  pub calls : List Call
  pub run : HostRun c calls
  pub script : map (λ x. x.event) calls ≡ es
  pub lent : map (λ x. x.lent) calls ≡ rooms

-- with rooms of the length that each event tells, whatever they hold
unfoldable pub EveryScriptIsHosted : Type 0
EveryScriptIsHosted = (c : Config) → set_up_verdict c ≡ none
    → (es : List Event) (rooms : List (List ℕ)) → map length rooms ≡ map (λ e. e.room) es → Hosted c es rooms

-- contracts know numbers without bounds; an event with one that C cannot hand in is refused
unfoldable pub AcceptedIsInC : Type 0
AcceptedIsInC = (c : Config) (st : Station) (e : Event) → verdict c st e ≡ none → (e.time < 4294967296) × WhatInC e.what
