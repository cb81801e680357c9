-- An arm for several outcomes, or for all that are left: it is right where it is right for each of them.
use Prim.Native.Nat.{ℕ}
use mathlib.Core.Bool.{Bool}
use mathlib.Core.List.{List}
use mathlib.Core.Path.{◌≡◌}
use mir.Val.{has_key}
use types.Run.{OneOf}
use denote.Enum.Declared.{tag_of}
use Rattle.std.specs.Prelude.{Option as Optional}
use Rattle.units.specs.declared.Duration.{Duration}
use Rattle.slots.specs.declared.Phase.{Phase}
use Rattle.slots.specs.declared.QueuePlace.{QueuePlace}
use Rattle.slots.proofs.PhaseLaws.{Where, where-held}
use Rattle.outcomes.specs.declared.Talk.{Talk}
use Rattle.outcomes.specs.declared.Outcome.{Outcome}
use Rattle.outcomes.specs.declared.Outcome.TheVariants.{Ignored, Passes, Turns, Dials, RingsBackAgain, Frees, Clears, CoastEnds, ShipEnds, SaysAgain, Repeats, Renews, Redials, Offers, Joins, Replaces, Unable, Drops, Calls, CallsAgain, StartsRinging, Transmits, DropsCall}
use Rattle.outcomes.specs.contracts.Outcome as outcome

-- every outcome by its number
abbrev pub EachOutcome : {A : Type 0} → List ℕ → A → (Outcome → A) → Type 0
EachOutcome ks a f =
    Where (has_key ks 0) (a ≡ f Ignored)
    × Where (has_key ks 1) (a ≡ f Passes)
    × ((x : Phase) → Where (has_key ks 2) (a ≡ f (Turns x)))
    × Where (has_key ks 3) (a ≡ f Dials)
    × Where (has_key ks 4) (a ≡ f RingsBackAgain)
    × Where (has_key ks 5) (a ≡ f Frees)
    × Where (has_key ks 6) (a ≡ f Clears)
    × ((x : Talk) → Where (has_key ks 7) (a ≡ f (CoastEnds x)))
    × ((x : Talk) → Where (has_key ks 8) (a ≡ f (ShipEnds x)))
    × ((x : Optional Duration) → Where (has_key ks 9) (a ≡ f (SaysAgain x)))
    × Where (has_key ks 10) (a ≡ f Repeats)
    × Where (has_key ks 11) (a ≡ f Renews)
    × ((x : Talk) → Where (has_key ks 12) (a ≡ f (Redials x)))
    × Where (has_key ks 13) (a ≡ f Offers)
    × Where (has_key ks 14) (a ≡ f Joins)
    × ((x : QueuePlace) → Where (has_key ks 15) (a ≡ f (Replaces x)))
    × ((x : ℕ) → Where (has_key ks 16) (a ≡ f (Unable x)))
    × ((x : QueuePlace) → Where (has_key ks 17) (a ≡ f (Drops x)))
    × Where (has_key ks 18) (a ≡ f Calls)
    × Where (has_key ks 19) (a ≡ f CallsAgain)
    × Where (has_key ks 20) (a ≡ f StartsRinging)
    × Where (has_key ks 21) (a ≡ f Transmits)
    × ((x y : Bool) → Where (has_key ks 22) (a ≡ f (DropsCall x y)))

pub outcome-arm : {A : Type 0} (ks : List ℕ) (a : A) (f : Outcome → A) → EachOutcome ks a f → (o : Outcome) → OneOf ks (tag_of outcome.the_type o) → a ≡ f o
outcome-arm ks a f e Ignored h = where-held ks 0 h e.0
outcome-arm ks a f e Passes h = where-held ks 1 h e.1
outcome-arm ks a f e (Turns x) h = where-held ks 2 h (e.2 x)
outcome-arm ks a f e Dials h = where-held ks 3 h e.3
outcome-arm ks a f e RingsBackAgain h = where-held ks 4 h e.4
outcome-arm ks a f e Frees h = where-held ks 5 h e.5
outcome-arm ks a f e Clears h = where-held ks 6 h e.6
outcome-arm ks a f e (CoastEnds x) h = where-held ks 7 h (e.7 x)
outcome-arm ks a f e (ShipEnds x) h = where-held ks 8 h (e.8 x)
outcome-arm ks a f e (SaysAgain x) h = where-held ks 9 h (e.9 x)
outcome-arm ks a f e Repeats h = where-held ks 10 h e.10
outcome-arm ks a f e Renews h = where-held ks 11 h e.11
outcome-arm ks a f e (Redials x) h = where-held ks 12 h (e.12 x)
outcome-arm ks a f e Offers h = where-held ks 13 h e.13
outcome-arm ks a f e Joins h = where-held ks 14 h e.14
outcome-arm ks a f e (Replaces x) h = where-held ks 15 h (e.15 x)
outcome-arm ks a f e (Unable x) h = where-held ks 16 h (e.16 x)
outcome-arm ks a f e (Drops x) h = where-held ks 17 h (e.17 x)
outcome-arm ks a f e Calls h = where-held ks 18 h e.18
outcome-arm ks a f e CallsAgain h = where-held ks 19 h e.19
outcome-arm ks a f e StartsRinging h = where-held ks 20 h e.20
outcome-arm ks a f e Transmits h = where-held ks 21 h e.21
outcome-arm ks a f e (DropsCall x y) h = where-held ks 22 h (e.22 x y)
