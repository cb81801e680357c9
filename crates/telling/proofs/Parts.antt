-- An outcome's actions have two parts: how the call of the slot is closed, and then what is sent, dialled or rung.
use mathlib.Core.List.{List, [], ◌∷◌, ◌++◌, append-nil}
use mathlib.Core.Path.{◌≡◌, refl}
use Rattle.rules.specs.Rules.Words.{carrier_on, carrier_off, acknowledge, call_ship, unable, dial, ringing_on, ringing_off}
use Rattle.rules.specs.Rules.Actions.{Action, does, the_ship, the_coast}
use Rattle.outcomes.specs.declared.Outcome.{Outcome}
use Rattle.outcomes.specs.declared.Outcome.TheVariants.{Ignored, Passes, Turns, Dials, RingsBackAgain, Frees, Clears}
use Rattle.outcomes.specs.declared.Outcome.TheVariants.{CoastEnds, ShipEnds, SaysAgain, Repeats, Renews, Redials}
use Rattle.outcomes.specs.declared.Outcome.TheVariants.{Offers, Joins, Replaces, Unable, Drops}
use Rattle.outcomes.specs.declared.Outcome.TheVariants.{Calls, CallsAgain, StartsRinging, Transmits, DropsCall}
use Rattle.outcomes.specs.Does as D
use Rattle.outcomes.specs.Does.{acts_of, free_acts}
use Rattle.telling.specs.Tells.{ended_acts, again_acts, drop_call_acts}

pub closing : D.Scene → Outcome → List Action
closing sc Clears = does (carrier_off sc.slot) ∷ []
closing sc (CoastEnds k) = ended_acts sc the_coast k
closing sc (ShipEnds k) = ended_acts sc the_ship k
closing sc (SaysAgain n) = again_acts sc n
closing sc (Redials k) = ended_acts sc the_coast k
closing sc (DropsCall rung tone) = drop_call_acts sc rung tone
closing sc Ignored = []
closing sc Passes = []
closing sc (Turns p) = []
closing sc Dials = []
closing sc RingsBackAgain = []
closing sc Frees = []
closing sc Repeats = []
closing sc Renews = []
closing sc Offers = []
closing sc Joins = []
closing sc (Replaces k) = []
closing sc (Unable n) = []
closing sc (Drops k) = []
closing sc Calls = []
closing sc CallsAgain = []
closing sc StartsRinging = []
closing sc Transmits = []

pub saying : D.Scene → Outcome → List Action
saying sc Dials = does (dial sc.slot sc.own.request.number) ∷ []
saying sc RingsBackAgain = does (call_ship sc.slot sc.own.request) ∷ []
saying sc CallsAgain = does (call_ship sc.slot sc.own.request) ∷ []
saying sc Calls = does (carrier_on sc.slot) ∷ does (call_ship sc.slot sc.asked) ∷ []
saying sc StartsRinging = does (ringing_on sc.slot) ∷ []
saying sc Transmits = does (ringing_off sc.slot) ∷ []
saying sc Frees = free_acts sc
saying sc Clears = free_acts sc
saying sc (CoastEnds k) = free_acts sc
saying sc (Redials k) = free_acts sc
saying sc (DropsCall rung tone) = free_acts sc
saying sc Repeats = does (acknowledge sc.slot sc.asked) ∷ []
saying sc Renews = does (acknowledge sc.slot sc.asked) ∷ []
saying sc Offers = does (carrier_on sc.slot) ∷ does (acknowledge sc.slot sc.asked) ∷ []
saying sc Joins = does (unable 103 sc.asked.who sc.asked.number) ∷ []
saying sc (Replaces k) = does (unable 103 sc.asked.who sc.asked.number) ∷ []
saying sc (Unable n) = does (unable n sc.asked.who sc.asked.number) ∷ []
saying sc Ignored = []
saying sc Passes = []
saying sc (Turns p) = []
saying sc (ShipEnds k) = []
saying sc (SaysAgain n) = []
saying sc (Drops k) = []

pub parts : (sc : D.Scene) (o : Outcome) → closing sc o ++ saying sc o ≡ acts_of sc o
unfolding acts_of closing saying
parts sc Ignored = refl
parts sc Passes = refl
parts sc (Turns p) = refl
parts sc Dials = refl
parts sc RingsBackAgain = refl
parts sc Frees = refl
parts sc Clears = refl
parts sc (CoastEnds k) = refl
parts sc (ShipEnds k) = append-nil (ended_acts sc the_ship k)
parts sc (SaysAgain n) = refl
parts sc Repeats = refl
parts sc Renews = refl
parts sc (Redials k) = refl
parts sc Offers = refl
parts sc Joins = refl
parts sc (Replaces k) = refl
parts sc (Unable n) = refl
parts sc (Drops k) = refl
parts sc Calls = refl
parts sc CallsAgain = refl
parts sc StartsRinging = refl
parts sc Transmits = refl
parts sc (DropsCall rung tone) = refl
