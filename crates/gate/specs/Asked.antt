-- "Refusals, in this order": what is asked of an event, by what is seen of the station.
use Rattle.std.specs.Prelude.{ℕ, not, List, [], ◌∷◌, ◌++◌, leb, ltb, Result, Ok, Err}
use Rattle.std.proofs.Math.Option.{Option, none, some}
use Rattle.sequence.specs.Answers as A
use Rattle.sequence.specs.Refusals.{Row}
use Rattle.rules.specs.Rules.Places.{is_some}
use Rattle.rules.specs.Rules.Waits.{if_due}
use Rattle.rules.specs.Rules.Sound.{limit}
use Rattle.rules.specs.Rules.Verdict.{unless, room_needed}
use Rattle.slots.specs.Views.{due_view}
use Rattle.gate.specs.declared.Look.{Look}
use Rattle.gate.specs.declared.Refusal.{Refusal}
use Rattle.gate.specs.declared.Refusal.TheVariants.{Sequence, UnsoundStation, ShortRoom, OverLimit, BeforeClock, WaitDue}
use Rattle.gate.specs.declared.Refusal.TheVariants.{NoSuchSlot, BarredHand, BadSetUp, NoFreeSlot, ShipEngaged}

abbrev pub refusal_number : Refusal → ℕ
refusal_number (Sequence r) = A.refusal_number r
refusal_number UnsoundStation = 29
refusal_number ShortRoom = 30
refusal_number OverLimit = 31
refusal_number BeforeClock = 32
refusal_number WaitDue = 33
refusal_number NoSuchSlot = 34
refusal_number BarredHand = 35
refusal_number BadSetUp = 36
refusal_number NoFreeSlot = 37
refusal_number ShipEngaged = 38

abbrev pub verdict_of : Result (Unit {0}) Refusal → Option ℕ
verdict_of (Ok x) = none
verdict_of (Err r) = some (refusal_number r)

-- of every event: the room's size, the time
abbrev pub asked_always : Look → ℕ → ℕ → List (Row (Option ℕ))
asked_always l size t =
    unless l.sound 29
    ∷ unless (leb room_needed size) 30
    ∷ unless (leb t limit) 31
    ∷ unless (leb l.clock.0 t) 32
    ∷ []

-- of every event but a tick
abbrev pub asked_now : Look → ℕ → ℕ → List (Row (Option ℕ))
asked_now l size t = asked_always l size t ++ (unless (not (is_some (if_due t (due_view l.due)))) 33 ∷ [])

-- of an event on a slot
abbrev pub asked_on_slot : Look → ℕ → ℕ → ℕ → List (Row (Option ℕ))
asked_on_slot l size t i = asked_now l size t ++ (unless (ltb i l.count) 34 ∷ [])
