-- A verdict is told by its number.
use Prim.Native.Nat.{ℕ, ◌-◌}
use mathlib.Core.List.{[], ◌∷◌}
use mathlib.Core.Path.{◌≡◌, refl, sym, ap, ◌∙◌}
use lib.ListN.{get_or}
use Rattle.std.specs.Prelude.{Result, Ok, Err}
use Rattle.sequence.specs.declared.Refusal.TheVariants as S
use Rattle.gate.specs.declared.Refusal.{Refusal}
use Rattle.gate.specs.declared.Refusal.TheVariants.{Sequence, UnsoundStation, ShortRoom, OverLimit, BeforeClock, WaitDue}
use Rattle.gate.specs.declared.Refusal.TheVariants.{NoSuchSlot, BarredHand, BadSetUp, NoFreeSlot, ShipEngaged}
use Rattle.gate.specs.Asked.{refusal_number, verdict_of}

-- the refusal of a number, from 11 on; no refusal has 22 to 28
refusal_at : ℕ → Refusal
refusal_at n =
    get_or
    (Sequence S.BadLength ∷ Sequence S.BadSymbol ∷ Sequence S.BadCheck ∷ Sequence S.BadFormat ∷ Sequence S.BadIdentities
    ∷ Sequence S.BadCategory ∷ Sequence S.BadTelecommands ∷ Sequence S.BadField ∷ Sequence S.BadNumber ∷ Sequence S.BadEnd
    ∷ Sequence S.ShortRoom ∷ BadSetUp ∷ BadSetUp ∷ BadSetUp ∷ BadSetUp ∷ BadSetUp ∷ BadSetUp ∷ BadSetUp ∷ UnsoundStation ∷ ShortRoom
    ∷ OverLimit ∷ BeforeClock ∷ WaitDue ∷ NoSuchSlot ∷ BarredHand ∷ BadSetUp ∷ NoFreeSlot ∷ ShipEngaged ∷ [])
    (n - 11) BadSetUp

at-number : (r : Refusal) → refusal_at (refusal_number r) ≡ r
unfolding refusal_at
at-number (Sequence S.BadLength) = refl
at-number (Sequence S.BadSymbol) = refl
at-number (Sequence S.BadCheck) = refl
at-number (Sequence S.BadFormat) = refl
at-number (Sequence S.BadIdentities) = refl
at-number (Sequence S.BadCategory) = refl
at-number (Sequence S.BadTelecommands) = refl
at-number (Sequence S.BadField) = refl
at-number (Sequence S.BadNumber) = refl
at-number (Sequence S.BadEnd) = refl
at-number (Sequence S.ShortRoom) = refl
at-number UnsoundStation = refl
at-number ShortRoom = refl
at-number OverLimit = refl
at-number BeforeClock = refl
at-number WaitDue = refl
at-number NoSuchSlot = refl
at-number BarredHand = refl
at-number BadSetUp = refl
at-number NoFreeSlot = refl
at-number ShipEngaged = refl

refusal-one : (a b : Refusal) → refusal_number a ≡ refusal_number b → a ≡ b
refusal-one a b e = sym (at-number a) ∙ ap refusal_at e ∙ at-number b

pub verdict-one : (a b : Result (Unit {0}) Refusal) → verdict_of a ≡ verdict_of b → a ≡ b
verdict-one (Ok x) (Ok y) e = refl
verdict-one (Ok x) (Err b) e = cc
verdict-one (Err a) (Ok y) e = cc
verdict-one (Err a) (Err b) e = ap Err (refusal-one a b cc)
