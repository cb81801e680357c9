-- The actions handed out: the deeds, the end of a call with its duration, and the charge.
use Rattle.std.specs.Prelude.{ℕ, List, [], ◌∷◌, Option as Optional}
use Rattle.units.specs.declared.Tenths.{Tenths}
use Rattle.units.specs.declared.Seconds.{Seconds}
use Rattle.units.specs.declared.Duration.{Duration}
use Rattle.rules.specs.Rules.Words.{Party, Deed}

-- tenths and charged seconds are records of their own
pub record Charge : Type 0 where
  pub slot : ℕ
  pub ship : ℕ
  pub start : Tenths
  pub stop : Tenths
  pub seconds : Seconds
  pub call_number : ℕ

-- of a slot: its ship, the tenths from which and to which, the seconds, the call number
abbrev pub charge_of : ℕ → ℕ → ℕ → ℕ → ℕ → ℕ → Charge
charge_of i x b e s n =
    record { slot = i; ship = x; start = record { 0 = b }; stop = record { 0 = e }; seconds = record { 0 = s }; call_number = n }

-- "ship, start, stop, seconds"; 02, no. 4: "the charge action carries it as a fifth field"
abbrev pub charge_numbers : Charge → List ℕ
charge_numbers h = h.ship ∷ h.start.0 ∷ h.stop.0 ∷ h.seconds.0 ∷ h.call_number ∷ []

pub data Ender : Type 0 where
  the_ship the_coast : Ender

pub data Action : Type 0 where
  does : Deed → Action
  over : ℕ → Ender → Party → List ℕ → Optional Duration → Action  -- 105/126 on the working channel: slot, who ended, the ship, its number, duration
  charge : Charge → Action
