-- What is gathered of a station's records, and what is asked of a station beside them.
use Rattle.std.specs.Prelude.{ℕ, Bool, cond, ◌&&◌, List, [], ◌∷◌, leb}
use Rattle.units.specs.declared.Tenths.{Tenths}
use Rattle.rules.specs.Rules.Sound.{identity_keeps, most_slots, queue_room, limit}
use Rattle.slots.specs.declared.Slot.{Slot}
use Rattle.slots.specs.declared.Waiting.{Waiting}
use Rattle.slots.specs.declared.mast.Mast.{Mast}
use Rattle.slots.specs.Views.{named}
use Rattle.slots.specs.Phases.{owned}

-- n slots and m waiting ships
unfoldable pub head_sound : Mast → Tenths → ℕ → ℕ → Bool
head_sound mast clock n m =
    leb n most_slots
    && (leb m queue_room
    && (leb 1 n
    && (identity_keeps (named mast) && leb clock.0 limit)))

abbrev pub number_of : Slot → ℕ
number_of s = s.channel.0

-- the ships of the slots that are a ship's
abbrev pub ships_of : List Slot → List ℕ
ships_of [] = []
ships_of (s ∷ l) = cond (owned s.phase) (s.request.ship ∷ ships_of l) (ships_of l)

abbrev pub ship_at : Waiting → ℕ
ship_at w = w.request.ship
