-- What a record is held to: the configuration of its station, and that it holds nothing that the model cannot show.
use Rattle.std.specs.Prelude.{ℕ, suc, Bool, true, cond, ◌&&◌, List, [], ◌∷◌, leb, ltb, drop}
use Rattle.sequence.specs.declared.Number.{Number}
use Rattle.sequence.specs.Figures.{most_digits}
use Rattle.sequence.specs.Symbols.{all_at_most}
use Rattle.sequence.specs.Field.{channel_ok}
use Rattle.units.specs.declared.Tenths.{Tenths}
use Rattle.rules.specs.Rules.Sound.{slot_keeps, waiting_keeps, slot_fits, place_fits}
use Rattle.slots.specs.declared.Slot.{Slot}
use Rattle.slots.specs.declared.mast.Mast.{Mast}
use Rattle.slots.specs.declared.Waiting.{Waiting}
use Rattle.slots.specs.Phases.{stored}
use Rattle.slots.specs.Views.{named, slot_view, waiting_view}

-- "The reader sets unused digits of a number to 0": a count within the sixteen places, and 0 behind it
unfoldable pub number_exact : Number → Bool
number_exact n = leb n.count most_digits && all_at_most 0 (drop n.count n.digits)

unfoldable pub slot_exact : Slot → Bool
slot_exact s = cond (stored s.phase) (number_exact s.request.number) true

unfoldable pub waiting_exact : Waiting → Bool
waiting_exact w = number_exact w.request.number

-- ── one record, held to all of it ────────────────────────────────────────────

unfoldable pub slot_sound : Mast → Tenths → Slot → Bool
slot_sound mast clock s =
    channel_ok s.channel
    && (slot_fits clock.0 (slot_view s)
    && (slot_keeps (named mast) (slot_view s) && slot_exact s))

unfoldable pub waiting_sound : Mast → Tenths → Waiting → Bool
waiting_sound mast clock w =
    place_fits clock.0 (waiting_view w)
    && (waiting_keeps (named mast) (waiting_view w) && waiting_exact w)

-- ── the digits of a number in one pass ───────────────────────────────────────

-- what may stand at a place: a digit where one is in use, else 0
abbrev pub most_at : ℕ → ℕ → ℕ
most_at i count = cond (ltb i count) 9 0

-- from the place i on
abbrev pub digits_fit : ℕ → ℕ → List ℕ → Bool
digits_fit count i [] = true
digits_fit count i (d ∷ l) = leb d (most_at i count) && digits_fit count (suc i) l
