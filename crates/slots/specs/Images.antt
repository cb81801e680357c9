-- How slots and waiting ships are laid out for what they stand for, every unused place blank.
use Rattle.std.specs.Prelude.{ℕ, ◌≤◌, List, [], ◌∷◌, ◌≡◌, length}
use Rattle.std.proofs.Math.Option.{Option, none, some}
use Rattle.units.specs.declared.CallNumber.{CallNumber}
use Rattle.units.specs.declared.Channel.{Channel}
use Rattle.units.specs.declared.Tenths.{Tenths}
use Rattle.sequence.specs.Figures.{most_digits}
use Rattle.rules.specs.Rules.Words.{Config, Request as Asked}
use Rattle.rules.specs.Rules.Places.{Each}
use Rattle.rules.specs.Rules.Station as R
use Rattle.rules.specs.Rules.Station.{free, call_number_in}
use Rattle.rules.specs.Rules.Sound.{most_slots, queue_room}
use Rattle.requests.specs.declared.Request.{Request}
use Rattle.requests.specs.Images.{request_image, blank_request}
use Rattle.slots.specs.declared.Slot.{Slot}
use Rattle.slots.specs.declared.Waiting.{Waiting}
use Rattle.slots.specs.Phases.{phase_image, kept_in}
use Rattle.slots.specs.Views.{slot_view, waiting_view}

abbrev pub tenths : ℕ → Tenths
tenths n = record { 0 = n }

abbrev pub image_or : Option R.Dealing → Request
image_or none = blank_request
image_or (some r) = request_image r.request

abbrev pub stored_image : R.Slot → Request
stored_image s = image_or (kept_in s)

abbrev pub number_image : R.Slot → CallNumber
number_image s = record { 0 = call_number_in s }

unfoldable pub slot_image : Channel → R.Slot → Slot
slot_image c s = record { phase = phase_image s; channel = c; call = number_image s; request = stored_image s }

unfoldable pub waiting_image : R.Waiting → Waiting
waiting_image w = record { due = tenths w.due; request = request_image w.request }

-- a free slot on a channel
unfoldable pub free_on : Channel → Slot
free_on c = slot_image c free

unfoldable pub blank_slot : Slot
blank_slot = slot_image (record { 0 = 0 }) free

unfoldable pub blank_waiting : Waiting
blank_waiting = record { due = tenths 0; request = blank_request }

-- a record laid out anew
unfoldable pub tidy_slot : Slot → Slot
tidy_slot s = slot_image s.channel (slot_view s)

unfoldable pub tidy_waiting : Waiting → Waiting
tidy_waiting w = waiting_image (waiting_view w)

-- each slot beside its channel
abbrev pub slot_images : List Channel → List R.Slot → List Slot
slot_images [] ss = []
slot_images (c ∷ cs) [] = []
slot_images (c ∷ cs) (s ∷ ss) = slot_image c s ∷ slot_images cs ss

-- what fits in the arrays: one slot for each channel, so many at most, the waiting ships, the digits of a number
abbrev pub Short : Asked → Type 0
Short r = length r.number ≤ most_digits

abbrev pub ShortOr : Option R.Dealing → Type 0
ShortOr none = Unit {0}
ShortOr (some r) = Short r.request

abbrev pub ShortSlot : R.Slot → Type 0
ShortSlot s = ShortOr (kept_in s)

pub record Fits (c : Config) (m : R.Station) : Type 0 where
  pub beside : length c.channels ≡ length m.slots
  pub few : length m.slots ≤ most_slots
  pub few_wait : length m.queue ≤ queue_room
  pub short_slots : Each ShortSlot m.slots
  pub short_queue : Each (λ w. Short w.request) m.queue
