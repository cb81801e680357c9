-- A slot and a waiting ship take as many bytes as their fields, and a blank one's are zeros.
use Rattle.std.specs.Prelude.{◌≡◌, refl, length, replicate}
use Rattle.requests.specs.Images.{blank_request}
use Rattle.slots.specs.declared.Slot.{Slot}
use Rattle.slots.specs.declared.Waiting.{Waiting}
use Rattle.slots.specs.Images.{slot_image, blank_slot, blank_waiting}
use Rattle.lent_layout.specs.Layout.{request_fields, slot_fields, waiting_fields, slot_size, waiting_size}
use Rattle.lent_layout.specs.Numbers.{request_numbers, slot_numbers, waiting_numbers}
use Rattle.lent_layout.specs.Stations.{slot_bytes, waiting_bytes}

pub slot-sized : (s : Slot) → length (slot_bytes s) ≡ slot_size
unfolding slot_bytes slot_fields slot_numbers request_fields request_numbers
slot-sized s = refl

pub waiting-sized : (w : Waiting) → length (waiting_bytes w) ≡ waiting_size
unfolding waiting_bytes waiting_fields waiting_numbers request_fields request_numbers
waiting-sized w = refl

pub slot-zeros : slot_bytes blank_slot ≡ replicate slot_size 0
unfolding slot_bytes slot_fields slot_numbers request_fields request_numbers blank_slot slot_image blank_request
slot-zeros = refl

pub waiting-zeros : waiting_bytes blank_waiting ≡ replicate waiting_size 0
unfolding waiting_bytes waiting_fields waiting_numbers request_fields request_numbers blank_waiting blank_request
waiting-zeros = refl
