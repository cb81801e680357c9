-- What the finder for a host in C returns: one number.
use Rattle.std.specs.Prelude.{ℕ, ◌+◌, ◌*◌, ◌^◌, Option as Optional, List, take}
use Rattle.receivers.specs.declared.Receiver.{Receiver}
use Rattle.receivers.specs.declared.Receiver.TheVariants.{First, Second}
use Rattle.receivers.specs.declared.Found.{Found}
use Rattle.receivers.specs.Finding.{handed}

-- a place has the 48 bits from bit 16 on, so bytes behind as many places are not looked at
unfoldable pub reach : ℕ
reach = 2 ^ 48

unfoldable pub in_reach : List ℕ → List ℕ
in_reach b = take reach b

-- "the receiver in bit 8 (0 the first)"
abbrev pub receiver_number : Receiver → ℕ
receiver_number First = 0
receiver_number Second = 1

-- "the length in bits 0 to 7 (0: none, 54)", the receiver, "the place from bit 16 on"
abbrev pub found_number : Found → ℕ
found_number f = f.stretch.count + 256 * receiver_number f.receiver + 65536 * f.stretch.place

unfoldable pub found_returned : Optional Found → ℕ
found_returned f = found_number (handed f)
