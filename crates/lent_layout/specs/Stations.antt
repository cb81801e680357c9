-- A station's bytes, and the station that bytes stand for.
use Rattle.std.specs.Prelude.{ℕ, Bool, cond, ◌&&◌, List, eqb, length, get_or}
use Rattle.units.specs.declared.Tenths.{Tenths}
use Rattle.units.specs.declared.CallNumber.{CallNumber}
use Rattle.slots.specs.declared.mast.Mast.{Mast}
use Rattle.slots.specs.declared.Slot.{Slot}
use Rattle.slots.specs.declared.Waiting.{Waiting}
use Rattle.station.specs.declared.Station.{Station}
use Rattle.station.specs.Step.{blank_station}
use Rattle.layouts.specs.Fields.{encode, decode}
use Rattle.lent_layout.specs.Layout.{slot_fields, waiting_fields, head_fields, station_fields, station_size, layout_version}
use Rattle.lent_layout.specs.Numbers.{slot_numbers, waiting_numbers, head_numbers, station_numbers, station_in}

unfoldable pub station_bytes : Station → List ℕ
station_bytes s = encode station_fields (station_numbers s)

-- as many bytes as a station takes
unfoldable pub sized : List ℕ → Bool
sized b = eqb (length b) station_size

-- and the version in front, where it stands in every layout
unfoldable pub current : List ℕ → Bool
current b = sized b && eqb (get_or b 0 0) layout_version

-- bytes of another size or another version stand for the blank station, which is not sound: 29
unfoldable pub station_from : List ℕ → Station
station_from b = cond (current b) (station_in (decode station_fields b 0)) blank_station

-- lent bytes of another size stay as they are
unfoldable pub station_laid : Station → List ℕ → List ℕ
station_laid s b = cond (sized b) (station_bytes s) b

-- those of the head, one slot's, and one waiting ship's
unfoldable pub head_bytes : Tenths → Mast → ℕ → ℕ → CallNumber → List ℕ
head_bytes clock mast count waiting last = encode head_fields (head_numbers clock mast count waiting last)

unfoldable pub slot_bytes : Slot → List ℕ
slot_bytes s = encode slot_fields (slot_numbers s)

unfoldable pub waiting_bytes : Waiting → List ℕ
waiting_bytes w = encode waiting_fields (waiting_numbers w)
