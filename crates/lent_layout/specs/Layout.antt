-- The layout of a station in lent bytes: one list of fields, each with its name and its width. Every size and every place is worked
-- out from it.
use Rattle.std.specs.Prelude.{ℕ, zero, suc, ◌+◌, ◌*◌, List, [], ◌∷◌, ◌++◌}
use Prim.Native.String.{String}
use Rattle.sequence.specs.Figures.{most_digits}
use Rattle.layouts.specs.Fields.{Field, row, size}
use Rattle.layouts.specs.Records.{repeated}
use Rattle.rules.specs.Rules.Sound.{most_slots, queue_room}

-- so many fields of one byte
abbrev pub run : String → ℕ → List Field
run name zero = []
run name (suc k) = row name 1 ∷ run name k

unfoldable pub request_fields : List Field
request_fields =
    row "ship" 4 ∷ row "station" 4 ∷ row "mode" 1 ∷ row "second telecommand" 1 ∷ row "count of digits" 1 ∷ run "digit" most_digits

unfoldable pub slot_fields : List Field
slot_fields =
    row "phase" 1
    ∷ row "due time, or since when" 4
    ∷ row "carrier" 1
    ∷ row "due time of a lost carrier" 4
    ∷ row "what was told" 1
    ∷ row "hours" 1
    ∷ row "minutes" 1
    ∷ row "seconds" 1
    ∷ row "channel" 4
    ∷ row "call number" 4
    ∷ request_fields

unfoldable pub waiting_fields : List Field
waiting_fields = row "due time" 4 ∷ request_fields

unfoldable pub head_fields : List Field
head_fields =
    row "version" 1
    ∷ row "clock" 4
    ∷ row "identity" 4
    ∷ row "count of slots" 1
    ∷ row "count of waiting ships" 1
    ∷ row "last call number given" 4
    ∷ []

unfoldable pub station_fields : List Field
station_fields = head_fields ++ (repeated most_slots slot_fields ++ repeated queue_room waiting_fields)

-- moves whenever a field does, or what a number in one stands for
unfoldable pub layout_version : ℕ
layout_version = 4

-- ── sizes and places ─────────────────────────────────────────────────────────

abbrev pub request_size : ℕ
request_size = size request_fields

abbrev pub slot_size : ℕ
slot_size = size slot_fields

abbrev pub waiting_size : ℕ
waiting_size = size waiting_fields

-- the slots stand behind the head, the waiting ships behind the slots
abbrev pub slots_place : ℕ
slots_place = size head_fields

abbrev pub queue_place : ℕ
queue_place = slots_place + slot_size * most_slots

unfoldable pub station_size : ℕ
station_size = queue_place + waiting_size * queue_room
