-- What the lists of fields come to. tests/header holds include/coast.h to these lines.
use mathlib.Core.Path.{◌≡◌, refl}
use Prim.Native.Nat.{ℕ}
use mathlib.Core.List.{List, [], ◌∷◌}
use lib.Dec.{eqb}
use lib.ListN.{length, take}
use Rattle.layouts.specs.Fields.{places}
use Rattle.lent_layout.specs.Layout.{request_fields, slot_fields, waiting_fields, head_fields, request_size, slot_size, waiting_size, slots_place, queue_place, station_size, layout_version}
use Rattle.lent_layout.specs.Meanings.{meaning_fields, meaning_size}
use Rattle.lent_layout.specs.Stations.{sized}

pub meaning-computed : places 0 (take 11 meaning_fields) ≡ 0 ∷ 4 ∷ 8 ∷ 9 ∷ 10 ∷ 11 ∷ 12 ∷ 13 ∷ 14 ∷ 15 ∷ 16 ∷ []
meaning-computed = refl

pub meaning-size-computed : meaning_size ≡ 32
meaning-size-computed = refl

pub request-computed : places 0 (take 6 request_fields) ≡ 0 ∷ 4 ∷ 8 ∷ 9 ∷ 10 ∷ 11 ∷ []
unfolding request_fields
request-computed = refl

pub slot-computed : places 0 (take 11 slot_fields) ≡ 0 ∷ 1 ∷ 5 ∷ 6 ∷ 10 ∷ 11 ∷ 12 ∷ 13 ∷ 14 ∷ 18 ∷ 22 ∷ []
unfolding slot_fields request_fields
slot-computed = refl

pub waiting-computed : places 0 (take 2 waiting_fields) ≡ 0 ∷ 4 ∷ []
unfolding waiting_fields request_fields
waiting-computed = refl

pub head-computed : places 0 head_fields ≡ 0 ∷ 1 ∷ 5 ∷ 9 ∷ 10 ∷ 11 ∷ []
unfolding head_fields
head-computed = refl

pub request-size-computed : request_size ≡ 27
unfolding request_fields
request-size-computed = refl

pub slot-size-computed : slot_size ≡ 49
unfolding slot_fields request_fields
slot-size-computed = refl

pub waiting-size-computed : waiting_size ≡ 31
unfolding waiting_fields request_fields
waiting-size-computed = refl

pub slots-place-computed : slots_place ≡ 15
unfolding head_fields
slots-place-computed = refl

pub queue-place-computed : queue_place ≡ 799
unfolding head_fields slot_fields request_fields
queue-place-computed = refl

pub station-size-computed : station_size ≡ 1791
unfolding station_size head_fields slot_fields waiting_fields request_fields
station-size-computed = refl

pub layout-version-computed : layout_version ≡ 4
unfolding layout_version
layout-version-computed = refl

pub sized-computed : (b : List ℕ) → sized b ≡ eqb (length b) 1791
unfolding sized
sized-computed b = rw station-size-computed
