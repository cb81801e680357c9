-- The one list of fields, cut into the head, the slots and the waiting ships.
use Prim.Native.Nat.{ℕ, ◌+◌, ◌*◌}
use mathlib.Core.Path.{◌≡◌, refl, sym, ap, ◌∙◌}
use mathlib.Core.Bool.{true}
use mathlib.Core.List.{List, [], ◌∷◌, ◌++◌, flat_map, flatten, append-nil}
use native.Mathlib.Omega.{arith}
use native.Mathlib.Nat.{zero-add}
use lib.ListN.{length, get_or, take, drop, length-append}
use lib.Seq.{drop_at}
use lib.Dec.{eqb}
use borrow.Author.Tests.{eq-eqb}
use Rattle.rules.proofs.Payloads.{padded-length}
use Rattle.units.specs.declared.Tenths.{Tenths}
use Rattle.units.specs.declared.CallNumber.{CallNumber}
use Rattle.slots.specs.declared.mast.Mast.{Mast}
use Rattle.slots.specs.declared.Slot.{Slot}
use Rattle.slots.specs.declared.Waiting.{Waiting}
use Rattle.slots.specs.Views.{alone}
use Rattle.slots.specs.Images.{blank_slot, blank_waiting, tenths}
use Rattle.station.specs.declared.Station.{Station}
use Rattle.layouts.specs.Fields.{size, filled, low_first, number_at, encode, decode_from, decode, laid}
use Rattle.layouts.specs.Records.{repeated, records_at, records_in}
use Rattle.layouts.proofs.FieldLaws.{encode-length, decode-length, laid_all, laid-all, laid-whole}
use Rattle.layouts.proofs.RecordLaws.{encode-behind, decode-behind, encode-repeated, records-decoded, repeated-length, repeated-size, flat_map-length}
use Rattle.lent_layout.specs.Layout.{request_fields, slot_fields, waiting_fields, head_fields, station_fields, layout_version, slot_size, waiting_size, slots_place, queue_place, station_size}
use Rattle.lent_layout.specs.Numbers.{request_numbers, slot_numbers, waiting_numbers, station_numbers, slot_from, waiting_from, in_use, station_in}
use Rattle.lent_layout.specs.Stations.{sized, head_bytes, station_bytes, slot_bytes, waiting_bytes}
use Rattle.lent_layout.specs.Sizes.{slot-sized}

-- ── how many numbers and bytes ───────────────────────────────────────────────

pub slot-numbers : (s : Slot) → length (slot_numbers s) ≡ length slot_fields
unfolding slot_numbers request_numbers slot_fields request_fields
slot-numbers s = refl

pub waiting-numbers : (w : Waiting) → length (waiting_numbers w) ≡ length waiting_fields
unfolding waiting_numbers request_numbers waiting_fields request_fields
waiting-numbers w = refl

pub fields-filled : filled station_fields ≡ true
unfolding station_fields head_fields repeated slot_fields waiting_fields request_fields
fields-filled = refl

fields-size : size station_fields ≡ station_size
unfolding station_size station_fields head_fields repeated slot_fields waiting_fields request_fields
fields-size = refl

-- ── read ─────────────────────────────────────────────────────────────────────

queue-read : (b : List ℕ) (o : ℕ)
    → records_in waiting_from 32 (length waiting_fields) (decode_from (repeated 32 waiting_fields) b 0 o)
    ≡ records_at (λ p. waiting_from (decode waiting_fields b p)) 32 waiting_size o
queue-read b o =
    ap (records_in waiting_from 32 (length waiting_fields)) (sym (append-nil (decode_from (repeated 32 waiting_fields) b 0 o)))
    ∙ records-decoded waiting_from waiting_fields b 32 0 o []
    ∙ ap (records_at (λ p. waiting_from (decode waiting_fields b p)) 32 waiting_size) (zero-add o)

pub station-read : (b : List ℕ)
    → station_in (decode station_fields b 0)
    ≡ record {
      clock = tenths (number_at b 1 4);
      mast = alone (number_at b 5 4);
      count = get_or b 9 0;
      waiting = get_or b 10 0;
      last = record { 0 = number_at b 11 4 };
      slots = in_use blank_slot 16 (get_or b 9 0) (records_at (λ p. slot_from (decode slot_fields b p)) 16 slot_size slots_place);
      queue = in_use blank_waiting 32 (get_or b 10 0) (records_at (λ p. waiting_from (decode waiting_fields b p)) 32 waiting_size queue_place);
    }
unfolding station_in station_fields head_fields
station-read b =
    let first = decode_from (repeated 16 slot_fields) b 0 slots_place in
    let place : slots_place + size (repeated 16 slot_fields) ≡ queue_place = ap (λ k. slots_place + k) (repeated-size 16 slot_fields) in
    let second = decode_from (repeated 32 waiting_fields) b 0 queue_place in
    let many : length first ≡ length slot_fields * 16 = decode-length (repeated 16 slot_fields) b 0 slots_place ∙ repeated-length 16 slot_fields in
    let behind : drop (length slot_fields * 16) (first ++ second) ≡ second = drop_at first second (length slot_fields * 16) many in
    rw (decode-behind (repeated 16 slot_fields) (repeated 32 waiting_fields) b 0 slots_place, place, behind, records-decoded slot_from slot_fields b 16 0 slots_place second, queue-read b queue_place)

-- ── laid ─────────────────────────────────────────────────────────────────────

abbrev pub used_slots : Station → List Slot
used_slots s = in_use blank_slot 16 s.count s.slots

abbrev pub used_queue : Station → List Waiting
used_queue s = in_use blank_waiting 32 s.waiting s.queue

module _ (s : Station) where
  pub slots16 : length (used_slots s) ≡ 16
  unfolding in_use
  slots16 = padded-length blank_slot 16 (take s.count s.slots)

  pub queue32 : length (used_queue s) ≡ 32
  unfolding in_use
  queue32 = padded-length blank_waiting 32 (take s.waiting s.queue)

  pub slots-numbers : length (flat_map slot_numbers (used_slots s)) ≡ length slot_fields * 16
  slots-numbers = flat_map-length slot_numbers (length slot_fields) slot-numbers (used_slots s) ∙ ap (λ k. length slot_fields * k) slots16

  queue-numbers : length (flat_map waiting_numbers (used_queue s)) ≡ length waiting_fields * 32
  queue-numbers = flat_map-length waiting_numbers (length waiting_fields) waiting-numbers (used_queue s) ∙ ap (λ k. length waiting_fields * k) queue32

  pub station-numbers : length (station_numbers s) ≡ length station_fields
  unfolding station_numbers station_fields head_fields
  station-numbers =
      let a = length-append (flat_map slot_numbers (used_slots s)) (flat_map waiting_numbers (used_queue s)) in
      let b = length-append (repeated 16 slot_fields) (repeated 32 waiting_fields) in
      rw (a, b, slots-numbers, queue-numbers, repeated-length 16 slot_fields, repeated-length 32 waiting_fields)

  station-size : length (station_bytes s) ≡ station_size
  unfolding station_bytes
  station-size = encode-length station_fields (station_numbers s) station-numbers ∙ fields-size

  pub station-sized : sized (station_bytes s) ≡ true
  unfolding sized
  station-sized = eq-eqb _ _ station-size

  slots-bytes : encode (repeated 16 slot_fields) (flat_map slot_numbers (used_slots s)) ≡ flat_map slot_bytes (used_slots s)
  unfolding slot_bytes
  slots-bytes = rw slots16 at (encode-repeated slot_numbers slot_fields slot-numbers (used_slots s))

  queue-bytes : encode (repeated 32 waiting_fields) (flat_map waiting_numbers (used_queue s)) ≡ flat_map waiting_bytes (used_queue s)
  unfolding waiting_bytes
  queue-bytes = rw queue32 at (encode-repeated waiting_numbers waiting_fields waiting-numbers (used_queue s))

  abbrev pub head : List ℕ
  head = head_bytes s.clock s.mast s.count s.waiting s.last

  station-bytes : station_bytes s ≡ head ++ (flat_map slot_bytes (used_slots s) ++ flat_map waiting_bytes (used_queue s))
  unfolding station_bytes head_bytes station_fields head_fields station_numbers
  station-bytes =
      let e : length (flat_map slot_numbers (used_slots s)) ≡ length (repeated 16 slot_fields) = slots-numbers ∙ sym (repeated-length 16 slot_fields) in
      rw (encode-behind (repeated 16 slot_fields) (repeated 32 waiting_fields) (flat_map slot_numbers (used_slots s)) (flat_map waiting_numbers (used_queue s)) e, slots-bytes, queue-bytes)

  pub station-first : eqb (get_or (station_bytes s) 0 0) layout_version ≡ true
  unfolding station_bytes station_fields head_fields station_numbers
  station-first = eq-eqb (get_or (station_bytes s) 0 0) layout_version refl

  pub station-laid : (b : List ℕ) → length b ≡ station_size
      → laid (laid (laid b 0 head) slots_place (flat_map slot_bytes (used_slots s))) queue_place (flat_map waiting_bytes (used_queue s)) ≡ station_bytes s
  unfolding flatten head_fields head_bytes
  station-laid b w =
      let first = flat_map slot_bytes (used_slots s) in
      let second = flat_map waiting_bytes (used_queue s) in
      let wide : length first ≡ slot_size * 16 = flat_map-length slot_bytes slot_size slot-sized (used_slots s) ∙ ap (λ k. slot_size * k) slots16 in
      let place : queue_place ≡ 0 + (slots_place + length first) = omega (arith, wide) in
      ap (λ k. laid (laid (laid b 0 head) slots_place first) k second) place
      ∙ laid-all b 0 head (first ∷ second ∷ []) (omega arith)
      ∙ (rw (append-nil second) (ap (laid b 0) (sym station-bytes) ∙ laid-whole b (station_bytes s) (station-size ∙ sym w)))

-- the version, the clock, the identity, the two counts and the last call number
pub head-laid : (clock : Tenths) (mast : Mast) (count waiting : ℕ) (last : CallNumber) (b : List ℕ)
    → laid_all (laid b 0 (layout_version ∷ [])) 0 1
    (low_first 4 clock.0 ∷ low_first 4 mast.identity ∷ (count ∷ waiting ∷ []) ∷ low_first 4 last.0 ∷ [])
    ≡ laid b 0 (head_bytes clock mast count waiting last)
unfolding flatten head_bytes head_fields
head-laid clock mast count waiting last b =
    laid-all b 0 (layout_version ∷ []) (low_first 4 clock.0 ∷ low_first 4 mast.identity ∷ (count ∷ waiting ∷ []) ∷ low_first 4 last.0 ∷ []) (omega arith)
    ∙ (rw (append-nil (low_first 4 last.0)) refl)
