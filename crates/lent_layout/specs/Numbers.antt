-- The numbers of a slot, a waiting ship and a station, one for each field, and what so many numbers stand for.
use Rattle.std.specs.Prelude.{ℕ, zero, suc, ◌+◌, ◌*◌, cond, leb, eqb, length, get_or, take, drop}
use mathlib.Core.List.{List, [], ◌∷◌, ◌++◌, flat_map}
use Rattle.units.specs.declared.Tenths.{Tenths}
use Rattle.units.specs.declared.CallNumber.{CallNumber}
use Rattle.sequence.specs.Figures.{most_digits}
use Rattle.rules.specs.Rules.Bytes.{padded}
use Rattle.rules.specs.Rules.Sound.{most_slots, queue_room}
use Rattle.requests.specs.declared.Mode.{Mode}
use Rattle.requests.specs.declared.Mode.TheVariants.{Simplex, Duplex}
use Rattle.requests.specs.declared.Request.{Request}
use Rattle.requests.specs.Images.{blank_request}
use Rattle.slots.specs.declared.Slot.{Slot}
use Rattle.slots.specs.declared.Waiting.{Waiting}
use Rattle.slots.specs.declared.mast.Mast.{Mast}
use Rattle.slots.specs.Views.{alone}
use Rattle.slots.specs.Images.{blank_slot, blank_waiting, tenths}
use Rattle.station.specs.declared.Station.{Station}
use Rattle.phase_fields.specs.declared.PhaseFields.{PhaseFields}
use Rattle.phase_fields.specs.Phases.{phase_fields, phase_from}
use Rattle.layouts.specs.Records.{records_in}
use Rattle.lent_layout.specs.Layout.{slot_fields, waiting_fields, head_fields, layout_version}

-- ── a request ────────────────────────────────────────────────────────────────

-- so many numbers of a list, from a place on
abbrev pub numbers_from : ℕ → ℕ → List ℕ → List ℕ
numbers_from zero i l = []
numbers_from (suc k) i l = get_or l i 0 ∷ numbers_from k (i + 1) l

-- 0 simplex, 1 duplex
abbrev pub mode_mark : Mode → ℕ
mode_mark Simplex = 0
mode_mark Duplex = 1

unfoldable pub request_numbers : Request → List ℕ
request_numbers q =
    q.ship ∷ q.station ∷ mode_mark q.mode ∷ q.second ∷ q.number.count ∷ numbers_from most_digits 0 q.number.digits

abbrev pub mode_from : ℕ → Mode
mode_from mark = cond (eqb mark 0) Simplex Duplex

-- a mode that is neither gives the blank request, which no station may store
unfoldable pub request_from : List ℕ → Request
request_from ns =
    cond (leb (get_or ns 2 0) 1)
    (record {
      ship = get_or ns 0 0;
      station = get_or ns 1 0;
      mode = mode_from (get_or ns 2 0);
      second = get_or ns 3 0;
      number = record { count = get_or ns 4 0; digits = drop 5 ns };
    })
    blank_request

-- ── a slot, a waiting ship, a station ────────────────────────────────────────

abbrev pub phase_numbers : PhaseFields → List ℕ → List ℕ
phase_numbers f l =
    f.kind
    ∷ f.time
    ∷ f.carrier.mark
    ∷ f.carrier.due
    ∷ f.lasted.mark
    ∷ f.lasted.hours
    ∷ f.lasted.minutes
    ∷ f.lasted.seconds
    ∷ l

unfoldable pub slot_numbers : Slot → List ℕ
slot_numbers s = phase_numbers (phase_fields s.phase) (s.channel.0 ∷ s.call.0 ∷ request_numbers s.request)

unfoldable pub waiting_numbers : Waiting → List ℕ
waiting_numbers w = w.due.0 ∷ request_numbers w.request

-- the first n places of an array; every place behind them blank
unfoldable pub in_use : {A : Type 0} → A → ℕ → ℕ → List A → List A
in_use blank room n l = padded blank room (take n l)

abbrev pub head_numbers : Tenths → Mast → ℕ → ℕ → CallNumber → List ℕ
head_numbers clock mast count waiting last = layout_version ∷ clock.0 ∷ mast.identity ∷ count ∷ waiting ∷ last.0 ∷ []

unfoldable pub station_numbers : Station → List ℕ
station_numbers s =
    head_numbers s.clock s.mast s.count s.waiting s.last
    ++ (flat_map slot_numbers (in_use blank_slot most_slots s.count s.slots)
    ++ flat_map waiting_numbers (in_use blank_waiting queue_room s.waiting s.queue))

abbrev pub phase_in : List ℕ → PhaseFields
phase_in ns =
    record {
      kind = get_or ns 0 0;
      time = get_or ns 1 0;
      carrier = record { mark = get_or ns 2 0; due = get_or ns 3 0 };
      lasted = record { mark = get_or ns 4 0; hours = get_or ns 5 0; minutes = get_or ns 6 0; seconds = get_or ns 7 0 };
    }

unfoldable pub slot_from : List ℕ → Slot
slot_from ns =
    record {
      phase = phase_from (phase_in ns);
      channel = record { 0 = get_or ns 8 0 };
      call = record { 0 = get_or ns 9 0 };
      request = request_from (drop 10 ns);
    }

unfoldable pub waiting_from : List ℕ → Waiting
waiting_from ns = record { due = tenths (get_or ns 0 0); request = request_from (drop 1 ns) }

unfoldable pub station_in : List ℕ → Station
station_in ns =
    record {
      clock = tenths (get_or ns 1 0);
      mast = alone (get_or ns 2 0);
      count = get_or ns 3 0;
      waiting = get_or ns 4 0;
      last = record { 0 = get_or ns 5 0 };
      slots = in_use blank_slot most_slots (get_or ns 3 0) (records_in slot_from most_slots (length slot_fields) (drop (length head_fields) ns));
      queue =
          in_use blank_waiting queue_room (get_or ns 4 0)
          (records_in waiting_from queue_room (length waiting_fields) (drop (length slot_fields * most_slots) (drop (length head_fields) ns)));
    }
