-- What a slot's record stands for.
use Prim.Native.Nat.{ℕ, zero, suc, ◌<◌, ◌≤◌, min}
use mathlib.Core.List.{List, [], ◌∷◌, map}
use mathlib.Core.Path.{◌≡◌, refl, sym}
use native.Mathlib.Omega.{arith}
use lib.ListN.{length, get_or, take}
use Rattle.rules.specs.Rules.Bytes.{channel_at}
use Rattle.rules.specs.Rules.Station.{the_slot}
use Rattle.requests.specs.Views.{viewed, itself}
use Rattle.requests.proofs.ArrayLaws.{viewed-at, viewed-past, viewed-length}
use Rattle.slots.specs.Images.{blank_slot, blank_waiting, slot_image}
use Rattle.slots.specs.Views.{slot_view, waiting_view, channel_of, no_slot, no_waiting}
use Rattle.station.specs.declared.Station.{Station}
use Rattle.station.specs.Model.{model_of, config_of}
use Rattle.station.specs.Pieces.{slot_of}

seen_at : {A B : Type 0} (v : A → B) (d : A) (n : ℕ) (l : List A) (i : ℕ) → v (get_or (viewed itself n l) i d) ≡ get_or (viewed v n l) i (v d)
unfolding viewed
seen_at {A} v d n l i = go (take n l) i
  where
    go : (l : List A) (i : ℕ) → v (get_or (map itself l) i d) ≡ get_or (map v l) i (v d)
    go [] i = refl
    go (x ∷ l) zero = refl
    go (x ∷ l) (suc i) = go l i

module _ (s : Station) (i : ℕ) where
  pub slot-view : slot_view (slot_of s i) ≡ the_slot (model_of s) i
  unfolding slot_of model_of blank_slot slot_image
  slot-view = seen_at slot_view blank_slot s.count s.slots i

  pub slot-channel : (slot_of s i).channel ≡ channel_at (config_of s) i
  unfolding slot_of config_of blank_slot slot_image
  slot-channel = seen_at channel_of blank_slot s.count s.slots i

-- a record read from the arrays of a station, or a blank one
module _ (s : Station) (wide : length s.slots ≡ 16) where
  pub slot-in : (i : ℕ) → i < min s.count 16 → get_or s.slots i no_slot ≡ slot_of s i
  unfolding slot_of
  slot-in i h = sym (viewed-at itself s.count s.slots i no_slot blank_slot (omega arith) (omega arith))

  pub slot-past : (i : ℕ) → min s.count 16 ≤ i → blank_slot ≡ slot_of s i
  unfolding slot_of
  slot-past i h = sym (viewed-past itself s.count s.slots i blank_slot (omega arith))

module _ (s : Station) (long : length s.queue ≡ 32) where
  pub oldest-in : 0 < min s.waiting 32 → waiting_view (get_or s.queue 0 no_waiting) ≡ get_or (model_of s).queue 0 (waiting_view blank_waiting)
  unfolding model_of
  oldest-in h = sym (viewed-at waiting_view s.waiting s.queue 0 no_waiting (waiting_view blank_waiting) (omega arith) (omega arith))

  pub oldest-past : min s.waiting 32 ≤ 0 → waiting_view blank_waiting ≡ get_or (model_of s).queue 0 (waiting_view blank_waiting)
  unfolding model_of
  oldest-past h = sym (viewed-past waiting_view s.waiting s.queue 0 (waiting_view blank_waiting) (omega arith))

  pub queue-length : min s.waiting 32 ≡ length (model_of s).queue
  unfolding model_of
  queue-length = omega (arith, viewed-length waiting_view s.waiting s.queue)
