-- What an outcome leaves of the records stands for what it leaves of the model.
use Prim.Native.Nat.{ℕ, zero, suc, ◌+◌, ◌-◌, ◌<◌, ◌≤◌}
use mathlib.Core.List.{List, [], ◌∷◌, ◌++◌, map, append_assoc}
use mathlib.Core.Path.{◌≡◌, refl, sym, ap, ◌∙◌}
use native.Mathlib.Omega.{arith}
use lib.ListN.{length, length-take, take, drop, get_or, set}
use lib.Seq.{take_at}
use Rattle.rules.specs.Rules.Places.{drop_at, mod_at}
use Rattle.units.specs.declared.CallNumber.{CallNumber}
use Rattle.rules.specs.Rules.Station as R
use Rattle.rules.specs.Rules.Station.{set_slot, new_call, set_queue}
use Rattle.requests.specs.Views.{viewed}
use Rattle.requests.proofs.ArrayLaws.{viewed-set, viewed-same, viewed-length, mod_at-past}
use Rattle.slots.specs.declared.Slot.{Slot}
use Rattle.slots.specs.Views.{slot_view, channel_of, no_slot}
use Rattle.outcomes.specs.declared.Turn.{Turn}
use Rattle.outcomes.specs.declared.Turn.TheVariants.{Stays, Own, Asked, Oldest}
use Rattle.outcomes.specs.declared.QueueChange.{QueueChange}
use Rattle.outcomes.specs.declared.QueueChange.TheVariants.{Same, Leaves, Joins, Replaces}
use Rattle.outcomes.specs.Does as D
use Rattle.outcomes.specs.Does.{turned, last_after, requeued}
use Rattle.telling.specs.declared.Scene.{Scene}
use Rattle.telling.specs.Tells.{scene_view}
use Rattle.std.specs.List.{copy_within}
use Rattle.station.specs.Changes.{slot_turned, queue_after}

-- ── the slots ──

turned-channel : (sc : Scene) (last : CallNumber) (x : Slot) (w : Turn) → (slot_turned sc last x w).channel ≡ x.channel
turned-channel sc last x Stays = refl
turned-channel sc last x (Own p) = refl
turned-channel sc last x (Asked p) = refl
turned-channel sc last x (Oldest p) = refl

module _ (sc : Scene) (n : ℕ) (a : List Slot) (st : R.Station) (seen : viewed slot_view n a ≡ st.slots) where
  -- the number `last` was the last one given before
  module _ (last : CallNumber) (given : last.0 ≡ st.last_call) where
    pub slots-written : (w : Turn) → viewed slot_view n (set a sc.slot.0 (slot_turned sc (last_after last w) (get_or a sc.slot.0 no_slot) w)) ≡ (turned (scene_view sc) w st).slots
    unfolding turned set_slot new_call scene_view
    slots-written Stays = viewed-same slot_view n a sc.slot.0 _ no_slot refl ∙ seen
    slots-written (Own p) = viewed-set slot_view n a sc.slot.0 _ ∙ ap (mod_at _ sc.slot.0) seen
    slots-written (Asked p) = viewed-set slot_view n a sc.slot.0 _ ∙ rw (given, seen) refl
    slots-written (Oldest p) = viewed-set slot_view n a sc.slot.0 _ ∙ rw (given, seen) refl

  pub channels-written : (last : CallNumber) (w : Turn) → viewed channel_of n (set a sc.slot.0 (slot_turned sc last (get_or a sc.slot.0 no_slot) w)) ≡ viewed channel_of n a
  channels-written last w = viewed-same channel_of n a sc.slot.0 _ no_slot (turned-channel sc last _ w)

  pub slots_kept : n ≤ sc.slot.0 → (w : Turn) → viewed slot_view n a ≡ (turned (scene_view sc) w st).slots
  unfolding turned set_slot new_call scene_view
  slots_kept past w = let h : length (viewed slot_view n a) ≤ sc.slot.0 = omega (arith, viewed-length slot_view n a) in go (rw seen at h) w
    where
      go : length st.slots ≤ sc.slot.0 → (w : Turn) → viewed slot_view n a ≡ (turned (scene_view sc) w st).slots
      go h Stays = seen
      go h (Own p) = seen ∙ sym (mod_at-past _ sc.slot.0 st.slots h)
      go h (Asked p) = seen ∙ sym (mod_at-past _ sc.slot.0 st.slots h)
      go h (Oldest p) = seen ∙ sym (mod_at-past _ sc.slot.0 st.slots h)

-- ── the queue ──

-- the array of which the elements behind the place g are moved up
module _ {A B : Type 0} (v : A → B) where
  moved : (g k m : ℕ) (l r : List A) → m ≡ g + k → m < length l → map v (take m (take g l ++ (take k (drop (suc g) l) ++ r))) ≡ drop_at g (map v (take (suc m) l))
  moved g k m [] r e h = absurd (omega arith)
  moved zero k m (x ∷ l) r e h = let f : m ≡ k = omega arith in rw f (ap (map v) (take_at (take k l) r k (omega (arith, length-take k l))))
  moved (suc g) k zero (x ∷ l) r e h = absurd (omega arith)
  moved (suc g) k (suc m) (x ∷ l) r e h = ap (λ z. v x ∷ z) (moved g k m l r (omega arith) (omega arith))

  pub closed-up : (g n : ℕ) (l z : List A) → g < n → n ≤ length l → z ≡ copy_within l (g + 1) n g → viewed v (n - 1) z ≡ drop_at g (viewed v n l)
  unfolding viewed
  closed-up g n l z h k e =
      let s : g + 1 ≡ suc g = omega arith in
      let t : suc (n - 1) ≡ n = omega arith in
      rw (e, s, append_assoc) (rw t at (moved g (n - suc g) (n - 1) l (drop (g + (n - suc g)) l) (omega arith) (omega arith)))

pub requeued-queue : (sc : D.Scene) (l : QueueChange) (st : R.Station) → queue_after sc.asked l st.queue ≡ (requeued sc l st).queue
unfolding requeued set_queue
requeued-queue sc Same st = refl
requeued-queue sc (Leaves k) st = refl
requeued-queue sc (Joins d) st = refl
requeued-queue sc (Replaces k) st = refl
