-- An outcome carried out on a station's records is carried out on its model.
use Prim.Native.Nat.{ℕ, ◌<◌, ◌≤◌, min}
use mathlib.Core.List.{List}
use mathlib.Core.Logic.{◌⊎◌, inl, inr}
use mathlib.Core.Path.{◌≡◌, sym, ap, ◌∙◌}
use native.Mathlib.Omega.{arith}
use lib.ListN.{length, length-set, get_or, set}
use Rattle.units.specs.declared.SlotNumber.{SlotNumber}
use Rattle.units.specs.declared.Tenths.{Tenths}
use Rattle.rules.specs.Rules.Sound.{limit}
use Rattle.rules.specs.Rules.Station as R
use Rattle.rules.specs.Rules.Station.{set_clock}
use Rattle.requests.specs.declared.Request.{Request}
use Rattle.requests.specs.Views.{viewed, request_of}
use Rattle.requests.proofs.ArrayLaws.{viewed-min, viewed-length}
use Rattle.slots.specs.declared.Slot.{Slot}
use Rattle.slots.specs.Views.{slot_view, waiting_view, channel_of, on_mast, no_slot}
use Rattle.outcomes.specs.declared.Outcome.{Outcome}
use Rattle.outcomes.specs.declared.QueueChange.{QueueChange}
use Rattle.outcomes.specs.declared.Turn.{Turn}
use Rattle.outcomes.specs.Does as D
use Rattle.outcomes.specs.Does.{scene_of, turn_of, queue_change, last_after, requeued, turned, applied}
use Rattle.telling.specs.declared.Scene.{Scene}
use Rattle.telling.specs.Tells.{scene_view}
use Rattle.station.specs.declared.Station.{Station}
use Rattle.station.specs.Model.{model_of, config_of}
use Rattle.station.specs.Changes.{slot_turned, queue_after}
use Rattle.station.specs.Pieces.{Shows, out_at}
use Rattle.station.proofs.ApplyLaws.{requeued-slots, requeued-last, turned-last, moved-is}
use Rattle.station.proofs.ChangeLaws.{slots-written, channels-written, slots_kept, requeued-queue}
use Rattle.station.proofs.SceneLaws.{queue-is}

module _ (s : Station) (t : Tenths) (i : SlotNumber) (q : Request) (sc : Scene) (o : Outcome) (late : t.0 ≤ limit) (shows : Shows s t i (request_of q) sc)
    (change : QueueChange) (changes : change ≡ queue_change t sc.ringable o) where
  -- the model at the event's time
  abbrev before : R.Station
  before = set_clock t.0 (model_of s)

  abbrev during : R.Station
  during = requeued (scene_view sc) change before

  -- ── the queue ──
  module _ (long : length s.queue ≡ 32) (n : ℕ) (waits : n ≡ length (model_of s).queue) where
    seen-queue : viewed waiting_view n s.queue ≡ before.queue
    unfolding model_of set_clock
    seen-queue = ap (λ z. viewed waiting_view z s.queue) (waits ∙ viewed-length waiting_view s.waiting s.queue) ∙ viewed-min waiting_view s.waiting s.queue

    pub queue-left : queue_after (request_of q) change (viewed waiting_view n s.queue) ≡ during.queue
    unfolding scene_view scene_of
    queue-left =
        ap (queue_after (request_of q) change) seen-queue
        ∙ ap (λ (z : D.Scene). queue_after z.asked change before.queue) (sym shows.0)
        ∙ requeued-queue (scene_view sc) change before

    pub queue-out : queue_after (request_of q) change (viewed waiting_view n s.queue) ≡ (out_at s t i (request_of q) o).next.queue
    queue-out = queue-left ∙ ap (λ z. (requeued (scene_view sc) z before).queue) changes ∙ sym (queue-is s t i (request_of q) sc o late shows)

  -- ── the slots ──
  module _ (turn : Turn) (turns : turn ≡ turn_of t sc.ringable o) (wide : length s.slots ≡ 16) (n : ℕ) (few : n ≡ min s.count 16) (a : List Slot)
      (written : ((i.0 < n) × (a ≡ set s.slots i.0 (slot_turned sc (last_after s.last turn) (get_or s.slots i.0 no_slot) turn))) ⊎ ((n ≤ i.0) × (a ≡ s.slots))) where
    slots-seen : viewed slot_view n s.slots ≡ during.slots
    unfolding model_of set_clock
    slots-seen =
        let m : n ≡ min s.count (length s.slots) = omega (arith, few, wide) in
        ap (λ z. viewed slot_view z s.slots) m ∙ viewed-min slot_view s.count s.slots ∙ sym (requeued-slots (scene_view sc) change before)

    last-seen : s.last.0 ≡ during.last_call
    unfolding model_of set_clock
    last-seen = sym (requeued-last (scene_view sc) change before)

    number : sc.slot.0 ≡ i.0
    unfolding scene_view scene_of
    number = ap (λ (z : D.Scene). z.slot) shows.0

    pub slots-turned : viewed slot_view n a ≡ (turned (scene_view sc) turn during).slots
    slots-turned = go written
      where
        go : ((i.0 < n) × (a ≡ set s.slots i.0 (slot_turned sc (last_after s.last turn) (get_or s.slots i.0 no_slot) turn))) ⊎ ((n ≤ i.0) × (a ≡ s.slots)) → viewed slot_view n a ≡ (turned (scene_view sc) turn during).slots
        go (inl w) = ap (viewed slot_view n) w.1
            ∙ ap (λ j. viewed slot_view n (set s.slots j (slot_turned sc (last_after s.last turn) (get_or s.slots j no_slot) turn))) (sym number)
            ∙ slots-written sc n s.slots during slots-seen s.last last-seen turn
        go (inr w) = ap (viewed slot_view n) w.1 ∙ slots_kept sc n s.slots during slots-seen (omega (arith, number)) turn

    channels-kept : viewed channel_of n a ≡ viewed channel_of n s.slots
    channels-kept = go written
      where
        go : ((i.0 < n) × (a ≡ set s.slots i.0 (slot_turned sc (last_after s.last turn) (get_or s.slots i.0 no_slot) turn))) ⊎ ((n ≤ i.0) × (a ≡ s.slots)) → viewed channel_of n a ≡ viewed channel_of n s.slots
        go (inl w) = ap (viewed channel_of n) w.1
            ∙ ap (λ j. viewed channel_of n (set s.slots j (slot_turned sc (last_after s.last turn) (get_or s.slots j no_slot) turn))) (sym number)
            ∙ channels-written sc n s.slots during slots-seen (last_after s.last turn) turn
        go (inr w) = ap (viewed channel_of n) w.1

    pub still-wide : length a ≡ 16
    still-wide = go written
      where
        go : ((i.0 < n) × (a ≡ set s.slots i.0 (slot_turned sc (last_after s.last turn) (get_or s.slots i.0 no_slot) turn))) ⊎ ((n ≤ i.0) × (a ≡ s.slots)) → length a ≡ 16
        go (inl w) = ap length w.1 ∙ length-set s.slots i.0 _ ∙ wide
        go (inr w) = ap length w.1 ∙ wide

    pub config-kept : (x : Station) → x.mast ≡ s.mast → x.count ≡ n → x.slots ≡ a → config_of x ≡ config_of s
    unfolding config_of
    config-kept x m c e =
        let k : n ≡ min s.count (length s.slots) = omega (arith, few, wide) in
        ap (λ z. on_mast z (viewed channel_of x.count x.slots)) m
        ∙ ap (λ z. on_mast s.mast (viewed channel_of z x.slots)) c
        ∙ ap (λ z. on_mast s.mast (viewed channel_of n z)) e
        ∙ ap (on_mast s.mast) (channels-kept ∙ ap (λ z. viewed channel_of z s.slots) k ∙ viewed-min channel_of s.count s.slots)

    -- a station whose records were so changed
    pub moved : (x : Station) → x.clock ≡ t → x.last ≡ last_after s.last turn → x.count ≡ n → x.slots ≡ a → viewed waiting_view x.waiting x.queue ≡ during.queue
        → model_of x ≡ (applied (scene_view sc) o before).next
    unfolding model_of set_clock scene_view
    moved x b l c e f =
        let v = scene_view sc in
        moved-is v o before (model_of x) (ap (λ (z : Tenths). z.0) b)
        (ap (λ z. viewed slot_view z x.slots) c ∙ ap (viewed slot_view n) e ∙ slots-turned
        ∙ ap (λ z. (turned v z during).slots) turns
        ∙ ap (λ z. (turned v (turn_of t sc.ringable o) (requeued v z before)).slots) changes)
        (f ∙ ap (λ z. (requeued v z before).queue) changes)
        (ap (λ z. z.0) l ∙ turned-last v turn during s.last last-seen
        ∙ ap (λ z. (turned v z during).last_call) turns
        ∙ ap (λ z. (turned v (turn_of t sc.ringable o) (requeued v z before)).last_call) changes)
