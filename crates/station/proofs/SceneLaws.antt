-- An outcome told and applied by its scene is the outcome in the words of the rules.
use Prim.Native.Nat.{ℕ, ◌≤◌}
use mathlib.Core.Bool.{Bool, true, false, cond}
use mathlib.Core.List.{List, [], map}
use mathlib.Core.Path.{◌≡◌, refl, sym, ap, ◌∙◌}
use lib.ListN.{length, get_or}
use Rattle.units.specs.declared.SlotNumber.{SlotNumber}
use Rattle.units.specs.declared.Tenths.{Tenths}
use Rattle.rules.specs.Rules.Words.{Request}
use Rattle.rules.specs.Rules.Station as R
use Rattle.rules.specs.Rules.Station.{set_clock, next_due, none_left, used_up}
use Rattle.rules.specs.Rules.Sound.{limit}
use Rattle.rules.specs.Rules.Requests.{Out, to_ring_back}
use Rattle.requests.specs.declared.Request.{Request as Asked}
use Rattle.requests.specs.Views.{request_of}
use Rattle.slots.specs.declared.Slot.{Slot}
use Rattle.slots.specs.declared.Waiting.{Waiting}
use Rattle.slots.specs.Views.{waiting_view}
use Rattle.slots.specs.Images.{blank_waiting}
use Rattle.actions.specs.Sent.{sent_block}
use Rattle.blocks.specs.Laid.{Laid, laid_from}
use Rattle.outcomes.specs.declared.Outcome.{Outcome}
use Rattle.outcomes.specs.Does as D
use Rattle.outcomes.specs.Does.{out_of, ringable_of, scene_of, acts_of, answer_of, queue_change, requeued, applied}
use Rattle.outcomes.proofs.PartLaws.{outcome-applied}
use Rattle.telling.specs.declared.Scene.{Scene}
use Rattle.telling.specs.Tells.{scene_view, telling}
use Rattle.telling.proofs.TellLaws.{telling-sent}
use Rattle.station.specs.declared.Station.{Station}
use Rattle.station.specs.declared.Stepped.{Stepped}
use Rattle.station.specs.Model.{model_of, config_of, image_of}
use Rattle.station.specs.Step.{due_image}
use Rattle.station.specs.Pieces.{Shows, slot_of, own_of, out_at, laid_of, enacted}
use Rattle.station.proofs.PlaceLaws.{slot-channel}
use Rattle.station.proofs.ApplyLaws.{turned-queue}

scene-out : (s : Station) (t i : ℕ) (own : R.Dealing) (asked : Request) → t ≤ limit → (sc : D.Scene) (o : Outcome) → sc ≡ scene_of i own asked (set_clock t (model_of s))
    → applied sc o (set_clock t (model_of s)) ≡ out_of i own asked o (set_clock t (model_of s))
unfolding set_clock
scene-out s t i own asked late sc o e = rw e (sym (outcome-applied i own asked (set_clock t (model_of s)) late o))

-- how many may be rung back, where n wait
rung-back : (s : Station) (t n : ℕ) → n ≡ length (model_of s).queue → ringable_of s.last n ≡ length (to_ring_back (set_clock t (model_of s)))
unfolding set_clock used_up model_of
rung-back s t n e = rw e (go (none_left s.last.0))
  where
    go : (b : Bool) → cond b 0 (length (model_of s).queue) ≡ length (cond b [] (model_of s).queue)
    go true = refl
    go false = refl

-- from the slot's record and the oldest waiting ship's, where n wait and k may be rung back
pub shows : (s : Station) (t : Tenths) (i : SlotNumber) (q : Asked) (x : Slot) (w : Waiting) (n k : ℕ) → x ≡ slot_of s i.0
    → waiting_view w ≡ get_or (model_of s).queue 0 (waiting_view blank_waiting) → n ≡ length (model_of s).queue → k ≡ ringable_of s.last n
    → Shows s t i (request_of q) (record { clock = t; slot = i; channel = x.channel; call = x.call; own = x.request; asked = q; oldest = w.request; ringable = k })
unfolding scene_of scene_view own_of set_clock
shows s t i q x w n k at first waiting few =
    (rw (few ∙ rung-back s t.0 n waiting, ap (λ (y : R.Waiting). y.request) first, at), (refl, ap (λ y. y.channel) at ∙ slot-channel s i.0))

module _ (s : Station) (t : Tenths) (i : SlotNumber) (q : Request) (sc : Scene) (o : Outcome) (late : t.0 ≤ limit) (shows : Shows s t i q sc) where
  pub out-is : applied (scene_view sc) o (set_clock t.0 (model_of s)) ≡ out_at s t i q o
  unfolding out_at
  out-is = scene-out s t.0 i.0 (own_of s i.0) q late (scene_view sc) o shows.0

  -- the queue that the outcome leaves
  pub queue-is : (out_at s t i q o).next.queue ≡ (requeued (scene_view sc) (queue_change t sc.ringable o) (set_clock t.0 (model_of s))).queue
  unfolding applied set_clock scene_view
  queue-is = ap (λ (x : Out). x.next.queue) (sym out-is) ∙ turned-queue (scene_view sc) _ (requeued (scene_view sc) _ (set_clock t.0 (model_of s)))

  told_is : (k : ℕ) (room : List ℕ) → telling sc (acts_of (scene_view sc) o) k room ≡ laid_of (config_of s) (out_at s t i q o).acts k room
  unfolding laid_of applied
  told_is k room = telling-sent (config_of s) sc shows.1.1 o k room ∙ ap (λ (x : Out). laid_from (map (sent_block (config_of s)) x.acts) k room) out-is

  -- told from block number k to block number n, and applied
  module _ (next : Station) (moved : model_of next ≡ (applied (scene_view sc) o (set_clock t.0 (model_of s))).next) (kept : config_of next ≡ config_of s)
      (k n : ℕ) (room after : List ℕ) (told : (n ≡ (telling sc (acts_of (scene_view sc) o) k room).next) × (after ≡ (telling sc (acts_of (scene_view sc) o) k room).room)) where
    handed : ◌≡◌ {A = Stepped} (record { answer = answer_of o; count = n; due = due_image (next_due (model_of next)); station = image_of (config_of next) (model_of next) })
        (enacted (config_of s) (laid_of (config_of s) (out_at s t i q o).acts k room) (out_at s t i q o))
    unfolding enacted applied
    handed = rw (moved, kept, told.0, told_is k room) (ap (enacted (config_of s) (laid_of (config_of s) (out_at s t i q o).acts k room)) out-is)

    pub enacts : (a : ℕ) → a ≡ answer_of o → (r : Stepped) → r ≡ record { answer = a; count = n; due = due_image (next_due (model_of next)); station = image_of (config_of next) (model_of next) }
        → (r ≡ enacted (config_of s) (laid_of (config_of s) (out_at s t i q o).acts k room) (out_at s t i q o)) × (after ≡ (laid_of (config_of s) (out_at s t i q o).acts k room).room)
    enacts a e r f = ((rw e at f) ∙ handed, told.1 ∙ ap (λ (l : Laid). l.room) (told_is k room))
