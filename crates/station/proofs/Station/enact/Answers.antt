use Prim.Native.Nat.{◌<◌, ◌≤◌}
use mathlib.Core.Logic.{◌⊎◌, inl, inr}
use mathlib.Core.Path.{◌≡◌, refl, ap, ap₂, ◌∙◌}
use native.Mathlib.Omega.{arith}
use lib.ListN.{length, get_or, set}
use Rattle.requests.specs.Views.{viewed, request_of}
use Rattle.slots.specs.Views.{waiting_view, no_slot}
use Rattle.outcomes.specs.Does.{last_after}
use Rattle.station.specs.declared.Station.{Station}
use Rattle.station.specs.Changes.{slot_turned}
use borrow.Author.Rules.{rules}
use Rattle.station.proofs.PlaceLaws.{queue-length}
use Rattle.station.proofs.CarryLaws.{queue-left, queue-out, still-wide, config-kept, moved}
use Rattle.station.proofs.FinishLaws.{image-is, due-is}
use Rattle.station.proofs.SceneLaws.{enacts}
use Rattle.station.proofs.Station.enact.Goals as goal
use Rattle.station.proofs.Station.enact.Goals.{then-number-count, else-number-count}

pub requeued-waiting-requires-clause-within : goal.requeued-waiting-requires-clause-within
requeued-waiting-requires-clause-within c =
    let s = c.args.self.now in
    let long : length s.queue ≡ 32 = search rules in
    omega (arith, c.queue_length-before.ensures, queue-length s long)

pub requeued-waiting-requires-clause-fits : goal.requeued-waiting-requires-clause-fits
requeued-waiting-requires-clause-fits c =
    let s = c.args.self.now in
    let x = c.scene-scene in
    rw (queue-out s c.args.now.time c.args.number c.args.request x.result c.args.outcome c.args.now.within x.ensures _ c.queue_change-change.ensures (search rules) _ c.queue_length-before.ensures) c.requires

pub returns : goal.returns
returns c =
    let s = c.args.self.now in
    let t = c.args.now.time in
    let i = c.args.number in
    let q = c.args.request in
    let o = c.args.outcome in
    let late = c.args.now.within in
    let sc = c.scene-scene.result in
    let shown = c.scene-scene.ensures in
    let turn = c.turn_of-turn.result in
    let turns = c.turn_of-turn.ensures in
    let changes = c.queue_change-change.ensures in
    let n = c.min-count.result in
    let few = c.min-count.ensures in
    let x = c.if-number-count.self in
    let wide : length s.slots ≡ 16 = search rules in
    let long : length s.queue ≡ 32 = search rules in
    let written : ((i.0 < n) × (x.slots ≡ set s.slots i.0 (slot_turned sc (last_after s.last turn) (get_or s.slots i.0 no_slot) turn))) ⊎ ((n ≤ i.0) × (x.slots ≡ s.slots)) = elim c.if-number-count.branch [
      | then-number-count w ↦ inl (w.if-number-count.true, ap (λ (z : Station). z.slots) w.self-is ∙ ap (set s.slots i.0) (w.slot_turned.ensures ∙ ap (λ z. slot_turned sc z (get_or s.slots i.0 no_slot) turn) c.last_after-last.ensures))
      | else-number-count w ↦ inr (w.if-number-count.false, ap (λ (z : Station). z.slots) w.self-is)
    ] in
    let mast : x.mast ≡ s.mast = elim c.if-number-count.branch [ then-number-count w ↦ ap (λ (z : Station). z.mast) w.self-is | else-number-count w ↦ ap (λ (z : Station). z.mast) w.self-is ] in
    let queue : x.queue ≡ c.requeued-waiting.new.queue = elim c.if-number-count.branch [ then-number-count w ↦ ap (λ (z : Station). z.queue) w.self-is | else-number-count w ↦ ap (λ (z : Station). z.queue) w.self-is ] in
    let next : Station = record { clock = t; mast = x.mast; last = c.last_after-last.result; count = n; waiting = c.requeued-waiting.result; slots = x.slots; queue = x.queue } in
    let left = ap (viewed waiting_view c.requeued-waiting.result) queue ∙ c.requeued-waiting.ensures.queue ∙ queue-left s t i q sc o late shown _ changes long _ c.queue_length-before.ensures in
    let still : length x.slots ≡ 16 = still-wide s t i q sc o late shown _ changes turn turns wide n few x.slots written in
    let stays : length x.queue ≡ 32 = ap length queue ∙ c.requeued-waiting.ensures.long in
    let image = image-is next (omega arith) c.requeued-waiting.ensures.room still stays
    (record { clock = t; mast = x.mast; last = c.last_after-last.result; count = n; waiting = c.requeued-waiting.result; slots = c.slots_anew-slots_first.new.slots; queue = c.queue_anew-first.new.queue })
    refl refl refl refl refl c.slots_anew-slots_first.ensures.laid c.queue_anew-first.ensures.laid in
    let due = c.due_time.ensures ∙ due-is next (omega arith) c.requeued-waiting.ensures.room still stays _ _ c.slots_anew-slots_first.ensures.first c.queue_anew-first.ensures.joined in
    let r = enacts s t i (request_of q) sc o late shown next
    (moved s t i q sc o late shown _ changes turn turns wide n few x.slots written next refl c.last_after-last.ensures refl refl left)
    (config-kept s t i q sc o late shown _ changes turn turns wide n few x.slots written next mast refl refl)
    c.args.block c.tell-told.result c.args.room.now c.tell-told.new.room (c.tell-told.ensures.value, c.tell-told.ensures.room_written)
    c.answer_of.result c.answer_of.ensures _ (ap₂ (λ y z. record { answer = c.answer_of.result; count = c.tell-told.result; due = y; station = z }) due image) in
    record { value = r.0; room_written = r.1 }
