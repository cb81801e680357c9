-- From the verdict and the outcome to what an event hands back.
use Prim.Native.Nat.{ℕ, ◌*◌, ◌≤◌}
use mathlib.Core.Bool.{true}
use mathlib.Core.List.{List, [], ◌∷◌, map}
use mathlib.Core.Option.{none, some}
use mathlib.Core.Path.{◌≡◌, refl}
use native.Mathlib.Omega.{arith}
use lib.ListN.{length, length-map}
use borrow.Author.Tests.{le-leb}
use Rattle.sequence.specs.Answers.{is_done}
use Rattle.sequence.specs.Layout.{valid}
use Rattle.sequence.specs.Reading.{answer_of, meaning_read}
use Rattle.sequence_theorems.proofs.RoundTrip.{reads-valid}
use Rattle.rules.specs.Rules.Words.{Config, Happened, Event, on_slot}
use Rattle.rules.specs.Rules.Actions.{Action}
use Rattle.rules.specs.Rules.Bytes.{channel_at, slot_number, block}
use Rattle.rules.specs.Rules.Station as R
use Rattle.rules.specs.Rules.Station.{the_slot, set_clock, next_due, due_at}
use Rattle.rules.specs.Rules.Requests.{Out}
use Rattle.rules.specs.Rules.Calls.{happened_on, act_at, act}
use Rattle.rules.specs.Statement.{AtMostEight}
use Rattle.rules.proofs.Eight.{at-most-eight}
use Rattle.rules.proofs.Kept.{stays-sound}
use Rattle.rules.proofs.Payloads.{padded-length}
use Rattle.slots.specs.Views.{due_view}
use Rattle.actions.specs.Blocks.{holds, put_count, put_room}
use Rattle.actions.specs.Sent.{sent_payload, sent_on, sent_block}
use Rattle.actions.proofs.Handed.{handed_out}
use Rattle.blocks.proofs.LaidLaws.{Forty, laid-put}
use Rattle.soundness.proofs.FitLaws.{sound-fits}
use Rattle.gate.specs.declared.Look.{Look}
use Rattle.station.specs.declared.Station.{Station}
use Rattle.station.specs.declared.Stepped.{Stepped}
use Rattle.station.specs.Model.{model_of, config_of}
use Rattle.station.specs.Step.{due_image, refusal, stepped_by, room_after}
use Rattle.station.specs.Pieces.{Sees, laid_of, enacted}
use Rattle.station.proofs.GateLaws.{passed}

-- a refusal hands back the station, and leaves the room
pub refused-is : (s : Station) (l : Look) → Sees s l → (room : List ℕ) (e : Event) (n : ℕ) → some n ≡ refusal s e
    → (◌≡◌ {A = Stepped} (record { answer = n; count = 0; due = due_image (due_at (due_view l.due)); station = s }) (stepped_by s e)) × (room ≡ room_after s room e)
unfolding stepped_by room_after next_due
refused-is s l sees room e n h = rw (← h, sees.first) (refl, refl)

-- what the reader accepts is valid
pub reads : (m : List ℕ) → is_done (answer_of m) ≡ true → valid (meaning_read m) ≡ true
unfolding meaning_read
reads m h = rw h (reads-valid m h)

forty : (c : Config) (l : List Action) → Forty (map (sent_block c) l)
unfolding sent_block sent_on block
forty c [] = tt
forty c (a ∷ l) = (omega (arith, padded-length 0 36 (sent_payload (channel_at c (slot_number a)) a)), forty c l)

-- what was accepted is what the rules say
module _ (s : Station) (room : List ℕ) (e : Event) (same : e.room ≡ length room) (h : none ≡ refusal s e) where
  bound : length (act (config_of s) (model_of s) e).acts ≤ 8
  unfolding AtMostEight
  bound = (at-most-eight (config_of s) (model_of s) e (passed s e h).sounds).0

  -- the next station fits
  pub queue-fits : (o : Out) → o ≡ act (config_of s) (model_of s) e → length o.next.queue ≤ 32
  queue-fits o q = rw q (sound-fits (config_of s) _ (stays-sound (config_of s) (model_of s) e (passed s e h).judged)).few_wait

  laid-is : laid_of (config_of s) (act (config_of s) (model_of s) e).acts 0 room
      ≡ record { next = put_count (map (sent_block (config_of s)) (act (config_of s) (model_of s) e).acts) (length room); room = put_room (map (sent_block (config_of s)) (act (config_of s) (model_of s) e).acts) room }
  unfolding laid_of
  laid-is =
      let o = act (config_of s) (model_of s) e in
      let l : length (map (sent_block (config_of s)) o.acts) ≡ length o.acts = simp length-map in
      let b = bound in
      let r = (passed s e h).room in
      laid-put (map (sent_block (config_of s)) o.acts) (forty (config_of s) o.acts) room (omega arith) (omega arith)

  pub accepted-is : (o : Out) → o ≡ act (config_of s) (model_of s) e
      → (enacted (config_of s) (laid_of (config_of s) o.acts 0 room) o ≡ stepped_by s e) × ((laid_of (config_of s) o.acts 0 room).room ≡ room_after s room e)
  unfolding stepped_by room_after enacted put_count put_room holds
  accepted-is o q =
      let c = config_of s in
      let x = act (config_of s) (model_of s) e in
      let n : length (map (sent_block c) x.acts) ≡ length x.acts = simp length-map in
      let b = bound in
      let r = (passed s e h).room in
      let w = le-leb (40 * length (map (sent_block c) x.acts)) (length room) (omega arith) in
      rw (q, laid-is, w, ← h, n, handed_out reads (config_of s) (model_of s) e (passed s e h).judged) (refl, refl)

-- what happens on a slot
pub slot-acts : (s : Station) (t i n : ℕ) (k : Happened) (p : R.Slot) → p ≡ the_slot (model_of s) i
    → happened_on (config_of s) i (set_clock t (model_of s)) p k ≡ act (config_of s) (model_of s) (record { time = t; room = n; what = on_slot i k })
unfolding act_at
slot-acts s t i n k p e = rw e refl
