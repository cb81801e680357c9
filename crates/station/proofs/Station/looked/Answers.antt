use Prim.Native.Nat.{ℕ, min}
use mathlib.Core.Bool.{Bool, ◌&&◌}
use mathlib.Core.List.{◌++◌, map}
use Rattle.std.specs.Prelude.{Option as Optional}
use mathlib.Core.Path.{◌≡◌, refl, sym, ap, ◌∙◌}
use lib.Dec.{eqb}
use lib.ListN.{length, take}
use borrow.Author.Rules.{rules}
use Rattle.rules.specs.Rules.Places.{all, distinct}
use Rattle.rules.specs.Rules.Station.{slot_table, table}
use Rattle.rules.specs.Rules.Waits.{earliest}
use Rattle.requests.specs.Views.{viewed}
use Rattle.requests.proofs.ArrayLaws.{viewed-length}
use Rattle.slots.specs.declared.Due.{Due}
use Rattle.slots.specs.Views.{slot_view, waiting_view, due_view, due_of}
use Rattle.due_times.specs.Joins.{queue_joined}
use Rattle.due_times.proofs.DueLaws.{earliest-queue}
use Rattle.sound_records.specs.Kept.{slot_sound, waiting_sound}
use Rattle.soundness.specs.Soundly.{head_sound, number_of, ships_of, ship_at}
use Rattle.soundness.proofs.SeenLaws.{seen-is}
use Rattle.station.specs.declared.Station.{Station}
use Rattle.station.specs.Model.{model_of, config_of}
use Rattle.station.specs.Step.{records_keep}
use Rattle.station.specs.Pieces.{Sees}
use Rattle.station.proofs.LookLaws.{taken, four-parts, seen-slice}
use Rattle.station.proofs.Station.looked.Goals as goal

-- what was seen of the parts is what the gate asks of the station
sees :
    (x : Station) → length x.slots ≡ 16 → length x.queue ≡ 32 → (n m : ℕ) {head slots queue channels ships : Bool} (due₁ due₂ : Optional Due)
    → n ≡ min x.count 16
    → m ≡ min x.waiting 32
    → head ≡ head_sound x.mast x.clock x.count x.waiting
    → slots ≡ all (slot_sound x.mast x.clock) (take n x.slots)
    → queue ≡ all (waiting_sound x.mast x.clock) (take m x.queue)
    → channels ≡ distinct eqb (map number_of (take n x.slots))
    → ships ≡ distinct eqb (ships_of (take n x.slots) ++ map ship_at (take m x.queue))
    → due_view due₁ ≡ earliest (slot_table 0 (map slot_view (take n x.slots)))
    → due_view due₂ ≡ queue_joined 0 (map due_of (map waiting_view (take m x.queue))) (due_view due₁)
    → Sees x (record { sound = ((head && slots) && queue) && (channels && ships); clock = x.clock; count = n; due = due₂ })
unfolding records_keep config_of model_of table
sees x wide long n m {head} {slots} {queue} {channels} {ships} due₁ due₂ e f h a b c d p q =
    let s = taken x.count n 16 x.slots wide e in
    let w = taken x.waiting m 32 x.queue long f in
    record {
      soundly = four-parts head slots queue channels ships
          ∙ rw (h, a, b, c, d, seen-slice number_of x.count n 16 x.slots wide e, seen-slice ship_at x.waiting m 32 x.queue long f, s, w)
          (seen-is x.mast x.clock x.count x.slots x.waiting x.queue x.last.0 wide long);
      clock = refl;
      slots = e ∙ sym (viewed-length slot_view x.count x.slots ∙ ap (min x.count) wide);
      first = q ∙ rw (p, seen-slice slot_view x.count n 16 x.slots wide e, seen-slice waiting_view x.waiting m 32 x.queue long f)
          (sym (earliest-queue 0 (map due_of (viewed waiting_view x.waiting x.queue)) (slot_table 0 (viewed slot_view x.count x.slots))));
    }

pub returns : goal.returns
returns c = let x = c.args.self.now in
    let wide : length x.slots ≡ 16 = search rules in
    let long : length x.queue ≡ 32 = search rules in
    sees x wide long _ _ _ _ c.min-count.ensures c.min-waiting.ensures c.head_sound-head.ensures c.slots_seen-slots_sound.ensures.sound c.queue_seen-queue_sound.ensures.sound c.channels_apart.ensures c.ships_apart.ensures c.slots_seen-slots_sound.ensures.first c.queue_seen-queue_sound.ensures.first
