-- What one turn of a scan over an array does to the earliest wait.
use Prim.Native.Nat.{ℕ, suc, ◌+◌, ◌-◌, ◌<◌, ◌≤◌, min}
use mathlib.Core.List.{List, [], ◌∷◌, map}
use mathlib.Core.Option.{Option, none, some}
use mathlib.Core.Path.{◌≡◌, refl, ap}
use native.Mathlib.Omega.{arith}
use lib.ListN.{length, get_or}
use Rattle.rules.specs.Rules.Waits as T
use Rattle.rules.specs.Rules.Waits.{loss, main, of_queue, sooner, earliest, running, queue_table}
use Rattle.rules.specs.Rules.Station.{loss_due, main_due, slot_table}
use Rattle.requests.specs.Views.{left}
use Rattle.requests.proofs.ArrayLaws.{left-more, left-none}
use Rattle.slots.specs.declared.Slot.{Slot}
use Rattle.slots.specs.declared.Waiting.{Waiting}
use Rattle.slots.specs.Views.{slot_view, waiting_view, due_of, no_slot, no_waiting}
use Rattle.due_times.specs.Joins.{join_due, queue_joined}

earliest-running : (w : T.Wait) (o : Option ℕ) (r : List T.Due) → earliest (running w o r) ≡ join_due w o (earliest r)
earliest-running w none r = refl
earliest-running w (some d) r = refl

pub earliest-queue : (k : ℕ) (ds : List ℕ) (r : List T.Due) → earliest (queue_table k ds r) ≡ queue_joined k ds (earliest r)
earliest-queue k [] r = refl
earliest-queue k (d ∷ ds) r = ap (sooner (record { what = of_queue k; at = d })) (earliest-queue (suc k) ds r)

-- downward, the earliest wait
pub slots-down : (n : ℕ) (l : List Slot) (i : ℕ) {e : Option T.Due} → 0 < i → i ≤ n → i ≤ length l → e ≡ earliest (slot_table i (left slot_view n l i)) → join_due (loss (i - 1)) (loss_due (slot_view (get_or l (i - 1) no_slot))) (join_due (main (i - 1)) (main_due (slot_view (get_or l (i - 1) no_slot))) e) ≡ earliest (slot_table (i - 1) (left slot_view n l (i - 1)))
slots-down n l i z h k p =
    let j : i - 1 + 1 ≡ i = omega arith in
    let s : suc (i - 1) ≡ i = omega arith in
    let x = slot_view (get_or l (i - 1) no_slot) in
    rw (left-more slot_view n l (i - 1) no_slot (omega arith) (omega arith), j, s, earliest-running (loss (i - 1)) (loss_due x) (running (main (i - 1)) (main_due x) (slot_table i (left slot_view n l i))), earliest-running (main (i - 1)) (main_due x) (slot_table i (left slot_view n l i))) (ap (λ q. join_due (loss (i - 1)) (loss_due x) (join_due (main (i - 1)) (main_due x) q)) p)

pub slots-none : (n : ℕ) (l : List Slot) (i : ℕ) → i ≡ min n (length l) → none ≡ earliest (slot_table i (left slot_view n l i))
slots-none n l i h = rw (left-none slot_view n l i (omega arith))

pub queue-down : (n : ℕ) (l : List Waiting) (i : ℕ) (z : Option T.Due) {e : Option T.Due} → 0 < i → i ≤ n → i ≤ length l → e ≡ queue_joined i (map due_of (left waiting_view n l i)) z → sooner (record { what = of_queue (i - 1); at = (get_or l (i - 1) no_waiting).due.0 }) e ≡ queue_joined (i - 1) (map due_of (left waiting_view n l (i - 1))) z
queue-down n l i z y h k p =
    let j : i - 1 + 1 ≡ i = omega arith in
    let s : suc (i - 1) ≡ i = omega arith in
    rw (left-more waiting_view n l (i - 1) no_waiting (omega arith) (omega arith), j, s) (ap (sooner (record { what = of_queue (i - 1); at = (get_or l (i - 1) no_waiting).due.0 })) p)

pub queue-none : (n : ℕ) (l : List Waiting) (i : ℕ) (z : Option T.Due) → i ≡ min n (length l) → z ≡ queue_joined i (map due_of (left waiting_view n l i)) z
queue-none n l i z h = rw (left-none waiting_view n l i (omega arith))
