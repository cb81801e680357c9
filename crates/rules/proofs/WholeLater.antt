-- The same, when the clock moves on: no wait is due before the time it moves to.
use mathlib.Core.Path.{◌≡◌, refl}
use mathlib.Core.List.{List, [], ◌∷◌, map}
use mathlib.Core.Bool.{true}
use mathlib.Core.Option.{Option, none, some}
use Prim.Native.Nat.{ℕ, suc, ◌≤◌}
use native.Mathlib.Omega.{arith}
use lib.Dec.{leb}
use borrow.Author.Tests.{leb-true}
use Rattle.rules.specs.Rules.Places.{all}
use Rattle.rules.specs.Rules.Waits.{Wait, loss, main, Due, running, queue_table}
use Rattle.rules.specs.Rules.Station.{Slot, Waiting, Station, set_clock, loss_due, main_due, slot_table, table, queue_wait}
use Rattle.rules.specs.Rules.Sound.{slot_fits, place_fits}
use Rattle.sequence.proofs.Tests.{both_true}
use Rattle.rules.proofs.Whole.{Whole}
use Rattle.rules.proofs.Moments.{From}
use Rattle.rules.proofs.Base.{fitting, within-later}

-- ── the clock moves on ───────────────────────────────────────────────────────

un-running : (t : ℕ) (w : Wait) (o : Option ℕ) (r : List Due) → all (From t) (running w o r) ≡ true → ((d : ℕ) → o ≡ some d → t ≤ d) × (all (From t) r ≡ true)
un-running t w none r h = ((λ d e. let z : ◌≡◌ {A = ℕ} 0 1 = cc in absurd (omega arith)), h)
un-running t w (some u) r h = let a = both_true (leb t u) (all (From t) r) h in ((λ d e. let y : u ≡ d = cc in rw (← y) (leb-true t u a.0)), a.1)

slots-later : (c t i : ℕ) → c ≤ t → (ss : List Slot) → all (From t) (slot_table i ss) ≡ true → all (slot_fits c) ss ≡ true → all (slot_fits t) ss ≡ true
slots-later c t i h [] k e = refl
slots-later c t i h (s ∷ ss) k e =
    let a = un-running t (loss i) (loss_due s) (running (main i) (main_due s) (slot_table (suc i) ss)) k in
    let b = un-running t (main i) (main_due s) (slot_table (suc i) ss) a.1 in
    let w = both_true (slot_fits c s) (all (slot_fits c) ss) e in
    rw ((fitting c s w.0).later t h a.0 b.0) (slots-later c t (suc i) h ss b.1 w.1)

queue-later : (c t k : ℕ) → c ≤ t → (q : List Waiting) (r : List Due) → all (From t) (queue_table k (map (λ v. v.due) q) r) ≡ true → all (place_fits c) q ≡ true → (all (place_fits t) q ≡ true) × (all (From t) r ≡ true)
queue-later c t k h [] r a e = (refl, a)
queue-later c t k h (v ∷ q) r a e =
    let b = both_true (leb t v.due) (all (From t) (queue_table (suc k) (map (λ z. z.due) q) r)) a in
    let w = both_true (place_fits c v) (all (place_fits c) q) e in
    let n = queue-later c t (suc k) h q r b.1 w.1 in
    (rw (within-later c t queue_wait v.due h (leb-true t v.due b.0) w.0) n.0, n.1)

pub later-whole : (st : Station) (t : ℕ) → Whole st → st.clock ≤ t → all (From t) (table st) ≡ true → Whole (set_clock t st)
unfolding set_clock table
later-whole st t w h a = let q = queue-later st.clock t 0 h st.queue (slot_table 0 st.slots) a w.placed in record { once = w.once; fit = slots-later st.clock t 0 h st.slots q.1 w.fit; placed = q.0; room = w.room }
