-- No ship stands twice, by counting: what the walk over the events and soundness need of it.
use mathlib.Core.Path.{◌≡◌, refl, ap}
use mathlib.Core.List.{List, [], ◌∷◌, map}
use mathlib.Core.Bool.{Bool, true, false}
use mathlib.Core.Option.{Option, none, some}
use Prim.Native.Nat.{ℕ, zero, suc, ◌+◌, ◌≤◌}
use native.Mathlib.Omega.{arith}
use Rattle.rules.specs.Rules.Places.{mod_at, lowest, distinct}
use Rattle.rules.specs.Rules.Words.{Party, is}
use Rattle.rules.specs.Rules.Station.{Dealing, Slot, ship_of, Waiting, Station, the_slot, set_slot, set_queue, new_call, ring_back_of}
use Rattle.rules.specs.Rules.Sound.{listed, owners}
use Rattle.rules.specs.Rules.Requests.{to_ring_back, rung_back, freed_for, freed, coast_end, is_of, owns, waits_for}
use Rattle.rules.proofs.PlaceLaws.{shift_none}
use Rattle.rules.proofs.Occurs.{bit, occurs, distinct-occurs, occurs-distinct}
use Rattle.rules.proofs.Base.{is_same, is_true, rung-first}

abbrev pub count_s : Party → List Slot → ℕ
count_s x [] = 0
count_s x (s ∷ ss) = bit (owns x s) + count_s x ss

abbrev pub count_q : Party → List Waiting → ℕ
count_q x [] = 0
count_q x (w ∷ q) = bit (is x w.request.who) + count_q x q

occ-owners : (x : Party) (ss : List Slot) (r : List Party) → occurs is x (owners ss r) ≡ count_s x ss + occurs is x r
occ-owners x [] r = omega arith
occ-owners x (s ∷ ss) r = go (ship_of s) (occ-owners x ss r)
  where
    go : (o : Option Party) → occurs is x (owners ss r) ≡ count_s x ss + occurs is x r → occurs is x (listed o (owners ss r)) ≡ (bit (is_of x o) + count_s x ss) + occurs is x r
    go none h = omega arith
    go (some y) h = omega arith

occ-queue : (x : Party) (q : List Waiting) → occurs is x (map (λ w. w.request.who) q) ≡ count_q x q
occ-queue x [] = refl
occ-queue x (w ∷ q) = ap (λ n. bit (is x w.request.who) + n) (occ-queue x q)

-- every ship stands at most once
abbrev pub Once : Station → Type 0
Once st = (x : Party) → count_s x st.slots + count_q x st.queue ≤ 1

pub distinct-once : (st : Station) → distinct is (owners st.slots (map (λ w. w.request.who) st.queue)) ≡ true → Once st
distinct-once st h x = rw (← (occ-queue x st.queue), ← (occ-owners x st.slots (map (λ w. w.request.who) st.queue))) (distinct-occurs is is_true x (owners st.slots (map (λ w. w.request.who) st.queue)) h)

pub once-distinct : (st : Station) → Once st → distinct is (owners st.slots (map (λ w. w.request.who) st.queue)) ≡ true
once-distinct st o = occurs-distinct is (λ x. is_same x x refl) (owners st.slots (map (λ q. q.request.who) st.queue)) (λ x. rw (occ-owners x st.slots (map (λ q. q.request.who) st.queue), occ-queue x st.queue) (o x))

-- ── a slot given to another, and a ship that stands nowhere ──────────────────

pub count_set : (x : Party) (i : ℕ) (p : Slot) (st : Station) → count_s x (mod_at (λ y. p) i st.slots) + bit (owns x (the_slot st i)) ≤ count_s x st.slots + bit (owns x p)
count_set x i p st = go i st.slots
  where
    go : (i : ℕ) (ss : List Slot) → count_s x (mod_at (λ y. p) i ss) + bit (owns x (the_slot (record { clock = st.clock; slots = ss; queue = st.queue; last_call = st.last_call }) i)) ≤ count_s x ss + bit (owns x p)
    go i [] = omega arith
    go zero (s ∷ ss) = omega arith
    go (suc i) (s ∷ ss) = omega (arith, go i ss)

pub none-count : (x : Party) (ss : List Slot) → lowest (owns x) ss ≡ none → count_s x ss ≡ 0
none-count x [] h = refl
none-count x (s ∷ ss) h = go (owns x s) refl (λ k. none-count x ss k)
  where
    go : (b : Bool) → owns x s ≡ b → (lowest (owns x) ss ≡ none → count_s x ss ≡ 0) → bit (owns x s) + count_s x ss ≡ 0
    go true e ih = let k : ◌≡◌ {A = Option ℕ} (some zero) none = rw e at h in cc
    go false e ih = rw (e, ih (shift_none _ (rw e at h))) refl

pub waiting-count : (x : Party) (q : List Waiting) → lowest (waits_for x) q ≡ none → count_q x q ≡ 0
waiting-count x [] h = refl
waiting-count x (v ∷ q) h = go (is x v.request.who) refl (λ k. waiting-count x q k)
  where
    go : (b : Bool) → is x v.request.who ≡ b → (lowest (waits_for x) q ≡ none → count_q x q ≡ 0) → bit (is x v.request.who) + count_q x q ≡ 0
    go true e ih = let k : ◌≡◌ {A = Option ℕ} (some zero) none = rw e at h in cc
    go false e ih = rw (e, ih (shift_none _ (rw e at h))) refl

-- the slot of the ship is given to another, or to nobody
given-away : (i : ℕ) (x : Party) (st : Station) → owns x (the_slot st i) ≡ true → (q : Slot) → count_s x (set_slot i q st).slots + 1 ≤ count_s x st.slots + bit (owns x q)
unfolding set_slot
given-away i x st h q = rw h at (count_set x i q st)

-- it is freed: the ship stands nowhere
freed_for-gone : (i : ℕ) (x : Party) (st : Station) → Once st → owns x (the_slot st i) ≡ true → (q : List Waiting) → to_ring_back st ≡ q → count_s x (freed_for i st q).next.slots ≡ 0
unfolding freed_for rung_back set_slot set_queue new_call
freed_for-gone i x st w h [] e = none_left _ (count_s x st.slots) (count_q x st.queue) (given-away i x st h _) (w x)
  where
    none_left : (n s k : ℕ) → n + 1 ≤ s + 0 → s + k ≤ 1 → n ≡ 0
    none_left n s k a b = omega arith
freed_for-gone i x st w h (v ∷ q) e = none_left _ (count_s x st.slots) (bit (is x v.request.who)) (count_q x q) (given-away i x st h (ring_back_of v.request st)) (rw (rung-first st v q e).1 at (w x))
  where
    none_left : (n s b k : ℕ) → n + 1 ≤ s + b → s + (b + k) ≤ 1 → n ≡ 0
    none_left n s b k u v = omega arith

pub coast_end-gone : (i : ℕ) (x : Party) (r : Dealing) (g : Option ℕ) (st : Station) → Once st → owns x (the_slot st i) ≡ true → count_s x (coast_end i r g st).next.slots ≡ 0
unfolding coast_end freed
coast_end-gone i x r g st w h = freed_for-gone i x st w h (to_ring_back st) refl
