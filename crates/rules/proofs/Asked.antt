-- A request on channel 70, rules b to g; what soundness gives is that the ship has one slot at most, and then does not wait.
use mathlib.Core.Path.{◌≡◌, refl, ap, ◌∙◌}
use mathlib.Core.List.{List, [], ◌∷◌, map, append-nil}
use mathlib.Core.Bool.{Bool, true, false, cond, not}
use mathlib.Core.Option.{Option, none, some}
use Prim.Native.Nat.{ℕ, zero, suc, ◌+◌, ◌<◌}
use native.Mathlib.Nat.{zero-add, add-zero, add-suc, suc-add}
use native.Mathlib.Omega.{arith}
use borrow.Author.Tests.{not-true}
use lib.ListN.{get_or, length}
use Rattle.rules.specs.Rules.Places.{mod_at, shift, lowest, elem, distinct}
use Rattle.rules.specs.Rules.Words.{Party, is, Request}
use Rattle.rules.specs.Rules.Station.{Dealing, Stage, answered_at, Slot, pending, busy, ship_of, Waiting, Station, the_slot, set_slot, set_queue, next_call, new_call, loss_due, offer_of}
use Rattle.rules.specs.Rules.Sound.{listed, owner, owners}
use Rattle.rules.specs.Rules.Requests.{Out, to_ring_back, rung_back, freed_for, freed, coast_end, is_of, owns, slot_of, place_of, stands_at, no_number, repeated, afresh, d_to_g, redial, requested}
use Rattle.rules.specs.ListAlone.Book.{Stop, Column, Book, blank, at_column, Call}
use Rattle.rules.specs.ListAlone.Reading.{again, tell, let_go, hush, reads, stop_of, asked_again, stops_again}
use Rattle.sequence.proofs.Tests.{both_true}
use Rattle.rules.proofs.PlaceLaws.{or-false, shift_none, lowest-there}
use Rattle.rules.proofs.Base.{by-kind, by-stage, line_of, a-caller, call_in, view, seen, is_true, counts, stay, stands, Calling, no_call, a_call, calling, slot-mapped, slot-lowest}
use Rattle.rules.proofs.Ruling.{again_of, Ruling, passes, repeats, renews, runs-out, redials, b_or_c-ruling}
use Rattle.rules.proofs.Pieces.{Good, good-also, coast_end-good, d_to_g-good}

-- ── no ship twice ────────────────────────────────────────────────────────────

asked-other : (x : Party) (r : Dealing) (g : Stage) (c : Option ℕ) → is x r.request.who ≡ false → asked_again x (call_in r g) c ≡ false
asked-other x r g c h = by-stage (λ s. asked_again x (call_in r s) c ≡ false) (λ d. refl) (λ d. refl) (λ b. rw h refl) g

-- a slot that is not the ship's is not stopped by its request
others : (x : Party) (s : Slot) → owns x s ≡ false → asked_again x (view s).call (view s).gone ≡ false
others x s h = go s (view s).call (calling s) h
  where
    go : (s : Slot) (k : Call) → Calling s k → owns x s ≡ false → asked_again x k (loss_due s) ≡ false
    go _ _ (no_call s n) h = refl
    go _ _ (a-caller k r d) h = by-kind (λ z. asked_again x (line_of z r) none ≡ false) refl refl refl refl refl refl refl k
    go _ _ (a_call r g c) h = asked-other x r g c h

pub elem-none : (x : Party) (ss : List Slot) (q : List Party) → elem is x (owners ss q) ≡ false → lowest (owns x) ss ≡ none
elem-none x [] q h = refl
elem-none x (s ∷ ss) q h = go (ship_of s) h (elem-none x ss q)
  where
    go : (o : Option Party) → elem is x (listed o (owners ss q)) ≡ false → (elem is x (owners ss q) ≡ false → lowest (owns x) ss ≡ none) → cond (is_of x o) (some zero) (shift (lowest (owns x) ss)) ≡ none
    go none h ih = rw (ih h) refl
    go (some y) h ih = let w = or-false (is x y) (elem is x (owners ss q)) h in rw (w.0, ih w.1) refl

record Untouched (t : ℕ) (x : Party) (k : ℕ) (ls : List Column) : Type 0 where
  columns-same : map (again x) ls ≡ ls
  no_stop : stops_again t x k ls ≡ []

untouched : (t : ℕ) (x : Party) (k : ℕ) (ss : List Slot) → lowest (owns x) ss ≡ none → Untouched t x k (map view ss)
untouched t x k [] h = record { columns-same = refl; no_stop = refl }
untouched t x k (s ∷ ss) h = go (owns x s) refl (λ e. untouched t x (suc k) ss e)
  where
    go : (b : Bool) → owns x s ≡ b → (lowest (owns x) ss ≡ none → Untouched t x (suc k) (map view ss)) → Untouched t x k (map view (s ∷ ss))
    go true e ih = let z : ◌≡◌ {A = Option ℕ} (some zero) none = rw e at h in record { columns-same = cc; no_stop = cc }
    go false e ih = let u = ih (shift_none _ (rw e at h)) in record { columns-same = rw (others x s e, u.columns-same) refl; no_stop = rw (others x s e, u.no_stop) refl }

record Touched (t : ℕ) (x : Party) (k i : ℕ) (ss : List Slot) : Type 0 where
  one-column : map (again x) (map view ss) ≡ mod_at (again x) i (map view ss)
  one-stop : stops_again t x k (map view ss) ≡ again_of t x (k + i) (get_or (map view ss) i blank)

-- the first slot is the ship's, and the others' ships are others
pub owned : (x : Party) (s : Slot) (r : List Party) → owns x s ≡ true → distinct is (owner s r) ≡ true → elem is x r ≡ false
owned x s r h d = go (ship_of s) h d
  where
    go : (o : Option Party) → is_of x o ≡ true → distinct is (listed o r) ≡ true → elem is x r ≡ false
    go none h d = cc
    go (some y) h d = rw (is_true x y h) (not-true (elem is y r) (both_true (not (elem is y r)) (distinct is r) d).0)

pub rest-distinct : (s : Slot) (r : List Party) → distinct is (owner s r) ≡ true → distinct is r ≡ true
rest-distinct s r d = go (ship_of s) d
  where
    go : (o : Option Party) → distinct is (listed o r) ≡ true → distinct is r ≡ true
    go none d = d
    go (some y) d = (both_true (not (elem is y r)) (distinct is r) d).1

touched : (t : ℕ) (x : Party) (k i : ℕ) (ss : List Slot) (q : List Party) → distinct is (owners ss q) ≡ true → lowest (owns x) ss ≡ some i → Touched t x k i ss
touched t x k i [] q d h = record { one-column = cc; one-stop = cc }
touched t x k i (s ∷ ss) q d h = go (owns x s) refl (lowest (owns x) ss) refl i h (λ j e. touched t x (suc k) j ss q (rest-distinct s (owners ss q) d) e)
  where
    next : {j : ℕ} → owns x s ≡ false → Touched t x (suc k) j ss → Touched t x k (suc j) (s ∷ ss)
    next {j} e u = record { one-column = rw (others x s e) (ap (λ y. view s ∷ y) u.one-column); one-stop = rw (others x s e, add-suc k j, ← (suc-add k j)) u.one-stop }

    go : (b : Bool) → owns x s ≡ b → (o : Option ℕ) → lowest (owns x) ss ≡ o → (j : ℕ) → cond b (some zero) (shift o) ≡ some j
        → ((m : ℕ) → lowest (owns x) ss ≡ some m → Touched t x (suc k) m ss) → Touched t x k j (s ∷ ss)
    go true e o eo zero z ih = let u = untouched t x (suc k) ss (elem-none x ss q (owned x s (owners ss q) e d)) in record { one-column = ap (λ y. again x (view s) ∷ y) u.columns-same; one-stop = rw (u.no_stop, add-zero k) (append-nil _) }
    go true e o eo (suc j) z ih = let y : zero ≡ suc j = cc in absurd (omega arith)
    go false e none eo j z ih = record { one-column = cc; one-stop = cc }
    go false e (some m) eo zero z ih = let y : suc m ≡ zero = cc in absurd (omega arith)
    go false e (some m) eo (suc j) z ih = let y : suc m ≡ suc j = cc in next e (ih j (eo ∙ ap some (omega arith)))

-- ── rule b, and rule c ───────────────────────────────────────────────────────

module _ (i : ℕ) (st : Station) (r : Request) where
  B : Book
  B = at_column i (again r.who) (seen st)

  freed_for-clock : (q : List Waiting) → (freed_for i st q).next.clock ≡ st.clock
  unfolding freed_for rung_back set_slot set_queue new_call
  freed_for-clock [] = refl
  freed_for-clock (w ∷ q) = refl

  coast_end-clock : (o : Dealing) (b : Option ℕ) → (coast_end i o b st).next.clock ≡ st.clock
  unfolding coast_end freed
  coast_end-clock o b = freed_for-clock (to_ring_back st)

  redial-good : (o : Dealing) (g : Stage) (c : Option ℕ) → the_slot st i ≡ busy o g c → i < length st.slots → hush (let_go (again r.who (view (busy o g c)))) ≡ blank
      → Good st.clock B (stop_of st.clock i (call_in o g)) (redial i o (answered_at g) st r)
  unfolding B redial
  redial-good o g c e there h =
      let w = coast_end-good i o g st (busy o g c) e there (again r.who) h in
      let n = (coast_end i o (answered_at g) st).next in
      let y = place_of r.who n in
      let a : Good st.clock (seen n) [] (d_to_g n r y) = rw (coast_end-clock o (answered_at g)) at (d_to_g-good n r y refl) in
      rw (← (append-nil (stop_of st.clock i (call_in o g)))) (good-also st.clock (at_column i (again r.who) (seen st)) (seen n) (stop_of st.clock i (call_in o g)) [] (coast_end i o (answered_at g) st).acts (d_to_g n r y) w.reading w.charging a)

  ruling-good : (cs : List Stop) (p : Slot) (x : Out) → Ruling i st r cs p x → the_slot st i ≡ p → i < length st.slots → owns r.who p ≡ true → Good st.clock B cs x
  unfolding B repeated afresh no_number reads new_call seen
  ruling-good cs _ _ (passes p a) e there h = record { reading = stay i st p e (again r.who) (a h).0; charging = (a h).1 }
  ruling-good cs _ _ (repeats k o d a b) e there h = record { reading = counts i st (pending k o d) e there (again r.who) (tell st.clock r) (pending k o d) st.last_call a ∙ stands i st (pending k o d) e; charging = b }
  ruling-good cs _ _ (renews k o d z u a b) e there h = record { reading = counts i st (pending k o d) e there (again r.who) (tell st.clock r) (offer_of r st) (next_call st) a; charging = b }
  ruling-good cs _ _ (runs-out k o d z u a b) e there h = record { reading = stay i st (pending k o d) e (again r.who) a; charging = b }
  ruling-good cs _ _ (redials o g c a) e there h = rw (a h).1 (redial-good o g c e there (a h).0)

-- the whole request
pub request-good : (st : Station) (r : Request) (q : List Party) → distinct is (owners st.slots q) ≡ true → (o k : Option ℕ) → slot_of r.who st ≡ o → place_of r.who st ≡ k
    → Good st.clock (record { now = st.clock; columns = map (again r.who) (seen st).columns; places = (seen st).places; given = (seen st).given }) (stops_again st.clock r.who 0 (seen st).columns) (requested st r (stands_at o k))
unfolding requested seen B
request-good st r q d none none h w = let u = untouched st.clock r.who 0 st.slots h in rw (u.columns-same, u.no_stop) (d_to_g-good st r none w)
request-good st r q d none (some k) h w = let u = untouched st.clock r.who 0 st.slots h in rw (u.columns-same, u.no_stop) (d_to_g-good st r (some k) w)
request-good st r q d (some i) k h w = let u = touched st.clock r.who 0 i st.slots q d h in rw (u.one-column, u.one-stop, zero-add i, slot-mapped st view i) (ruling-good i st r _ (the_slot st i) _ (b_or_c-ruling i st r (the_slot st i)) refl (lowest-there (owns r.who) st.slots i h) (slot-lowest st (owns r.who) i h))
