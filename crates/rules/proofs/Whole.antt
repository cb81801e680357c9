-- No ship stands twice, every time fits, the queue has room: what every event keeps of it.
use mathlib.Core.Path.{◌≡◌, refl, ap}
use mathlib.Core.List.{List, [], ◌∷◌, ◌++◌}
use mathlib.Core.Bool.{Bool, true, false}
use mathlib.Core.Option.{none, some}
use Prim.Native.Nat.{ℕ, zero, suc, ◌+◌, ◌≤◌, ◌<◌}
use native.Mathlib.Omega.{arith}
use lib.Dec.{ltb}
use lib.ListN.{get_or, length, length-append}
use borrow.Author.Tests.{leb-true, ltb-true}
use Rattle.rules.specs.Rules.Places.{mod_at, drop_at, all}
use Rattle.rules.specs.Rules.Words.{Party, is, Request, Config}
use Rattle.rules.specs.Rules.Actions.{Action}
use Rattle.rules.specs.Rules.Station.{Dealing, Kind, Slot, pending, Waiting, Station, the_slot, set_slot, set_queue, new_call, due_after, queue_wait, ring_back_of, offer_of, called_of}
use Rattle.rules.specs.Rules.Sound.{queue_room, slot_fits, place_fits}
use Rattle.rules.specs.Rules.Requests.{to_ring_back, rung_back, freed_for, freed, owns, waits_for, place_of, rule_d, rule_f}
use Rattle.sequence.proofs.Tests.{both_true}
use Rattle.rules.proofs.PlaceLaws.{lowest-is, all_set, all_end, all-dropped, dropped-length}
use Rattle.rules.proofs.Base.{is_true, rung-first, slot-all, offer-fits, call_fits, ring-fits, new-wait}
use Rattle.rules.proofs.Accepted.{Sound}
use Rattle.rules.proofs.Occurs.{bit}
use Rattle.rules.proofs.Once.{count_s, count_q, Once, distinct-once, count_set, waiting-count}
use Rattle.rules.proofs.Outcome.{becomes, Move, to-dial, to-agree, to-ring, to-call, to-rings, to-answer, to-stage, to-lose, to-regain, to-hold, to_take, turned-fits}
use Rattle.rules.proofs.Walk.{Closed}

pub record Whole (st : Station) : Type 0 where
  pub once : Once st
  pub fit : all (slot_fits st.clock) st.slots ≡ true
  pub placed : all (place_fits st.clock) st.queue ≡ true
  pub room : length st.queue ≤ 32

pub whole : (cfg : Config) (st : Station) → Sound cfg st → Whole st
whole cfg st s = record { once = distinct-once st s.no-twice; fit = s.slots-fit; placed = s.places-fit; room = leb-true (length st.queue) 32 s.room }

-- ── a slot changed ───────────────────────────────────────────────────────────

set-whole : (i : ℕ) (q : Slot) (st : Station) → Whole st → slot_fits st.clock q ≡ true
    → ((x : Party) → count_s x st.slots + count_q x st.queue + bit (owns x q) ≤ 1 + bit (owns x (the_slot st i))) → Whole (set_slot i q st)
unfolding set_slot
set-whole i q st w f h = record {
  once = λ x. less (count_s x (mod_at (λ y. q) i st.slots)) (bit (owns x (the_slot st i))) (count_s x st.slots) (bit (owns x q)) (count_q x st.queue) (count_set x i q st) (h x);
  fit = all_set (slot_fits st.clock) i q st.slots w.fit f;
  placed = w.placed;
  room = w.room;
}
  where
    less : (n o s p k : ℕ) → n + o ≤ s + p → s + k + p ≤ 1 + o → n + k ≤ 1
    less n o s p k a b = omega arith

-- a slot's ship stays or goes
turn-whole : (i : ℕ) (st : Station) (p : Slot) → the_slot st i ≡ p → Whole st → (q : Slot) → slot_fits st.clock q ≡ true → ((x : Party) → bit (owns x q) ≤ bit (owns x p)) → Whole (set_slot i q st)
turn-whole i st p e w q f h = set-whole i q st w f (λ x. rw e (sum3 (count_s x st.slots) (count_q x st.queue) (bit (owns x q)) (bit (owns x p)) (w.once x) (h x)))
  where
    sum3 : (a b c d : ℕ) → a + b ≤ 1 → c ≤ d → a + b + c ≤ 1 + d
    sum3 a b c d u v = omega arith

-- and is no other ship's
turned-owner : (i t : ℕ) (p q : Slot) (acts : List Action) → Move i t p (becomes q) acts → (x : Party) → bit (owns x q) ≤ bit (owns x p)
turned-owner i t _ _ _ (to-dial k r d z) x = omega arith
turned-owner i t _ _ _ (to-agree k r d z) x = omega arith
turned-owner i t _ _ _ (to-call r d) x = omega arith
turned-owner i t _ _ _ (to-rings k r d z) x = omega arith
turned-owner i t _ _ _ (to-answer r d) x = omega arith
turned-owner i t _ _ _ (to-ring r d) x = omega arith
turned-owner i t _ _ _ (to-stage r n q c z) x = omega arith
turned-owner i t _ _ _ (to-lose r g c) x = omega arith
turned-owner i t _ _ _ (to-regain r g c) x = omega arith
turned-owner i t _ _ _ (to-hold r g c) x = omega arith
turned-owner i t _ _ _ to_take x = omega arith

turned-whole : (i : ℕ) (st : Station) (p q : Slot) (acts : List Action) → the_slot st i ≡ p → Move i st.clock p (becomes q) acts → Whole st → Whole (set_slot i q st)
turned-whole i st p q acts e t w = turn-whole i st p e w q (turned-fits i st.clock p q acts t (rw e at (slot-all st (slot_fits st.clock) refl i w.fit))) (turned-owner i st.clock p q acts t)

-- ── a slot freed ─────────────────────────────────────────────────────────────

freed_for-whole : (i : ℕ) (st : Station) → Whole st → (q : List Waiting) → to_ring_back st ≡ q → Whole (freed_for i st q).next
unfolding freed_for rung_back set_slot set_queue new_call
freed_for-whole i st w [] e = turn-whole i st (the_slot st i) refl w _ refl (λ x. omega arith)
freed_for-whole i st w (v ∷ q) e = record {
  once = λ x. less (count_s x (mod_at (λ y. ring_back_of v.request st) i st.slots)) (bit (owns x (the_slot st i))) (count_s x st.slots) (bit (is x v.request.who)) (count_q x q) (count_set x i (ring_back_of v.request st) st) (rw (rung-first st v q e).1 at (w.once x));
  fit = all_set (slot_fits st.clock) i (ring_back_of v.request st) st.slots w.fit (ring-fits v.request st);
  placed = (both_true (place_fits st.clock v) (all (place_fits st.clock) q) (rw (rung-first st v q e).1 at w.placed)).1;
  room = shorter (length q) (rw (rung-first st v q e).1 at w.room);
}
  where
    less : (n o s p k : ℕ) → n + o ≤ s + p → s + (p + k) ≤ 1 → n + k ≤ 1
    less n o s p k a b = omega arith

    shorter : (n : ℕ) → suc n ≤ 32 → n ≤ 32
    shorter n h = omega arith

freed-whole : (i : ℕ) (st : Station) → Whole st → Whole (freed i st).next
unfolding freed
freed-whole i st w = freed_for-whole i st w (to_ring_back st) refl

-- ── a request ────────────────────────────────────────────────────────────────

-- the same ships, places and number
record Alike (c : ℕ) (a b : List Waiting) : Type 0 where
  ships : (x : Party) → count_q x a ≡ count_q x b
  places : all (place_fits c) b ≡ true → all (place_fits c) a ≡ true
  many : length a ≡ length b

renew-alike : (c : ℕ) (r : Request) (k : ℕ) (q : List Waiting) → is r.who (get_or q k (record { request = r; due = 0 })).request.who ≡ true
    → Alike c (mod_at (λ w. record { request = r; due = w.due }) k q) q
renew-alike c r k [] h = record { ships = λ x. refl; places = λ h. h; many = refl }
renew-alike c r zero (v ∷ q) h = record { ships = λ x. rw (is_true r.who v.request.who h) refl; places = λ h. h; many = refl }
renew-alike c r (suc k) (v ∷ q) h = let a = renew-alike c r k q h in record { ships = λ x. ap (λ n. bit (is x v.request.who) + n) (a.ships x); places = λ h. let k = both_true (place_fits c v) (all (place_fits c) q) h in rw k.0 (a.places k.1); many = ap suc a.many }

rule_d-whole : (k : ℕ) (st : Station) (r : Request) → place_of r.who st ≡ some k → Whole st → Whole (rule_d k st r).next
unfolding rule_d set_queue
rule_d-whole k st r h w =
    let a = renew-alike st.clock r k st.queue (lowest-is (record { request = r; due = 0 }) (waits_for r.who) st.queue k h) in
    record { once = λ x. rw (a.ships x) (w.once x); fit = w.fit; placed = a.places w.placed; room = rw a.many w.room }

count-snoc : (x : Party) (q : List Waiting) (v : Waiting) → count_q x (q ++ v ∷ []) ≡ count_q x q + bit (is x v.request.who)
count-snoc x [] v = omega arith
count-snoc x (u ∷ q) v = omega (arith, count-snoc x q v)

-- a ship that stands nowhere may be put somewhere
newly : (x y : Party) (s q : ℕ) → s + q ≤ 1 → (x ≡ y → (s ≡ 0) × (q ≡ 0)) → s + q + bit (is x y) ≤ 1
newly x y s q h f = go (is x y) refl
  where
    go : (b : Bool) → is x y ≡ b → s + q + bit b ≤ 1
    go true e = let k = f (is_true x y e) in omega arith
    go false e = omega arith

module _ (st : Station) (r : Request) (here : count_s r.who st.slots ≡ 0) (h : place_of r.who st ≡ none) (w : Whole st) where
  -- the ship, placed once more, stands once
  once_more : (x : Party) → count_s x st.slots + count_q x st.queue + bit (is x r.who) ≤ 1
  once_more x = newly x r.who (count_s x st.slots) (count_q x st.queue) (w.once x) (λ e. rw e (here, waiting-count r.who st.queue h))

  join-whole : ltb (length st.queue) queue_room ≡ true → Whole (rule_f st r).next
  unfolding rule_f set_queue
  join-whole k = record {
    once = λ x. rw (count-snoc x st.queue (record { request = r; due = due_after st.clock queue_wait })) (assoc (count_s x st.slots) (count_q x st.queue) (bit (is x r.who)) (once_more x));
    fit = w.fit;
    placed = all_end (place_fits st.clock) st.queue _ w.placed (new-wait st.clock queue_wait);
    room = rw (length-append st.queue (record { request = r; due = due_after st.clock queue_wait } ∷ [])) (more (length st.queue) (ltb-true (length st.queue) queue_room k));
  }
    where
      assoc : (a b c : ℕ) → a + b + c ≤ 1 → a + (b + c) ≤ 1
      assoc a b c h = omega arith

      more : (n : ℕ) → n < 32 → n + 1 ≤ 32
      more n h = omega arith

  -- a slot that is given to it
  given-whole : (i : ℕ) (q : Slot) → slot_fits st.clock q ≡ true → ((x : Party) → owns x q ≡ is x r.who) → Whole (set_slot i q st)
  given-whole i q f o = set-whole i q st w f (λ x. rw (o x) (weaker (bit (owns x (the_slot st i))) (count_s x st.slots + count_q x st.queue + bit (is x r.who)) (once_more x)))
    where
      weaker : (b n : ℕ) → n ≤ 1 → n ≤ 1 + b
      weaker b n h = omega arith

renewed-whole : (i : ℕ) (st : Station) (r : Request) (k : Kind) (o : Dealing) (d : ℕ) → the_slot st i ≡ pending k o d → is r.who o.request.who ≡ true → Whole st → Whole (set_slot i (offer_of r st) st)
renewed-whole i st r k o d e h w = turn-whole i st (pending k o d) e w (offer_of r st) (offer-fits r st) (λ x. rw (is_true r.who o.request.who h) (omega arith))

-- ── the queue ────────────────────────────────────────────────────────────────

drop-count : (x : Party) (k : ℕ) (q : List Waiting) → count_q x (drop_at k q) ≤ count_q x q
drop-count x k [] = omega arith
drop-count x zero (v ∷ q) = omega arith
drop-count x (suc k) (v ∷ q) = omega (arith, drop-count x k q)

dropped-whole : (k : ℕ) (st : Station) → Whole st → Whole (set_queue (drop_at k st.queue) st)
unfolding set_queue
dropped-whole k st w = record {
  once = λ x. below (count_s x st.slots) (count_q x (drop_at k st.queue)) (count_q x st.queue) (drop-count x k st.queue) (w.once x);
  fit = w.fit;
  placed = all-dropped (place_fits st.clock) k st.queue w.placed;
  room = under (length (drop_at k st.queue)) (length st.queue) (dropped-length k st.queue) w.room;
}
  where
    below : (s a b : ℕ) → a ≤ b → s + b ≤ 1 → s + a ≤ 1
    below s a b h k = omega arith

    under : (a b : ℕ) → a ≤ b → b ≤ 32 → a ≤ 32
    under a b h k = omega arith

-- a call that begins takes a number, and nothing here asks for it
numbered-whole : (i : ℕ) (q : Slot) (st : Station) → Whole (set_slot i q st) → Whole (new_call i q st)
unfolding set_slot new_call
numbered-whole i q st w = record { once = w.once; fit = w.fit; placed = w.placed; room = w.room }

pub whole-closed : (cfg : Config) → Closed cfg Whole
whole-closed cfg = record {
  turning = turned-whole;
  freeing = freed-whole;
  renewed = λ i st r k x o d e h u w. numbered-whole i (offer_of r st) st (renewed-whole i st r x o d e h w);
  offering = λ i st r k n h u w. numbered-whole i (offer_of r st) st (given-whole st r n h w i (offer_of r st) (offer-fits r st) (λ x. refl));
  calling = λ i st r k n h u w. numbered-whole i (called_of r st) st (given-whole st r n h w i (called_of r st) (call_fits r st) (λ x. refl));
  joining = λ st r k n h f q w. join-whole st r n h w q;
  replacing = λ k st r h. rule_d-whole k st r;
  dropping = dropped-whole;
}
