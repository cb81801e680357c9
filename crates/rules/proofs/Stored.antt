-- What a station stores keeps the rules of 01: what every event keeps of it.
use mathlib.Core.Path.{◌≡◌, refl, ◌∙◌}
use mathlib.Core.Option.{Option, none, some}
use mathlib.Core.List.{List, [], ◌∷◌}
use mathlib.Core.Bool.{Bool, true, false, cond}
use Prim.Native.Nat.{ℕ, zero, suc, ◌-◌, ◌/◌, ◌%◌}
use native.Mathlib.Omega.{arith}
use lib.Dec.{leb}
use lib.ListN.{length}
use borrow.Author.Tests.{leb-true, le-leb}
use Rattle.units.specs.Units.{whole_seconds, duration_of}
use Rattle.units.specs.declared.Seconds.{Seconds}
use Rattle.std.specs.Prelude.{Some, None}
use Rattle.sequence.specs.Field.{duration_ok}
use Rattle.rules.specs.Rules.Places.{mod_at, drop_at, all}
use Rattle.rules.specs.Rules.Words.{Request, Config}
use Rattle.rules.specs.Rules.Actions.{Action}
use Rattle.rules.specs.Rules.Station.{Slot, Waiting, Station, the_slot, set_slot, set_clock, set_queue, answered_at, ring_back_of, offer_of, called_of, new_call}
use Rattle.rules.specs.Rules.Sound.{request_keeps, duration_keeps, slot_keeps, waiting_keeps}
use Rattle.rules.specs.Rules.Requests.{rung_back, freed_for, freed, lasted, rule_d, rule_f, to_ring_back}
use Rattle.sequence.proofs.Tests.{both_true}
use Rattle.rules.proofs.PlaceLaws.{mod_at-length, all_set, all_end, all-dropped}
use Rattle.rules.proofs.Outcome.{becomes, Move, to-dial, to-agree, to-ring, to-call, to-rings, to-answer, to-stage, to-lose, to-regain, to-hold, to_take}
use Rattle.rules.proofs.Walk.{Closed}
use Rattle.rules.proofs.Base.{slot-all, rung-first}

pub record Stored (cfg : Config) (st : Station) : Type 0 where
  pub slots-keep : all (slot_keeps cfg) st.slots ≡ true
  pub queue-keeps : all (waiting_keeps cfg) st.queue ≡ true
  pub many : length st.slots ≡ length cfg.channels

-- ── the duration that is told ────────────────────────────────────────────────

duration-keeps : (s : Seconds) → duration_keeps (duration_of s) ≡ true
unfolding duration_keeps duration_ok
duration-keeps s = go (leb s.0 359999) refl
  where
    go : (b : Bool) → leb s.0 359999 ≡ b → duration_keeps (cond b (Some (record { hours = s.0 / 3600; minutes = s.0 / 60 % 60; seconds = s.0 % 60 })) None) ≡ true
    go true e = let h = leb-true s.0 359999 e in rw (le-leb (s.0 / 3600) 99 (omega arith), le-leb (s.0 / 60 % 60) 59 (omega arith), le-leb (s.0 % 60) 59 (omega arith)) refl
    go false e = refl

pub lasted-keeps : (g : Option ℕ) (t : ℕ) → duration_keeps (lasted g t) ≡ true
unfolding duration_keeps
lasted-keeps none t = refl
lasted-keeps (some b) t = duration-keeps (whole_seconds (record { 0 = t - b }))

-- ── the pieces ───────────────────────────────────────────────────────────────

module _ (cfg : Config) where
  set-stored : (i : ℕ) (q : Slot) (st : Station) → slot_keeps cfg q ≡ true → Stored cfg st → Stored cfg (set_slot i q st)
  unfolding set_slot
  set-stored i q st k s = record {
    slots-keep = all_set (slot_keeps cfg) i q st.slots s.slots-keep k;
    queue-keeps = s.queue-keeps;
    many = mod_at-length (λ x. q) i st.slots ∙ s.many;
  }

  queue-stored : (q : List Waiting) (st : Station) → all (waiting_keeps cfg) q ≡ true → Stored cfg st → Stored cfg (set_queue q st)
  unfolding set_queue
  queue-stored q st k s = record { slots-keep = s.slots-keep; queue-keeps = k; many = s.many }

  pub clock-stored : (t : ℕ) (st : Station) → Stored cfg st → Stored cfg (set_clock t st)
  unfolding set_clock
  clock-stored t st s = record { slots-keep = s.slots-keep; queue-keeps = s.queue-keeps; many = s.many }

  -- the request of a slot is the one that it had
  turned-keeps : (i t : ℕ) (p q : Slot) (acts : List Action) → Move i t p (becomes q) acts → slot_keeps cfg p ≡ true → slot_keeps cfg q ≡ true
  turned-keeps i t _ _ _ (to-dial k r d z) h = h
  turned-keeps i t _ _ _ (to-agree k r d z) h = h
  turned-keeps i t _ _ _ (to-call r d) h = h
  turned-keeps i t _ _ _ (to-rings k r d z) h = h
  turned-keeps i t _ _ _ (to-answer r d) h = h
  turned-keeps i t _ _ _ (to-ring r d) h = h
  turned-keeps i t _ _ _ (to-stage r n q c z) h = h
  turned-keeps i t _ _ _ (to-lose r g c) h = h
  turned-keeps i t _ _ _ (to-regain r g c) h = h
  turned-keeps i t _ _ _ (to-hold r g c) h = rw (h, lasted-keeps (answered_at g) t) refl
  turned-keeps i t _ _ _ to_take h = refl

  turned-stored : (i : ℕ) (st : Station) (p q : Slot) (acts : List Action) → the_slot st i ≡ p → Move i st.clock p (becomes q) acts → Stored cfg st → Stored cfg (set_slot i q st)
  turned-stored i st p q acts e t s = set-stored i q st (turned-keeps i st.clock p q acts t (rw e at (slot-all st (slot_keeps cfg) refl i s.slots-keep))) s

  -- a call that begins
  begun-stored : (i : ℕ) (p : Slot) (st : Station) → slot_keeps cfg p ≡ true → Stored cfg st → Stored cfg (new_call i p st)
  unfolding new_call
  begun-stored i p st h s = record { slots-keep = all_set (slot_keeps cfg) i p st.slots s.slots-keep h; queue-keeps = s.queue-keeps; many = mod_at-length (λ x. p) i st.slots ∙ s.many }

  freed_for-stored : (i : ℕ) (st : Station) → Stored cfg st → (q : List Waiting) → to_ring_back st ≡ q → Stored cfg (freed_for i st q).next
  unfolding freed_for rung_back
  freed_for-stored i st s [] e = set-stored i _ st refl s
  freed_for-stored i st s (w ∷ q) e =
      let k = both_true (waiting_keeps cfg w) (all (waiting_keeps cfg) q) (rw (rung-first st w q e).1 at s.queue-keeps) in
      begun-stored i (ring_back_of w.request st) (set_queue q st) k.0 (queue-stored q st k.1 s)

  freed-stored : (i : ℕ) (st : Station) → Stored cfg st → Stored cfg (freed i st).next
  unfolding freed
  freed-stored i st s = freed_for-stored i st s (to_ring_back st) refl

  all-renewed : (r : Request) → request_keeps cfg r ≡ true → (k : ℕ) (q : List Waiting) → all (waiting_keeps cfg) q ≡ true → all (waiting_keeps cfg) (mod_at (λ w. record { request = r; due = w.due }) k q) ≡ true
  all-renewed r h k [] a = refl
  all-renewed r h zero (w ∷ q) a = rw h (both_true (waiting_keeps cfg w) (all (waiting_keeps cfg) q) a).1
  all-renewed r h (suc k) (w ∷ q) a = let b = both_true (waiting_keeps cfg w) (all (waiting_keeps cfg) q) a in rw b.0 (all-renewed r h k q b.1)

  rule_d-stored : (k : ℕ) (st : Station) (r : Request) → request_keeps cfg r ≡ true → Stored cfg st → Stored cfg (rule_d k st r).next
  unfolding rule_d
  rule_d-stored k st r h s = queue-stored _ st (all-renewed r h k st.queue s.queue-keeps) s

  rule_f-stored : (st : Station) (r : Request) → request_keeps cfg r ≡ true → Stored cfg st → Stored cfg (rule_f st r).next
  unfolding rule_f
  rule_f-stored st r h s = queue-stored _ st (all_end (waiting_keeps cfg) st.queue _ s.queue-keeps h) s

  pub stored-closed : Closed cfg (Stored cfg)
  stored-closed = record {
    turning = turned-stored;
    freeing = freed-stored;
    renewed = λ i st r h k o d e y u s. begun-stored i (offer_of r st) st h s;
    offering = λ i st r h n y u s. begun-stored i (offer_of r st) st h s;
    calling = λ i st r h n y u s. begun-stored i (called_of r st) st h s;
    joining = λ st r h n y f q s. rule_f-stored st r h s;
    replacing = λ k st r h y s. rule_d-stored k st r h s;
    dropping = λ k st s. queue-stored (drop_at k st.queue) st (all-dropped (waiting_keeps cfg) k st.queue s.queue-keeps) s;
  }
