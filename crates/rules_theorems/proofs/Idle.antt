-- `NoChannelIdle`: while a ship waits no slot is free, unless the last call number has been given.
use mathlib.Core.Path.{◌≡◌, refl, sym, ◌∙◌}
use mathlib.Core.Logic.{◌⊎◌, inl, inr}
use mathlib.Core.List.{List, [], ◌∷◌}
use mathlib.Core.Bool.{Bool, true, false}
use mathlib.Core.Option.{Option, none, some}
use Prim.Native.Nat.{ℕ, zero, suc, ◌≤◌}
use native.Mathlib.Omega.{arith}
use borrow.Author.Tests.{leb-true, leb-false}
use Rattle.rules.specs.Rules.Places.{mod_at, drop_at, lowest}
use Rattle.rules.specs.Rules.Words.{Request, Config, Event}
use Rattle.rules.specs.Rules.Actions.{Action}
use Rattle.rules.specs.Rules.Station.{Slot, free, Waiting, Station, fresh, set_slot, set_clock, set_queue, last_number, none_left, used_up, number_after, new_call, is_free, offer_of, called_of}
use Rattle.rules.specs.Rules.Requests.{to_ring_back, rung_back, freed_for, freed, rule_d, rule_f}
use Rattle.rules.specs.Rules.Calls.{act}
use Rattle.rules.specs.Rules.Verdict.{verdict, final}
use Rattle.rules.specs.Statement.{NoChannelIdle}
use Rattle.rules.proofs.PlaceLaws.{shift_none}
use Rattle.rules.proofs.Base.{rung-first}
use Rattle.rules.proofs.Run.{final-on, final-past}
use Rattle.rules.proofs.Outcome.{becomes, Move, to-dial, to-agree, to-ring, to-call, to-rings, to-answer, to-stage, to-lose, to-regain, to-hold, to_take}
use Rattle.rules.proofs.Walk.{Closed, act-kept}

-- nobody waits, or no slot is free, or the last number has been given
abbrev NoneIdle : List Waiting → List Slot → ℕ → Type 0
NoneIdle q ss n = (q ≡ []) ⊎ ((lowest is_free ss ≡ none) ⊎ (n ≡ last_number))

-- and no number past the last
record Fair (st : Station) : Type 0 where
  none-idle : NoneIdle st.queue st.slots st.last_call
  within : st.last_call ≤ last_number

-- ── the numbers ──────────────────────────────────────────────────────────────

next-within : (n : ℕ) → n ≤ last_number → number_after n ≤ last_number
next-within n h = go (none_left n) refl
  where
    go : (b : Bool) → none_left n ≡ b → number_after n ≤ last_number
    go true e = rw e h
    go false e = let k = leb-false last_number n e in rw e (omega arith)

next_last : (n : ℕ) → n ≡ last_number → number_after n ≡ last_number
next_last n h = rw h refl

used-up-last : (st : Station) → Fair st → used_up st ≡ true → st.last_call ≡ last_number
unfolding used_up
used-up-last st f u = let k = leb-true last_number st.last_call u in let h = f.within in omega arith

-- ── the slots ────────────────────────────────────────────────────────────────

full-set : (i : ℕ) (q : Slot) (ss : List Slot) → is_free q ≡ false → lowest is_free ss ≡ none → lowest is_free (mod_at (λ x. q) i ss) ≡ none
full-set i q [] f h = refl
full-set i q (s ∷ ss) f h = go i (is_free s) refl (λ j e. full-set j q ss f e)
  where
    go : (i : ℕ) (b : Bool) → is_free s ≡ b → ((j : ℕ) → lowest is_free ss ≡ none → lowest is_free (mod_at (λ x. q) j ss) ≡ none) → lowest is_free (mod_at (λ x. q) i (s ∷ ss)) ≡ none
    go i true e ih = let k : ◌≡◌ {A = Option ℕ} (some zero) none = rw e at h in cc
    go zero false e ih = rw (f, shift_none (lowest is_free ss) (rw e at h)) refl
    go (suc j) false e ih = rw (e, ih j (shift_none (lowest is_free ss) (rw e at h))) refl

-- a slot that is given to someone
set-idle : (i : ℕ) (s : Slot) (q : List Waiting) (ss : List Slot) (n : ℕ) → is_free s ≡ false → NoneIdle q ss n → NoneIdle q (mod_at (λ x. s) i ss) n
set-idle i s q ss n f (inl e) = inl e
set-idle i s q ss n f (inr (inl h)) = inr (inl (full-set i s ss f h))
set-idle i s q ss n f (inr (inr l)) = inr (inr l)

set-fair : (i : ℕ) (s : Slot) (st : Station) → is_free s ≡ false → Fair st → Fair (set_slot i s st)
unfolding set_slot
set-fair i s st f k = record { none-idle = set-idle i s st.queue st.slots st.last_call f k.none-idle; within = k.within }

-- a call that begins on it has the next number
next-idle : (q : List Waiting) (ss : List Slot) (n : ℕ) → NoneIdle q ss n → NoneIdle q ss (number_after n)
next-idle q ss n (inl e) = inl e
next-idle q ss n (inr (inl h)) = inr (inl h)
next-idle q ss n (inr (inr l)) = inr (inr (next_last n l))

begun-fair : (i : ℕ) (s : Slot) (st : Station) → is_free s ≡ false → Fair st → Fair (new_call i s st)
unfolding new_call
begun-fair i s st f k = record {
  none-idle = set-idle i s st.queue st.slots _ f (next-idle st.queue st.slots st.last_call k.none-idle);
  within = next-within st.last_call k.within;
}

-- the oldest has left the queue: it was not empty
taken-idle : (w : Waiting) (q : List Waiting) (ss : List Slot) (n : ℕ) → NoneIdle (w ∷ q) ss n → NoneIdle q ss n
taken-idle w q ss n (inl e) = let y : ◌≡◌ {A = ℕ} 0 1 = cc in absurd (omega arith)
taken-idle w q ss n (inr h) = inr h

-- a slot that is freed goes to the oldest, if anyone waits and a number is left
freed_for-fair : (i : ℕ) (st : Station) (q : List Waiting) → to_ring_back st ≡ q → Fair st → Fair (freed_for i st q).next
unfolding freed_for rung_back set_slot set_queue new_call
freed_for-fair i st [] e f = record { none-idle = go (used_up st) refl; within = f.within }
  where
    go : (b : Bool) → used_up st ≡ b → NoneIdle st.queue (mod_at (λ x. free) i st.slots) st.last_call
    go true u = inr (inr (used-up-last st f u))
    go false u = inl (rw u at e)
freed_for-fair i st (w ∷ q) e f =
    let k : NoneIdle (w ∷ q) st.slots st.last_call = rw (rung-first st w q e).1 at f.none-idle in
    begun-fair i _ (set_queue q st) refl (record { none-idle = taken-idle w q st.slots st.last_call k; within = f.within })

freed-fair : (i : ℕ) (st : Station) → Fair st → Fair (freed i st).next
unfolding freed
freed-fair i st f = freed_for-fair i st (to_ring_back st) refl f

turned-busy : (i t : ℕ) (p q : Slot) (acts : List Action) → Move i t p (becomes q) acts → is_free q ≡ false
turned-busy i t _ _ _ (to-dial k r d z) = refl
turned-busy i t _ _ _ (to-agree k r d z) = refl
turned-busy i t _ _ _ (to-call r d) = refl
turned-busy i t _ _ _ (to-rings k r d z) = refl
turned-busy i t _ _ _ (to-answer r d) = refl
turned-busy i t _ _ _ (to-ring r d) = refl
turned-busy i t _ _ _ (to-stage r n q c z) = refl
turned-busy i t _ _ _ (to-lose r g c) = refl
turned-busy i t _ _ _ (to-regain r g c) = refl
turned-busy i t _ _ _ (to-hold r g c) = refl
turned-busy i t _ _ _ to_take = refl

still-none : (k : ℕ) (g : Waiting → Waiting) (q : List Waiting) → q ≡ [] → mod_at g k q ≡ []
still-none k g [] h = refl
still-none k g (w ∷ q) h = cc

none_dropped : (k : ℕ) (q : List Waiting) → q ≡ [] → drop_at k q ≡ []
none_dropped k [] h = refl
none_dropped k (w ∷ q) h = cc

-- an empty queue stays empty
queue-fair : (q : List Waiting) (st : Station) → (st.queue ≡ [] → q ≡ []) → Fair st → Fair (set_queue q st)
unfolding set_queue
queue-fair q st e f = record { none-idle = go f.none-idle; within = f.within }
  where
    go : NoneIdle st.queue st.slots st.last_call → NoneIdle q st.slots st.last_call
    go (inl n) = inl (e n)
    go (inr h) = inr h

rule_d-fair : (k : ℕ) (st : Station) (r : Request) → Fair st → Fair (rule_d k st r).next
unfolding rule_d
rule_d-fair k st r f = queue-fair _ st (still-none k (λ w. record { request = r; due = w.due }) st.queue) f

-- a ship joins the queue only where no slot is free
rule_f-fair : (st : Station) (r : Request) → lowest is_free st.slots ≡ none → Fair st → Fair (rule_f st r).next
unfolding rule_f set_queue
rule_f-fair st r h f = record { none-idle = inr (inl h); within = f.within }

drop-fair : (k : ℕ) (st : Station) → Fair st → Fair (set_queue (drop_at k st.queue) st)
drop-fair k st f = queue-fair (drop_at k st.queue) st (none_dropped k st.queue) f

fair-closed : (cfg : Config) → Closed cfg Fair
fair-closed cfg = record {
  turning = λ i st p q acts e t f. set-fair i q st (turned-busy i st.clock p q acts t) f;
  freeing = freed-fair;
  renewed = λ i st r h k o d e y u f. begun-fair i (offer_of r st) st refl f;
  offering = λ i st r h n y u f. begun-fair i (offer_of r st) st refl f;
  calling = λ i st r h n y u f. begun-fair i (called_of r st) st refl f;
  joining = λ st r h n y none q f. rule_f-fair st r none f;
  replacing = λ k st r h y f. rule_d-fair k st r f;
  dropping = drop-fair;
}

-- ── the run ──────────────────────────────────────────────────────────────────

clock-fair : (t : ℕ) (st : Station) → Fair st → Fair (set_clock t st)
unfolding set_clock
clock-fair t st f = record { none-idle = f.none-idle; within = f.within }

run-fair : (cfg : Config) (es : List Event) (st : Station) → Fair st → Fair (final cfg es st)
unfolding final
run-fair cfg [] st f = f
run-fair cfg (e ∷ es) st f = go (verdict cfg st e) refl (λ s. run-fair cfg es s)
  where
    go : (o : Option ℕ) → verdict cfg st e ≡ o → ((s : Station) → Fair s → Fair (final cfg es s)) → Fair (final cfg (e ∷ es) st)
    go none v ih = rw (final-on cfg e es st v) (ih (act cfg st e).next (act-kept cfg Fair (fair-closed cfg) st e v (clock-fair _ st f)))
    go (some n) v ih = rw (final-past cfg e es st n v) (ih st f)

fair-none : (st : Station) → NoneIdle st.queue st.slots st.last_call → (w : Waiting) (q : List Waiting) → st.queue ≡ w ∷ q → (lowest is_free st.slots ≡ none) ⊎ (st.last_call ≡ last_number)
fair-none st (inl n) w q e = let z : ◌≡◌ {A = List Waiting} (w ∷ q) [] = sym e ∙ n in let y : ◌≡◌ {A = ℕ} 0 1 = cc in absurd (omega arith)
fair-none st (inr h) w q e = h

-- while ships wait out their quarter hour no working channel stands idle, as long as there are numbers
pub no-channel-idle : NoChannelIdle
unfolding NoChannelIdle fresh
no-channel-idle cfg set es = fair-none (final cfg es (fresh cfg)) (run-fair cfg es (fresh cfg) (record { none-idle = inl refl; within = omega arith })).none-idle
