-- What every event keeps: a property of stations that is kept by each change which an event can make of a slot or of the queue.
use mathlib.Core.Path.{◌≡◌, refl}
use mathlib.Core.List.{List, [], ◌∷◌}
use mathlib.Core.Bool.{Bool, true, false, cond}
use mathlib.Core.Option.{Option, none, some}
use Prim.Native.Nat.{ℕ, zero}
use borrow.Author.Tests.{eq-eqb}
use lib.Dec.{ltb}
use lib.ListN.{length}
use Rattle.rules.specs.Rules.Places.{drop_at, lowest, is_some}
use Rattle.rules.specs.Rules.Words.{Party, is, Request, Config, Ashore, ashore_in, Event}
use Rattle.rules.specs.Rules.Heard.{Heard, call_request}
use Rattle.rules.specs.Rules.Station.{Dealing, Kind, Slot, pending, Station, the_slot, set_slot, set_clock, set_queue, used_up, new_call, answered_at, is_free, offer_of, called_of}
use Rattle.rules.specs.Rules.Sound.{request_keeps, queue_room}
use Rattle.rules.specs.Rules.Requests.{Out, freed, coast_end, owns, slot_of, place_of, stands_at, standing, rule_a, no_number, repeated, afresh, rule_d, offer, rule_f, rule_g, e_to_g, newcomer, waiting_or_new, d_to_g, redial, requested}
use Rattle.rules.specs.Rules.Ashore.{ashore_request, keeps_for, engaged, called_from}
use Rattle.rules.specs.Rules.Calls.{act}
use Rattle.rules.specs.Rules.Verdict.{names_ship, names_number, names_engaged, verdict}
use Rattle.rules.specs.Rules.Actions.{Action}
use Rattle.rules.specs.ListAlone.Book.{Stop, Column, Book}
use Rattle.rules.specs.ListAlone.Reading.{moment}
use Rattle.rules.specs.ListAlone.LineWords.{Word}
use Rattle.rules.proofs.Readable.{heard-keeps}
use Rattle.rules.proofs.Base.{by-slot, seen, slot-taken, slot-lowest}
use Rattle.rules.proofs.PlaceLaws.{or-false, shift_none}
use Rattle.rules.proofs.Outcome.{stays, becomes, frees, Move, Outcome, passed, moved}
use Rattle.rules.proofs.Ruling.{Ruling, passes, repeats, renews, runs-out, redials, b_or_c-ruling}
use Rattle.rules.proofs.Accepted.{accepted, sounds}
use Rattle.rules.proofs.Once.{count_s, Once, distinct-once, none-count, coast_end-gone}
use Rattle.rules.proofs.Effect.{Effect, rests, drops, data-asked, call-asked, to-slot, called-ashore, act-effect, heard-at}

-- ── the changes ──────────────────────────────────────────────────────────────

pub record Closed (cfg : Config) (P : Station → Type 0) : Type 0 where
  pub turning : (i : ℕ) (st : Station) (p q : Slot) (acts : List Action) → the_slot st i ≡ p → Move i st.clock p (becomes q) acts → P st → P (set_slot i q st)
  pub freeing : (i : ℕ) (st : Station) → P st → P (freed i st).next
  -- a request that keeps the rules: offered afresh to its ship; offered to a ship that stands nowhere, or called for it; waiting, replaced
  pub renewed : (i : ℕ) (st : Station) (r : Request) → request_keeps cfg r ≡ true → (k : Kind) (o : Dealing) (d : ℕ) → the_slot st i ≡ pending k o d → is r.who o.request.who ≡ true → used_up st ≡ false → P st → P (new_call i (offer_of r st) st)
  pub offering : (i : ℕ) (st : Station) (r : Request) → request_keeps cfg r ≡ true → count_s r.who st.slots ≡ 0 → place_of r.who st ≡ none → used_up st ≡ false → P st → P (new_call i (offer_of r st) st)
  pub calling : (i : ℕ) (st : Station) (r : Request) → request_keeps cfg r ≡ true → count_s r.who st.slots ≡ 0 → place_of r.who st ≡ none → used_up st ≡ false → P st → P (new_call i (called_of r st) st)
  pub joining : (st : Station) (r : Request) → request_keeps cfg r ≡ true → count_s r.who st.slots ≡ 0 → place_of r.who st ≡ none → lowest is_free st.slots ≡ none → ltb (length st.queue) queue_room ≡ true → P st → P (rule_f st r).next
  pub replacing : (k : ℕ) (st : Station) (r : Request) → request_keeps cfg r ≡ true → place_of r.who st ≡ some k → P st → P (rule_d k st r).next
  pub dropping : (k : ℕ) (st : Station) → P st → P (set_queue (drop_at k st.queue) st)

-- a request from ashore that is not refused: it keeps the rules, and its ship stands nowhere
pub record Callable (cfg : Config) (st : Station) (r : Request) : Type 0 where
  pub keeps : request_keeps cfg r ≡ true
  pub no_slot : count_s r.who st.slots ≡ 0
  pub no_place : place_of r.who st ≡ none

-- a ship for which no request is kept has no slot
kept-owned : (x : Party) (s : Slot) → keeps_for x s ≡ false → owns x s ≡ false
kept-owned x = by-slot (λ s. keeps_for x s ≡ false → owns x s ≡ false) (λ h. h) (λ h. h) (λ k r d h. h) (λ r g c h. h) (λ r n d h. refl)

kept-none : (x : Party) (ss : List Slot) → lowest (keeps_for x) ss ≡ none → lowest (owns x) ss ≡ none
kept-none x [] h = refl
kept-none x (s ∷ ss) h = go (keeps_for x s) refl (kept-none x ss)
  where
    go : (b : Bool) → keeps_for x s ≡ b → (lowest (keeps_for x) ss ≡ none → lowest (owns x) ss ≡ none) → lowest (owns x) (s ∷ ss) ≡ none
    go true e ih = let k : ◌≡◌ {A = Option ℕ} (some zero) none = rw e at h in cc
    go false e ih = rw (kept-owned x s e, ih (shift_none _ (rw e at h))) refl

is_none : (o : Option ℕ) → is_some o ≡ false → o ≡ none
is_none none h = refl
is_none (some n) h = cc

pub asked-callable : (cfg : Config) (st : Station) (q : Option Ashore) → names_ship q ≡ true → names_number q ≡ true → names_engaged cfg st q ≡ false
    → (a : Ashore) → q ≡ some a → Callable cfg st (ashore_request cfg a)
unfolding ashore_request request_keeps engaged
asked-callable cfg st q s n g a e =
    let x = (ashore_request cfg a).who in
    let k = or-false (is_some (lowest (keeps_for x) st.slots)) _ (rw e at g) in
    record {
      keeps = rw (rw e at s, eq-eqb cfg.identity cfg.identity refl, rw e at n) refl;
      no_slot = none-count x st.slots (kept-none x st.slots (is_none _ k.0));
      no_place = is_none _ k.1;
    }

-- ── on a slot ────────────────────────────────────────────────────────────────

module _ (cfg : Config) (P : Station → Type 0) (closed : Closed cfg P) where
  coast_end-kept : (i : ℕ) (r : Dealing) (g : Option ℕ) (st : Station) → P st → P (coast_end i r g st).next
  unfolding coast_end
  coast_end-kept i r g st s = closed.freeing i st s

  outcome-kept : (i : ℕ) (st : Station) {f : Column → Column} {w : Word → Word} {cs : List Stop} (p : Slot) {o : Out} → Outcome i st f w cs p o → the_slot st i ≡ p → P st → P o.next
  outcome-kept i st p (passed a b c) e s = s
  outcome-kept i st p (moved {n = stays} u a b c) e s = s
  outcome-kept i st p (moved {n = becomes q} u a b c) e s = closed.turning i st p q _ e u s
  outcome-kept i st p (moved {n = frees} u a b c) e s = closed.freeing i st s

  -- ── a request ──────────────────────────────────────────────────────────────

  module _ (r : Request) (keeps : request_keeps cfg r ≡ true) where
    e_to_g-kept : (st : Station) → P st → used_up st ≡ false → count_s r.who st.slots ≡ 0 → place_of r.who st ≡ none → (o : Option ℕ) → lowest is_free st.slots ≡ o → P (e_to_g st r o).next
    unfolding e_to_g offer afresh rule_g
    e_to_g-kept st s u n h (some i) e = closed.offering i st r keeps n h u s
    e_to_g-kept st s u n h none e = go (ltb (length st.queue) queue_room) refl
      where
        go : (b : Bool) → ltb (length st.queue) queue_room ≡ b → P (cond b (rule_f st r) (rule_g st r)).next
        go true k = closed.joining st r keeps n h e k s
        go false k = s

    newcomer-kept : (st : Station) → P st → used_up st ≡ false → count_s r.who st.slots ≡ 0 → place_of r.who st ≡ none → P (newcomer st r).next
    unfolding newcomer
    newcomer-kept st s u n h = e_to_g-kept st s u n h (lowest is_free st.slots) refl

    waiting_or_new-kept : (st : Station) → P st → used_up st ≡ false → count_s r.who st.slots ≡ 0 → (k : Option ℕ) → place_of r.who st ≡ k → P (waiting_or_new st r k).next
    unfolding waiting_or_new
    waiting_or_new-kept st s u n none h = newcomer-kept st s u n h
    waiting_or_new-kept st s u n (some k) h = closed.replacing k st r keeps h s

    d_to_g-kept : (st : Station) → P st → count_s r.who st.slots ≡ 0 → (k : Option ℕ) → place_of r.who st ≡ k → P (d_to_g st r k).next
    unfolding d_to_g no_number
    d_to_g-kept st s n k h = go (used_up st) refl
      where
        go : (b : Bool) → used_up st ≡ b → P (cond b (no_number st r) (waiting_or_new st r k)).next
        go true e = s
        go false e = waiting_or_new-kept st s e n k h

    module _ (i : ℕ) (st : Station) (s : P st) (once : Once st) where
      ruling-kept : (cs : List Stop) (p : Slot) (o : Out) → Ruling i st r cs p o → the_slot st i ≡ p → owns r.who p ≡ true → P o.next
      unfolding repeated afresh redial no_number
      ruling-kept cs _ _ (passes p a) e h = s
      ruling-kept cs _ _ (repeats k o d a b) e h = s
      ruling-kept cs _ _ (renews k o d z u a b) e h = closed.renewed i st r keeps k o d e h u s
      ruling-kept cs _ _ (runs-out k o d z u a b) e h = s
      ruling-kept cs _ _ (redials o g c a) e h = d_to_g-kept (coast_end i o (answered_at g) st).next (coast_end-kept i o (answered_at g) st s) (coast_end-gone i r.who o (answered_at g) st once (rw e h)) (place_of r.who (coast_end i o (answered_at g) st).next) refl

    request-kept : (st : Station) → P st → Once st → (o k : Option ℕ) → slot_of r.who st ≡ o → place_of r.who st ≡ k → P (requested st r (stands_at o k)).next
    unfolding requested
    request-kept st s once none none e h = d_to_g-kept st s (none-count r.who st.slots e) none h
    request-kept st s once none (some k) e h = d_to_g-kept st s (none-count r.who st.slots e) (some k) h
    request-kept st s once (some i) k e h = ruling-kept i st s once _ (the_slot st i) _ (b_or_c-ruling i st r (the_slot st i)) refl (slot-lowest st (owns r.who) i e)

  -- ── an accepted event: where the property holds once the clock has moved ───

  effect-kept : (st : Station) → P st → Once st → (q : Option Ashore) (b : Book) (ws : List Word) (cs : List Stop) (m : Heard) (o : Out) → Effect cfg st q b ws cs m o → ((r : Request) → m ≡ call_request r → request_keeps cfg r ≡ true) → ((a : Ashore) → q ≡ some a → Callable cfg st (ashore_request cfg a)) → P o.next
  unfolding rule_a standing called_from
  effect-kept st s once _ _ _ _ _ _ (rests m n h) k f = s
  effect-kept st s once _ _ _ _ _ _ (drops j) k f = closed.dropping j st s
  effect-kept st s once _ _ _ _ _ _ (data-asked x n) k f = s
  effect-kept st s once _ _ _ _ _ _ (call-asked r) k f = request-kept r (k r refl) st s once (slot_of r.who st) (place_of r.who st) refl refl
  effect-kept st s once _ _ _ _ _ _ (called-ashore a i h) k f = let c = f a refl in closed.calling i st (ashore_request cfg a) c.keeps c.no_slot c.no_place (slot-taken st i h).0 s
  effect-kept st s once _ _ _ _ _ _ (to-slot m i u e) k f = outcome-kept i st (the_slot st i) u refl s

  pub act-kept : (st : Station) (e : Event) → verdict cfg st e ≡ none → P (set_clock (moment (seen st) e) st) → P (act cfg st e).next
  unfolding set_clock
  act-kept st e v s =
      let a = accepted cfg st e v in
      let from = sounds cfg st a.is-sound in
      effect-kept (set_clock (moment (seen st) e) st) s (distinct-once st from.no-twice) _ _ _ _ _ _ (act-effect cfg st e.time e.what)
      (heard-at cfg (λ m. (r : Request) → m ≡ call_request r → request_keeps cfg r ≡ true) e.what a.readable (λ r y. cc) (λ m d r y. heard-keeps cfg from.config m d r y))
      (λ x y. let c = asked-callable cfg st (ashore_in e.what) a.ship a.number a.not-engaged x y in record { keeps = c.keeps; no_slot = c.no_slot; no_place = c.no_place })
