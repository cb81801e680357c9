-- `CalledNotOffered`, `CalledAskInVain` and `CalledIgnored`: nothing but its call is said to a ship that is being called, and what it asks is
-- ignored.
use mathlib.Core.Path.{◌≡◌, refl, sym, ap, subst, ◌∙◌}
use mathlib.Core.Logic.{inl, inr}
use mathlib.Core.List.{List, [], ◌∷◌, map}
use mathlib.Core.Bool.{Bool, true, false, cond, true≢false}
use mathlib.Core.Option.{Option, none, some}
use Prim.Native.Nat.{ℕ, ◌+◌, ◌≤◌}
use native.Mathlib.Omega.{arith}
use lib.Dec.{ltb}
use lib.ListN.{length}
use Rattle.sequence.proofs.Tests.{Either, yes!, no!, which}
use Rattle.rules.specs.Rules.Places.{mod_at, drop_at, lowest, Each}
use Rattle.rules.specs.Rules.Words.{Party, Request, Config, Ashore, What, tick, on_channel70, on_slot, from_ashore, ashore_in, Event}
use Rattle.rules.specs.Rules.Heard.{Heard, call_request, data_request, bq, working_call, end_of_call, declined, nothing, meaning}
use Rattle.rules.specs.Rules.Actions.{Ender, the_ship, the_coast, Action}
use Rattle.rules.specs.Rules.Station.{Kind, is_called, rings, is_called_in, Dealing, Slot, free, pending, Waiting, Station, the_slot, set_clock, used_up, answered_at, is_free}
use Rattle.rules.specs.Rules.Requests.{Out, ignored, also, to_ring_back, rung_back, freed_for, freed, end_acts, coast_end, owns, slot_of, place_of, Standing, nowhere, holds, waits, stands_at, standing, called_at, being_called, rule_a, no_number, repeated, afresh, rule_d, offer, rule_f, rule_g, e_to_g, newcomer, waiting_or_new, d_to_g, redial, b_or_c, requested}
use Rattle.rules.specs.Rules.Ashore.{ashore_request, called_from}
use Rattle.rules.specs.Rules.Calls.{drop_acts, heard_on70, act_at}
use Rattle.rules.specs.Rules.Verdict.{verdict}
use Rattle.rules.specs.ListAlone.Book.{Stop, Column, Book, blank}
use Rattle.rules.specs.ListAlone.Reading.{heard_at}
use Rattle.rules.specs.ListAlone.LineWords.{Word}
use Rattle.rules.specs.ListAlone.BeingCalled.{is_for, Uncalled, SaidToOthers, InVain}
use Rattle.rules.specs.Statement.{deeds_of, CalledNotOffered, CalledAskInVain, AskedBy, CalledIgnored}
use Rattle.rules.proofs.PlaceLaws.{each_append, each_at, each-dropped, each-others, each_back}
use Rattle.rules.proofs.Base.{by-slot, by-kind, by-stage, no-caller, line_of, call_in, view, seen, is_same, deeds-append, rung-first, slot-lowest, slot-set, slot-mapped}
use Rattle.rules.proofs.Once.{count_s, count_q, Once, distinct-once, count_set, none-count}
use Rattle.rules.proofs.Accepted.{accepted, sounds}
use Rattle.rules.proofs.Outcome.{Next, stays, becomes, frees, Move, to-dial, to-agree, to-ring, to_drop, to-call, to-rings, to-answer, to-let-go, to-stage, to-lose, to-regain, to-hold, to_end, to-repeat, to-run-out, to_take, to-give, played, Outcome, passed, moved}
use Rattle.rules.proofs.Ruling.{Ruling, passes, repeats, renews, runs-out, redials, b_or_c-ruling}
use Rattle.rules.proofs.Effect.{Effect, rests, drops, data-asked, call-asked, to-slot, called-ashore, act-effect}
use Rattle.rules.proofs.Walk.{asked-callable}
use Rattle.rules_theorems.proofs.Entries.{book-entries}

-- ── whom no slot calls ───────────────────────────────────────────────────────

abbrev NotFor : Party → Slot → Type 0
NotFor x s = is_for x (view s).call ≡ false

-- a slot that calls nobody
quiet-slot : (x : Party) (s : Slot) → is_called_in s ≡ false → NotFor x s
quiet-slot x = by-slot (λ s. is_called_in s ≡ false → NotFor x s) (λ h. refl) (λ h. refl) (λ k r d h. rw (no-caller k r h) refl) (λ r g c h. by-stage (λ z. is_for x (call_in r z) ≡ false) (λ d. refl) (λ d. refl) (λ b. refl) g) (λ r n d h. refl)

-- a slot that another ship has, or none
other-slot : (x : Party) (s : Slot) → owns x s ≡ false → NotFor x s
other-slot x = by-slot (λ s. owns x s ≡ false → NotFor x s) (λ h. refl) (λ h. refl) (λ k r d h. by-kind (λ z. is_for x (line_of z r) ≡ false) refl refl refl refl h h h k) (λ r g c h. by-stage (λ z. is_for x (call_in r z) ≡ false) (λ d. refl) (λ d. refl) (λ b. refl) g) (λ r n d h. refl)

-- a ship that has no slot
slotless : (x : Party) (ss : List Slot) → count_s x ss ≡ 0 → Uncalled x (map view ss)
slotless x [] n = tt
slotless x (s ∷ ss) n = go (owns x s) refl (slotless x ss)
  where
    go : (b : Bool) → owns x s ≡ b → (count_s x ss ≡ 0 → Uncalled x (map view ss)) → Uncalled x (map view (s ∷ ss))
    go true e ih = let k : 1 + count_s x ss ≡ 0 = rw e at n in absurd (omega arith)
    go false e ih = let k : 0 + count_s x ss ≡ 0 = rw e at n in (other-slot x s e, ih (omega arith))

module _ (st : Station) (once : Once st) where
  abbrev columns : List Column
  columns = map view st.slots

  -- the ship of a slot, but for that slot
  beside : (x : Party) (i : ℕ) → owns x (the_slot st i) ≡ true → Uncalled x (mod_at (λ l. blank) i columns)
  beside x i h = rw (slot-set st view (λ l. blank) free i refl) (slotless x (mod_at (λ s. free) i st.slots) (none_left _ (count_s x st.slots) (count_q x st.queue) (rw h at (count_set x i free st)) (once x)))
    where
      none_left : (n s k : ℕ) → n + 1 ≤ s + 0 → s + k ≤ 1 → n ≡ 0
      none_left n s k a b = omega arith

  -- one that waits
  waiting-uncalled : (w : Waiting) (q : List Waiting) → st.queue ≡ w ∷ q → Uncalled w.request.who columns
  waiting-uncalled w q e = slotless w.request.who st.slots (none_left _ (count_q w.request.who q) (rw (e, is_same w.request.who w.request.who refl) at (once w.request.who)))
    where
      none_left : (s k : ℕ) → s + (1 + k) ≤ 1 → s ≡ 0
      none_left s k a = omega arith

  -- ── a request of a ship that is being called ───────────────────────────────

  uncalled : (x : Party) → being_called st x ≡ false → Uncalled x columns
  unfolding being_called standing
  uncalled x = go (slot_of x st) refl (place_of x st)
    where
      go : (o : Option ℕ) → slot_of x st ≡ o → (k : Option ℕ) → called_at st (stands_at o k) ≡ false → Uncalled x columns
      go none e k h = slotless x st.slots (none-count x st.slots e)
      go (some i) e k h = each_back (λ l. is_for x l.call ≡ false) blank blank i columns (rw (slot-mapped st view i) (quiet-slot x (the_slot st i) h)) (beside x i (slot-lowest st (owns x) i e))

  request-ignored : (r : Request) (s : Standing) → called_at st s ≡ true → requested st r s ≡ ignored st
  unfolding requested b_or_c
  request-ignored r nowhere h = absurd (true≢false (sym h))
  request-ignored r (holds i) h = by-slot (λ p. is_called_in p ≡ true → b_or_c i p st r ≡ ignored st) (λ h. absurd (true≢false (sym h))) (λ h. absurd (true≢false (sym h))) (λ k o d h. rw h refl) (λ o g c h. absurd (true≢false (sym h))) (λ o n d h. absurd (true≢false (sym h))) (the_slot st i) h
  request-ignored r (waits k) h = absurd (true≢false (sym h))

  -- the lookup finds the slot that calls a ship
  slot-calls : (i : ℕ) (k : Kind) (r : Dealing) (d : ℕ) → the_slot st i ≡ pending k r d → is_called k ≡ true → being_called st r.request.who ≡ true
  slot-calls i k r d s h = go (which (being_called st r.request.who))
    where
      x : Party
      x = r.request.who

      for-its-ship : (z : Kind) → is_called z ≡ true → is_for x (line_of z r) ≡ true
      for-its-ship = by-kind (λ z. is_called z ≡ true → is_for x (line_of z r) ≡ true) (λ h. cc) (λ h. cc) (λ h. cc) (λ h. cc) (λ h. is_same x x refl) (λ h. is_same x x refl) (λ h. is_same x x refl)

      go : Either (being_called st x) → being_called st x ≡ true
      go (yes! b) = b
      go (no! b) =
          let u = subst (λ (l : Column). is_for x l.call ≡ false) (slot-mapped st view i ∙ ap view s) (each_at (λ l. is_for x l.call ≡ false) blank refl i columns (uncalled x b)) in
          absurd (true≢false (sym (for-its-ship k h) ∙ u))

  asks-ignored : (x : Party) → being_called st x ≡ true → (m : Heard) → AskedBy x m → heard_on70 st m ≡ ignored st
  unfolding heard_on70 being_called
  asks-ignored x h (call_request r) a = request-ignored r (standing st r.who) (rw a h)
  asks-ignored x h (data_request y n) a = rw (a, h) refl
  asks-ignored x h (bq i y) a = absurd a
  asks-ignored x h (working_call y) a = absurd a
  asks-ignored x h (end_of_call y) a = absurd a
  asks-ignored x h (declined y) a = absurd a
  asks-ignored x h nothing a = absurd a

  in-vain : (m : Heard) → InVain m columns (deeds_of (heard_on70 st m).acts)
  unfolding heard_on70 being_called
  in-vain (call_request r) = go (which (being_called st r.who))
    where
      go : Either (being_called st r.who) → InVain (call_request r) columns (deeds_of (heard_on70 st (call_request r)).acts)
      go (yes! h) = inr (rw (request-ignored r (standing st r.who) h) refl)
      go (no! h) = inl (uncalled r.who h)
  in-vain (data_request x n) = go (which (being_called st x))
    where
      go : Either (being_called st x) → InVain (data_request x n) columns (deeds_of (heard_on70 st (data_request x n)).acts)
      go (yes! h) = inr (rw h refl)
      go (no! h) = inl (uncalled x h)
  in-vain (bq i x) = tt
  in-vain (working_call x) = tt
  in-vain (end_of_call x) = tt
  in-vain (declined x) = tt
  in-vain nothing = tt

  -- ── what is said on channel 70 ─────────────────────────────────────────────

  abbrev Others : List Action → Type 0
  Others acts = Each (SaidToOthers columns) (deeds_of acts)

  others-also : (a : List Action) (o : Out) → Others a → Others o.acts → Others (also a o).acts
  others-also a o p q = rw (deeds-append a o.acts) (each_append (SaidToOthers columns) (deeds_of a) (deeds_of o.acts) p q)

  -- to the oldest that waits
  freed_for-others : (i : ℕ) (q : List Waiting) → to_ring_back st ≡ q → Others (freed_for i st q).acts
  unfolding freed_for rung_back
  freed_for-others i [] e = tt
  freed_for-others i (w ∷ q) e = (tt, (each-dropped _ i columns (waiting-uncalled w q (rung-first st w q e).1), tt))

  freed-others : (i : ℕ) → Others (freed i st).acts
  unfolding freed
  freed-others i = freed_for-others i (to_ring_back st) refl

  end-others : (i : ℕ) (e : Ender) (r : Dealing) (g : Option ℕ) (t : ℕ) → Others (end_acts i e r g t)
  end-others i e r none t = (tt, (tt, tt))
  end-others i e r (some b) t = (tt, (tt, tt))

  coast_end-others : (i : ℕ) (r : Dealing) (g : Option ℕ) → Others (coast_end i r g st).acts
  unfolding coast_end
  coast_end-others i r g = others-also (end_acts i the_coast r g st.clock) (freed i st) (end-others i the_coast r g st.clock) (freed-others i)

  -- to the ship that asks
  module _ (r : Request) (u : Uncalled r.who columns) where
    e_to_g-others : (s : Station) (o : Option ℕ) → Others (e_to_g s r o).acts
    unfolding e_to_g offer afresh rule_f rule_g
    e_to_g-others s (some i) = (tt, (u, tt))
    e_to_g-others s none = go (ltb (length s.queue) 32)
      where
        go : (b : Bool) → Others (cond b (rule_f s r) (rule_g s r)).acts
        go true = (u, tt)
        go false = (u, tt)

    waiting_or_new-others : (s : Station) (k : Option ℕ) → Others (waiting_or_new s r k).acts
    unfolding waiting_or_new newcomer rule_d
    waiting_or_new-others s none = e_to_g-others s (lowest is_free s.slots)
    waiting_or_new-others s (some k) = (u, tt)

    d_to_g-others : (s : Station) (k : Option ℕ) → Others (d_to_g s r k).acts
    unfolding d_to_g no_number
    d_to_g-others s k = go (used_up s)
      where
        go : (b : Bool) → Others (cond b (no_number s r) (waiting_or_new s r k)).acts
        go true = (u, tt)
        go false = waiting_or_new-others s k

    ruling-others : (i : ℕ) (cs : List Stop) (p : Slot) (o : Out) → Ruling i st r cs p o → Others o.acts
    unfolding repeated afresh redial no_number
    ruling-others i cs _ _ (passes p a) = tt
    ruling-others i cs _ _ (repeats k o d a b) = (u, tt)
    ruling-others i cs _ _ (renews k o d z n a b) = (u, tt)
    ruling-others i cs _ _ (runs-out k o d z n a b) = (u, tt)
    ruling-others i cs _ _ (redials o g c a) =
        let end = coast_end i o (answered_at g) st in
        others-also end.acts (d_to_g end.next r (place_of r.who end.next)) (coast_end-others i o (answered_at g)) (d_to_g-others end.next (place_of r.who end.next))

    request-others : (s : Standing) → Others (requested st r s).acts
    unfolding requested
    request-others nowhere = d_to_g-others st none
    request-others (holds i) = ruling-others i _ (the_slot st i) _ (b_or_c-ruling i st r (the_slot st i))
    request-others (waits k) = d_to_g-others st (some k)

  -- to the ship of a slot, once more
  drop-others : (i : ℕ) (rung tone : Bool) → Others (drop_acts i rung tone)
  drop-others i false false = (tt, (tt, tt))
  drop-others i false true = (tt, (tt, (tt, tt)))
  drop-others i true false = (tt, (tt, (tt, tt)))
  drop-others i true true = (tt, (tt, (tt, (tt, tt))))

  move-others : (i t : ℕ) (p : Slot) (n : Next) (acts : List Action) → Move i t p n acts → ((k : Kind) (r : Dealing) (d : ℕ) → p ≡ pending k r d → Uncalled r.request.who (drop_at i columns)) → Others acts
  move-others i t _ _ _ (to-dial k r d z) h = (tt, tt)
  move-others i t _ _ _ (to-agree k r d z) h = tt
  move-others i t _ _ _ (to-ring r d) h = (h _ r d refl, tt)
  move-others i t _ _ _ (to_drop k r d z) h = (tt, tt)
  move-others i t _ _ _ (to-call r d) h = (h _ r d refl, tt)
  move-others i t _ _ _ (to-rings k r d z) h = (tt, tt)
  move-others i t _ _ _ (to-answer r d) h = (tt, tt)
  move-others i t _ _ _ (to-let-go k r d tone) h = drop-others i (rings k) tone
  move-others i t _ _ _ (to-stage r n q c z) h = tt
  move-others i t _ _ _ (to-lose r g c) h = tt
  move-others i t _ _ _ (to-regain r g c) h = tt
  move-others i t _ _ _ (to-hold r g c) h = end-others i the_ship r (answered_at g) t
  move-others i t _ _ _ (to_end r g c) h = end-others i the_coast r (answered_at g) t
  move-others i t _ _ _ (to-repeat r n d) h = (tt, (tt, tt))
  move-others i t _ _ _ (to-run-out r n d) h = tt
  move-others i t _ _ _ to_take h = tt
  move-others i t _ _ _ to-give h = tt

  played-others : (i : ℕ) (n : Next) (acts : List Action) → Others acts → Others (played i st n acts).acts
  played-others i stays acts h = h
  played-others i (becomes q) acts h = h
  played-others i frees acts h = others-also acts (freed i st) h (freed-others i)

  outcome-others : (i : ℕ) {f : Column → Column} {w : Word → Word} {cs : List Stop} {o : Out} → Outcome i st f w cs (the_slot st i) o → Others o.acts
  outcome-others i (passed a b c) = tt
  outcome-others i (moved {n} {acts} u a b c) = played-others i n acts (move-others i st.clock (the_slot st i) n acts u (λ k r d e. each-others _ blank i columns (beside r.request.who i (rw e (is_same r.request.who r.request.who refl)))))

  -- ── any event ──────────────────────────────────────────────────────────────

  effect-others : (cfg : Config) (q : Option Ashore) (b : Book) (ws : List Word) (cs : List Stop) (m : Heard) (o : Out) → Effect cfg st q b ws cs m o → InVain m columns (deeds_of o.acts) → ((a : Ashore) → q ≡ some a → count_s (ashore_request cfg a).who st.slots ≡ 0) → Others o.acts
  unfolding rule_a called_from
  effect-others cfg _ _ _ _ _ _ (rests m n h) v f = tt
  effect-others cfg _ _ _ _ _ _ (drops k) v f = tt
  effect-others cfg _ _ _ _ _ _ (data-asked x n) (inl u) f = (u, tt)
  effect-others cfg _ _ _ _ _ _ (data-asked x n) (inr e) f = let y : ◌≡◌ {A = ℕ} 0 1 = cc in absurd (omega arith)
  effect-others cfg _ _ _ _ _ _ (call-asked r) (inl u) f = request-others r u (standing st r.who)
  effect-others cfg _ _ _ _ _ _ (call-asked r) (inr e) f = rw e tt
  effect-others cfg _ _ _ _ _ _ (called-ashore a i h) v f = (tt, (each-dropped _ i columns (slotless (ashore_request cfg a).who st.slots (f a refl)), tt))
  effect-others cfg _ _ _ _ _ _ (to-slot m i u e) v f = outcome-others i u

module _ (cfg : Config) (st : Station) where
  act-in-vain : Once st → (t : ℕ) (w : What) → InVain (heard_at cfg w) (seen st).columns (deeds_of (act_at cfg st t w).acts)
  unfolding act_at seen set_clock
  act-in-vain once t tick = tt
  act-in-vain once t (on_channel70 m) = in-vain (set_clock t st) once (meaning cfg m)
  act-in-vain once t (on_slot i h) = tt
  act-in-vain once t (from_ashore a) = tt

  act-ignored : Once st → (t : ℕ) (w : What) (i : ℕ) (k : Kind) (r : Dealing) (d : ℕ) → the_slot st i ≡ pending k r d → is_called k ≡ true → AskedBy r.request.who (heard_at cfg w) → act_at cfg st t w ≡ ignored (set_clock t st)
  unfolding act_at set_clock
  act-ignored once t tick i k r d s h a = absurd a
  act-ignored once t (on_channel70 m) i k r d s h a = asks-ignored (set_clock t st) once r.request.who (slot-calls (set_clock t st) once i k r d s h) (meaning cfg m) a
  act-ignored once t (on_slot j x) i k r d s h a = absurd a
  act-ignored once t (from_ashore x) i k r d s h a = absurd a

  act-others : Once st → (t : ℕ) (w : What) → ((a : Ashore) → ashore_in w ≡ some a → count_s (ashore_request cfg a).who st.slots ≡ 0) → Each (SaidToOthers (seen st).columns) (deeds_of (act_at cfg st t w).acts)
  unfolding seen set_clock
  act-others once t w f = effect-others (set_clock _ st) once cfg _ _ _ _ _ _ (act-effect cfg st t w) (act-in-vain once t w) f

  once-in : (e : Event) → verdict cfg st e ≡ none → Once st
  once-in e v = distinct-once st (sounds cfg st (accepted cfg st e v).is-sound).no-twice

-- a ship that is being called is not offered a slot
pub called-not-offered : CalledNotOffered
unfolding CalledNotOffered
called-not-offered = book-entries (λ c b n. Each (SaidToOthers b.columns) n.deeds)
    (λ cfg st e v. let a = accepted cfg st e v in act-others cfg st (once-in cfg st e v) e.time e.what (λ x y. (asked-callable cfg st (ashore_in e.what) a.ship a.number a.not-engaged x y).no_slot))

-- and asks in vain
pub called-ask-in-vain : CalledAskInVain
unfolding CalledAskInVain
called-ask-in-vain = book-entries (λ c b n. InVain (heard_at c n.event.what) b.columns n.deeds) (λ cfg st e v. act-in-vain cfg st (once-in cfg st e v) e.time e.what)

-- by one step
pub called-ignored : CalledIgnored
unfolding CalledIgnored
called-ignored cfg st e v = act-ignored cfg st (once-in cfg st e v) e.time e.what
