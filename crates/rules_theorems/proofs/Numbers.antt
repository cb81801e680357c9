-- 02, no. 4: call numbers never go back; those that a station holds have been given, and are what the list counts; what is told when they
-- are used up; no two charges have the same.
use mathlib.Core.Path.{◌≡◌, refl, sym, ap, ◌∙◌}
use mathlib.Core.List.{List, [], ◌∷◌, ◌++◌, map, map-append}
use mathlib.Core.Bool.{Bool, true, false, cond, ◌&&◌}
use mathlib.Core.Option.{Option, none, some}
use Prim.Native.Nat.{ℕ, zero, suc, ◌+◌, ◌≤◌, ◌<◌}
use native.Mathlib.Omega.{arith}
use lib.Dec.{eqb, ltb}
use lib.ListN.{get_or, length, replicate}
use borrow.Author.Tests.{eq-eqb, eqb-true, ltb-true, ltb-false, leb-false}
use Rattle.rules.specs.Rules.Places.{mod_at, lowest, Each}
use Rattle.rules.specs.Rules.Words.{Request, Config, Ashore, ashore_in, What, tick, on_channel70, on_slot, from_ashore, Event, unable}
use Rattle.rules.specs.Rules.Heard.{Heard, call_request}
use Rattle.rules.specs.Rules.Actions.{Action, Charge, Ender, the_ship, the_coast}
use Rattle.rules.specs.Rules.Station.{Kind, is_offer, is_called, Stage, answered_at, Dealing, Slot, free, taken, pending, busy, held, call_number_in, is_free, rings, Waiting, Station, the_slot, fresh, set_slot, set_clock, set_queue, none_left, used_up, number_after, next_call, new_call, ring_back_of, offer_of, called_of}
use Rattle.rules.specs.Rules.Requests.{Out, saying, also, to_ring_back, rung_back, freed_for, freed, end_acts, coast_end, slot_of, place_of, stands_at, standing, Standing, nowhere, holds, waits, rule_a, no_number, repeated, afresh, same, rule_b, b_or_c, rule_d, offer, rule_f, rule_g, e_to_g, newcomer, waiting_or_new, d_to_g, redial, requested}
use Rattle.rules.specs.Rules.Ashore.{ashore_request, called_from}
use Rattle.rules.specs.Rules.Calls.{drop_acts, heard_on70, act_at, act}
use Rattle.rules.specs.Rules.Verdict.{slot_to_be_had, verdict, play, final}
use Rattle.rules.specs.ListAlone.Book.{Stop, Begun, Column, Book, blank_book, column}
use Rattle.rules.specs.ListAlone.Reading.{Numbered, numbered, read_all, moment, heard_at}
use Rattle.rules.specs.ListAlone.LineWords.{Word}
use Rattle.rules.specs.Statement.{charges_of, notes, charged, call_numbers, begun_in, Told107, NumbersFit, ChargesDiffer, NumbersCounted, NumbersHeld, NumbersGiven, NumbersGoOn, UsedUpTold, UsedUpStays}
use Rattle.rules.proofs.PlaceLaws.{each_set, each_weaken}
use Rattle.rules.proofs.Occurs.{bit, occurs, occurs-append, occurs-distinct}
use Rattle.rules.proofs.Base.{by-slot, by-kind, by-stage, view, seen, charges-append, next-left, rung-first, slot-taken, slot-each, slot-mapped, fresh-each}
use Rattle.rules.proofs.Outcome.{Next, stays, becomes, frees, Move, to-dial, to-agree, to-ring, to_drop, to-call, to-rings, to-answer, to-let-go, to-stage, to-lose, to-regain, to-hold, to_end, to-repeat, to-run-out, to_take, to-give, played, leaves, Outcome, passed, moved}
use Rattle.rules.proofs.Ruling.{Ruling, passes, repeats, renews, runs-out, redials, b_or_c-ruling}
use Rattle.rules.proofs.Effect.{Effect, rests, drops, data-asked, call-asked, to-slot, called-ashore, act-effect}
use Rattle.rules.proofs.Accepted.{accepted}
use Rattle.rules.proofs.Walk.{Closed, act-kept}
use Rattle.rules.proofs.Run.{fresh-seen, play-on, play-past, final-on, final-past}
use Rattle.rules_theorems.proofs.Entries.{read-final}

-- ── numbers never go back ────────────────────────────────────────────────────

number-on : (n : ℕ) → n ≤ number_after n
number-on n = go (none_left n)
  where
    go : (b : Bool) → n ≤ cond b n (n + 1)
    go true = omega arith
    go false = omega arith

module _ (n : ℕ) where
  Past : Station → Type 0
  Past st = n ≤ st.last_call

  new-past : (i : ℕ) (q : Slot) (st : Station) → Past st → Past (new_call i q st)
  unfolding Past new_call
  new-past i q st h = let k = number-on st.last_call in omega (arith, h, k)

  freed_for-past : (i : ℕ) (st : Station) (q : List Waiting) → Past st → Past (freed_for i st q).next
  unfolding Past freed_for rung_back set_slot set_queue
  freed_for-past i st [] h = h
  freed_for-past i st (w ∷ q) h = new-past i _ (set_queue q st) h

  past-closed : (cfg : Config) → Closed cfg Past
  unfolding Past freed set_slot set_queue rule_d rule_f
  past-closed cfg = record {
    turning = λ i st p q acts e t h. h;
    freeing = λ i st h. freed_for-past i st (to_ring_back st) h;
    renewed = λ i st r h k o d e y u s. new-past i _ st s;
    offering = λ i st r h n y u s. new-past i _ st s;
    calling = λ i st r h n y u s. new-past i _ st s;
    joining = λ st r h n y f q s. s;
    replacing = λ k st r h y s. s;
    dropping = λ k st s. s;
  }

pub numbers-go-on : NumbersGoOn
unfolding NumbersGoOn Past set_clock
numbers-go-on cfg st e v = act-kept cfg (Past st.last_call) (past-closed st.last_call cfg) st e v (omega arith)

-- ── every number held has been given ─────────────────────────────────────────

-- at most n
abbrev pub Under : ℕ → Slot → Type 0
Under n s = call_number_in s ≤ n

pub record Given (st : Station) : Type 0 where
  pub within : st.last_call ≤ 4294967295
  pub under : Each (Under st.last_call) st.slots

turned-under : (n i t : ℕ) (p q : Slot) (acts : List Action) → Move i t p (becomes q) acts → Under n p → Under n q
turned-under n i t _ _ _ (to-dial k r d z) h = h
turned-under n i t _ _ _ (to-agree k r d z) h = h
turned-under n i t _ _ _ (to-call r d) h = h
turned-under n i t _ _ _ (to-rings k r d z) h = h
turned-under n i t _ _ _ (to-answer r d) h = h
turned-under n i t _ _ _ (to-ring r d) h = h
turned-under n i t _ _ _ (to-stage r g q c z) h = h
turned-under n i t _ _ _ (to-lose r g c) h = h
turned-under n i t _ _ _ (to-regain r g c) h = h
turned-under n i t _ _ _ (to-hold r g c) h = h
turned-under n i t _ _ _ to_take h = omega arith

set_given : (i : ℕ) (q : Slot) (st : Station) → Under st.last_call q → Given st → Given (set_slot i q st)
unfolding set_slot
set_given i q st u g = record { within = g.within; under = each_set (Under st.last_call) i q st.slots u g.under }

-- a call that begins has the next number
new-given : (i : ℕ) (q : Slot) (st : Station) → used_up st ≡ false → call_number_in q ≡ next_call st → Given st → Given (new_call i q st)
unfolding new_call used_up
new-given i q st u h g =
    let l = st.last_call in
    let k = leb-false 4294967295 l u in
    record {
      within = rw u (omega (arith, k));
      under = each_set (Under (next_call st)) i q st.slots (rw h (omega arith)) (each_weaken (Under l) (Under (next_call st)) (λ s z. let o = number-on l in omega (arith, z, o)) st.slots g.under);
    }

freed_for-given : (i : ℕ) (st : Station) (q : List Waiting) → to_ring_back st ≡ q → Given st → Given (freed_for i st q).next
unfolding freed_for rung_back set_queue used_up
freed_for-given i st [] e g = set_given i free st (omega arith) g
freed_for-given i st (w ∷ q) e g = new-given i (ring_back_of w.request st) (set_queue q st) (rung-first st w q e).0 refl (record { within = g.within; under = g.under })

freed-given : (i : ℕ) (st : Station) → Given st → Given (freed i st).next
unfolding freed
freed-given i st g = freed_for-given i st (to_ring_back st) refl g

queue-given : (q : List Waiting) (st : Station) → Given st → Given (set_queue q st)
unfolding set_queue
queue-given q st g = record { within = g.within; under = g.under }

given-closed : (cfg : Config) → Closed cfg Given
unfolding rule_d rule_f
given-closed cfg = record {
  turning = λ i st p q acts e t g. set_given i q st (turned-under st.last_call i st.clock p q acts t (rw e at (slot-each st (Under st.last_call) (omega arith) i g.under))) g;
  freeing = freed-given;
  renewed = λ i st r h k o d e y u s. new-given i (offer_of r st) st u refl s;
  offering = λ i st r h n y u s. new-given i (offer_of r st) st u refl s;
  calling = λ i st r h n y u s. new-given i (called_of r st) st u refl s;
  joining = λ st r h n y f q s. queue-given _ st s;
  replacing = λ k st r h y s. queue-given _ st s;
  dropping = λ k st s. queue-given _ st s;
}

clock-given : (t : ℕ) (st : Station) → Given st → Given (set_clock t st)
unfolding set_clock
clock-given t st g = record { within = g.within; under = g.under }

pub next-given : (cfg : Config) (st : Station) (e : Event) → verdict cfg st e ≡ none → Given st → Given (act cfg st e).next
next-given cfg st e v g = act-kept cfg Given (given-closed cfg) st e v (clock-given _ st g)

-- numbers of 32 bits
pub given-fit : (st : Station) → Given st → NumbersFit st
given-fit st g = let w = g.within in each_weaken (Under st.last_call) (λ s. call_number_in s < 4294967296) (λ s z. omega (arith, z, w)) st.slots g.under

run-given : (cfg : Config) (es : List Event) (st : Station) → Given st → Given (final cfg es st)
unfolding final
run-given cfg [] st g = g
run-given cfg (e ∷ es) st g = go (verdict cfg st e) refl (λ s. run-given cfg es s)
  where
    go : (o : Option ℕ) → verdict cfg st e ≡ o → ((s : Station) → Given s → Given (final cfg es s)) → Given (final cfg (e ∷ es) st)
    go none v ih = rw (final-on cfg e es st v) (ih (act cfg st e).next (next-given cfg st e v g))
    go (some n) v ih = rw (final-past cfg e es st n v) (ih st g)

pub fresh-given : (cfg : Config) → Given (fresh cfg)
unfolding fresh
fresh-given cfg = record { within = omega arith; under = fresh-each cfg (Under 0) (omega arith) }

pub numbers-given : NumbersGiven
unfolding NumbersGiven
numbers-given cfg set es = let g = run-given cfg es (fresh cfg) (fresh-given cfg) in (g.within, g.under)

-- ── the list counts them ─────────────────────────────────────────────────────

pub numbers-counted : NumbersCounted
unfolding NumbersCounted seen
numbers-counted cfg set es = ap (λ (b : Book). b.given) (ap (read_all cfg (notes (play cfg es (fresh cfg)))) (sym (fresh-seen cfg)) ∙ read-final cfg es (fresh cfg))

-- ── the slot's record holds what the list counts ─────────────────────────────

abbrev shown : Column → Option Begun
shown l = begun_in l.said l.call

view-held : (s : Slot) (o : Begun) → shown (view s) ≡ some o → call_number_in s ≡ o.call_number
view-held = by-slot (λ s. (o : Begun) → shown (view s) ≡ some o → call_number_in s ≡ o.call_number)
    (λ o h. cc) (λ o h. cc)
    (λ k r d o. by-kind (λ z. shown (view (pending z r d)) ≡ some o → r.call_number ≡ o.call_number) (λ h. cc) (λ h. cc) (λ h. cc) (λ h. cc) (λ h. cc) (λ h. cc) (λ h. cc) k)
    (λ r g c o. by-stage (λ z. shown (view (busy r z c)) ≡ some o → r.call_number ≡ o.call_number) (λ d h. cc) (λ d h. cc) (λ d h. cc) g)
    (λ r n d o h. cc)

pub numbers-held : NumbersHeld
unfolding NumbersHeld seen
numbers-held cfg set es i o h =
    let st = final cfg es (fresh cfg) in
    let b : read_all cfg (notes (play cfg es (fresh cfg))) (blank_book cfg) ≡ seen st = ap (read_all cfg (notes (play cfg es (fresh cfg)))) (sym (fresh-seen cfg)) ∙ read-final cfg es (fresh cfg) in
    let p : shown (column (read_all cfg (notes (play cfg es (fresh cfg))) (blank_book cfg)) i) ≡ shown (view (the_slot st i)) = ap (λ (z : Book). shown (column z i)) b ∙ ap shown (slot-mapped st view i) in
    view-held (the_slot st i) o (sym p ∙ h)

-- ── once the last has been given ─────────────────────────────────────────────

last-used : (st : Station) → st.last_call ≡ 4294967295 → used_up st ≡ true
unfolding used_up
last-used st h = rw h refl

no-slot-told : (c : Config) (st : Station) (t : ℕ) (w : What) (r : Request) → used_up st ≡ true → heard_at c w ≡ call_request r → slot_of r.who st ≡ none → Told107 st t r (act_at c st t w)
unfolding act_at heard_on70 requested standing d_to_g no_number set_clock used_up
no-slot-told c st t tick r u h n = cc
no-slot-told c st t (on_channel70 m) r u h n = rw (h, n) (go (place_of r.who st))
  where
    go : (k : Option ℕ) → requested (set_clock t st) r (stands_at none k) ≡ saying (unable 107 r.who r.number) (set_clock t st)
    go none = rw u refl
    go (some k) = rw u refl
no-slot-told c st t (on_slot i x) r u h n = cc
no-slot-told c st t (from_ashore a) r u h n = cc

own-slot-told : (c : Config) (st : Station) (t : ℕ) (w : What) (r : Request) (i : ℕ) (k : Kind) (o : Dealing) (d : ℕ) → used_up st ≡ true → heard_at c w ≡ call_request r
    → slot_of r.who st ≡ some i → the_slot st i ≡ pending k o d → is_called k ≡ false → (is_offer k && same r o.request) ≡ false → Told107 st t r (act_at c st t w)
unfolding act_at heard_on70 requested standing b_or_c rule_b no_number set_clock used_up
own-slot-told c st t tick r i k o d u h n e z y = cc
own-slot-told c st t (on_channel70 m) r i k o d u h n e z y = rw (h, n, e, z, y, u) refl
own-slot-told c st t (on_slot j x) r i k o d u h n e z y = cc
own-slot-told c st t (from_ashore a) r i k o d u h n e z y = cc

pub used-up-told : UsedUpTold
unfolding UsedUpTold
used-up-told c st e v r l h =
    let u = last-used st l in
    (no-slot-told c st e.time e.what r u h, λ i k p d n y z q. own-slot-told c st e.time e.what r i k p d u h n y z q)

-- the last number given stays the last
Last : Station → Type 0
Last st = st.last_call ≡ 4294967295

no_more : {P : Type 0} (st : Station) → used_up st ≡ false → Last st → P
unfolding used_up Last
no_more st u l = let a = leb-false 4294967295 st.last_call u in absurd (omega (arith, a, l))

freed-last : (i : ℕ) (st : Station) → Last st → Last (freed i st).next
unfolding Last freed freed_for set_slot
freed-last i st l = rw (last-used st l) l

last-closed : (cfg : Config) → Closed cfg Last
unfolding Last set_slot set_queue rule_d rule_f
last-closed cfg = record {
  turning = λ i st p q acts e t l. l;
  freeing = freed-last;
  renewed = λ i st r h k o d e y u l. no_more st u l;
  offering = λ i st r h n y u l. no_more st u l;
  calling = λ i st r h n y u l. no_more st u l;
  joining = λ st r h n y f q l. l;
  replacing = λ k st r h y l. l;
  dropping = λ k st l. l;
}

pub used-up-stays : UsedUpStays
unfolding UsedUpStays Last set_clock
used-up-stays cfg st e v l = (act-kept cfg Last (last-closed cfg) st e v l, go (ashore_in e.what) (accepted cfg st e v).a-slot)
  where
    go : (q : Option Ashore) → slot_to_be_had st q ≡ true → q ≡ none
    go none h = refl
    go (some a) h = let k : false ≡ true = rw (last-used st l) at h in cc

-- ── no two charges have the same number ──────────────────────────────────────

-- the slot has a call of the number n that is not over yet
abbrev live : ℕ → Slot → Bool
live n free = false
live n taken = false
live n (pending k r d) = eqb n r.call_number
live n (busy r g c) = eqb n r.call_number
live n (held r m d) = false

abbrev lives : ℕ → List Slot → ℕ
lives n [] = 0
lives n (s ∷ ss) = bit (live n s) + lives n ss

-- how often the number n may still be charged: by calls that are not over, and by one to come where it has not been given
abbrev owing : ℕ → Station → ℕ
owing n st = lives n st.slots + bit (ltb st.last_call n)

-- how often it is charged
abbrev billed : ℕ → List Action → ℕ
billed n acts = occurs eqb n (map (λ (h : Charge). h.call_number) (charges_of acts))

module _ (n : ℕ) where
  lives-set : (i : ℕ) (q : Slot) (st : Station) → lives n (mod_at (λ x. q) i st.slots) + bit (live n (the_slot st i)) ≤ lives n st.slots + bit (live n q)
  lives-set i q st = go i st.slots
    where
      go : (i : ℕ) (ss : List Slot) → lives n (mod_at (λ x. q) i ss) + bit (live n (get_or ss i free)) ≤ lives n ss + bit (live n q)
      go i [] = omega arith
      go zero (s ∷ ss) = omega arith
      go (suc i) (s ∷ ss) = omega (arith, go i ss)

  set-owing : (i : ℕ) (q : Slot) (st : Station) → owing n (set_slot i q st) + bit (live n (the_slot st i)) ≤ owing n st + bit (live n q)
  unfolding set_slot
  set-owing i q st = let h = lives-set i q st in omega (arith, h)

  -- the next number is given: it is then the call's, and not to come any more
  next-owing : (l : ℕ) → bit (eqb n (l + 1)) + bit (ltb (l + 1) n) ≤ bit (ltb l n)
  next-owing l = go (eqb n (l + 1)) (ltb (l + 1) n) (ltb l n) refl refl refl
    where
      go : (a b c : Bool) → eqb n (l + 1) ≡ a → ltb (l + 1) n ≡ b → ltb l n ≡ c → bit a + bit b ≤ bit c
      go true true true p q r = let x = eqb-true n (l + 1) p in let y = ltb-true (l + 1) n q in absurd (omega (arith, x, y))
      go true false true p q r = omega arith
      go false true true p q r = omega arith
      go false false true p q r = omega arith
      go true true false p q r = let x = eqb-true n (l + 1) p in let y = ltb-false l n r in absurd (omega (arith, x, y))
      go true false false p q r = let x = eqb-true n (l + 1) p in let y = ltb-false l n r in absurd (omega (arith, x, y))
      go false true false p q r = let x = ltb-true (l + 1) n q in let y = ltb-false l n r in absurd (omega (arith, x, y))
      go false false false p q r = omega arith

  new-owing : (i : ℕ) (q : Slot) (st : Station) → used_up st ≡ false → live n q ≡ eqb n (next_call st) → owing n (new_call i q st) + bit (live n (the_slot st i)) ≤ owing n st
  unfolding new_call
  new-owing i q st u h =
      let a = lives-set i q st in
      let b = next-owing st.last_call in
      let c : bit (live n q) ≡ bit (eqb n (st.last_call + 1)) = ap bit (h ∙ ap (eqb n) (next-left st u)) in
      rw (next-left st u) (omega (arith, a, b, c))

  -- ── a slot is freed ──

  freed_for-spent : (i : ℕ) (st : Station) (q : List Waiting) → to_ring_back st ≡ q → billed n (freed_for i st q).acts + (owing n (freed_for i st q).next + bit (live n (the_slot st i))) ≤ owing n st
  unfolding freed_for rung_back set_queue used_up
  freed_for-spent i st [] e = let h = set-owing i free st in omega (arith, h)
  freed_for-spent i st (w ∷ q) e = let h = queue-new in omega (arith, h)
    where
      queue-new : owing n (new_call i (ring_back_of w.request st) (set_queue q st)) + bit (live n (the_slot st i)) ≤ owing n st
      queue-new = new-owing i (ring_back_of w.request st) (set_queue q st) (rung-first st w q e).0 refl

  freed-spent : (i : ℕ) (st : Station) → billed n (freed i st).acts + (owing n (freed i st).next + bit (live n (the_slot st i))) ≤ owing n st
  unfolding freed
  freed-spent i st = freed_for-spent i st (to_ring_back st) refl

  billed-append : (a b : List Action) → billed n (a ++ b) ≡ billed n a + billed n b
  billed-append a b = rw (charges-append a b, map-append (λ (h : Charge). h.call_number) (charges_of a) (charges_of b)) (occurs-append eqb n (map (λ (h : Charge). h.call_number) (charges_of a)) (map (λ (h : Charge). h.call_number) (charges_of b)))

  -- ── whatever happens to a slot ──

  end-billed : (i : ℕ) (e : Ender) (r : Dealing) (b : Option ℕ) (t : ℕ) → billed n (end_acts i e r b t) ≤ bit (eqb n r.call_number)
  end-billed i e r none t = omega arith
  end-billed i e r (some b) t = omega arith

  drop-billed : (i : ℕ) (rung tone : Bool) → billed n (drop_acts i rung tone) ≡ 0
  drop-billed i false false = refl
  drop-billed i false true = refl
  drop-billed i true false = refl
  drop-billed i true true = refl

  -- what a move charges is over
  move-spent : (i t : ℕ) (p : Slot) (x : Next) (acts : List Action) → Move i t p x acts → billed n acts + bit (live n (leaves p x)) ≤ bit (live n p)
  move-spent i t _ _ _ (to-dial k r d z) = omega arith
  move-spent i t _ _ _ (to-agree k r d z) = omega arith
  move-spent i t _ _ _ (to-ring r d) = omega arith
  move-spent i t _ _ _ (to_drop k r d z) = omega arith
  move-spent i t _ _ _ (to-call r d) = omega arith
  move-spent i t _ _ _ (to-rings k r d z) = omega arith
  move-spent i t _ _ _ (to-answer r d) = omega arith
  move-spent i t _ _ _ (to-let-go k r d tone) = rw (drop-billed i (rings k) tone) (omega arith)
  move-spent i t _ _ _ (to-stage r g q c z) = omega arith
  move-spent i t _ _ _ (to-lose r g c) = omega arith
  move-spent i t _ _ _ (to-regain r g c) = omega arith
  move-spent i t _ _ _ (to-hold r g c) = let h = end-billed i the_ship r (answered_at g) t in omega (arith, h)
  move-spent i t _ _ _ (to_end r g c) = let h = end-billed i the_coast r (answered_at g) t in omega (arith, h)
  move-spent i t _ _ _ (to-repeat r m d) = omega arith
  move-spent i t _ _ _ (to-run-out r m d) = omega arith
  move-spent i t _ _ _ to_take = omega arith
  move-spent i t _ _ _ to-give = omega arith

  ends-spent : (i : ℕ) (st : Station) (acts : List Action) → billed n acts ≤ bit (live n (the_slot st i)) → billed n (also acts (freed i st)).acts + owing n (freed i st).next ≤ owing n st
  ends-spent i st acts h = let f = freed-spent i st in rw (billed-append acts (freed i st).acts) (omega (arith, h, f))

  played-spent : (i : ℕ) (st : Station) (x : Next) (acts : List Action) → billed n acts + bit (live n (leaves (the_slot st i) x)) ≤ bit (live n (the_slot st i))
      → billed n (played i st x acts).acts + owing n (played i st x acts).next ≤ owing n st
  played-spent i st stays acts h = omega (arith, h)
  played-spent i st (becomes q) acts h = let s = set-owing i q st in omega (arith, h, s)
  played-spent i st frees acts h = ends-spent i st acts (omega (arith, h))

  outcome-spent : (i : ℕ) (st : Station) {f : Column → Column} {w : Word → Word} {cs : List Stop} (o : Out) → Outcome i st f w cs (the_slot st i) o → billed n o.acts + owing n o.next ≤ owing n st
  outcome-spent i st _ (passed a b c) = omega arith
  outcome-spent i st _ (moved {n = x} {acts} u a b c) = played-spent i st x acts (move-spent i st.clock (the_slot st i) x acts u)

  -- ── a request ──

  coast_end-spent : (i : ℕ) (o : Dealing) (g : Stage) (c : Option ℕ) (st : Station) → the_slot st i ≡ busy o g c → billed n (coast_end i o (answered_at g) st).acts + owing n (coast_end i o (answered_at g) st).next ≤ owing n st
  unfolding coast_end
  coast_end-spent i o g c st e = ends-spent i st (end_acts i the_coast o (answered_at g) st.clock) (rw e (end-billed i the_coast o (answered_at g) st.clock))

  no_number-spent : (st : Station) (r : Request) → billed n (no_number st r).acts + owing n (no_number st r).next ≤ owing n st
  unfolding no_number
  no_number-spent st r = omega arith

  afresh-spent : (i : ℕ) (st : Station) (r : Request) → used_up st ≡ false → billed n (afresh i st r).acts + owing n (afresh i st r).next ≤ owing n st
  unfolding afresh
  afresh-spent i st r u = let h = new-owing i (offer_of r st) st u refl in omega (arith, h)

  if-spent : (st : Station) (b : Bool) (x y : Out) → billed n x.acts + owing n x.next ≤ owing n st → billed n y.acts + owing n y.next ≤ owing n st
      → billed n (cond b x y).acts + owing n (cond b x y).next ≤ owing n st
  if-spent st true x y p q = p
  if-spent st false x y p q = q

  e_to_g-spent : (st : Station) (r : Request) (o : Option ℕ) → used_up st ≡ false → billed n (e_to_g st r o).acts + owing n (e_to_g st r o).next ≤ owing n st
  unfolding e_to_g offer rule_f rule_g set_queue
  e_to_g-spent st r (some i) u = afresh-spent i st r u
  e_to_g-spent st r none u = if-spent st (ltb (length st.queue) 32) (rule_f st r) (rule_g st r) (omega arith) (omega arith)

  waiting_or_new-spent : (st : Station) (r : Request) (k : Option ℕ) → used_up st ≡ false → billed n (waiting_or_new st r k).acts + owing n (waiting_or_new st r k).next ≤ owing n st
  unfolding waiting_or_new newcomer rule_d set_queue
  waiting_or_new-spent st r none u = e_to_g-spent st r (lowest is_free st.slots) u
  waiting_or_new-spent st r (some k) u = omega arith

  d_to_g-spent : (st : Station) (r : Request) (k : Option ℕ) → billed n (d_to_g st r k).acts + owing n (d_to_g st r k).next ≤ owing n st
  unfolding d_to_g
  d_to_g-spent st r k = go (used_up st) refl
    where
      go : (b : Bool) → used_up st ≡ b → billed n (cond b (no_number st r) (waiting_or_new st r k)).acts + owing n (cond b (no_number st r) (waiting_or_new st r k)).next ≤ owing n st
      go true e = no_number-spent st r
      go false e = waiting_or_new-spent st r k e

  ruling-spent : (i : ℕ) (st : Station) (r : Request) (cs : List Stop) (p : Slot) (o : Out) → Ruling i st r cs p o → the_slot st i ≡ p → billed n o.acts + owing n o.next ≤ owing n st
  unfolding repeated redial
  ruling-spent i st r cs _ _ (passes p a) e = omega arith
  ruling-spent i st r cs _ _ (repeats k o d a b) e = omega arith
  ruling-spent i st r cs _ _ (renews k o d z u a b) e = afresh-spent i st r u
  ruling-spent i st r cs _ _ (runs-out k o d z u a b) e = no_number-spent st r
  ruling-spent i st r cs _ _ (redials o g c a) e =
      let m = coast_end i o (answered_at g) st in
      let x = coast_end-spent i o g c st e in
      let y = d_to_g-spent m.next r (place_of r.who m.next) in
      rw (billed-append m.acts (d_to_g m.next r (place_of r.who m.next)).acts) (omega (arith, x, y))

  request-spent : (st : Station) (r : Request) (x : Standing) → billed n (requested st r x).acts + owing n (requested st r x).next ≤ owing n st
  unfolding requested
  request-spent st r nowhere = d_to_g-spent st r none
  request-spent st r (waits k) = d_to_g-spent st r (some k)
  request-spent st r (holds i) = ruling-spent i st r _ (the_slot st i) _ (b_or_c-ruling i st r (the_slot st i)) refl

  -- ── an event, and the run ──

  effect-spent : (cfg : Config) (st : Station) (q : Option Ashore) (b : Book) (ws : List Word) (cs : List Stop) (m : Heard) (o : Out) → Effect cfg st q b ws cs m o → billed n o.acts + owing n o.next ≤ owing n st
  unfolding rule_a called_from set_queue
  effect-spent cfg st _ _ _ _ _ _ (rests m k h) = omega arith
  effect-spent cfg st _ _ _ _ _ _ (drops k) = omega arith
  effect-spent cfg st _ _ _ _ _ _ (data-asked x d) = omega arith
  effect-spent cfg st _ _ _ _ _ _ (call-asked r) = request-spent st r (standing st r.who)
  effect-spent cfg st _ _ _ _ _ _ (to-slot m i u e) = outcome-spent i st _ u
  effect-spent cfg st _ _ _ _ _ _ (called-ashore a i h) = let k = new-owing i (called_of (ashore_request cfg a) st) st (slot-taken st i h).0 refl in omega (arith, k)

  act-spent : (cfg : Config) (st : Station) (e : Event) → billed n (act cfg st e).acts + owing n (act cfg st e).next ≤ owing n st
  unfolding set_clock
  act-spent cfg st e = effect-spent cfg (set_clock (moment (seen st) e) st) _ _ _ _ _ _ (act-effect cfg st e.time e.what)

  numbered-billed : (k : ℕ) (cs : List Charge) (r : List (Numbered Charge)) → call_numbers (numbered k cs r) ≡ map (λ (h : Charge). h.call_number) cs ++ call_numbers r
  numbered-billed k [] r = refl
  numbered-billed k (h ∷ cs) r = ap (λ z. h.call_number ∷ z) (numbered-billed k cs r)

  run-spent : (cfg : Config) (es : List Event) (k : ℕ) (st : Station) → occurs eqb n (call_numbers (charged k (play cfg es st))) ≤ owing n st
  unfolding play charged
  run-spent cfg [] k st = omega arith
  run-spent cfg (e ∷ es) k st = go (verdict cfg st e) refl (λ k s. run-spent cfg es k s)
    where
      go : (o : Option ℕ) → verdict cfg st e ≡ o → ((k : ℕ) (s : Station) → occurs eqb n (call_numbers (charged k (play cfg es s))) ≤ owing n s) → occurs eqb n (call_numbers (charged k (play cfg (e ∷ es) st))) ≤ owing n st
      go none v ih =
          let a = act-spent cfg st e in
          let b = ih (suc k) (act cfg st e).next in
          rw (play-on cfg e es st v, numbered-billed k (charges_of (act cfg st e).acts) (charged (suc k) (play cfg es (act cfg st e).next)), occurs-append eqb n (map (λ (h : Charge). h.call_number) (charges_of (act cfg st e).acts)) (call_numbers (charged (suc k) (play cfg es (act cfg st e).next)))) (omega (arith, a, b))
      go (some m) v ih = rw (play-past cfg e es st m v) (ih k st)

  fresh-owing : (cfg : Config) → owing n (fresh cfg) ≤ 1
  unfolding fresh
  fresh-owing cfg = go (length cfg.channels) (ltb 0 n)
    where
      go : (k : ℕ) (b : Bool) → lives n (replicate k free) + bit b ≤ 1
      go zero true = omega arith
      go zero false = omega arith
      go (suc k) b = let h = go k b in omega (arith, h)

pub charges-differ : ChargesDiffer
unfolding ChargesDiffer
charges-differ cfg set es = occurs-distinct eqb (λ x. eq-eqb x x refl) (call_numbers (charged 0 (play cfg es (fresh cfg)))) (λ n. let a = run-spent n cfg es 0 (fresh cfg) in let b = fresh-owing n cfg in omega (arith, a, b))
