-- What an event does to any one slot, said once: what becomes of it, and what is given about its line and its ringing.
use mathlib.Core.Path.{◌≡◌, refl, sym, ◌∙◌}
use mathlib.Core.Logic.{◌⊎◌, inl, inr}
use mathlib.Core.List.{List, [], ◌∷◌, ◌++◌}
use mathlib.Core.Bool.{Bool, true, false, cond, true≢false}
use mathlib.Core.Option.{Option, none, some}
use Prim.Native.Nat.{ℕ, ◌+◌}
use native.Mathlib.Omega.{arith}
use lib.Dec.{ltb, eqb}
use lib.ListN.{length}
use borrow.Author.Tests.{ne_eqb, eqb-true, eqb-false}
use Rattle.sequence.proofs.Tests.{Either, yes!, no!, which}
use Rattle.rules.specs.Rules.Places.{lowest, Each}
use Rattle.rules.specs.Rules.Words.{Request, Config, Ashore, What, Deed, carrier_on, carrier_off, acknowledge, call_ship, unable, dial, release_line, ringing_on, ringing_off, busy_tone}
use Rattle.rules.specs.Rules.Heard.{Heard}
use Rattle.rules.specs.Rules.Actions.{Ender, the_coast, Action}
use Rattle.rules.specs.Rules.Station.{is_called_in, rings_in, Dealing, Slot, free, Waiting, Station, the_slot, set_slot, set_clock, set_queue, used_up, new_call, answered_at, is_free, offer_of, called_of}
use Rattle.rules.specs.Rules.Requests.{Out, also, to_ring_back, rung_back, freed_for, freed, end_acts, coast_end, Standing, nowhere, holds, waits, place_of, standing, rule_a, no_number, repeated, afresh, rule_d, offer, rule_f, rule_g, e_to_g, newcomer, waiting_or_new, d_to_g, redial, requested}
use Rattle.rules.specs.Rules.Ashore.{ashore_request, called_from}
use Rattle.rules.specs.Rules.Calls.{act_at}
use Rattle.rules.specs.ListAlone.Book.{Stop, Column, Book}
use Rattle.rules.specs.ListAlone.Reading.{falls_at, moment_of}
use Rattle.rules.specs.ListAlone.LineWords.{Word, release, releases}
use Rattle.rules.specs.Statement.{deeds_of, IsFreed}
use Rattle.rules.proofs.PlaceLaws.{aside, there-or-not, each_append}
use Rattle.rules.proofs.Base.{seen, deeds-append, slot-taken, slot-given, slot-lowest, free-is}
use Rattle.rules.proofs.Outcome.{Next, stays, becomes, frees, Move, to_take, to-repeat, played, About, move-about, Outcome, passed, moved}
use Rattle.rules.proofs.Ruling.{Ruling, passes, repeats, renews, runs-out, redials, b_or_c-ruling}
use Rattle.rules.proofs.Effect.{Effect, rests, drops, data-asked, call-asked, to-slot, called-ashore, act-effect}

-- ── deeds and a slot ─────────────────────────────────────────────────────────

-- neither begins nor ends the ringing of slot i
abbrev pub Unrung : ℕ → Deed → Type 0
Unrung i (carrier_on j) = Unit {0}
Unrung i (carrier_off j) = Unit {0}
Unrung i (acknowledge j r) = Unit {0}
Unrung i (call_ship j r) = Unit {0}
Unrung i (unable n x digits) = Unit {0}
Unrung i (dial j digits) = Unit {0}
Unrung i (release_line j) = Unit {0}
Unrung i (ringing_on j) = i ≡ j → ⊥
Unrung i (ringing_off j) = i ≡ j → ⊥
Unrung i (busy_tone j) = Unit {0}

-- and leaves its line alone
abbrev pub Aside : ℕ → List Deed → Type 0
Aside i ds = Each (Unrung i) ds × (releases i ds ≡ 0)

pub releases-append : (i : ℕ) (a b : List Deed) → releases i (a ++ b) ≡ releases i a + releases i b
releases-append i [] b = omega arith
releases-append i (d ∷ a) b = let k = releases-append i a b in omega arith

-- deeds about another slot
module _ (i j : ℕ) (other : i ≡ j → ⊥) where
  one-aside : (d : Deed) → About j [] d → Unrung i d × (release i d ≡ 0)
  one-aside (carrier_on k) a = (tt, refl)
  one-aside (carrier_off k) a = (tt, refl)
  one-aside (acknowledge k r) a = (tt, refl)
  one-aside (call_ship k r) a = (tt, refl)
  one-aside (unable n x digits) a = absurd a
  one-aside (dial k digits) a = (tt, refl)
  one-aside (release_line k) a = (tt, rw (← a, ne_eqb i j other) refl)
  one-aside (ringing_on k) a = (λ e. other (e ∙ sym a), refl)
  one-aside (ringing_off k) a = (λ e. other (e ∙ sym a), refl)
  one-aside (busy_tone k) a = (tt, refl)

  about-aside : (ds : List Deed) → Each (About j []) ds → Aside i ds
  about-aside [] a = (tt, refl)
  about-aside (d ∷ ds) a = let x = one-aside d a.0 in let y = about-aside ds a.1 in ((x.0, y.0), rw (x.1, y.1) refl)

  end-aside : (e : Ender) (r : Dealing) (g : Option ℕ) (t : ℕ) → Aside i (deeds_of (end_acts j e r g t))
  end-aside e r none t = about-aside (deeds_of (end_acts j e r none t)) (refl, (refl, tt))
  end-aside e r (some b) t = about-aside (deeds_of (end_acts j e r (some b) t)) (refl, (refl, tt))

pub end-unrung : (i j : ℕ) (e : Ender) (r : Dealing) (g : Option ℕ) (t : ℕ) → Each (Unrung i) (deeds_of (end_acts j e r g t))
end-unrung i j e r none t = (tt, (tt, tt))
end-unrung i j e r (some b) t = (tt, (tt, tt))

-- ── the course of a slot ─────────────────────────────────────────────────────

-- a slot whose ship is being called stays as it is, with its line; another does not become such a slot; neither 8 nor 9 is given on it
pub record Spared (i : ℕ) (p : Slot) (ds : List Deed) (q : Slot) : Type 0 where
  pub kept : is_called_in p ≡ true → (q ≡ p) × (releases i ds ≡ 0)
  pub uncalled : is_called_in p ≡ false → is_called_in q ≡ false
  pub unrung : Each (Unrung i) ds

pub data Course (i t : ℕ) : Slot → List Deed → Slot → Type 0 where
  -- a request, or what happens to another slot
  spared : {p q : Slot} {ds : List Deed} → Spared i p ds q → Course i t p ds q
  -- a ship is called on it, which was free
  calls : {p q : Slot} (r : Request) → is_called_in p ≡ false → rings_in q ≡ false → Course i t p (carrier_on i ∷ call_ship i r ∷ []) q
  -- what happens to it
  turned : {p q : Slot} {acts : List Action} → Move i t p (becomes q) acts → Course i t p (deeds_of acts) q
  let_go : {p q : Slot} {acts : List Action} (ds : List Deed) → Move i t p frees acts → IsFreed q → Aside i ds → Course i t p (deeds_of acts ++ ds) q

module _ (i : ℕ) where
  still : (p : Slot) (ds : List Deed) → Aside i ds → Spared i p ds p
  still p ds a = record { kept = λ h. (refl, a.1); uncalled = λ h. h; unrung = a.0 }

  spared-then : (p q s : Slot) (a b : List Deed) → Spared i p a q → Spared i q b s → Spared i p (a ++ b) s
  spared-then p q s a b u v = record {
    kept = λ h. let x = u.kept h in let y = v.kept (rw x.0 h) in (y.0 ∙ x.0, rw (releases-append i a b, x.1, y.1) refl);
    uncalled = λ h. v.uncalled (u.uncalled h);
    unrung = each_append (Unrung i) a b u.unrung v.unrung;
  }

  abbrev SparedBy : Station → Out → Type 0
  SparedBy st o = Spared i (the_slot st i) (deeds_of o.acts) (the_slot o.next i)

  spared-also : (st mid : Station) (a : List Action) (o : Out) → Spared i (the_slot st i) (deeds_of a) (the_slot mid i) → SparedBy mid o → SparedBy st (also a o)
  spared-also st mid a o u v = rw (deeds-append a o.acts) (spared-then _ (the_slot mid i) _ (deeds_of a) (deeds_of o.acts) u v)

  -- a slot that is not called goes to another
  given-spared : (j : ℕ) (q : Slot) (st : Station) (ds : List Deed) → is_called_in (the_slot st j) ≡ false → is_called_in q ≡ false → Aside i ds → Spared i (the_slot st i) ds (the_slot (set_slot j q st) i)
  unfolding set_slot
  given-spared j q st ds p h a = go (aside free (λ x. q) j i st.slots)
    where
      go : (i ≡ j) ⊎ (the_slot (set_slot j q st) i ≡ the_slot st i) → Spared i (the_slot st i) ds (the_slot (set_slot j q st) i)
      go (inl e) = record {
        kept = λ k. let z : is_called_in (the_slot st i) ≡ false = rw e p in (cc, a.1);
        uncalled = λ k. rw (← e) (slot-given st (λ s. is_called_in s ≡ false) refl q h i);
        unrung = a.0;
      }
      go (inr e) = rw e (still (the_slot st i) ds a)

  -- ── a request ──────────────────────────────────────────────────────────────

  module _ (st : Station) (r : Request) where
    afresh-spared : (j : ℕ) → is_called_in (the_slot st j) ≡ false → SparedBy st (afresh j st r)
    unfolding afresh new_call set_slot
    afresh-spared j h = given-spared j (offer_of r st) st _ h refl ((tt, tt), refl)

    e_to_g-spared : (o : Option ℕ) → lowest is_free st.slots ≡ o → SparedBy st (e_to_g st r o)
    unfolding e_to_g offer afresh rule_f rule_g set_queue new_call set_slot
    e_to_g-spared (some j) e = given-spared j (offer_of r st) st _ (rw (free-is (the_slot st j) (slot-lowest st is_free j e)) refl) refl ((tt, (tt, tt)), refl)
    e_to_g-spared none e = go (ltb (length st.queue) 32)
      where
        go : (b : Bool) → SparedBy st (cond b (rule_f st r) (rule_g st r))
        go true = still _ _ ((tt, tt), refl)
        go false = still _ _ ((tt, tt), refl)

    newcomer-spared : SparedBy st (newcomer st r)
    unfolding newcomer
    newcomer-spared = e_to_g-spared (lowest is_free st.slots) refl

    rule_d-spared : (k : ℕ) → SparedBy st (rule_d k st r)
    unfolding rule_d set_queue
    rule_d-spared k = still _ _ ((tt, tt), refl)

    waiting_or_new-spared : (k : Option ℕ) → SparedBy st (waiting_or_new st r k)
    unfolding waiting_or_new
    waiting_or_new-spared none = newcomer-spared
    waiting_or_new-spared (some k) = rule_d-spared k

    d_to_g-spared : (k : Option ℕ) → SparedBy st (d_to_g st r k)
    unfolding d_to_g no_number
    d_to_g-spared k = go (used_up st)
      where
        go : (b : Bool) → SparedBy st (cond b (no_number st r) (waiting_or_new st r k))
        go true = still _ _ ((tt, tt), refl)
        go false = waiting_or_new-spared k

  -- a slot that is not called is freed
  module _ (j : ℕ) (st : Station) (h : is_called_in (the_slot st j) ≡ false) where
    freed_for-spared : (q : List Waiting) → SparedBy st (freed_for j st q)
    unfolding freed_for rung_back set_queue new_call set_slot
    freed_for-spared [] = given-spared j free st _ h refl (tt, refl)
    freed_for-spared (w ∷ q) = given-spared j _ (set_queue q st) _ h refl ((tt, (tt, tt)), refl)

    coast_end-spared : (o : Dealing) (g : Option ℕ) → SparedBy st (coast_end j o g st)
    unfolding coast_end freed
    coast_end-spared o g = spared-also st st (end_acts j the_coast o g st.clock) (freed j st) (record {
      kept = λ k. (refl, (end-aside i j (λ e. let z : is_called_in (the_slot st i) ≡ false = rw e h in true≢false (sym k ∙ z)) the_coast o g st.clock).1);
      uncalled = λ k. k;
      unrung = end-unrung i j the_coast o g st.clock;
    }) (freed_for-spared (to_ring_back st))

  module _ (j : ℕ) (st : Station) (r : Request) where
    ruling-spared : (cs : List Stop) (p : Slot) (o : Out) → Ruling j st r cs p o → the_slot st j ≡ p → SparedBy st o
    unfolding repeated redial no_number
    ruling-spared cs _ _ (passes p a) e = still _ _ (tt, refl)
    ruling-spared cs _ _ (repeats k o d a b) e = still _ _ ((tt, tt), refl)
    ruling-spared cs _ _ (renews k o d z u a b) e = afresh-spared st r j (rw e z)
    ruling-spared cs _ _ (runs-out k o d z u a b) e = still _ _ ((tt, tt), refl)
    ruling-spared cs _ _ (redials o g c a) e =
        let end = coast_end j o (answered_at g) st in
        spared-also st end.next end.acts (d_to_g end.next r (place_of r.who end.next)) (coast_end-spared j st (rw e refl) o (answered_at g)) (d_to_g-spared end.next r (place_of r.who end.next))

  request-spared : (st : Station) (r : Request) (s : Standing) → SparedBy st (requested st r s)
  unfolding requested
  request-spared st r nowhere = d_to_g-spared st r none
  request-spared st r (holds j) = ruling-spared j st r _ (the_slot st j) _ (b_or_c-ruling j st r (the_slot st j)) refl
  request-spared st r (waits k) = d_to_g-spared st r (some k)

  -- ── whatever happens to a slot ─────────────────────────────────────────────

  abbrev CourseBy : Station → Out → Type 0
  CourseBy st o = Course i st.clock (the_slot st i) (deeds_of o.acts) (the_slot o.next i)

  -- to this one
  free-rests : {n : Next} {acts : List Action} (t : ℕ) → Move i t free n acts → deeds_of acts ≡ []
  free-rests t to_take = refl

  repeat-aside : {p : Slot} {acts : List Action} (t : ℕ) → Move i t p stays acts → Aside i (deeds_of acts)
  repeat-aside t (to-repeat r n d) = ((tt, (tt, tt)), refl)

  module _ (st : Station) where
    turned-course : (q : Slot) (acts : List Action) → Move i st.clock (the_slot st i) (becomes q) acts → Course i st.clock (the_slot st i) (deeds_of acts) (the_slot (set_slot i q st) i)
    unfolding set_slot
    turned-course q acts u = go (there-or-not free q i st.slots)
      where
        go : (the_slot (set_slot i q st) i ≡ q) ⊎ ((the_slot st i ≡ free) × (the_slot (set_slot i q st) i ≡ free)) → Course i st.clock (the_slot st i) (deeds_of acts) (the_slot (set_slot i q st) i)
        go (inl e) = rw e (turned u)
        go (inr e) = rw (e.0, e.1, free-rests st.clock (rw e.0 at u)) (spared (still free [] (tt, refl)))

    freed_for-course : (acts : List Action) → Move i st.clock (the_slot st i) frees acts → (q : List Waiting) → CourseBy st (also acts (freed_for i st q))
    unfolding freed_for rung_back set_queue new_call set_slot
    freed_for-course acts u [] = rw (deeds-append acts []) (let_go [] u (slot-given st IsFreed tt free tt i) (tt, refl))
    freed_for-course acts u (w ∷ q) = rw (deeds-append acts (freed_for i st (w ∷ q)).acts) (let_go (deeds_of (freed_for i st (w ∷ q)).acts) u (slot-given (set_queue q st) IsFreed tt _ refl i) ((tt, (tt, tt)), refl))

    played-course : (n : Next) (acts : List Action) → Move i st.clock (the_slot st i) n acts → CourseBy st (played i st n acts)
    unfolding freed
    played-course stays acts u = spared (still (the_slot st i) (deeds_of acts) (repeat-aside st.clock u))
    played-course (becomes q) acts u = turned-course q acts u
    played-course frees acts u = freed_for-course acts u (to_ring_back st)

    outcome-course : {f : Column → Column} {w : Word → Word} {cs : List Stop} {o : Out} → Outcome i st f w cs (the_slot st i) o → CourseBy st o
    outcome-course (passed a b c) = spared (still (the_slot st i) [] (tt, refl))
    outcome-course (moved {n} {acts} u a b c) = played-course n acts u

  -- to another
  module _ (j : ℕ) (other : i ≡ j → ⊥) where
    unmoved : (st : Station) (q : Slot) → the_slot (set_slot j q st) i ≡ the_slot st i
    unfolding set_slot
    unmoved st q = go (aside free (λ x. q) j i st.slots)
      where
        go : (i ≡ j) ⊎ (the_slot (set_slot j q st) i ≡ the_slot st i) → the_slot (set_slot j q st) i ≡ the_slot st i
        go (inl e) = absurd (other e)
        go (inr e) = e

    freed_for-elsewhere : (st : Station) (q : List Waiting) → (the_slot (freed_for j st q).next i ≡ the_slot st i) × Each (About j []) (deeds_of (freed_for j st q).acts)
    unfolding freed_for rung_back set_queue new_call set_slot
    freed_for-elsewhere st [] = (unmoved st _, tt)
    freed_for-elsewhere st (w ∷ q) = (unmoved (set_queue q st) _, (refl, ((refl, refl), tt)))

    played-elsewhere : (st : Station) (n : Next) (acts : List Action) → Each (About j []) (deeds_of acts) → (the_slot (played j st n acts).next i ≡ the_slot st i) × Each (About j []) (deeds_of (played j st n acts).acts)
    unfolding freed
    played-elsewhere st stays acts a = (refl, a)
    played-elsewhere st (becomes q) acts a = (unmoved st q, a)
    played-elsewhere st frees acts a =
        let f = freed_for-elsewhere st (to_ring_back st) in
        (f.0, rw (deeds-append acts (freed_for j st (to_ring_back st)).acts) (each_append (About j []) (deeds_of acts) _ a f.1))

    outcome-elsewhere : (st : Station) {f : Column → Column} {w : Word → Word} {cs : List Stop} (p : Slot) {o : Out} → Outcome j st f w cs p o → SparedBy st o
    outcome-elsewhere st p (passed a b c) = still (the_slot st i) [] (tt, refl)
    outcome-elsewhere st p (moved {n} {acts} u a b c) =
        let e = played-elsewhere st n acts (move-about [] j st.clock p n acts u (λ k r d h. refl)) in
        rw e.0 (still (the_slot st i) _ (about-aside i j other (deeds_of (played j st n acts).acts) e.1))

  -- ── any event ──────────────────────────────────────────────────────────────

  slot-course : (st : Station) (j : ℕ) {f : Column → Column} {w : Word → Word} {cs : List Stop} {o : Out} → Outcome j st f w cs (the_slot st j) o → CourseBy st o
  slot-course st j {o = o} u = go (which (eqb i j))
    where
      go : Either (eqb i j) → CourseBy st o
      go (yes! e) = outcome-course st (rw (← (eqb-true i j e)) at u)
      go (no! e) = spared (outcome-elsewhere j (eqb-false i j e) st (the_slot st j) u)

  -- a free slot from which a ship is called
  called-course : (st : Station) (j : ℕ) (r : Request) → is_free (the_slot st j) ≡ true → CourseBy st (called_from st r (some j))
  unfolding called_from set_slot new_call
  called-course st j r h = go (aside free (λ x. called_of r st) j i st.slots)
    where
      go : (i ≡ j) ⊎ (the_slot (set_slot j (called_of r st) st) i ≡ the_slot st i) → CourseBy st (called_from st r (some j))
      go (inl e) =
          let z : is_called_in (the_slot st i) ≡ false = rw (e, free-is (the_slot st j) h) refl in
          rw (← e) (calls r z (slot-given st (λ s. rings_in s ≡ false) refl (called_of r st) refl i))
      go (inr e) = rw e (spared (still (the_slot st i) (carrier_on j ∷ call_ship j r ∷ []) ((tt, (tt, tt)), refl)))

  effect-course : (cfg : Config) (st : Station) (q : Option Ashore) (b : Book) (ws : List Word) (cs : List Stop) (m : Heard) (o : Out) → Effect cfg st q b ws cs m o → CourseBy st o
  unfolding rule_a set_queue
  effect-course cfg st _ _ _ _ _ _ (rests m n h) = spared (still (the_slot st i) [] (tt, refl))
  effect-course cfg st _ _ _ _ _ _ (drops k) = spared (still (the_slot st i) [] (tt, refl))
  effect-course cfg st _ _ _ _ _ _ (data-asked x n) = spared (still (the_slot st i) (unable 109 x n ∷ []) ((tt, tt), refl))
  effect-course cfg st _ _ _ _ _ _ (call-asked r) = spared (request-spared st r (standing st r.who))
  effect-course cfg st _ _ _ _ _ _ (called-ashore a j h) = called-course st j (ashore_request cfg a) (slot-lowest st is_free j (slot-taken st j h).1)
  effect-course cfg st _ _ _ _ _ _ (to-slot m j u e) = slot-course st j u

pub act-course : (cfg : Config) (st : Station) (t : ℕ) (w : What) (i : ℕ) → Course i (moment_of t (falls_at (seen st) t w)) (the_slot st i) (deeds_of (act_at cfg st t w).acts) (the_slot (act_at cfg st t w).next i)
unfolding set_clock
act-course cfg st t w i = effect-course i cfg _ _ _ _ _ _ _ (act-effect cfg st t w)
