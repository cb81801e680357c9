-- Each piece of which the events are made: what the list reads from its deeds is what it leaves.
use mathlib.Core.Path.{◌≡◌, refl, sym, ap, ◌∙◌}
use mathlib.Core.List.{List, [], ◌∷◌, ◌++◌, map, map-append}
use mathlib.Core.Bool.{Bool, true, false, cond}
use mathlib.Core.Option.{Option, none, some}
use Prim.Native.Nat.{ℕ, zero, suc, ◌+◌, ◌<◌}
use lib.Dec.{ltb}
use lib.ListN.{length}
use native.Mathlib.Omega.{arith}
use Rattle.rules.specs.Rules.Places.{mod_at, shift, lowest}
use Rattle.rules.specs.Rules.Words.{Party, is, Request, Ashore}
use Rattle.rules.specs.Rules.Actions.{the_coast, Action}
use Rattle.rules.specs.Rules.Station.{Stage, answered, answered_at, Dealing, Slot, free, Waiting, Station, the_slot, set_slot, set_queue, used_up, next_call, new_call, due_after, queue_wait, is_free, ring_back_of, offer_of}
use Rattle.rules.specs.Rules.Requests.{Out, done, also, to_ring_back, rung_back, freed_for, freed, end_acts, coast_end, waits_for, no_number, afresh, rule_d, offer, rule_f, rule_g, e_to_g, newcomer, waiting_or_new, d_to_g}
use Rattle.rules.specs.ListAlone.Book.{Stop, Column, Place, Book, blank, at_column}
use Rattle.rules.specs.ListAlone.Reading.{CountedColumn, goes_on, at_counted_column, tell, summon, let_go, hush, leave, join, reads, stop_of}
use Rattle.rules.specs.Statement.{deeds_of, charges_of, owed}
use Rattle.rules.proofs.PlaceLaws.{mod_at-none, shift-some, shift_none, lowest-there}
use Rattle.rules.proofs.Base.{by-stage, call_in, view, place, seen, is_same, is_true, deeds-append, charges-append, reads-append, next-left, rung-first, counts, at_line², moves, free-is, slot-lowest}
use Rattle.rules.specs.Rules.Sound.{queue_room}

-- ── what is shown of a piece ─────────────────────────────────────────────────

-- read from the book b at the time t, the piece's deeds give the book of what it leaves, and its charges are cs; q is what was asked
-- ashore in the same entry
pub record GoodBy (q : Option Ashore) (t : ℕ) (b : Book) (cs : List Stop) (o : Out) : Type 0 where
  pub reading : reads q t (deeds_of o.acts) b ≡ seen o.next
  pub charging : charges_of o.acts ≡ map owed cs

abbrev pub Good : ℕ → Book → List Stop → Out → Type 0
Good t b cs o = GoodBy none t b cs o

pub good-if : (t : ℕ) (b : Book) (cs : List Stop) (c : Bool) (x y : Out) → (c ≡ true → Good t b cs x) → (c ≡ false → Good t b cs y) → Good t b cs (cond c x y)
good-if t b cs true x y p q = p refl
good-if t b cs false x y p q = q refl

pub good-also : (t : ℕ) (b k : Book) (cs ds : List Stop) (a : List Action) (o : Out) → reads none t (deeds_of a) b ≡ k → charges_of a ≡ map owed cs → Good t k ds o → Good t b (cs ++ ds) (also a o)
good-also t b k cs ds a o h c g = record {
  reading = ap (λ z. reads none t z b) (deeds-append a o.acts) ∙ reads-append none t (deeds_of a) (deeds_of o.acts) b ∙ ap (reads none t (deeds_of o.acts)) h ∙ g.reading;
  charging = charges-append a o.acts ∙ rw (c, g.charging) (sym (map-append owed cs ds));
}

pub good-done : (st : Station) (b : Book) → b ≡ seen st → Good st.clock b [] (done st)
unfolding reads
good-done st b h = record { reading = h; charging = refl }

pub book-is : {a b : Book} → a.now ≡ b.now → a.columns ≡ b.columns → a.places ≡ b.places → a.given ≡ b.given → a ≡ b
book-is p q r s = λ k. record { now = p k; columns = q k; places = r k; given = s k }

pub at_line³ : (i : ℕ) (f g h : Column → Column) (b : Book) → at_column i h (at_column i g (at_column i f b)) ≡ at_column i (λ l. h (g (f l))) b
at_line³ i f g h b = ap (at_column i h) (at_line² i f g b) ∙ at_line² i (λ l. g (f l)) h b

-- ── a slot is freed ──────────────────────────────────────────────────────────

leave-first : (x : Party) (p : Place) (ps : List Place) → p.who ≡ x → leave x (p ∷ ps) ≡ ps
leave-first x p ps h = rw (is_same x p.who (sym h))

freed_for-good : (i : ℕ) (st : Station) (p : Slot) → the_slot st i ≡ p → i < length st.slots → (q : List Waiting) → to_ring_back st ≡ q
    → (f : Column → Column) → f (view p) ≡ blank → Good st.clock (at_column i f (seen st)) [] (freed_for i st q)
unfolding freed_for rung_back reads seen set_slot set_queue new_call
freed_for-good i st p e there [] eq f h = record { reading = moves i st p e f _ h; charging = refl }
freed_for-good i st p e there (w ∷ q) eq f h =
    let k = rung-first st w q eq in
    let c = counts i st p e there f (summon st.clock w.request) (ring_back_of w.request st) (next_call st) (rw (h, next-left st k.0) refl) in
    record {
      reading = book-is refl (ap (λ (b : Book). b.columns) c) (rw k.1 (leave-first w.request.who (place w) (map place q) refl)) (ap (λ (b : Book). b.given) c);
      charging = refl;
    }

pub freed-good : (i : ℕ) (st : Station) (p : Slot) → the_slot st i ≡ p → i < length st.slots → (f : Column → Column) → f (view p) ≡ blank → Good st.clock (at_column i f (seen st)) [] (freed i st)
unfolding freed
freed-good i st p e there f h = freed_for-good i st p e there (to_ring_back st) refl f h

-- ── the coast's end ──────────────────────────────────────────────────────────

pub coast_end-good : (i : ℕ) (r : Dealing) (g : Stage) (st : Station) (p : Slot) → the_slot st i ≡ p → i < length st.slots → (f : Column → Column) → hush (let_go (f (view p))) ≡ blank
    → Good st.clock (at_column i f (seen st)) (stop_of st.clock i (call_in r g)) (coast_end i r (answered_at g) st)
unfolding coast_end reads
coast_end-good i r g st p e there f h = by-stage (λ s. Good st.clock (at_column i f (seen st)) (stop_of st.clock i (call_in r s)) (coast_end i r (answered_at s) st)) (λ d. unanswered) (λ d. unanswered) talked g
  where
    idle : Good st.clock (at_column i (λ l. hush (let_go (f l))) (seen st)) [] (freed i st)
    idle = freed-good i st p e there (λ l. hush (let_go (f l))) h

    unanswered : Good st.clock (at_column i f (seen st)) [] (coast_end i r none st)
    unanswered = good-also st.clock (at_column i f (seen st)) (at_column i (λ l. hush (let_go (f l))) (seen st)) [] [] (end_acts i the_coast r none st.clock) (freed i st) (at_line³ i f let_go hush (seen st)) refl idle

    talked : (b : ℕ) → Good st.clock (at_column i f (seen st)) (stop_of st.clock i (call_in r (answered b))) (coast_end i r (some b) st)
    talked b = good-also st.clock (at_column i f (seen st)) (at_column i (λ l. hush (let_go (f l))) (seen st)) (stop_of st.clock i (call_in r (answered b))) [] (end_acts i the_coast r (some b) st.clock) (freed i st) (at_line³ i f let_go hush (seen st)) refl idle

-- ── rules d to g ─────────────────────────────────────────────────────────────

abbrev renewed : Request → Waiting → Waiting
renewed r w = record { request = r; due = w.due }

join-waiting : (t : ℕ) (r : Request) (k : ℕ) (q : List Waiting) → lowest (waits_for r.who) q ≡ some k → join t r.who (map place q) ≡ map place (mod_at (renewed r) k q)
join-waiting t r k [] h = cc
join-waiting t r k (w ∷ q) h = go (is r.who w.request.who) refl k h (λ j e. join-waiting t r j q e)
  where
    go : (b : Bool) → is r.who w.request.who ≡ b → (k : ℕ) → cond b (some zero) (shift (lowest (waits_for r.who) q)) ≡ some k
        → ((j : ℕ) → lowest (waits_for r.who) q ≡ some j → join t r.who (map place q) ≡ map place (mod_at (renewed r) j q)) → join t r.who (map place (w ∷ q)) ≡ map place (mod_at (renewed r) k (w ∷ q))
    go true e zero z ih = rw e (ap (λ (x : Party). record { who = x; due = w.due } ∷ map place q) (sym (is_true r.who w.request.who e)))
    go true e (suc k) z ih = let y : zero ≡ suc k = cc in absurd (omega arith)
    go false e zero z ih = absurd (no_shift (lowest (waits_for r.who) q) z)
      where
        no_shift : (o : Option ℕ) → shift o ≡ some zero → ⊥
        no_shift none h = let y : ◌≡◌ {A = ℕ} 0 1 = cc in omega arith
        no_shift (some n) h = let y : suc n ≡ zero = cc in omega arith
    go false e (suc k) z ih = rw e (ap (λ z. place w ∷ z) (ih k (shift-some _ k z)))

join-new : (t : ℕ) (r : Request) (q : List Waiting) → lowest (waits_for r.who) q ≡ none → join t r.who (map place q) ≡ map place (q ++ record { request = r; due = due_after t queue_wait } ∷ [])
join-new t r [] h = refl
join-new t r (w ∷ q) h = go (is r.who w.request.who) refl (λ e. join-new t r q e)
  where
    go : (b : Bool) → is r.who w.request.who ≡ b → (lowest (waits_for r.who) q ≡ none → join t r.who (map place q) ≡ map place (q ++ record { request = r; due = due_after t queue_wait } ∷ [])) → join t r.who (map place (w ∷ q)) ≡ map place ((w ∷ q) ++ record { request = r; due = due_after t queue_wait } ∷ [])
    go true e ih = let k : ◌≡◌ {A = Option ℕ} (some zero) none = rw e at h in cc
    go false e ih = rw e (ap (λ z. place w ∷ z) (ih (shift_none _ (rw e at h))))

-- a call that begins on a free slot, with nothing read of it before
pub first_read : (i : ℕ) (st : Station) → lowest is_free st.slots ≡ some i → used_up st ≡ false → (g : Column → ℕ → CountedColumn) (q : Slot) → g blank st.last_call ≡ goes_on (view q) (st.last_call + 1)
    → at_counted_column i g (seen st) ≡ seen (new_call i q st)
unfolding seen new_call
first_read i st h u g q k = ap (at_counted_column i g) (sym unread) ∙ counts i st free (free-is _ (slot-lowest st is_free i h)) (lowest-there is_free st.slots i h) (λ l. l) g q (next_call st) (k ∙ rw (next-left st u) refl)
  where
    unread : at_column i (λ l. l) (seen st) ≡ seen st
    unread = book-is refl (sym (mod_at-none i (map view st.slots))) refl refl

e_to_g-good : (st : Station) (r : Request) (o : Option ℕ) → used_up st ≡ false → lowest is_free st.slots ≡ o → lowest (waits_for r.who) st.queue ≡ none → Good st.clock (seen st) [] (e_to_g st r o)
unfolding e_to_g offer afresh rule_f rule_g reads seen set_queue
e_to_g-good st r (some i) u h w = record { reading = first_read i st h u (tell st.clock r) (offer_of r st) (rw (next-left st u) refl); charging = refl }
e_to_g-good st r none u h w = good-if _ _ _ (ltb (length st.queue) queue_room) (rule_f st r) (rule_g st r) (λ e. record { reading = book-is refl refl (join-new st.clock r st.queue w) refl; charging = refl }) (λ e. record { reading = refl; charging = refl })

newcomer-good : (st : Station) (r : Request) → used_up st ≡ false → lowest (waits_for r.who) st.queue ≡ none → Good st.clock (seen st) [] (newcomer st r)
unfolding newcomer
newcomer-good st r u w = e_to_g-good st r (lowest is_free st.slots) u refl w

rule_d-good : (k : ℕ) (st : Station) (r : Request) → lowest (waits_for r.who) st.queue ≡ some k → Good st.clock (seen st) [] (rule_d k st r)
unfolding rule_d reads seen set_queue
rule_d-good k st r h = record { reading = book-is refl refl (join-waiting st.clock r k st.queue h) refl; charging = refl }

waiting_or_new-good : (st : Station) (r : Request) (k : Option ℕ) → used_up st ≡ false → lowest (waits_for r.who) st.queue ≡ k → Good st.clock (seen st) [] (waiting_or_new st r k)
unfolding waiting_or_new
waiting_or_new-good st r none u h = newcomer-good st r u h
waiting_or_new-good st r (some k) u h = rule_d-good k st r h

pub d_to_g-good : (st : Station) (r : Request) (k : Option ℕ) → lowest (waits_for r.who) st.queue ≡ k → Good st.clock (seen st) [] (d_to_g st r k)
unfolding d_to_g no_number reads
d_to_g-good st r k h = good-if _ _ _ (used_up st) (no_number st r) (waiting_or_new st r k) (λ u. record { reading = refl; charging = refl }) (λ u. waiting_or_new-good st r k u h)
