-- `AnswersRepeat`, `SecondSendingRepeats` and `DialsAsked`: a call request, any event, and then the run.
use mathlib.Core.Path.{◌≡◌, refl, sym, ap, subst, ◌∙◌}
use mathlib.Core.List.{List, [], ◌∷◌, ◌++◌, map}
use mathlib.Core.Bool.{Bool, true, false, cond, ◌||◌}
use mathlib.Core.Option.{Option, none, some}
use Prim.Native.Nat.{ℕ, zero, suc, ◌+◌, ◌≤◌}
use native.Mathlib.Omega.{arith}
use lib.Dec.{ltb}
use lib.ListN.{length}
use Rattle.rules.specs.Rules.Places.{mod_at, shift, lowest, Each}
use Rattle.rules.specs.Rules.Words.{Party, is, Request, Config, Ashore, What, ashore_in, Event, Deed}
use Rattle.rules.specs.Rules.Heard.{Heard, call_request, nothing}
use Rattle.rules.specs.Rules.Station.{Dealing, Slot, Waiting, Station, the_slot, fresh, set_slot, set_clock, set_queue, used_up, new_call, due_after, queue_wait, answered_at, is_free, offer_of, called_of}
use Rattle.rules.specs.Rules.Requests.{Out, also, to_ring_back, rung_back, freed_for, freed, coast_end, owns, waits_for, slot_of, place_of, stands_at, standing, rule_a, no_number, repeated, afresh, rule_d, offer, rule_f, rule_g, e_to_g, newcomer, waiting_or_new, d_to_g, redial, requested}
use Rattle.rules.specs.Rules.Ashore.{is_mode, ashore_request, called_from}
use Rattle.rules.specs.Rules.Kinds.{ModesKept}
use Rattle.rules.specs.Rules.Calls.{act_at, act}
use Rattle.rules.specs.Rules.Verdict.{verdict, play}
use Rattle.rules.specs.ListAlone.Book.{Note, Stop, Book, blank, column, blank_book}
use Rattle.rules.specs.ListAlone.Reading.{read, reads, turn, read_all, heard_at}
use Rattle.rules.specs.ListAlone.Repeated.{heard_in, asked_in, told_to_wait, AsksFor, last_asked, switched_on, EachRead}
use Rattle.rules.specs.Statement.{deeds_of, notes, EveryEntry, AnswersRepeat, SecondSendingRepeats, DialsAsked}
use Rattle.rules.specs.ListAlone.LineWords.{Word}
use Rattle.rules.proofs.PlaceLaws.{shift-some, each_append}
use Rattle.rules.proofs.KindLaws.{modes-kept}
use Rattle.rules.proofs.Base.{rung-owns, view, seen, is_same, deeds-append, rung-first, slot-taken, slot-lowest, slot-mapped, free-is, fresh-each}
use Rattle.rules.proofs.Accepted.{accepted, sounds}
use Rattle.rules.proofs.Run.{turn_is, fresh-seen}
use Rattle.rules_theorems.proofs.Entries.{Reader, FitsOn, run-entries}
use Rattle.rules.proofs.Occurs.{bit}
use Rattle.rules.proofs.Once.{count_s, count_q, Once, distinct-once, none-count, waiting-count, coast_end-gone}
use Rattle.rules.proofs.Ruling.{Ruling, passes, repeats, renews, runs-out, redials, b_or_c-ruling}
use Rattle.rules_theorems.proofs.Calm.{Asked, Rung, Known, Fits, Calm, still, begun-known, told-append, fits-append, coast_end-calm, outcome-calm, clock-known, drop-calm}
use Rattle.rules.proofs.Effect.{Effect, rests, drops, data-asked, call-asked, to-slot, called-ashore, act-effect}

-- what each ship last asked for, once the deeds are done
abbrev told : Heard → (Party → Heard) → List Deed → Party → Heard
told h a ds x = cond (told_to_wait x ds) h (a x)

-- an outcome that repeats, and leaves the station with what it has told
record SaidBy (cfg : Config) (q : Option Ashore) (h : Heard) (a : Party → Heard) (b : Book) (o : Out) : Type 0 where
  fits : (t : ℕ) (on : Option ℕ) → EachRead (Fits cfg h a) q t on b (deeds_of o.acts)
  known : Known (told h a (deeds_of o.acts)) o.next

abbrev Said : Config → Heard → (Party → Heard) → Book → Out → Type 0
Said cfg h a b o = SaidBy cfg none h a b o

calm-said : (cfg : Config) (h : Heard) (a : Party → Heard) (b : Book) (o : Out) → Calm cfg h a b o → Said cfg h a b o
calm-said cfg h a b o c = record { fits = c.mild.fits; known = subst (λ z. Known z o.next) (λ i x. cond (sym (c.mild.untold x) i) h (a x)) c.known }

-- ── the ship that is told to wait is the only one concerned ──────────────────

module _ (cfg : Config) (r : Request) (a : Party → Heard) (b : Book) where
  -- r is asked and put off
  abbrev now : Party → Heard
  now x = cond (is r.who x || false) (call_request r) (a x)

  now-asked : now r.who ≡ call_request r
  now-asked = rw (is_same r.who r.who refl) refl

  others-wait : (q : List Waiting) → count_q r.who q ≡ 0 → Each (Asked a) q → Each (Asked now) q
  others-wait [] n k = tt
  others-wait (w ∷ q) n k = go (is r.who w.request.who) refl (λ m. others-wait q m k.1)
    where
      go : (b : Bool) → is r.who w.request.who ≡ b → (count_q r.who q ≡ 0 → Each (Asked now) q) → Each (Asked now) (w ∷ q)
      go true e ih = let z : 1 + count_q r.who q ≡ 0 = rw e at n in absurd (omega arith)
      go false e ih = let z : 0 + count_q r.who q ≡ 0 = rw e at n in (rw e k.0, ih (omega arith))

  other-rings : (s : Slot) → owns r.who s ≡ false → Rung a s → Rung now s
  other-rings s e k o h = let y : is r.who o.request.who ≡ false = rw (rung-owns s o h) at e in rw y (k o h)

  others-ring : (ss : List Slot) → count_s r.who ss ≡ 0 → Each (Rung a) ss → Each (Rung now) ss
  others-ring [] n k = tt
  others-ring (s ∷ ss) n k = go (owns r.who s) refl (λ m. others-ring ss m k.1)
    where
      go : (b : Bool) → owns r.who s ≡ b → (count_s r.who ss ≡ 0 → Each (Rung now) ss) → Each (Rung now) (s ∷ ss)
      go true e ih = let z : 1 + count_s r.who ss ≡ 0 = rw e at n in absurd (omega arith)
      go false e ih = let z : 0 + count_s r.who ss ≡ 0 = rw e at n in (other-rings s e k.0, ih (omega arith))

  -- its place is the one that changes
  replaced : (k : ℕ) (q : List Waiting) → lowest (waits_for r.who) q ≡ some k → count_q r.who q ≤ 1 → Each (Asked a) q → Each (Asked now) (mod_at (λ w. record { request = r; due = w.due }) k q)
  replaced k [] h n s = tt
  replaced k (w ∷ q) h n s = go (is r.who w.request.who) refl k h (λ j e m. replaced j q e m s.1)
    where
      go : (b : Bool) → is r.who w.request.who ≡ b → (k : ℕ) → cond b (some zero) (shift (lowest (waits_for r.who) q)) ≡ some k
          → ((j : ℕ) → lowest (waits_for r.who) q ≡ some j → count_q r.who q ≤ 1 → Each (Asked now) (mod_at (λ w. record { request = r; due = w.due }) j q)) → Each (Asked now) (mod_at (λ w. record { request = r; due = w.due }) k (w ∷ q))
      go true e zero z ih = let m : 1 + count_q r.who q ≤ 1 = rw e at n in (now-asked, others-wait q (omega arith) s.1)
      go true e (suc k) z ih = let y : zero ≡ suc k = cc in absurd (omega arith)
      go false e zero z ih = absurd (no_shift (lowest (waits_for r.who) q) z)
        where
          no_shift : (o : Option ℕ) → shift o ≡ some zero → ⊥
          no_shift none h = let y : ◌≡◌ {A = ℕ} 0 1 = cc in omega arith
          no_shift (some n) h = let y : suc n ≡ zero = cc in omega arith
      go false e (suc k) z ih = let m : 0 + count_q r.who q ≤ 1 = rw e at n in (rw e s.0, ih k (shift-some _ k z) (omega arith))

  -- no number is left
  no_number-calm : (st : Station) → Known a st → Calm cfg (call_request r) a b (no_number st r)
  unfolding no_number
  no_number-calm st k = record { mild = record { fits = λ t on. (((refl, refl), (tt, tt)), tt); untold = λ x. refl }; known = k }

  -- ── rules d to g ───────────────────────────────────────────────────────────

  module _ (st : Station) (k : Known a st) (n : count_s r.who st.slots ≡ 0) where
    rule_f-said : count_q r.who st.queue ≡ 0 → Said cfg (call_request r) a b (rule_f st r)
    unfolding rule_f set_queue
    rule_f-said m = record { fits = λ t on. (((refl, refl), (tt, tt)), tt); known = record { waiting = each_append (Asked now) st.queue (record { request = r; due = due_after st.clock queue_wait } ∷ []) (others-wait st.queue m k.waiting) (now-asked, tt); ringing = others-ring st.slots n k.ringing } }

    rule_d-said : (j : ℕ) → place_of r.who st ≡ some j → count_q r.who st.queue ≤ 1 → Said cfg (call_request r) a b (rule_d j st r)
    unfolding rule_d set_queue
    rule_d-said j h m = record { fits = λ t on. (((refl, refl), (tt, tt)), tt); known = record { waiting = replaced j st.queue h m k.waiting; ringing = others-ring st.slots n k.ringing } }

    e_to_g-said : place_of r.who st ≡ none → (o : Option ℕ) → Said cfg (call_request r) a b (e_to_g st r o)
    unfolding e_to_g offer afresh rule_g
    e_to_g-said h (some i) = calm-said cfg _ a b _ (record { mild = record { fits = λ t on. ((tt, (tt, tt)), ((refl, (tt, tt)), tt)); untold = λ x. refl }; known = begun-known a i (offer_of r st) st (λ o x. cc) k })
    e_to_g-said h none = go (ltb (length st.queue) 32)
      where
        go : (t : Bool) → Said cfg (call_request r) a b (cond t (rule_f st r) (rule_g st r))
        go true = rule_f-said (waiting-count r.who st.queue h)
        go false = calm-said cfg _ a b _ (record { mild = record { fits = λ t on. (((refl, refl), (tt, tt)), tt); untold = λ x. refl }; known = k })

    newcomer-said : place_of r.who st ≡ none → Said cfg (call_request r) a b (newcomer st r)
    unfolding newcomer
    newcomer-said h = e_to_g-said h (lowest is_free st.slots)

    waiting_or_new-said : (o : Option ℕ) → place_of r.who st ≡ o → count_q r.who st.queue ≤ 1 → Said cfg (call_request r) a b (waiting_or_new st r o)
    unfolding waiting_or_new
    waiting_or_new-said none h m = newcomer-said h
    waiting_or_new-said (some j) h m = rule_d-said j h m

    d_to_g-said : (o : Option ℕ) → place_of r.who st ≡ o → count_q r.who st.queue ≤ 1 → Said cfg (call_request r) a b (d_to_g st r o)
    unfolding d_to_g
    d_to_g-said o h m = go (used_up st)
      where
        go : (t : Bool) → Said cfg (call_request r) a b (cond t (no_number st r) (waiting_or_new st r o))
        go true = calm-said cfg _ a b _ (no_number-calm st k)
        go false = waiting_or_new-said o h m

  -- ── rules b and c ──────────────────────────────────────────────────────────

  afresh-calm : (i : ℕ) (st : Station) → Known a st → Calm cfg (call_request r) a b (afresh i st r)
  unfolding afresh
  afresh-calm i st k = record { mild = record { fits = λ t on. ((refl, (tt, tt)), tt); untold = λ x. refl }; known = begun-known a i (offer_of r st) st (λ o x. cc) k }

  repeated-calm : (i : ℕ) (st : Station) → Known a st → Calm cfg (call_request r) a b (repeated i st r)
  unfolding repeated
  repeated-calm i st k = record { mild = record { fits = λ t on. ((refl, (tt, tt)), tt); untold = λ x. refl }; known = k }

-- what is said behind a calm piece
also-said : (cfg : Config) (h : Heard) (a : Party → Heard) (b : Book) (p o : Out) → Calm cfg h a b p → ((t : ℕ) → Said cfg h a (reads none t (deeds_of p.acts) b) o) → Said cfg h a b (also p.acts o)
also-said cfg h a b p o c s = record {
  fits = λ t on. rw (deeds-append p.acts o.acts) (fits-append (Fits cfg h a) t on b (deeds_of p.acts) (deeds_of o.acts) (c.mild.fits t on) ((s t).fits t));
  known = subst (λ z. Known z o.next) (λ i x. cond (sym (same-told x) i) h (a x)) (s 0).known;
}
  where
    same-told : (x : Party) → told_to_wait x (deeds_of (p.acts ++ o.acts)) ≡ told_to_wait x (deeds_of o.acts)
    same-told x = ap (told_to_wait x) (deeds-append p.acts o.acts) ∙ told-append x (deeds_of p.acts) (deeds_of o.acts) (c.mild.untold x)

freed_for-fewer : (i : ℕ) (x : Party) (st : Station) (q : List Waiting) → to_ring_back st ≡ q → count_q x st.queue ≤ 1 → count_q x (freed_for i st q).next.queue ≤ 1
unfolding freed_for rung_back set_slot set_queue new_call
freed_for-fewer i x st [] e n = n
freed_for-fewer i x st (w ∷ q) e n = let m : bit (is x w.request.who) + count_q x q ≤ 1 = rw (rung-first st w q e).1 at n in omega arith

coast_end-fewer : (i : ℕ) (x : Party) (o : Dealing) (g : Option ℕ) (st : Station) → count_q x st.queue ≤ 1 → count_q x (coast_end i o g st).next.queue ≤ 1
unfolding coast_end freed
coast_end-fewer i x o g st n = freed_for-fewer i x st (to_ring_back st) refl n

module _ (cfg : Config) (r : Request) (a : Party → Heard) (b : Book) (st : Station) (k : Known a st) (once : Once st) where
  waits-once : count_q r.who st.queue ≤ 1
  waits-once = omega (arith, once r.who)

  ruling-said : (i : ℕ) (cs : List Stop) (p : Slot) (o : Out) → Ruling i st r cs p o → the_slot st i ≡ p → owns r.who p ≡ true → Said cfg (call_request r) a b o
  unfolding redial
  ruling-said i cs _ _ (passes p x) e h = calm-said cfg _ a b _ (still cfg (call_request r) a b 1 st k)
  ruling-said i cs _ _ (repeats j o d x y) e h = calm-said cfg _ a b _ (repeated-calm cfg r a b i st k)
  ruling-said i cs _ _ (renews j o d z u x y) e h = calm-said cfg _ a b _ (afresh-calm cfg r a b i st k)
  ruling-said i cs _ _ (runs-out j o d z u x y) e h = calm-said cfg _ a b _ (no_number-calm cfg r a b st k)
  ruling-said i cs _ _ (redials o g c x) e h =
      let s = answered_at g in
      let end = coast_end-calm cfg (call_request r) a b i st k o s in
      also-said cfg (call_request r) a b (coast_end i o s st) _ end (λ t. d_to_g-said cfg r a (reads none t (deeds_of (coast_end i o s st).acts) b) (coast_end i o s st).next end.known (coast_end-gone i r.who o s st once (rw e h)) (place_of r.who (coast_end i o s st).next) refl (coast_end-fewer i r.who o s st waits-once))

  request-said : (o q : Option ℕ) → slot_of r.who st ≡ o → place_of r.who st ≡ q → Said cfg (call_request r) a b (requested st r (stands_at o q))
  unfolding requested
  request-said none none e h = d_to_g-said cfg r a b st k (none-count r.who st.slots e) none h waits-once
  request-said none (some j) e h = d_to_g-said cfg r a b st k (none-count r.who st.slots e) (some j) h waits-once
  request-said (some i) q e h = ruling-said i _ (the_slot st i) _ (b_or_c-ruling i st r (the_slot st i)) refl (slot-lowest st (owns r.who) i e)

-- ── any event ────────────────────────────────────────────────────────────────

-- what is sent for a caller ashore, where the mode is one of the two
asks-for : (cfg : Config) (a : Ashore) → is_mode a.mode ≡ true → AsksFor cfg a (ashore_request cfg a)
unfolding ashore_request ModesKept
asks-for cfg a h = (refl, (refl, (modes-kept a.mode h, (refl, refl))))

module _ (cfg : Config) (a : Party → Heard) where
  effect-said : (k : Book) (st : Station) → k.columns ≡ map view st.slots → Known a st → Once st → (q : Option Ashore) (b : Book) (ws : List Word) (cs : List Stop) (m : Heard) (o : Out) → Effect cfg st q b ws cs m o → ((x : Ashore) → q ≡ some x → is_mode x.mode ≡ true) → SaidBy cfg q m a k o
  unfolding rule_a standing called_from
  effect-said k st v n once _ _ _ _ _ _ (rests m j h) f = record { fits = λ t on. tt; known = n }
  effect-said k st v n once _ _ _ _ _ _ (drops j) f = calm-said cfg _ a k _ (drop-calm cfg nothing a k st n j)
  effect-said k st v n once _ _ _ _ _ _ (data-asked x d) f = calm-said cfg _ a k _ (record { mild = record { fits = λ t on. (((refl, refl), (tt, tt)), tt); untold = λ x. refl }; known = n })
  effect-said k st v n once _ _ _ _ _ _ (call-asked r) f = request-said cfg r a k st n once (slot_of r.who st) (place_of r.who st) refl refl
  effect-said k st v n once _ _ _ _ _ _ (called-ashore x i h) f =
      let c : column k i ≡ blank = rw v (slot-mapped st view i ∙ ap view (free-is (the_slot st i) (slot-lowest st is_free i (slot-taken st i h).1))) in
      record { fits = λ t on. ((tt, (tt, tt)), ((asks-for cfg x (f x refl), (rw c (refl, (refl, refl)), tt)), tt)); known = begun-known a i (called_of (ashore_request cfg x) st) st (λ o y. cc) n }
  effect-said k st v n once _ _ _ _ _ _ (to-slot m i u e) f = calm-said cfg _ a k _ (outcome-calm cfg m a k i st n v u)

  act-said : (st : Station) → Known a st → Once st → (t : ℕ) (w : What) → ((x : Ashore) → ashore_in w ≡ some x → is_mode x.mode ≡ true) → SaidBy cfg (ashore_in w) (heard_at cfg w) a (seen st) (act_at cfg st t w)
  unfolding set_clock seen
  act-said st k once t w f = effect-said (seen st) _ refl (clock-known a _ st k) once _ _ _ _ _ _ (act-effect cfg st t w) f

-- ── the run ──────────────────────────────────────────────────────────────────

next-said : (cfg : Config) (a : Party → Heard) (st : Station) (e : Event) → Known a st → verdict cfg st e ≡ none → SaidBy cfg (ashore_in e.what) (heard_at cfg e.what) a (seen st) (act cfg st e)
next-said cfg a st e k v =
    let c = accepted cfg st e v in
    act-said cfg a st k (distinct-once st (sounds cfg st c.is-sound).no-twice) e.time e.what (λ x y. rw y at c.mode)

-- of one entry, where a is what was asked for before it, and b the book before it
record Answered (cfg : Config) (a : Party → Heard) (b : Book) (n : Note) : Type 0 where
  fits : (t : ℕ) (on : Option ℕ) → EachRead (Fits cfg (heard_in cfg n) a) (asked_in n) t on b n.deeds

-- what was asked for before an entry, and the book before it
module _ (cfg : Config) where
  asked-and-book : Reader ((Party → Heard) × Book)
  unfolding last_asked read_all
  asked-and-book = record {
    on = λ n s. (told (heard_in cfg n) s.0 n.deeds, turn cfg s.1 n);
    after = λ l s. (λ x. last_asked cfg x (s.0 x) l, read_all cfg l s.1);
    at_first = λ s. refl;
    one_by_one = λ n l s. refl;
  }

  abbrev KnownAndSeen : (Party → Heard) × Book → Station → Type 0
  KnownAndSeen s st = Known s.0 st × (s.1 ≡ seen st)

  known_on : FitsOn asked-and-book cfg KnownAndSeen
  unfolding asked-and-book
  known_on s st e v f = ((next-said cfg s.0 st e f.0 v).known, rw f.1 (turn_is cfg st e v))

  all-answered : (es : List Event) → EveryEntry (λ c before n. Answered cfg (λ x. last_asked cfg x nothing before) (read_all cfg before (blank_book cfg)) n) cfg (notes (play cfg es (fresh cfg)))
  unfolding fresh asked-and-book
  all-answered es = rw (← (fresh-seen cfg)) (run-entries asked-and-book cfg KnownAndSeen known_on (λ s n. Answered cfg s.0 s.1 n) (λ s st e v f. record { fits = rw f.1 (next-said cfg s.0 st e f.0 v).fits }) es (λ x. nothing, seen (fresh cfg)) (fresh cfg) (record { waiting = tt; ringing = fresh-each cfg (Rung (λ x. nothing)) (λ r x. cc) }, refl))

each_read : {P Q : Option Ashore → Option ℕ → Book → Deed → Type 0} → ((q : Option Ashore) (on : Option ℕ) (b : Book) (d : Deed) → P q on b d → Q q on b d) → (q : Option Ashore) (t : ℕ) (on : Option ℕ) (b : Book) (ds : List Deed) → EachRead P q t on b ds → EachRead Q q t on b ds
each_read f q t on b [] p = tt
each_read f q t on b (d ∷ ds) p = (f q on b d p.0, each_read f q t (switched_on d) (read q t d b) ds p.1)

-- every acknowledgement, ring-back and call from ashore repeats what was asked
pub answers-repeat : AnswersRepeat
unfolding AnswersRepeat
answers-repeat cfg set es before n after e =
    each_read {P = Fits cfg (heard_in cfg n) (λ x. last_asked cfg x nothing before)} (λ q on b d p. p.0) (asked_in n) _ none _ n.deeds ((all-answered cfg es before n after e).fits _ none)

-- and the second sending repeats the first
pub second-sending-repeats : SecondSendingRepeats
unfolding SecondSendingRepeats
second-sending-repeats cfg set es before n after e =
    each_read {P = Fits cfg (heard_in cfg n) (λ x. last_asked cfg x nothing before)} (λ q on b d p. p.1.0) (asked_in n) _ none _ n.deeds ((all-answered cfg es before n after e).fits _ none)

-- and the number dialled is the one asked for
pub dials-asked : DialsAsked
unfolding DialsAsked
dials-asked cfg set es before n after e =
    each_read {P = Fits cfg (heard_in cfg n) (λ x. last_asked cfg x nothing before)} (λ q on b d p. p.1.1) (asked_in n) _ none _ n.deeds ((all-answered cfg es before n after e).fits _ none)
