-- What each event answers and dials, and what the station knows of what was asked: whatever is no call request.
use mathlib.Core.Path.{◌≡◌, refl, ◌∙◌}
use mathlib.Core.List.{List, [], ◌∷◌, ◌++◌, map}
use mathlib.Core.Bool.{Bool, true, false, ◌||◌}
use mathlib.Core.Option.{Option, none, some}
use Prim.Native.Nat.{ℕ}
use Rattle.rules.specs.Rules.Places.{mod_at, drop_at, Each}
use Rattle.rules.specs.Rules.Words.{Party, Request, Config, Ashore, Deed}
use Rattle.rules.specs.Rules.Heard.{Heard, call_request}
use Rattle.rules.specs.Rules.Actions.{Ender, the_ship, the_coast, Action}
use Rattle.rules.specs.Rules.Station.{Dealing, dealing, Slot, Waiting, Station, the_slot, set_slot, set_clock, set_queue, next_call, new_call, answered_at, ring_back_of, rings}
use Rattle.rules.specs.Rules.Requests.{Out, also, to_ring_back, rung_back, freed_for, freed, end_acts, coast_end, done}
use Rattle.rules.specs.Rules.Calls.{drop_acts}
use Rattle.rules.specs.ListAlone.Book.{Said, silent, Call, quiet, called, dialled, talking, Stop, Column, Book, at_column, column}
use Rattle.rules.specs.ListAlone.Reading.{let_go, hush, read, reads}
use Rattle.rules.specs.ListAlone.Repeated.{puts_off, told_to_wait, CallsAsked, Sends, Repeats, switched_on, SendsSame, DialsNamed, EachRead}
use Rattle.rules.specs.ListAlone.LineWords.{Word}
use Rattle.rules.specs.Statement.{deeds_of}
use Rattle.rules.proofs.PlaceLaws.{each_set, each-dropped}
use Rattle.rules.proofs.Base.{rung_once, no-caller, view, deeds-append, rung-first, slot-each, slot-mapped}
use Rattle.rules.proofs.Outcome.{Next, stays, becomes, frees, Move, to-dial, to-agree, to-ring, to_drop, to-call, to-rings, to-answer, to-let-go, to-stage, to-lose, to-regain, to-hold, to_end, to-repeat, to-run-out, to_take, to-give, played, Outcome, passed, moved}
use Rattle.rules.proofs.Hears.{column-of}
use Rattle.rules_theorems.proofs.Laws.{there}

-- ── what a station knows: a is what each ship last asked for that was told to wait ──

abbrev pub Asked : (Party → Heard) → Waiting → Type 0
Asked a w = a w.request.who ≡ call_request w.request

-- a slot rung back once, whose ring-back may be repeated
abbrev pub Rung : (Party → Heard) → Slot → Type 0
Rung a s = (r : Dealing) → rung_once s ≡ some r → a r.request.who ≡ call_request r.request

pub record Known (a : Party → Heard) (st : Station) : Type 0 where
  pub waiting : Each (Asked a) st.queue
  pub ringing : Each (Rung a) st.slots

-- a deed that repeats what was asked, and fits what channel 70 last said of its slot; q is asked ashore in the same entry
abbrev pub Fits : Config → Heard → (Party → Heard) → Option Ashore → Option ℕ → Book → Deed → Type 0
Fits cfg h a q on b d = Repeats cfg h a q b d × (SendsSame q on b d × DialsNamed q on b d)

-- deeds that fit, and tell nobody to wait
pub record Mild (cfg : Config) (h : Heard) (a : Party → Heard) (b : Book) (ds : List Deed) : Type 0 where
  pub fits : (t : ℕ) (on : Option ℕ) → EachRead (Fits cfg h a) none t on b ds
  pub untold : (x : Party) → told_to_wait x ds ≡ false

pub record Calm (cfg : Config) (h : Heard) (a : Party → Heard) (b : Book) (o : Out) : Type 0 where
  pub mild : Mild cfg h a b (deeds_of o.acts)
  pub known : Known a o.next

-- ── the pieces ───────────────────────────────────────────────────────────────

module _ (a : Party → Heard) where
  pub set_known : (i : ℕ) (q : Slot) (st : Station) → Rung a q → Known a st → Known a (set_slot i q st)
  unfolding set_slot
  set_known i q st p k = record { waiting = k.waiting; ringing = each_set (Rung a) i q st.slots p k.ringing }

  pub begun-known : (i : ℕ) (q : Slot) (st : Station) → Rung a q → Known a st → Known a (new_call i q st)
  unfolding new_call
  begun-known i q st p k = record { waiting = k.waiting; ringing = each_set (Rung a) i q st.slots p k.ringing }

  queue-known : (q : List Waiting) (st : Station) → Each (Asked a) q → Known a st → Known a (set_queue q st)
  unfolding set_queue
  queue-known q st p k = record { waiting = p; ringing = k.ringing }

  pub clock-known : (t : ℕ) (st : Station) → Known a st → Known a (set_clock t st)
  unfolding set_clock
  clock-known t st k = record { waiting = k.waiting; ringing = k.ringing }

-- what is said behind deeds that tell nobody to wait
pub told-append : (x : Party) (ds es : List Deed) → told_to_wait x ds ≡ false → told_to_wait x (ds ++ es) ≡ told_to_wait x es
told-append x [] es h = refl
told-append x (d ∷ ds) es h = go (puts_off x d) h (told-append x ds es)
  where
    go : (b : Bool) → (b || told_to_wait x ds) ≡ false → (told_to_wait x ds ≡ false → told_to_wait x (ds ++ es) ≡ told_to_wait x es) → (b || told_to_wait x (ds ++ es)) ≡ told_to_wait x es
    go true e ih = let y : true ≡ false = e in cc
    go false e ih = ih e

pub fits-append : (P : Option Ashore → Option ℕ → Book → Deed → Type 0) (t : ℕ) (on : Option ℕ) (b : Book) (ds es : List Deed) → EachRead P none t on b ds → ((o : Option ℕ) → EachRead P none t o (reads none t ds b) es) → EachRead P none t on b (ds ++ es)
unfolding reads
fits-append P t on b [] es p q = q on
fits-append P t on b (d ∷ ds) es p q = (p.0, fits-append P t (switched_on d) (read none t d b) ds es p.1 q)

-- ── a column on which nothing stands: channel 70 has said nothing of it, and its line is released ──

abbrev NoLine : Call → Type 0
NoLine quiet = Unit {0}
NoLine (called r b) = ⊥
NoLine (dialled r o) = ⊥
NoLine (talking r b) = Unit {0}

abbrev Silent : Column → Type 0
Silent l = (l.said ≡ silent) × NoLine l.call

-- so a call to a ship is a ring-back, and comes just behind the carrier
rung-asked : (cfg : Config) (h : Heard) (r : Request) (k : Call) → NoLine k → h ≡ call_request r → CallsAsked cfg none h r k
rung-asked cfg h r quiet z e = e
rung-asked cfg h r (called o b) z e = absurd z
rung-asked cfg h r (dialled x o) z e = absurd z
rung-asked cfg h r (talking x b) z e = e

rung-behind : (i : ℕ) (r : Request) (s : Said) (k : Call) → s ≡ silent → NoLine k → Sends none i r (some i) s k
rung-behind i r s quiet e z = rw e refl
rung-behind i r s (called o b) e z = absurd z
rung-behind i r s (dialled x o) e z = absurd z
rung-behind i r s (talking x b) e z = rw e refl

-- the line is released, then the carrier off; or the other way round
released : (l : Column) → NoLine (let_go l).call
released l = go l.call
  where
    go : (c : Call) → NoLine (let_go (column-of l.said l.wait c l.gone)).call
    go quiet = tt
    go (called r b) = tt
    go (dialled r o) = tt
    go (talking r b) = tt

ended-silent : (i : ℕ) (b : Book) → Silent (column (at_column i hush (at_column i let_go b)) i)
ended-silent i b = rw (there hush refl i (mod_at let_go i b.columns), there let_go refl i b.columns) (refl, released (column b i))

let-go-said : (l : Column) → (let_go l).said ≡ l.said
let-go-said l = go l.call
  where
    go : (c : Call) → (let_go (column-of l.said l.wait c l.gone)).said ≡ l.said
    go quiet = refl
    go (called r b) = refl
    go (dialled r o) = refl
    go (talking r b) = refl

dropped-silent : (i : ℕ) (b : Book) → Silent (column (at_column i let_go (at_column i hush b)) i)
dropped-silent i b = rw (there let_go refl i (mod_at hush i b.columns), there hush refl i b.columns) (let-go-said (hush (column b i)), released (hush (column b i)))

module _ (cfg : Config) (h : Heard) (a : Party → Heard) where
  also-calm : (b : Book) (acts : List Action) (o : Out) → Mild cfg h a b (deeds_of acts) → ((t : ℕ) → Calm cfg h a (reads none t (deeds_of acts) b) o) → Calm cfg h a b (also acts o)
  also-calm b acts o m c = record {
    mild = rw (deeds-append acts o.acts) (record {
      fits = λ t on. fits-append (Fits cfg h a) t on b (deeds_of acts) (deeds_of o.acts) (m.fits t on) ((c t).mild.fits t);
      untold = λ x. told-append x (deeds_of acts) (deeds_of o.acts) (m.untold x) ∙ (c 0).mild.untold x;
    });
    known = (c 0).known;
  }

  -- the oldest is rung back with its request
  freed_for-calm : (b : Book) (i : ℕ) (st : Station) → Silent (column b i) → Known a st → (q : List Waiting) → to_ring_back st ≡ q → Calm cfg h a b (freed_for i st q)
  unfolding freed_for rung_back
  freed_for-calm b i st z k [] e = record { mild = record { fits = λ t on. tt; untold = λ x. refl }; known = set_known a i _ st (λ r h. cc) k }
  freed_for-calm b i st z k (w ∷ q) e =
      let p : Each (Asked a) (w ∷ q) = rw (rung-first st w q e).1 at k.waiting in
      record {
        mild = record { fits = λ t on. ((tt, (tt, tt)), ((rung-asked cfg _ _ (column b i).call z.1 p.0, (rung-behind i _ _ (column b i).call z.0 z.1, tt)), tt)); untold = λ x. refl };
        known = begun-known a i (ring_back_of w.request st) (set_queue q st) (λ r h. let y : dealing (next_call st) w.request ≡ r = cc in rw (← y) p.0) (queue-known a q st p.1 k);
      }

  freed-calm : (b : Book) (i : ℕ) (st : Station) → Silent (column b i) → Known a st → Calm cfg h a b (freed i st)
  unfolding freed
  freed-calm b i st z k = freed_for-calm b i st z k (to_ring_back st) refl

  module _ (b : Book) where
    no_deed : Mild cfg h a b []
    no_deed = record { fits = λ t on. tt; untold = λ x. refl }

    -- a deed about the caller ashore
    one-deed : (d : Deed) → ((t : ℕ) (on : Option ℕ) → Fits cfg h a none on b d) → ((x : Party) → told_to_wait x (d ∷ []) ≡ false) → Mild cfg h a b (d ∷ [])
    one-deed d f n = record { fits = λ t on. (f t on, tt); untold = n }

    -- no action
    pub still : (n : ℕ) (st : Station) → Known a st → Calm cfg h a b (record { answer = n; next = st; acts = [] })
    still n st k = record { mild = no_deed; known = k }

    -- the line is released, and the carrier off
    end-mild : (i : ℕ) (e : Ender) (r : Dealing) (g : Option ℕ) (t : ℕ) → Mild cfg h a b (deeds_of (end_acts i e r g t))
    end-mild i e r none t = record { fits = λ t on. ((tt, (tt, tt)), ((tt, (tt, tt)), tt)); untold = λ x. refl }
    end-mild i e r (some s) t = record { fits = λ t on. ((tt, (tt, tt)), ((tt, (tt, tt)), tt)); untold = λ x. refl }

    end_quiet : (i : ℕ) (e : Ender) (r : Dealing) (g : Option ℕ) (t u : ℕ) → Silent (column (reads none u (deeds_of (end_acts i e r g t)) b) i)
    unfolding reads
    end_quiet i e r none t u = ended-silent i b
    end_quiet i e r (some s) t u = ended-silent i b

    -- the same of a call from ashore that is dropped
    drop-mild : (i : ℕ) (rung tone : Bool) → Mild cfg h a b (deeds_of (drop_acts i rung tone))
    drop-mild i false false = record { fits = λ t on. ((tt, (tt, tt)), ((tt, (tt, tt)), tt)); untold = λ x. refl }
    drop-mild i false true = record { fits = λ t on. ((tt, (tt, tt)), ((tt, (tt, tt)), ((tt, (tt, tt)), tt))); untold = λ x. refl }
    drop-mild i true false = record { fits = λ t on. ((tt, (tt, tt)), ((tt, (tt, tt)), ((tt, (tt, tt)), tt))); untold = λ x. refl }
    drop-mild i true true = record { fits = λ t on. ((tt, (tt, tt)), ((tt, (tt, tt)), ((tt, (tt, tt)), ((tt, (tt, tt)), tt)))); untold = λ x. refl }

    drop-quiet : (i : ℕ) (rung tone : Bool) (u : ℕ) → Silent (column (reads none u (deeds_of (drop_acts i rung tone)) b) i)
    unfolding reads
    drop-quiet i false false u = dropped-silent i b
    drop-quiet i false true u = dropped-silent i b
    drop-quiet i true false u = dropped-silent i b
    drop-quiet i true true u = dropped-silent i b

    pub coast_end-calm : (i : ℕ) (st : Station) → Known a st → (r : Dealing) (g : Option ℕ) → Calm cfg h a b (coast_end i r g st)
    unfolding coast_end
    coast_end-calm i st k r g = also-calm b (end_acts i the_coast r g st.clock) (freed i st) (end-mild i the_coast r g st.clock) (λ t. freed-calm _ i st (end_quiet i the_coast r g st.clock t) k)

    -- ── on a slot ────────────────────────────────────────────────────────────

    -- what it leaves: a slot of which the station knows, or nothing said of a slot that is free
    abbrev Leaves : ℕ → Next → Book → Type 0
    Leaves i stays c = Unit {0}
    Leaves i (becomes q) c = Rung a q
    Leaves i frees c = Silent (column c i)

    move-calm : (i t : ℕ) (p : Slot) (n : Next) (acts : List Action) → Move i t p n acts → Rung a p → column b i ≡ view p → Mild cfg h a b (deeds_of acts) × ((u : ℕ) → Leaves i n (reads none u (deeds_of acts) b))
    unfolding reads
    move-calm i t _ _ _ (to-dial k r d z) g s = (one-deed _ (λ u on. (tt, (tt, rw s z))) (λ x. refl), λ u o x. cc)
    move-calm i t _ _ _ (to-agree k r d z) g s = (no_deed, λ u o x. cc)
    move-calm i t _ _ _ (to-ring r d) g s = (one-deed _ (λ u on. (rw s (g r refl), (rw s refl, tt))) (λ x. refl), λ u o x. cc)
    move-calm i t _ _ _ (to_drop k r d z) g s = (one-deed _ (λ u on. (tt, (tt, tt))) (λ x. refl), λ u. rw (there hush refl i b.columns, s, no-caller k r z) (refl, tt))
    move-calm i t _ _ _ (to-call r d) g s = (one-deed _ (λ u on. (rw s refl, (rw s (refl, refl), tt))) (λ x. refl), λ u o x. cc)
    move-calm i t _ _ _ (to-rings k r d z) g s = (one-deed _ (λ u on. (tt, (tt, tt))) (λ x. refl), λ u o x. cc)
    move-calm i t _ _ _ (to-answer r d) g s = (one-deed _ (λ u on. (tt, (tt, tt))) (λ x. refl), λ u o x. cc)
    move-calm i t _ _ _ (to-let-go k r d tone) g s = (drop-mild i (rings k) tone, λ u. drop-quiet i (rings k) tone u)
    move-calm i t _ _ _ (to-stage r n q c z) g s = (no_deed, λ u o x. cc)
    move-calm i t _ _ _ (to-lose r g c) k s = (no_deed, λ u o x. cc)
    move-calm i t _ _ _ (to-regain r g c) k s = (no_deed, λ u o x. cc)
    move-calm i t _ _ _ (to-hold r g c) k s = (end-mild i the_ship r (answered_at g) t, λ u o x. cc)
    move-calm i t _ _ _ (to_end r g c) k s = (end-mild i the_coast r (answered_at g) t, λ u. end_quiet i the_coast r (answered_at g) t u)
    move-calm i t _ _ _ (to-repeat r n d) g s = (record { fits = λ u on. ((tt, (tt, tt)), ((tt, (tt, tt)), tt)); untold = λ x. refl }, λ u. tt)
    move-calm i t _ _ _ (to-run-out r n d) g s = (no_deed, λ u. rw s (refl, tt))
    move-calm i t _ _ _ to_take g s = (no_deed, λ u o x. cc)
    move-calm i t _ _ _ to-give g s = (no_deed, λ u. rw s (refl, tt))

    module _ (i : ℕ) (st : Station) (k : Known a st) where
      played-calm : (n : Next) (acts : List Action) → Mild cfg h a b (deeds_of acts) × ((u : ℕ) → Leaves i n (reads none u (deeds_of acts) b)) → Calm cfg h a b (played i st n acts)
      played-calm stays acts m = record { mild = m.0; known = k }
      played-calm (becomes q) acts m = record { mild = m.0; known = set_known a i q st (m.1 0) k }
      played-calm frees acts m = also-calm b acts (freed i st) m.0 (λ t. freed-calm _ i st (m.1 t) k)

      pub outcome-calm : b.columns ≡ map view st.slots → {f : Column → Column} {w : Word → Word} {cs : List Stop} {o : Out} → Outcome i st f w cs (the_slot st i) o → Calm cfg h a b o
      outcome-calm v (passed x y z) = still 1 st k
      outcome-calm v (moved {n} {acts} u x y z) = played-calm n acts (move-calm i st.clock _ n acts u (slot-each st (Rung a) (λ r x. cc) i k.ringing) (rw v (slot-mapped st view i)))

    -- the time of a waiting ship is over
    pub drop-calm : (st : Station) → Known a st → (j : ℕ) → Calm cfg h a b (done (set_queue (drop_at j st.queue) st))
    drop-calm st k j = still 0 (set_queue (drop_at j st.queue) st) (queue-known a (drop_at j st.queue) st (each-dropped (Asked a) j st.queue k.waiting) k)
