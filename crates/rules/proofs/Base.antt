-- The station as the list shows it, and the laws by which one piece of a step is read.
use mathlib.Core.Path.{◌≡◌, refl, ap, sym, ◌∙◌}
use mathlib.Core.Option.{Option, none, some}
use mathlib.Core.List.{List, [], ◌∷◌, ◌++◌, map}
use mathlib.Core.Bool.{Bool, true, false, ◌&&◌}
use Prim.Native.Nat.{ℕ, suc, ◌*◌, ◌+◌, ◌≤◌, zero, ◌<◌}
use lib.Dec.{eqb, leb}
use lib.ListN.{get_or-map, get_or, length, replicate, length-replicate}
use borrow.Author.Tests.{eq-eqb, eqb-true, leb-true, le-leb}
use Rattle.units.specs.declared.Duration.{Duration}
use Rattle.std.specs.Prelude.{Option as Optional}
use Rattle.rules.specs.Rules.Words.{Party, is, Mode, simplex, duplex, Request, Ashore, Deed, Config}
use Rattle.rules.specs.Rules.Actions.{Action, does, over, charge}
use Rattle.rules.specs.Rules.Station.{by_slot, ship_of, Kind, offered, first_ring_back, second_ring_back, acknowledged, first_call, second_call, ringing, Slot, free, taken, pending, busy, held, Waiting, Station, the_slot, set_slot, used_up, next_call, carrier_wait, loss_due, stage_due, main_due, slot_table, table, fires, answered_at, answered_in, Dealing, Stage, dialling, dialled_out, answered, fresh, due_after, kind_wait, dialling_wait, reply_wait, hold_wait, is_free, offer_of, ring_back_of, ring_back_again_of, agreed_at, called_of, called_again, ringing_at, is_called}
use Rattle.rules.specs.Rules.Requests.{to_ring_back, same_mode, same_number, same}
use Rattle.rules.specs.Rules.Ashore.{slot_to_take}
use Rattle.rules.specs.ListAlone.Book.{silence, alike_mode, alike_digits, alike, Begun, begun_as, Said, silent, told_b_q, told_r_q, settled, Call, quiet, called, dialled, talking, Column, Place, Book, blank, at_column, column, column_table, falls}
use Rattle.rules.specs.ListAlone.Reading.{CountedColumn, goes_on, at_counted_column, read, reads}
use Rattle.rules.specs.Statement.{deeds_of, charges_of}
use Rattle.rules.specs.Rules.Places.{lowest, all, Each, mod_at}
use Rattle.rules.specs.Rules.Sound.{fits, stage_fits, loss_fits, slot_fits}
use Rattle.sequence.proofs.Tests.{both_true}
use Rattle.rules.proofs.PlaceLaws.{mod_at-mod_at, mod_at-map, mod_at-same, mod_at-none, all-at, each_at, lowest-is}
use native.Mathlib.Omega.{arith}

-- ── a law on every slot, on every kind before the dialling, on every stage of a call ──

pub by-slot : (P : Slot → Type 0) → P free → P taken → ((k : Kind) (r : Dealing) (d : ℕ) → P (pending k r d)) → ((r : Dealing) (g : Stage) (c : Option ℕ) → P (busy r g c))
    → ((r : Dealing) (n : Optional Duration) (d : ℕ) → P (held r n d)) → (s : Slot) → P s
by-slot P a b f g h free = a
by-slot P a b f g h taken = b
by-slot P a b f g h (pending k r d) = f k r d
by-slot P a b f g h (busy r s c) = g r s c
by-slot P a b f g h (held r n d) = h r n d

pub by-kind : (P : Kind → Type 0) → P offered → P first_ring_back → P second_ring_back → P acknowledged → P first_call → P second_call → P ringing → (k : Kind) → P k
by-kind P a b c d e f g offered = a
by-kind P a b c d e f g first_ring_back = b
by-kind P a b c d e f g second_ring_back = c
by-kind P a b c d e f g acknowledged = d
by-kind P a b c d e f g first_call = e
by-kind P a b c d e f g second_call = f
by-kind P a b c d e f g ringing = g

pub by-stage : (P : Stage → Type 0) → ((d : ℕ) → P (dialling d)) → ((d : ℕ) → P (dialled_out d)) → ((b : ℕ) → P (answered b)) → (g : Stage) → P g
by-stage P f g h (dialling d) = f d
by-stage P f g h (dialled_out d) = g d
by-stage P f g h (answered b) = h b

-- ── what the list shows of a slot ────────────────────────────────────────────

abbrev pub begun_of : Dealing → Begun
begun_of r = begun_as r.call_number r.request

abbrev pub said_of : Kind → Dealing → Said
said_of offered r = told_b_q (begun_of r)
said_of first_ring_back r = told_r_q (begun_of r)
said_of second_ring_back r = told_r_q (begun_of r)
said_of acknowledged r = settled (begun_of r)
said_of first_call r = silent
said_of second_call r = silent
said_of ringing r = silent

-- the line that a caller ashore has taken
abbrev pub line_of : Kind → Dealing → Call
line_of offered r = quiet
line_of first_ring_back r = quiet
line_of second_ring_back r = quiet
line_of acknowledged r = quiet
line_of first_call r = called (begun_of r) false
line_of second_call r = called (begun_of r) false
line_of ringing r = called (begun_of r) true

pub no-caller : (k : Kind) (r : Dealing) → is_called k ≡ false → line_of k r ≡ quiet
no-caller k r = by-kind (λ z. is_called z ≡ false → line_of z r ≡ quiet) (λ h. refl) (λ h. refl) (λ h. refl) (λ h. refl) (λ h. cc) (λ h. cc) (λ h. cc) k

abbrev pub call_in : Dealing → Stage → Call
call_in r (dialling d) = dialled (begun_of r) false
call_in r (dialled_out d) = dialled (begun_of r) true
call_in r (answered b) = talking (begun_of r) b

abbrev pub view : Slot → Column
view s = record {
  said = by_slot silent said_of (λ r g c. silent) s;
  wait = main_due s;
  call = by_slot quiet line_of (λ r g c. call_in r g) s;
  gone = loss_due s;
}

-- the call of a slot: none, one from ashore, or that of its request
pub data Calling : Slot → Call → Type 0 where
  no_call : (s : Slot) → answered_in s ≡ none → Calling s quiet
  a-caller : (k : Kind) (r : Dealing) (d : ℕ) → Calling (pending k r d) (line_of k r)
  a_call : (r : Dealing) (g : Stage) (c : Option ℕ) → Calling (busy r g c) (call_in r g)

pub calling : (s : Slot) → Calling s (view s).call
calling = by-slot (λ s. Calling s (view s).call) (no_call _ refl) (no_call _ refl) a-caller a_call (λ r n d. no_call _ refl)

-- the call of a slot that is rung back once, and whose it is
abbrev first_rung_back : Kind → Dealing → Option Dealing
first_rung_back offered r = none
first_rung_back first_ring_back r = some r
first_rung_back second_ring_back r = none
first_rung_back acknowledged r = none
first_rung_back first_call r = none
first_rung_back second_call r = none
first_rung_back ringing r = none

abbrev pub rung_once : Slot → Option Dealing
rung_once s = by_slot none first_rung_back (λ r g c. none) s

pub rung-owns : (s : Slot) (o : Dealing) → rung_once s ≡ some o → ship_of s ≡ some o.request.who
rung-owns s o = by-slot (λ p. rung_once p ≡ some o → ship_of p ≡ some o.request.who) (λ h. cc) (λ h. cc) (λ k r d. by-kind (λ x. first_rung_back x r ≡ some o → some r.request.who ≡ some o.request.who) (λ h. cc) (λ h. cc) (λ h. cc) (λ h. cc) (λ h. cc) (λ h. cc) (λ h. cc) k) (λ r g c h. cc) (λ r n d h. cc) s

abbrev pub place : Waiting → Place
place w = record { who = w.request.who; due = w.due }

unfoldable pub seen : Station → Book
seen st = record { now = st.clock; columns = map view st.slots; places = map place st.queue; given = st.last_call }

-- ── the same ship: the two laws ──────────────────────────────────────────────

pub is_same : (a b : Party) → a ≡ b → is a b ≡ true
unfolding is
is_same a b h = rw (eq-eqb a.ship b.ship (ap (λ (p : Party). p.ship) h), eq-eqb a.station b.station (ap (λ (p : Party). p.station) h)) refl

pub is_true : (a b : Party) → is a b ≡ true → a ≡ b
unfolding is
is_true a b h = go (eqb a.ship b.ship) refl h
  where
    go : (c : Bool) → eqb a.ship b.ship ≡ c → (c && (eqb a.station b.station)) ≡ true → a ≡ b
    go true e k = λ i. record { ship = eqb-true a.ship b.ship e i; station = eqb-true a.station b.station k i }
    go false e k = cc

-- ── the figures of the reading are the figures of the rules ──────────────────

modes-alike : (a b : Mode) → alike_mode a b ≡ same_mode a b
modes-alike simplex simplex = refl
modes-alike simplex duplex = refl
modes-alike duplex simplex = refl
modes-alike duplex duplex = refl

digits-alike : (a b : List ℕ) → alike_digits a b ≡ same_number a b
digits-alike [] [] = refl
digits-alike [] (y ∷ ys) = refl
digits-alike (x ∷ xs) [] = refl
digits-alike (x ∷ xs) (y ∷ ys) = rw (digits-alike xs ys) refl

-- "identical"
pub alike_same : (a b : Request) → alike a b ≡ same a b
unfolding alike same
alike_same a b = rw (modes-alike a.mode b.mode, digits-alike a.number b.number) refl

-- five seconds, or forty-five
pub silence-is : (m : Mode) → 10 * silence m ≡ carrier_wait m
silence-is simplex = refl
silence-is duplex = refl

-- ── lists ────────────────────────────────────────────────────────────────────

pub deeds-append : (a b : List Action) → deeds_of (a ++ b) ≡ deeds_of a ++ deeds_of b
deeds-append [] b = refl
deeds-append (does d ∷ a) b = ap (λ r. d ∷ r) (deeds-append a b)
deeds-append (over i e x digits n ∷ a) b = deeds-append a b
deeds-append (charge c ∷ a) b = deeds-append a b

pub charges-append : (a b : List Action) → charges_of (a ++ b) ≡ charges_of a ++ charges_of b
charges-append [] b = refl
charges-append (does d ∷ a) b = charges-append a b
charges-append (over i e x digits n ∷ a) b = charges-append a b
charges-append (charge c ∷ a) b = ap (λ r. c ∷ r) (charges-append a b)

pub reads-append : (q : Option Ashore) (t : ℕ) (a b : List Deed) (k : Book) → reads q t (a ++ b) k ≡ reads q t b (reads q t a k)
unfolding reads
reads-append q t [] b k = refl
reads-append q t (d ∷ a) b k = reads-append q t a b (read q t d k)

-- ── call numbers ─────────────────────────────────────────────────────────────

pub next-left : (st : Station) → used_up st ≡ false → next_call st ≡ st.last_call + 1
unfolding used_up
next-left st u = rw u refl

-- a ship that is rung back is the oldest, and a number is left for it
pub rung-first : (st : Station) (w : Waiting) (q : List Waiting) → to_ring_back st ≡ w ∷ q → (used_up st ≡ false) × (st.queue ≡ w ∷ q)
rung-first st w q h = go (used_up st) refl
  where
    go : (b : Bool) → used_up st ≡ b → (used_up st ≡ false) × (st.queue ≡ w ∷ q)
    go true e = let k : ◌≡◌ {A = List Waiting} [] (w ∷ q) = rw e at h in absurd (nothing-first k)
      where
        nothing-first : ◌≡◌ {A = List Waiting} [] (w ∷ q) → ⊥
        nothing-first k = let y : ◌≡◌ {A = ℕ} 0 (suc (length q)) = ap length k in omega (arith, y)
    go false e = (e, rw e at h)

-- a slot that a caller ashore takes is the lowest free one, and a number is left for it
pub slot-taken : (st : Station) (i : ℕ) → slot_to_take st ≡ some i → (used_up st ≡ false) × (lowest is_free st.slots ≡ some i)
slot-taken st i h = go (used_up st) refl
  where
    go : (b : Bool) → used_up st ≡ b → (used_up st ≡ false) × (lowest is_free st.slots ≡ some i)
    go true e = let k : ◌≡◌ {A = Option ℕ} none (some i) = rw e at h in (cc, cc)
    go false e = (e, rw e at h)

-- ── one slot of the book ─────────────────────────────────────────────────────

module _ (i : ℕ) (st : Station) (p : Slot) (e : the_slot st i ≡ p) where
  pub stay : (f : Column → Column) → f (view p) ≡ view p → at_column i f (seen st) ≡ seen st
  unfolding seen
  stay f h = ap (λ (x : List Column). record { now = st.clock; columns = x; places = map place st.queue; given = st.last_call }) (mod_at-same view f free i st.slots (rw e h))

  pub moves : (f : Column → Column) (q : Slot) → f (view p) ≡ view q → at_column i f (seen st) ≡ seen (set_slot i q st)
  unfolding seen set_slot
  moves f q h = ap (λ (x : List Column). record { now = st.clock; columns = x; places = map place st.queue; given = st.last_call }) (mod_at-map view f q free i st.slots (rw e h))

  pub column-is : column (seen st) i ≡ view p
  unfolding seen
  column-is = get_or-map view st.slots i free ∙ ap view e

module _ (i : ℕ) (st : Station) (p : Slot) (e : the_slot st i ≡ p) (there : i < length st.slots) where
  column-read : (f : Column → Column) → column (at_column i f (seen st)) i ≡ f (view p)
  unfolding seen
  column-read f = go i st.slots there ∙ ap (λ s. f (view s)) e
    where
      go : (i : ℕ) (ss : List Slot) → i < length ss → get_or (mod_at f i (map view ss)) i blank ≡ f (view (get_or ss i free))
      go i [] h = absurd (omega (arith, h))
      go zero (s ∷ ss) h = refl
      go (suc i) (s ∷ ss) h = go i ss (omega (arith, h))

  -- a deed that may begin a call, read on the slot's column after something else
  pub counts : (f : Column → Column) (g : Column → ℕ → CountedColumn) (q : Slot) (n : ℕ) → g (f (view p)) st.last_call ≡ goes_on (view q) n
      → at_counted_column i g (at_column i f (seen st)) ≡ record { now = st.clock; columns = map view (mod_at (λ x. q) i st.slots); places = map place st.queue; given = n }
  unfolding seen
  counts f g q n h = λ k. record {
    now = st.clock;
    columns = (mod_at-mod_at f (λ l. (g l st.last_call).line) i (map view st.slots) ∙ mod_at-map view (λ l. (g (f l) st.last_call).line) q free i st.slots (rw e (ap (λ (z : CountedColumn). z.line) h))) k;
    places = map place st.queue;
    given = (ap (λ l. (g l st.last_call).given) (column-read f) ∙ ap (λ (z : CountedColumn). z.given) h) k;
  }

-- a slot laid over itself
pub stands : (i : ℕ) (st : Station) (p : Slot) → the_slot st i ≡ p → record { now = st.clock; columns = map view (mod_at (λ x. p) i st.slots); places = map place st.queue; given = st.last_call } ≡ seen st
unfolding seen
stands i st p e = ap (λ (x : List Column). record { now = st.clock; columns = x; places = map place st.queue; given = st.last_call }) (sym (mod_at-map view (λ l. l) p free i st.slots (ap view e)) ∙ sym (mod_at-none i (map view st.slots)))

pub at_line² : (i : ℕ) (f g : Column → Column) (b : Book) → at_column i g (at_column i f b) ≡ at_column i (λ l. g (f l)) b
at_line² i f g b = ap (λ (x : List Column). record { now = b.now; columns = x; places = b.places; given = b.given }) (mod_at-mod_at f g i b.columns)

-- ── the waits ────────────────────────────────────────────────────────────────

columns-table : (i : ℕ) (ss : List Slot) → column_table i (map view ss) ≡ slot_table i ss
columns-table i [] = refl
columns-table i (s ∷ ss) = rw (columns-table (suc i) ss) refl

places-due : (q : List Waiting) → map (λ p. p.due) (map place q) ≡ map (λ w. w.due) q
places-due [] = refl
places-due (w ∷ q) = ap (λ r. w.due ∷ r) (places-due q)

pub falls-fires : (t : ℕ) (st : Station) → falls t (seen st) ≡ fires t st
unfolding falls fires table seen
falls-fires t st = simp (columns-table, places-due)

-- ── a slot of a station, and the slots of a fresh one ────────────────────────

module _ (st : Station) where
  pub slot-all : (f : Slot → Bool) → f free ≡ true → (i : ℕ) → all f st.slots ≡ true → f (the_slot st i) ≡ true
  slot-all f z i h = all-at f free z i st.slots h

  pub slot-each : (F : Slot → Type 0) → F free → (i : ℕ) → Each F st.slots → F (the_slot st i)
  slot-each F z i h = each_at F free z i st.slots h

  -- a slot given to another
  pub slot-given : (F : Slot → Type 0) → F free → (q : Slot) → F q → (i : ℕ) → F (the_slot (set_slot i q st) i)
  unfolding set_slot
  slot-given F z q h i = go i st.slots
    where
      go : (i : ℕ) (ss : List Slot) → F (get_or (mod_at (λ x. q) i ss) i free)
      go i [] = z
      go zero (s ∷ ss) = h
      go (suc i) (s ∷ ss) = go i ss

  pub slot-lowest : (f : Slot → Bool) (i : ℕ) → lowest f st.slots ≡ some i → f (the_slot st i) ≡ true
  slot-lowest f i h = lowest-is free f st.slots i h

  -- where a test is passed that no slot past the end passes
  pub slot-there : (f : Slot → Bool) → f free ≡ false → (i : ℕ) → f (the_slot st i) ≡ true → i < length st.slots
  slot-there f z i h = go i st.slots h
    where
      go : (i : ℕ) (ss : List Slot) → f (get_or ss i free) ≡ true → i < length ss
      go i [] h = let q : ◌≡◌ {A = ℕ} 0 1 = cc in absurd (omega (arith, q))
      go zero (s ∷ ss) h = omega arith
      go (suc i) (s ∷ ss) h = let k = go i ss h in omega arith

  -- a slot changed, as anything shows it
  pub slot-set : {A : Type 0} (v : Slot → A) (g : A → A) (q : Slot) (i : ℕ) → g (v (the_slot st i)) ≡ v q → mod_at g i (map v st.slots) ≡ map v (mod_at (λ x. q) i st.slots)
  slot-set v g q i h = mod_at-map v g q free i st.slots h

  pub slot-stays : {A : Type 0} (v : Slot → A) (g : A → A) (i : ℕ) → g (v (the_slot st i)) ≡ v (the_slot st i) → mod_at g i (map v st.slots) ≡ map v st.slots
  slot-stays v g i h = mod_at-same v g free i st.slots h

  pub slot-mapped : {A : Type 0} (g : Slot → A) (i : ℕ) → get_or (map g st.slots) i (g free) ≡ g (the_slot st i)
  slot-mapped g i = get_or-map g st.slots i free

module _ (cfg : Config) where
  pub fresh-all : (f : Slot → Bool) → f free ≡ true → all f (fresh cfg).slots ≡ true
  unfolding fresh
  fresh-all f h = go (length cfg.channels)
    where
      go : (n : ℕ) → all f (replicate n free) ≡ true
      go zero = refl
      go (suc n) = rw h (go n)

  pub fresh-each : (F : Slot → Type 0) → F free → Each F (fresh cfg).slots
  unfolding fresh
  fresh-each F h = go (length cfg.channels)
    where
      go : (n : ℕ) → Each F (replicate n free)
      go zero = tt
      go (suc n) = (h, go n)

  pub fresh-mapped : {A : Type 0} (g : Slot → A) → map g (fresh cfg).slots ≡ replicate (length cfg.channels) (g free)
  unfolding fresh
  fresh-mapped g = go (length cfg.channels)
    where
      go : (n : ℕ) → map g (replicate n free) ≡ replicate n (g free)
      go zero = refl
      go (suc n) = ap (λ l. g free ∷ l) (go n)

  pub fresh-length : length (fresh cfg).slots ≡ length cfg.channels
  unfolding fresh
  fresh-length = length-replicate (length cfg.channels) free

-- the free slot
pub free-is : (s : Slot) → is_free s ≡ true → s ≡ free
free-is = by-slot (λ s. is_free s ≡ true → s ≡ free) (λ h. refl) (λ h. cc) (λ k r d h. cc) (λ r g c h. cc) (λ r n d h. cc)

-- ── the times of a slot that fit the clock c ─────────────────────────────────

abbrev pub begun : ℕ → Option ℕ → Bool
begun t none = true
begun t (some b) = leb b t

abbrev pub begun_by : ℕ → Slot → Bool
begun_by t s = begun t (answered_in s)

-- its call has begun, its waits are due from the clock on, and it fits a later clock by which none is due
pub record Fitting (c : ℕ) (s : Slot) : Type 0 where
  pub started : begun_by c s ≡ true
  pub main-from : (d : ℕ) → main_due s ≡ some d → leb c d ≡ true
  pub loss-from : (d : ℕ) → loss_due s ≡ some d → leb c d ≡ true
  pub later : (t : ℕ) → c ≤ t → ((d : ℕ) → loss_due s ≡ some d → t ≤ d) → ((d : ℕ) → main_due s ≡ some d → t ≤ d) → slot_fits t s ≡ true

pub within-later : (c t w d : ℕ) → c ≤ t → t ≤ d → fits c w d ≡ true → fits t w d ≡ true
within-later c t w d h k e = let a = leb-true d (c + (w + 1)) (both_true (leb c d) (leb d (c + (w + 1))) e).1 in rw (le-leb t d k, le-leb d (t + (w + 1)) (omega arith)) refl

module _ (c : ℕ) where
  due-from : (w u : ℕ) → fits c w u ≡ true → (d : ℕ) → ◌≡◌ {A = Option ℕ} (some u) (some d) → leb c d ≡ true
  due-from w u h d e = let y : u ≡ d = cc in rw (← y) (both_true (leb c u) (leb u (due_after c w)) h).0

  loss-due : (m : Mode) (l : Option ℕ) → loss_fits c m l ≡ true → (d : ℕ) → l ≡ some d → leb c d ≡ true
  loss-due m none h d e = cc
  loss-due m (some u) h d e = due-from (carrier_wait m) u h d e

  loss-later : (m : Mode) (l : Option ℕ) → loss_fits c m l ≡ true → (t : ℕ) → c ≤ t → ((d : ℕ) → l ≡ some d → t ≤ d) → loss_fits t m l ≡ true
  loss-later m none h t k f = refl
  loss-later m (some d) h t k f = within-later c t (carrier_wait m) d k (f d refl) h

  -- a call that is not answered, which waits w and falls due at d
  waiting-fitting : (r : Dealing) (g : Stage) (l : Option ℕ) (w d : ℕ) → answered_at g ≡ none → stage_due g ≡ some d → ((t : ℕ) → stage_fits t g ≡ fits t w d)
      → fits c w d ≡ true → loss_fits c r.request.mode l ≡ true → Fitting c (busy r g l)
  waiting-fitting r g l w d a b s h k = record {
    started = rw a refl;
    main-from = λ u e. due-from w d h u (sym b ∙ e);
    loss-from = loss-due r.request.mode l k;
    later = λ t u f m. rw (s t, within-later c t w d u (m d b) h) (loss-later r.request.mode l k t u f);
  }

  busy-fitting : (r : Dealing) (g : Stage) (l : Option ℕ) → stage_fits c g ≡ true → loss_fits c r.request.mode l ≡ true → Fitting c (busy r g l)
  busy-fitting r (dialling d) l h k = waiting-fitting r (dialling d) l dialling_wait d refl refl (λ t. refl) h k
  busy-fitting r (dialled_out d) l h k = waiting-fitting r (dialled_out d) l reply_wait d refl refl (λ t. refl) h k
  busy-fitting r (answered b) l h k = record {
    started = h;
    main-from = λ d e. cc;
    loss-from = loss-due r.request.mode l k;
    later = λ t u f g. let a = leb-true b c h in rw (le-leb b t (omega arith)) (loss-later r.request.mode l k t u f);
  }

  pub fitting : (s : Slot) → slot_fits c s ≡ true → Fitting c s
  fitting free h = record { started = refl; main-from = λ d e. cc; loss-from = λ d e. cc; later = λ t u f g. refl }
  fitting taken h = record { started = refl; main-from = λ d e. cc; loss-from = λ d e. cc; later = λ t u f g. refl }
  fitting (pending k r d) h = record { started = refl; main-from = due-from (kind_wait k) d h; loss-from = λ d e. cc; later = λ t u f g. within-later c t (kind_wait k) d u (g d refl) h }
  fitting (busy r g l) h = let w = both_true (stage_fits c g) (loss_fits c r.request.mode l) h in busy-fitting r g l w.0 w.1
  fitting (held r n d) h = record { started = refl; main-from = due-from hold_wait d h; loss-from = λ d e. cc; later = λ t u f g. within-later c t hold_wait d u (g d refl) h }

-- a wait begun now fits, that of an offer or a ring-back too
pub new-wait : (c w : ℕ) → fits c w (due_after c w) ≡ true
new-wait c w = rw (le-leb c (c + (w + 1)) (omega arith), le-leb (c + (w + 1)) (c + (w + 1)) (omega arith)) refl

pub offer-fits : (r : Request) (st : Station) → slot_fits st.clock (offer_of r st) ≡ true
offer-fits r st = new-wait st.clock (kind_wait offered)

pub ring-fits : (r : Request) (st : Station) → slot_fits st.clock (ring_back_of r st) ≡ true
ring-fits r st = new-wait st.clock (kind_wait first_ring_back)

pub again-fits : (r : Dealing) (t : ℕ) → slot_fits t (ring_back_again_of r t) ≡ true
again-fits r t = new-wait t (kind_wait second_ring_back)

pub agreed-fits : (r : Dealing) (t : ℕ) → slot_fits t (agreed_at r t) ≡ true
agreed-fits r t = new-wait t (kind_wait acknowledged)

pub call_fits : (r : Request) (st : Station) → slot_fits st.clock (called_of r st) ≡ true
call_fits r st = new-wait st.clock (kind_wait first_call)

pub called-again-fits : (r : Dealing) (t : ℕ) → slot_fits t (called_again r t) ≡ true
called-again-fits r t = new-wait t (kind_wait second_call)

pub ringing-fits : (r : Dealing) (t : ℕ) → slot_fits t (ringing_at r t) ≡ true
ringing-fits r t = new-wait t (kind_wait ringing)
