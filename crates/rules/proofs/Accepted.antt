-- What it gives that an event is accepted, and that a station is sound.
use mathlib.Core.Path.{◌≡◌, refl}
use mathlib.Core.List.{List, [], ◌∷◌, map}
use mathlib.Core.Bool.{Bool, true, false, cond, not, ◌&&◌}
use mathlib.Core.Option.{Option, none, some}
use Prim.Native.Nat.{ℕ, zero, suc}
use lib.Dec.{leb}
use borrow.Author.Tests.{not-true}
use lib.ListN.{get_or, length}
use Rattle.sequence.specs.Refusals.{Row, first_refusal, all_hold}
use Rattle.sequence.specs.Answers.{is_done}
use Rattle.rules.specs.Rules.Places.{lowest, all, elem, distinct, is_some}
use Rattle.rules.specs.Rules.Words.{Party, is, Config, ashore_in, Event}
use Rattle.rules.specs.Rules.Waits.{Wait, loss, main, Due, running, queue_table}
use Rattle.rules.specs.Rules.Station.{Slot, ship_of, Waiting, Station, due_after, loss_due, main_due, slot_table, table, queue_wait}
use Rattle.rules.specs.Rules.Sound.{config_keeps, one_slot_each, slot_keeps, waiting_keeps, limit, queue_room, listed, owners, no_ship_twice, slot_fits, place_fits, stored_keeps, times_fit, sound}
use Rattle.rules.specs.Rules.Requests.{owns, waits_for}
use Rattle.rules.specs.Rules.Verdict.{room_needed, overtaken, slot_there, read_in, barred, names_ship, names_mode, names_number, names_engaged, slot_to_be_had, refusals, verdict}
use Rattle.sequence.proofs.Tests.{both_true}
use Rattle.rules.proofs.PlaceLaws.{or-false}
use Rattle.rules.proofs.Asked.{owned, rest-distinct}
use Rattle.rules.proofs.Base.{begun_by, fitting}

-- ── what acceptance gives ────────────────────────────────────────────────────

-- a row gives a number where it fails
abbrev gives : Row (Option ℕ) → Bool
gives r = is_some r.refusal

-- where none is given every test holds
pub none-held : (rows : List (Row (Option ℕ))) → all gives rows ≡ true → first_refusal rows none ≡ none → all_hold rows ≡ true
none-held [] n h = refl
none-held (r ∷ rows) n h = let g = both_true (gives r) (all gives rows) n in go r.holds g.0 (none-held rows g.1) h
  where
    some_is : (o : Option ℕ) → is_some o ≡ true → o ≡ none → false ≡ true
    some_is none e k = e
    some_is (some m) e k = cc

    go : (b : Bool) → gives r ≡ true → (first_refusal rows none ≡ none → all_hold rows ≡ true) → cond b (first_refusal rows none) r.refusal ≡ none → (b && all_hold rows) ≡ true
    go true g later k = later k
    go false g later k = some_is r.refusal g k

pub record Accepted (cfg : Config) (st : Station) (e : Event) : Type 0 where
  pub is-sound : sound cfg st ≡ true
  pub in-limit : leb e.time limit ≡ true
  pub in-time : leb st.clock e.time ≡ true
  pub none-due : overtaken st e.time e.what ≡ false
  pub there : slot_there (length st.slots) e.what ≡ true
  pub readable : is_done (read_in e.what) ≡ true
  pub ship : names_ship (ashore_in e.what) ≡ true
  pub mode : names_mode (ashore_in e.what) ≡ true
  pub number : names_number (ashore_in e.what) ≡ true
  pub not-engaged : names_engaged cfg st (ashore_in e.what) ≡ false
  pub a-slot : slot_to_be_had st (ashore_in e.what) ≡ true

pub accepted : (cfg : Config) (st : Station) (e : Event) → verdict cfg st e ≡ none → Accepted cfg st e
unfolding verdict refusals
accepted cfg st e h =
    let rows = none-held (refusals cfg st e) refl h in
    let a = both_true (sound cfg st) _ rows in
    let r = both_true (leb room_needed e.room) _ a.1 in
    let l = both_true (leb e.time limit) _ r.1 in
    let b = both_true (leb st.clock e.time) _ l.1 in
    let d = both_true (not (overtaken st e.time e.what)) _ b.1 in
    let s = both_true (slot_there (length st.slots) e.what) _ d.1 in
    let u = both_true (is_done (read_in e.what)) _ s.1 in
    let o = both_true (not (barred st e.what)) _ u.1 in
    let p = both_true (names_ship (ashore_in e.what)) _ o.1 in
    let m = both_true (names_mode (ashore_in e.what)) _ p.1 in
    let n = both_true (names_number (ashore_in e.what)) _ m.1 in
    let g = both_true (not (names_engaged cfg st (ashore_in e.what))) _ n.1 in
    let f = both_true (slot_to_be_had st (ashore_in e.what)) _ g.1 in
    record { is-sound = a.0; in-limit = l.0; in-time = b.0; none-due = not-true _ d.0; there = s.0; readable = u.0; ship = p.0; mode = m.0; number = n.0; not-engaged = not-true _ g.0; a-slot = f.0 }

-- ── what soundness gives ─────────────────────────────────────────────────────

pub record Sound (cfg : Config) (st : Station) : Type 0 where
  pub config : config_keeps cfg ≡ true
  pub one_each : one_slot_each cfg st ≡ true
  pub slots-keep : all (slot_keeps cfg) st.slots ≡ true
  pub queue-keeps : all (waiting_keeps cfg) st.queue ≡ true
  pub in-limit : leb st.clock limit ≡ true
  pub room : leb (length st.queue) queue_room ≡ true
  pub no-twice : distinct is (owners st.slots (map (λ w. w.request.who) st.queue)) ≡ true
  pub slots-fit : all (slot_fits st.clock) st.slots ≡ true
  pub places-fit : all (place_fits st.clock) st.queue ≡ true

pub sounds : (cfg : Config) (st : Station) → sound cfg st ≡ true → Sound cfg st
unfolding sound stored_keeps no_ship_twice times_fit
sounds cfg st h =
    let a = both_true (config_keeps cfg) _ h in
    let b = both_true (one_slot_each cfg st) _ a.1 in
    let c = both_true (stored_keeps cfg st) _ b.1 in
    let k = both_true (all (slot_keeps cfg) st.slots) _ c.0 in
    let d = both_true (leb st.clock limit) _ c.1 in
    let e = both_true (leb (length st.queue) queue_room) _ d.1 in
    let f = both_true (no_ship_twice st) _ e.1 in
    let g = both_true (all (slot_fits st.clock) st.slots) _ f.1 in
    record { config = a.0; one_each = b.0; slots-keep = k.0; queue-keeps = k.1; in-limit = d.0; room = e.0; no-twice = f.0; slots-fit = g.0; places-fit = g.1 }

pub is-sound : (cfg : Config) (st : Station) → Sound cfg st → sound cfg st ≡ true
unfolding sound stored_keeps no_ship_twice times_fit
is-sound cfg st s = rw (s.config, s.one_each, s.slots-keep, s.queue-keeps, s.in-limit, s.room, s.no-twice, s.slots-fit, s.places-fit) refl

all-begun : (c : ℕ) (ss : List Slot) → all (slot_fits c) ss ≡ true → all (begun_by c) ss ≡ true
all-begun c [] h = refl
all-begun c (s ∷ ss) h = let w = both_true (slot_fits c s) (all (slot_fits c) ss) h in rw ((fitting c s w.0).started, all-begun c ss w.1) refl

pub begun_all : (cfg : Config) (st : Station) → Sound cfg st → all (begun_by st.clock) st.slots ≡ true
begun_all cfg st s = all-begun st.clock st.slots s.slots-fit

-- every wait that runs is due at the clock or after it
all-running : (p : Due → Bool) (w : Wait) (o : Option ℕ) (r : List Due) → ((d : ℕ) → o ≡ some d → p record { what = w; at = d } ≡ true) → all p r ≡ true → all p (running w o r) ≡ true
all-running p w none r f h = h
all-running p w (some d) r f h = rw (f d refl) h

slots-due : (c i : ℕ) (ss : List Slot) → all (slot_fits c) ss ≡ true → all (λ p. leb c p.at) (slot_table i ss) ≡ true
slots-due c i [] h = refl
slots-due c i (s ∷ ss) h = let w = both_true (slot_fits c s) (all (slot_fits c) ss) h in
    all-running (λ p. leb c p.at) (loss i) (loss_due s) _ (fitting c s w.0).loss-from (all-running (λ p. leb c p.at) (main i) (main_due s) _ (fitting c s w.0).main-from (slots-due c (suc i) ss w.1))

queue-due : (c k : ℕ) (q : List Waiting) (r : List Due) → all (place_fits c) q ≡ true → all (λ p. leb c p.at) r ≡ true → all (λ p. leb c p.at) (queue_table k (map (λ w. w.due) q) r) ≡ true
queue-due c k [] r h e = e
queue-due c k (w ∷ q) r h e = let v = both_true (place_fits c w) (all (place_fits c) q) h in rw (both_true (leb c w.due) (leb w.due (due_after c queue_wait)) v.0).0 (queue-due c (suc k) q r v.1 e)

pub due_all : (cfg : Config) (st : Station) → Sound cfg st → all (λ p. leb st.clock p.at) (table st) ≡ true
unfolding table
due_all cfg st s = queue-due st.clock 0 st.queue (slot_table 0 st.slots) s.places-fit (slots-due st.clock 0 st.slots s.slots-fit)

elem-tail : (x : Party) (ss : List Slot) (q : List Party) → elem is x (owners ss q) ≡ false → elem is x q ≡ false
elem-tail x [] q h = h
elem-tail x (s ∷ ss) q h = elem-tail x ss q (go (ship_of s) h)
  where
    go : (o : Option Party) → elem is x (listed o (owners ss q)) ≡ false → elem is x (owners ss q) ≡ false
    go none h = h
    go (some y) h = (or-false (is x y) (elem is x (owners ss q)) h).1

pub elem-waiting : (x : Party) (q : List Waiting) → elem is x (map (λ w. w.request.who) q) ≡ false → lowest (waits_for x) q ≡ none
elem-waiting x [] h = refl
elem-waiting x (w ∷ q) h = let v = or-false (is x w.request.who) (elem is x (map (λ z. z.request.who) q)) h in rw (v.0, elem-waiting x q v.1) refl

-- the ship of a slot does not wait
pub owner-apart : (x : Party) (d : Slot) (ss : List Slot) (q : List Party) (i : ℕ) → distinct is (owners ss q) ≡ true → owns x (get_or ss i d) ≡ true → owns x d ≡ false → elem is x q ≡ false
owner-apart x d [] q i n h z = cc
owner-apart x d (s ∷ ss) q zero n h z = elem-tail x ss q (owned x s (owners ss q) h n)
owner-apart x d (s ∷ ss) q (suc i) n h z = owner-apart x d ss q i (rest-distinct s (owners ss q) n) h z
