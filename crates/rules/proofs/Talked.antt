-- What the answered calls of a list have talked: an entry takes away what stops, and nothing else. It speaks of the list alone.
use mathlib.Core.Path.{◌≡◌, refl, sym, ap, ◌∙◌}
use mathlib.Core.List.{List, [], ◌∷◌, ◌++◌, map}
use mathlib.Core.Bool.{Bool, true, false, cond}
use mathlib.Core.Option.{Option, none, some}
use Prim.Native.Nat.{ℕ, zero, suc, ◌+◌, ◌-◌}
use native.Mathlib.Omega.{arith}
use lib.ListN.{get_or}
use Rattle.rules.specs.Rules.Places.{mod_at}
use Rattle.rules.specs.Rules.Words.{Party, is, Config, Ashore, What, ashore_in, Deed}
use Rattle.rules.specs.ListAlone.Book.{Note, Stop, after, hold_time, Begun, Call, quiet, called, dialled, talking, Column, Book, blank}
use Rattle.rules.specs.ListAlone.Reading.{closed, close, pick_up, come_up, sign_off, again, hear, read, reads, set_now, turn, stops_in, talked, talked_by, falling, moment, stop_of, call_of, asked_again, stops_again}
use Rattle.rules.proofs.Hears.{column-of, talk, Same, Leaves, elsewhere, at-column, read-leaves, Hears, says_nothing, says-begun, says-answered, says-over, says-end, Hearing, no-column, one-column, all-columns, event-hearing}

-- ── the answered calls of a list of columns, up to a time ──────────────────────

abbrev pub sum : List Stop → ℕ
sum [] = 0
sum (c ∷ cs) = (c.stop.0 - c.start.0) + sum cs

talked-talk : (t : ℕ) (c : Call) → talked t (talk c) ≡ talked t c
talked-talk t quiet = refl
talked-talk t (called r b) = refl
talked-talk t (dialled x o) = refl
talked-talk t (talking x b) = refl

-- what leaves every answered call alone leaves what they have talked
keeps-at : (t : ℕ) (f : Column → Column) → Same f → (i : ℕ) (ls : List Column) → talked_by t (mod_at f i ls) ≡ talked_by t ls
keeps-at t f h i [] = refl
keeps-at t f h zero (l ∷ ls) = ap (λ n. n + talked_by t ls) (sym (talked-talk t (f l).call) ∙ ap (talked t) (h l) ∙ talked-talk t l.call)
keeps-at t f h (suc i) (l ∷ ls) = ap (λ n. talked t l.call + n) (keeps-at t f h i ls)

-- ── what a deed says keeps every talked ──────────────────────────────────────

read_keeps : (q : Option Ashore) (t u : ℕ) (d : Deed) (b : Book) → talked_by t (read q u d b).columns ≡ talked_by t b.columns
read_keeps q t u d b = go (read q u d b).columns (read-leaves q u d b)
  where
    go : (ls : List Column) → Leaves b.columns ls → talked_by t ls ≡ talked_by t b.columns
    go _ elsewhere = refl
    go _ (at-column i f h) = keeps-at t f h i b.columns

reads-keeps : (q : Option Ashore) (t u : ℕ) (ds : List Deed) (b : Book) → talked_by t (reads q u ds b).columns ≡ talked_by t b.columns
unfolding reads
reads-keeps q t u [] b = refl
reads-keeps q t u (d ∷ ds) b = reads-keeps q t u ds (read q u d b) ∙ read_keeps q t u d b

-- ── what an event says takes away what stops ─────────────────────────────────

close-takes : (t i k : ℕ) (ls : List Column) → sum (stop_of t k (get_or ls i blank).call) + talked_by t (mod_at close i ls) ≡ talked_by t ls
close-takes t i k [] = refl
close-takes t zero k (l ∷ ls) = go l.call
  where
    go : (c : Call) → sum (stop_of t k c) + (talked t (closed c) + talked_by t ls) ≡ talked t c + talked_by t ls
    go quiet = omega arith
    go (called r b) = omega arith
    go (dialled x o) = omega arith
    go (talking x b) = omega arith
close-takes t (suc i) k (l ∷ ls) = omega (arith, close-takes t i k ls)

sign_off-takes : (t u : ℕ) (x : Party) (i k : ℕ) (ls : List Column) → sum (cond (call_of x (get_or ls i blank).call) (stop_of t k (get_or ls i blank).call) []) + talked_by t (mod_at (sign_off u x) i ls) ≡ talked_by t ls
sign_off-takes t u x i k [] = refl
sign_off-takes t u x zero k (l ∷ ls) = go l.call
  where
    pick : (b : Bool) (y : Begun) (c : ℕ) → sum (cond b (stop_of t k (talking y c)) []) + (talked t (cond b (column-of l.said (some (after u hold_time)) quiet none) (column-of l.said l.wait (talking y c) l.gone)).call + talked_by t ls) ≡ (t - c) + talked_by t ls
    pick true y c = omega arith
    pick false y c = omega arith

    pick0 : (b : Bool) (y : Begun) (o : Bool) → sum (cond b (stop_of t k (dialled y o)) []) + (talked t (cond b (column-of l.said (some (after u hold_time)) quiet none) (column-of l.said l.wait (dialled y o) l.gone)).call + talked_by t ls) ≡ 0 + talked_by t ls
    pick0 true y o = omega arith
    pick0 false y o = omega arith

    go : (c : Call) → sum (cond (call_of x c) (stop_of t k c) []) + (talked t (sign_off u x (column-of l.said l.wait c l.gone)).call + talked_by t ls) ≡ talked t c + talked_by t ls
    go quiet = omega arith
    go (called r b) = omega arith
    go (dialled y o) = pick0 (is x y.request.who) y o
    go (talking y b) = pick (is x y.request.who) y b
sign_off-takes t u x (suc i) k (l ∷ ls) = omega (arith, sign_off-takes t u x i k ls)

again-takes : (t : ℕ) (x : Party) (k : ℕ) (ls : List Column) → sum (stops_again t x k ls) + talked_by t (map (again x) ls) ≡ talked_by t ls
again-takes t x k [] = refl
again-takes t x k (l ∷ ls) = go (asked_again x l.call l.gone) l.call (again-takes t x (suc k) ls)
  where
    sum-append : (a b : List Stop) → sum (a ++ b) ≡ sum a + sum b
    sum-append [] b = omega arith
    sum-append (c ∷ a) b = omega (arith, sum-append a b)

    pick : (c : Call) → sum (stop_of t k c) + talked t (closed c) ≡ talked t c
    pick quiet = refl
    pick (called r b) = refl
    pick (dialled y o) = refl
    pick (talking y b) = omega arith

    go : (b : Bool) (c : Call) → sum (stops_again t x (suc k) ls) + talked_by t (map (again x) ls) ≡ talked_by t ls
        → sum (cond b (stop_of t k c) [] ++ stops_again t x (suc k) ls) + (talked t (cond b (close (column-of l.said l.wait c l.gone)) (column-of l.said l.wait c l.gone)).call + talked_by t (map (again x) ls)) ≡ talked t c + talked_by t ls
    go true c h = omega (arith, sum-append (stop_of t k c) (stops_again t x (suc k) ls), pick c)
    go false c h = omega arith

pick_up-takes : (t i : ℕ) (ls : List Column) → talked_by t (mod_at (pick_up t) i ls) ≡ talked_by t ls
pick_up-takes t i [] = refl
pick_up-takes t zero (l ∷ ls) = go l.call
  where
    go : (c : Call) → talked t (pick_up t (column-of l.said l.wait c l.gone)).call + talked_by t ls ≡ talked t c + talked_by t ls
    go quiet = refl
    go (called r b) = refl
    go (dialled x o) = omega arith
    go (talking x b) = refl
pick_up-takes t (suc i) (l ∷ ls) = ap (λ n. talked t l.call + n) (pick_up-takes t i ls)

come_up-takes : (t i : ℕ) (ls : List Column) → talked_by t (mod_at (come_up t) i ls) ≡ talked_by t ls
come_up-takes t i [] = refl
come_up-takes t zero (l ∷ ls) = go l.call
  where
    go : (c : Call) → talked t (come_up t (column-of l.said l.wait c l.gone)).call + talked_by t ls ≡ talked t c + talked_by t ls
    go quiet = refl
    go (called r false) = refl
    go (called r true) = omega arith
    go (dialled x o) = refl
    go (talking x b) = refl
come_up-takes t (suc i) (l ∷ ls) = ap (λ n. talked t l.call + n) (come_up-takes t i ls)

hears-takes : (t i : ℕ) (e : What) (f : Column → Column) (s : Call → List Stop) → Hears t i e f s → (ls : List Column) → sum (s (get_or ls i blank).call) + talked_by t (mod_at f i ls) ≡ talked_by t ls
hears-takes t i e _ _ (says_nothing f h) ls = omega (arith, keeps-at t f h i ls)
hears-takes t i e _ _ (says-begun h) ls = omega (arith, pick_up-takes t i ls)
hears-takes t i e _ _ (says-answered h) ls = omega (arith, come_up-takes t i ls)
hears-takes t i e _ _ says-over ls = close-takes t i i ls
hears-takes t i e _ _ (says-end x) ls = sign_off-takes t t x i i ls

hearing-takes : (t : ℕ) (e : What) (b k : Book) (cs : List Stop) → Hearing t e b k cs → sum cs + talked_by t k.columns ≡ talked_by t b.columns
hearing-takes t e b _ _ (no-column ps) = omega arith
hearing-takes t e b _ _ (one-column i f s h) = hears-takes t i e f s h b.columns
hearing-takes t e b _ _ (all-columns x) = again-takes t x 0 b.columns

-- a law of the list alone: what an entry stops is taken from what runs, and nothing else is
pub turn-takes : (cfg : Config) (b : Book) (n : Note) → sum (stops_in cfg b n) + talked_by (moment b n.event) (turn cfg b n).columns ≡ talked_by (moment b n.event) b.columns
unfolding turn stops_in
turn-takes cfg b n = rw (reads-keeps (ashore_in n.event.what) (moment b n.event) (moment b n.event) n.deeds (hear cfg (moment b n.event) (falling b n.event) n.event.what (set_now (moment b n.event) b))) (hearing-takes (moment b n.event) n.event.what b _ _ (event-hearing cfg (moment b n.event) b (falling b n.event) n.event.what))
