-- What the reading means, said of one entry and one column, with no station in sight.
--     begins   a column talks after an entry only if it talked before, or the entry answers it and it was dialled, or its ship transmits and
--              it rang
--     ends     a column that talked talks on, or the entry holds its stop
use mathlib.Core.Path.{◌≡◌, refl, sym, ap, ◌∙◌}
use mathlib.Core.Logic.{◌⊎◌, inl, inr}
use mathlib.Core.List.{List, [], ◌∷◌, ◌++◌, map}
use mathlib.Core.Bool.{Bool, true, false, cond, ◌&&◌}
use mathlib.Core.Option.{Option, none, some}
use Prim.Native.Nat.{ℕ, zero, suc, ◌+◌}
use native.Mathlib.Nat.{add-zero, add-suc, suc-add, zero-add}
use native.Mathlib.Omega.{arith}
use lib.ListN.{get_or}
use Rattle.rules.specs.Rules.Places.{mod_at}
use Rattle.rules.specs.Rules.Words.{Party, is, Config, answering_on, transmitting_on, Ashore, What, ashore_in, Deed}
use Rattle.rules.specs.Rules.Waits.{Due}
use Rattle.rules.specs.ListAlone.Book.{Note, Stop, after, hold_time, Begun, Said, Call, quiet, called, dialled, talking, Column, Book, blank, column}
use Rattle.rules.specs.ListAlone.Reading.{closed, close, pick_up, come_up, sign_off, again, hear, read, reads, set_now, turn, stops_in, falling, moment, stop_of, call_of, lost, asked_again, stops_again, stops_at}
use Rattle.rules.specs.ListAlone.ReadingLaws.{In, stop_at, IsDialled, IsRinging, Begins, Lifts, Transmits, Ends}
use Rattle.rules.proofs.PlaceLaws.{aside}
use Rattle.rules.proofs.Hears.{column-of, talk, talk-is, Same, Leaves, elsewhere, at-column, read-leaves, Hears, says_nothing, says-begun, says-answered, says-over, says-end, Hearing, no-column, one-column, all-columns, event-hearing}

-- ── no deed begins or stops an answered call ─────────────────────────────────

same_at : (f : Column → Column) → Same f → (i j : ℕ) (ls : List Column) → talk (get_or (mod_at f i ls) j blank).call ≡ talk (get_or ls j blank).call
same_at f h i j [] = refl
same_at f h zero zero (l ∷ ls) = h l
same_at f h zero (suc j) (l ∷ ls) = refl
same_at f h (suc i) zero (l ∷ ls) = refl
same_at f h (suc i) (suc j) (l ∷ ls) = same_at f h i j ls

read_same : (q : Option Ashore) (u j : ℕ) (d : Deed) (b : Book) → talk (column (read q u d b) j).call ≡ talk (column b j).call
read_same q u j d b = go (read q u d b).columns (read-leaves q u d b)
  where
    go : (ls : List Column) → Leaves b.columns ls → talk (get_or ls j blank).call ≡ talk (get_or b.columns j blank).call
    go _ elsewhere = refl
    go _ (at-column i f h) = same_at f h i j b.columns

reads_same : (q : Option Ashore) (u j : ℕ) (ds : List Deed) (b : Book) → talk (column (reads q u ds b) j).call ≡ talk (column b j).call
unfolding reads
reads_same q u j [] b = refl
reads_same q u j (d ∷ ds) b = reads_same q u j ds (read q u d b) ∙ read_same q u j d b

-- ── what an event does to one column ───────────────────────────────────────────

-- the call c of column j is, after the entry, the call k
data After (e : What) (u j : ℕ) (cs : List Stop) (c k : Call) : Type 0 where
  goes_on : talk k ≡ talk c → After e u j cs c k
  starts : (x : Begun) (o : Bool) → e ≡ answering_on j → c ≡ dialled x o → k ≡ talking x u → After e u j cs c k
  comes-up : (x : Begun) → e ≡ transmitting_on j → c ≡ called x true → k ≡ talking x u → After e u j cs c k
  stopped : (x : Begun) (t : ℕ) → c ≡ talking x t → talk k ≡ quiet → In (stop_at j x t u) cs → After e u j cs c k

pub there : (f : Column → Column) → f blank ≡ blank → (i : ℕ) (ls : List Column) → get_or (mod_at f i ls) i blank ≡ f (get_or ls i blank)
there f h i [] = sym h
there f h zero (l ∷ ls) = refl
there f h (suc i) (l ∷ ls) = there f h i ls

-- a reading of column i alone, seen from column j
module _ (e : What) (u i j : ℕ) (cs : List Stop) (f : Column → Column) (fb : f blank ≡ blank) (ls : List Column)
    (at_i : After e u i cs (get_or ls i blank).call (f (get_or ls i blank)).call) where
  seen-from : After e u j cs (get_or ls j blank).call (get_or (mod_at f i ls) j blank).call
  seen-from = go (aside blank f i j ls)
    where
      go : (j ≡ i) ⊎ (get_or (mod_at f i ls) j blank ≡ get_or ls j blank) → After e u j cs (get_or ls j blank).call (get_or (mod_at f i ls) j blank).call
      go (inl p) = rw (p, there f fb i ls) at_i
      go (inr q) = goes_on (rw q refl)

close-after : (e : What) (u i : ℕ) (c : Call) → After e u i (stop_of u i c) c (closed c)
close-after e u i quiet = goes_on refl
close-after e u i (called r b) = goes_on refl
close-after e u i (dialled x o) = goes_on refl
close-after e u i (talking x t) = stopped x t refl refl (inl refl)

sign_off-after : (e : What) (u : ℕ) (x : Party) (i : ℕ) (s : Said) (w : Option ℕ) (c : Call) (g : Option ℕ) → After e u i (cond (call_of x c) (stop_of u i c) []) c (sign_off u x (column-of s w c g)).call
sign_off-after e u x i s w quiet g = goes_on refl
sign_off-after e u x i s w (called r b) g = goes_on refl
sign_off-after e u x i s w (dialled y o) g = go (is x y.request.who)
  where
    go : (b : Bool) → After e u i (cond b [] []) (dialled y o) (cond b (column-of s (some (after u hold_time)) quiet none) (column-of s w (dialled y o) g)).call
    go true = goes_on refl
    go false = goes_on refl
sign_off-after e u x i s w (talking y t) g = go (is x y.request.who)
  where
    go : (b : Bool) → After e u i (cond b (stop_at i y t u ∷ []) []) (talking y t) (cond b (column-of s (some (after u hold_time)) quiet none) (column-of s w (talking y t) g)).call
    go true = stopped y t refl refl (inl refl)
    go false = goes_on refl

pick_up-after : (e : What) (u i : ℕ) (cs : List Stop) → e ≡ answering_on i → (s : Said) (w : Option ℕ) (c : Call) (g : Option ℕ) → After e u i cs c (pick_up u (column-of s w c g)).call
pick_up-after e u i cs h s w quiet g = goes_on refl
pick_up-after e u i cs h s w (called r b) g = goes_on refl
pick_up-after e u i cs h s w (dialled x o) g = starts x o h refl refl
pick_up-after e u i cs h s w (talking x b) g = goes_on refl

come_up-after : (e : What) (u i : ℕ) (cs : List Stop) → e ≡ transmitting_on i → (s : Said) (w : Option ℕ) (c : Call) (g : Option ℕ) → After e u i cs c (come_up u (column-of s w c g)).call
come_up-after e u i cs h s w quiet g = goes_on refl
come_up-after e u i cs h s w (called r false) g = goes_on refl
come_up-after e u i cs h s w (called r true) g = comes-up r h refl refl
come_up-after e u i cs h s w (dialled x o) g = goes_on refl
come_up-after e u i cs h s w (talking x b) g = goes_on refl

in-append : (c : Stop) (a b : List Stop) → In c b → In c (a ++ b)
in-append c [] b h = h
in-append c (d ∷ a) b h = inr (in-append c a b h)

again-after : (e : What) (u : ℕ) (x : Party) (k j : ℕ) (ls : List Column) → After e u (k + j) (stops_again u x k ls) (get_or ls j blank).call (get_or (map (again x) ls) j blank).call
again-after e u x k j [] = goes_on refl
again-after e u x k zero (l ∷ ls) = rw (add-zero k) (go l.call l.gone)
  where
    pick : (b : Bool) (y : Begun) (t : ℕ) (g : Option ℕ) → After e u k (cond b (stop_at k y t u ∷ []) [] ++ stops_again u x (suc k) ls) (talking y t) (cond b (close (column-of l.said l.wait (talking y t) g)) (column-of l.said l.wait (talking y t) g)).call
    pick true y t g = stopped y t refl refl (inl refl)
    pick false y t g = goes_on refl

    go : (c : Call) (g : Option ℕ) → After e u k (cond (asked_again x c g) (stop_of u k c) [] ++ stops_again u x (suc k) ls) c (again x (column-of l.said l.wait c g)).call
    go quiet g = goes_on refl
    go (called r b) g = goes_on refl
    go (dialled y o) g = goes_on refl
    go (talking y t) g = pick (is x y.request.who && lost y.request.mode g) y t g
again-after e u x k (suc j) (l ∷ ls) = rw (add-suc k j, ← (suc-add k j)) (more (again-after e u x (suc k) j ls))
  where
    more : {c d : Call} → After e u (suc k + j) (stops_again u x (suc k) ls) c d → After e u (suc k + j) (stops_again u x k (l ∷ ls)) c d
    more (goes_on p) = goes_on p
    more (starts y o p q r) = starts y o p q r
    more (comes-up o p q r) = comes-up o p q r
    more (stopped y t p q r) = stopped y t p q (in-append _ (cond (asked_again x l.call l.gone) (stop_of u k l.call) []) _ r)

hears-after : (u i j : ℕ) (e : What) (f : Column → Column) (s : Call → List Stop) → Hears u i e f s → (ls : List Column) → After e u j (s (get_or ls i blank).call) (get_or ls j blank).call (get_or (mod_at f i ls) j blank).call
hears-after u i j e _ _ (says_nothing f h) ls = goes_on (same_at f h i j ls)
hears-after u i j e _ _ (says-begun h) ls = let l = get_or ls i blank in seen-from e u i j [] (pick_up u) refl ls (pick_up-after e u i [] h l.said l.wait l.call l.gone)
hears-after u i j e _ _ (says-answered h) ls = let l = get_or ls i blank in seen-from e u i j [] (come_up u) refl ls (come_up-after e u i [] h l.said l.wait l.call l.gone)
hears-after u i j e _ _ says-over ls = seen-from e u i j (stop_of u i (get_or ls i blank).call) close refl ls (close-after e u i (get_or ls i blank).call)
hears-after u i j e _ _ (says-end x) ls = let l = get_or ls i blank in seen-from e u i j (cond (call_of x l.call) (stop_of u i l.call) []) (sign_off u x) refl ls (sign_off-after e u x i l.said l.wait l.call l.gone)

hearing-after : (u j : ℕ) (e : What) (b k : Book) (cs : List Stop) → Hearing u e b k cs → After e u j cs (column b j).call (column k j).call
hearing-after u j e b _ _ (no-column ps) = goes_on refl
hearing-after u j e b _ _ (one-column i f s h) = hears-after u i j e f s h b.columns
hearing-after u j e b _ _ (all-columns x) = rw (zero-add j) at (again-after e u x 0 j b.columns)

hear-after : (cfg : Config) (b : Book) (u : ℕ) (o : Option Due) (w : What) (j : ℕ) → After w u j (stops_at cfg u b o w) (column b j).call (column (hear cfg u o w (set_now u b)) j).call
hear-after cfg b u o w j = hearing-after u j w b _ _ (event-hearing cfg u b o w)

-- ── the two laws ─────────────────────────────────────────────────────────────

-- the column just after the event, before the deeds are read
mid : Config → Book → Note → ℕ → Call
mid cfg b n j = (column (hear cfg (moment b n.event) (falling b n.event) n.event.what (set_now (moment b n.event) b)) j).call

turn-mid : (cfg : Config) (b : Book) (n : Note) (j : ℕ) → talk (column (turn cfg b n) j).call ≡ talk (mid cfg b n j)
unfolding turn mid
turn-mid cfg b n j = reads_same (ashore_in n.event.what) (moment b n.event) j n.deeds (hear cfg (moment b n.event) (falling b n.event) n.event.what (set_now (moment b n.event) b))

is-dialled : (x : Begun) (o : Bool) (c : Call) → c ≡ dialled x o → IsDialled x c
is-dialled x false c h = inl h
is-dialled x true c h = inr h

pub begins : Begins
unfolding Begins mid
begins cfg b n j x t h = go (hear-after cfg b (moment b n.event) (falling b n.event) n.event.what j)
  where
    now-talks : mid cfg b n j ≡ talking x t
    now-talks = talk-is (mid cfg b n j) x t (sym (turn-mid cfg b n j) ∙ ap talk h)

    go : After n.event.what (moment b n.event) j (stops_at cfg (moment b n.event) b (falling b n.event) n.event.what) (column b j).call (mid cfg b n j) → ((column b j).call ≡ talking x t) ⊎ (((n.event.what ≡ answering_on j) × ((moment b n.event ≡ t) × IsDialled x (column b j).call)) ⊎ ((n.event.what ≡ transmitting_on j) × ((moment b n.event ≡ t) × IsRinging x (column b j).call)))
    go (goes_on p) = inl (talk-is (column b j).call x t (sym p ∙ ap talk now-talks))
    go (starts y o p q r) =
        let s : talking y (moment b n.event) ≡ talking x t = sym r ∙ now-talks in
        let sx : y ≡ x = cc in
        let st : moment b n.event ≡ t = cc in
        inr (inl (p, (st, is-dialled x o _ (rw sx at q))))
    go (comes-up y p q r) =
        let s : talking y (moment b n.event) ≡ talking x t = sym r ∙ now-talks in
        let sx : y ≡ x = cc in
        let st : moment b n.event ≡ t = cc in
        inr (inr (p, (st, rw sx at q)))
    go (stopped y v p q r) = let z : quiet ≡ talking x t = sym q ∙ ap talk now-talks in let w : ◌≡◌ {A = ℕ} 0 1 = cc in absurd (omega arith)

pub ends : Ends
unfolding Ends mid stops_in
ends cfg b n j x t h = go (hear-after cfg b (moment b n.event) (falling b n.event) n.event.what j)
  where
    go : After n.event.what (moment b n.event) j (stops_at cfg (moment b n.event) b (falling b n.event) n.event.what) (column b j).call (mid cfg b n j) → ((column (turn cfg b n) j).call ≡ talking x t) ⊎ In (stop_at j x t (moment b n.event)) (stops_in cfg b n)
    go (goes_on p) = inl (talk-is (column (turn cfg b n) j).call x t (turn-mid cfg b n j ∙ p ∙ ap talk h))
    go (starts y o p q r) = let z : dialled y o ≡ talking x t = sym q ∙ h in let w : ◌≡◌ {A = ℕ} 0 1 = cc in absurd (omega arith)
    go (comes-up y p q r) = let z : called y true ≡ talking x t = sym q ∙ h in let w : ◌≡◌ {A = ℕ} 0 1 = cc in absurd (omega arith)
    go (stopped y v p q r) =
        let s : talking y v ≡ talking x t = sym p ∙ h in
        let sx : y ≡ x = cc in
        let sv : v ≡ t = cc in
        inr (rw (sx, sv) at r)

-- the other half of `begins`: a dialled column that is answered talks from then on
pub lifts : Lifts
unfolding Lifts mid
lifts cfg t n ds b j x h = talk-is _ x t (turn-mid cfg b (record { event = record { time = t; room = n; what = answering_on j }; deeds = ds }) j ∙ ap (λ (l : Column). talk l.call) (there (pick_up t) refl j b.columns) ∙ go (column b j) h)
  where
    go : (l : Column) → IsDialled x l.call → talk (pick_up t l).call ≡ talking x t
    go l (inl e) = rw e refl
    go l (inr e) = rw e refl

-- and a ringing one whose ship transmits
pub transmits : Transmits
unfolding Transmits mid
transmits cfg t n ds b j x h = talk-is _ x t (turn-mid cfg b (record { event = record { time = t; room = n; what = transmitting_on j }; deeds = ds }) j ∙ ap (λ (l : Column). talk l.call) (there (come_up t) refl j b.columns) ∙ go (column b j) h)
  where
    go : (l : Column) → IsRinging x l.call → talk (come_up t l).call ≡ talking x t
    go l e = rw e refl
