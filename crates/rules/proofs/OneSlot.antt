-- What the list reads of any outcome of a slot is what it leaves.
use mathlib.Core.Path.{◌≡◌, refl, ap, ◌∙◌}
use mathlib.Core.List.{List, [], ◌∷◌, map, append-nil}
use mathlib.Core.Bool.{Bool, true, false, not}
use mathlib.Core.Option.{Option, none, some}
use Prim.Native.Nat.{ℕ, zero, ◌<◌}
use lib.ListN.{length}
use Rattle.rules.specs.Rules.Places.{lowest, Each}
use Rattle.rules.specs.Rules.Words.{Party, is, Deed, carrier_on, carrier_off, acknowledge, call_ship, unable, dial, release_line, ringing_on, ringing_off, busy_tone}
use Rattle.rules.specs.Rules.Actions.{Action, does, over, Ender, the_ship, the_coast}
use Rattle.rules.specs.Rules.Station.{Kind, first_ring_back, first_call, rings, answered_at, Dealing, Slot, pending, is_free, Waiting, Station, the_slot, set_slot}
use Rattle.rules.specs.Rules.Requests.{Out, freed, end_acts, waits_for}
use Rattle.rules.specs.Rules.Calls.{drop_acts}
use Rattle.rules.specs.ListAlone.Book.{Stop, Column, Book, at_column}
use Rattle.rules.specs.ListAlone.Reading.{CountedColumn, goes_on, summon, dial_up, let_go, hush, leave, reads}
use Rattle.rules.specs.ListAlone.LineWords.{Word}
use Rattle.rules.specs.Statement.{deeds_of, charges_of, owed}
use Rattle.rules.proofs.PlaceLaws.{shift_none}
use Rattle.rules.proofs.Base.{view, place, seen, at_line², stay, moves, counts, slot-there}
use Rattle.rules.proofs.Outcome.{Next, stays, becomes, frees, Move, to-dial, to-agree, to-ring, to_drop, to-call, to-rings, to-answer, to-let-go, to-stage, to-lose, to-regain, to-hold, to_end, to-repeat, to-run-out, to_take, to-give, played, leaves, columns_done, Apart, Outcome, passed, moved}
use Rattle.rules.proofs.Pieces.{Good, good-also, book-is, freed-good}

pub leave_none : (x : Party) (q : List Waiting) → lowest (waits_for x) q ≡ none → leave x (map place q) ≡ map place q
leave_none x [] h = refl
leave_none x (w ∷ q) h = go (is x w.request.who) refl (λ e. leave_none x q e)
  where
    go : (b : Bool) → is x w.request.who ≡ b → (lowest (waits_for x) q ≡ none → leave x (map place q) ≡ map place q) → leave x (map place (w ∷ q)) ≡ map place (w ∷ q)
    go true e ih = let k : ◌≡◌ {A = Option ℕ} (some zero) none = rw e at h in cc
    go false e ih = rw e (ap (λ z. place w ∷ z) (ih (shift_none _ (rw e at h))))

-- ── what is said of a slot: a call once more, or what begins none ─────────────

-- a deed about the slot i that begins no call
abbrev Plain : ℕ → Deed → Type 0
Plain i (carrier_on j) = i ≡ j
Plain i (carrier_off j) = i ≡ j
Plain i (acknowledge j r) = ⊥
Plain i (call_ship j r) = ⊥
Plain i (unable n x digits) = ⊥
Plain i (dial j digits) = i ≡ j
Plain i (release_line j) = i ≡ j
Plain i (ringing_on j) = i ≡ j
Plain i (ringing_off j) = i ≡ j
Plain i (busy_tone j) = i ≡ j

-- a slot that is freed was not free
abbrev NotIdle : Next → Slot → Type 0
NotIdle stays p = Unit {0}
NotIdle (becomes q) p = Unit {0}
NotIdle frees p = is_free p ≡ false

data Telling (i : ℕ) : Slot → Next → List Action → Type 0 where
  plainly : {p : Slot} {n : Next} {acts : List Action} → Each (Plain i) (deeds_of acts) → NotIdle n p → Telling i p n acts
  once_more : (k : Kind) (r : Dealing) (d : ℕ) (q : Slot) → Telling i (pending k r d) (becomes q) (does (call_ship i r.request) ∷ [])

end-plain : (i : ℕ) (e : Ender) (r : Dealing) (b : Option ℕ) (t : ℕ) → Each (Plain i) (deeds_of (end_acts i e r b t))
end-plain i e r none t = (refl, (refl, tt))
end-plain i e r (some b) t = (refl, (refl, tt))

drop-plain : (i : ℕ) (rung tone : Bool) → Each (Plain i) (deeds_of (drop_acts i rung tone))
drop-plain i false false = (refl, (refl, tt))
drop-plain i false true = (refl, (refl, (refl, tt)))
drop-plain i true false = (refl, (refl, (refl, tt)))
drop-plain i true true = (refl, (refl, (refl, (refl, tt))))

move-telling : (i t : ℕ) (p : Slot) (n : Next) (acts : List Action) → Move i t p n acts → Telling i p n acts
move-telling i t _ _ _ (to-dial k r d z) = plainly {acts = does (dial i r.request.number) ∷ []} (refl, tt) tt
move-telling i t _ _ _ (to-agree k r d z) = plainly {acts = []} tt tt
move-telling i t _ _ _ (to-ring r d) = once_more first_ring_back r d _
move-telling i t _ _ _ (to_drop k r d z) = plainly {acts = does (carrier_off i) ∷ []} (refl, tt) refl
move-telling i t _ _ _ (to-call r d) = once_more first_call r d _
move-telling i t _ _ _ (to-rings k r d z) = plainly {acts = does (ringing_on i) ∷ []} (refl, tt) tt
move-telling i t _ _ _ (to-answer r d) = plainly {acts = does (ringing_off i) ∷ []} (refl, tt) tt
move-telling i t _ _ _ (to-let-go k r d tone) = plainly {acts = drop_acts i (rings k) tone} (drop-plain i (rings k) tone) refl
move-telling i t _ _ _ (to-stage r n q c z) = plainly {acts = []} tt tt
move-telling i t _ _ _ (to-lose r g c) = plainly {acts = []} tt tt
move-telling i t _ _ _ (to-regain r g c) = plainly {acts = []} tt tt
move-telling i t _ _ _ (to-hold r g c) = plainly {acts = end_acts i the_ship r (answered_at g) t} (end-plain i the_ship r (answered_at g) t) tt
move-telling i t _ _ _ (to_end r g c) = plainly {acts = end_acts i the_coast r (answered_at g) t} (end-plain i the_coast r (answered_at g) t) refl
move-telling i t _ _ _ (to-repeat r n d) = plainly {acts = does (carrier_on i) ∷ over i the_ship r.request.who r.request.number n ∷ does (carrier_off i) ∷ []} (refl, (refl, tt)) tt
move-telling i t _ _ _ (to-run-out r n d) = plainly {acts = []} tt refl
move-telling i t _ _ _ to_take = plainly {acts = []} tt tt
move-telling i t _ _ _ to-give = plainly {acts = []} tt refl

-- deeds about one slot that begin no call are read on its column alone
reads_here : (t i : ℕ) (b : Book) (ds : List Deed) (f : Column → Column) → Each (Plain i) ds → reads none t ds (at_column i f b) ≡ at_column i (λ l. (columns_done t ds (f l) b.given).line) b
unfolding reads
reads_here t i b [] f a = refl
reads_here t i b (carrier_on j ∷ ds) f a = reads_here t i b ds f a.1
reads_here t i b (carrier_off j ∷ ds) f a = rw (← a.0, at_line² i f hush b) (reads_here t i b ds (λ l. hush (f l)) a.1)
reads_here t i b (acknowledge j r ∷ ds) f a = absurd a.0
reads_here t i b (call_ship j r ∷ ds) f a = absurd a.0
reads_here t i b (unable n x digits ∷ ds) f a = absurd a.0
reads_here t i b (ringing_on j ∷ ds) f a = reads_here t i b ds f a.1
reads_here t i b (ringing_off j ∷ ds) f a = reads_here t i b ds f a.1
reads_here t i b (busy_tone j ∷ ds) f a = reads_here t i b ds f a.1
reads_here t i b (dial j n ∷ ds) f a = rw (← a.0, at_line² i f (dial_up t) b) (reads_here t i b ds (λ l. dial_up t (f l)) a.1)
reads_here t i b (release_line j ∷ ds) f a = rw (← a.0, at_line² i f let_go b) (reads_here t i b ds (λ l. let_go (f l)) a.1)

module _ (i : ℕ) (st : Station) (p : Slot) (e : the_slot st i ≡ p) where
  -- a slot that is not free is there
  there : is_free p ≡ false → i < length st.slots
  there h = slot-there st (λ s. not (is_free s)) refl i (rw (e, h) refl)

  -- what is read of plain deeds
  lines : List Action → (Column → Column) → Column → Column
  lines acts f l = (columns_done st.clock (deeds_of acts) (f l) st.last_call).line

  played-good : (f : Column → Column) (cs : List Stop) (n : Next) (acts : List Action) → Each (Plain i) (deeds_of acts) → NotIdle n p
      → columns_done st.clock (deeds_of acts) (f (view p)) st.last_call ≡ goes_on (view (leaves p n)) st.last_call → charges_of acts ≡ map owed cs → Good st.clock (at_column i f (seen st)) cs (played i st n acts)
  unfolding seen lines
  played-good f cs stays acts a z h c = record { reading = reads_here st.clock i (seen st) (deeds_of acts) f a ∙ stay i st p e (lines acts f) (ap (λ (k : CountedColumn). k.line) h); charging = c }
  played-good f cs (becomes q) acts a z h c = record { reading = reads_here st.clock i (seen st) (deeds_of acts) f a ∙ moves i st p e (lines acts f) q (ap (λ (k : CountedColumn). k.line) h); charging = c }
  played-good f cs frees acts a z h c = rw (← (append-nil cs)) (good-also st.clock (at_column i f (seen st)) (at_column i (lines acts f) (seen st)) cs [] acts (freed i st) (reads_here st.clock i (seen st) (deeds_of acts) f a) c (freed-good i st p e (there z) (lines acts f) (ap (λ (k : CountedColumn). k.line) h)))

told-good : (i : ℕ) (st : Station) (p : Slot) → the_slot st i ≡ p → (f : Column → Column) (cs : List Stop) (n : Next) (acts : List Action) → Telling i p n acts → Apart (map place st.queue) p
    → columns_done st.clock (deeds_of acts) (f (view p)) st.last_call ≡ goes_on (view (leaves p n)) st.last_call → charges_of acts ≡ map owed cs → Good st.clock (at_column i f (seen st)) cs (played i st n acts)
unfolding reads seen set_slot
told-good i st p e f cs n acts (plainly a z) u h c = played-good i st p e f cs n acts a z h c
told-good i st _ e f cs _ _ (once_more k r d q) u h c =
    let g = counts i st (pending k r d) e (there i st (pending k r d) e refl) f (summon st.clock r.request) q st.last_call h in
    record { reading = book-is refl (ap (λ (b : Book). b.columns) g) (u k r d refl) (ap (λ (b : Book). b.given) g); charging = c }

module _ (i : ℕ) (st : Station) (p : Slot) (e : the_slot st i ≡ p) where
  pub outcome-good : {f : Column → Column} {w : Word → Word} {cs : List Stop} {o : Out} → Outcome i st f w cs p o → Apart (map place st.queue) p → Good st.clock (at_column i f (seen st)) cs o
  unfolding reads
  outcome-good {f} (passed a b c) h = record { reading = stay i st p e f a; charging = c }
  outcome-good {f} {cs = cs} (moved {n} {acts} u a b c) h = told-good i st p e f cs n acts (move-telling i st.clock p n acts u) h a c
