-- The words of all slots at once: what each event says of them is what the book says.
use mathlib.Core.Path.{◌≡◌, refl, sym, ap, ◌∙◌}
use mathlib.Core.Logic.{◌⊎◌, inl, inr}
use mathlib.Core.Option.{Option, none, some}
use mathlib.Core.List.{List, [], ◌∷◌, ◌++◌, map}
use mathlib.Core.Bool.{Bool, true, false, cond}
use Prim.Native.Nat.{ℕ, zero, suc, ◌<◌}
use lib.ListN.{get_or, length}
use lib.Dec.{eqb}
use Rattle.rules.specs.Rules.Places.{mod_at, Each}
use Rattle.rules.specs.Rules.Words.{Ashore, Deed, carrier_on, carrier_off, acknowledge, call_ship, unable, dial, release_line, ringing_on, ringing_off, busy_tone}
use Rattle.rules.specs.Rules.Actions.{the_coast, Action}
use Rattle.rules.specs.Rules.Station.{Dealing, Slot, Waiting, Station, the_slot, set_slot, set_queue, new_call, ring_back_of}
use Rattle.rules.specs.Rules.Requests.{Out, ignored, also, to_ring_back, rung_back, freed_for, freed, end_acts, coast_end}
use Rattle.rules.specs.ListAlone.Book.{Stop, Column}
use Rattle.rules.specs.ListAlone.LineWords.{Word, worded, unused, idle, outward, line_called}
use Rattle.rules.specs.Statement.{deeds_of}
use Rattle.rules.proofs.PlaceLaws.{mod_at-mod_at, mod_at-none, aside}
use Rattle.rules.proofs.Base.{deeds-append, slot-set, slot-stays}
use Rattle.rules.proofs.Outcome.{Next, stays, becomes, frees, played, leaves, word, all_done, About, move-about, Outcome, passed, moved}
use borrow.Author.Tests.{eqb-true, eqb-false}
use native.Mathlib.Omega.{arith}

-- ── all slots at once ────────────────────────────────────────────────────────

abbrev pub words : Station → List Word
words st = map word st.slots

abbrev pub calls_line : Option Ashore → Word → Word
calls_line q w = worded (line_called q w.line) w.rings

abbrev pub dials_line : Word → Word
dials_line w = worded outward w.rings

abbrev pub frees_line : Word → Word
frees_line w = worded idle w.rings

abbrev pub sets_ringing : Bool → Word → Word
sets_ringing b w = worded w.line b

abbrev pub speak : Option Ashore → Deed → List Word → List Word
speak q (carrier_on i) ws = ws
speak q (carrier_off i) ws = ws
speak q (acknowledge i r) ws = ws
speak q (call_ship i r) ws = mod_at (calls_line q) i ws
speak q (unable n x digits) ws = ws
speak q (dial i n) ws = mod_at dials_line i ws
speak q (release_line i) ws = mod_at frees_line i ws
speak q (ringing_on i) ws = mod_at (sets_ringing true) i ws
speak q (ringing_off i) ws = mod_at (sets_ringing false) i ws
speak q (busy_tone i) ws = ws

unfoldable pub spoken : Option Ashore → List Deed → List Word → List Word
spoken q [] ws = ws
spoken q (d ∷ ds) ws = spoken q ds (speak q d ws)

spoken-append : (q : Option Ashore) (a b : List Deed) (ws : List Word) → spoken q (a ++ b) ws ≡ spoken q b (spoken q a ws)
unfolding spoken
spoken-append q [] b ws = refl
spoken-append q (d ∷ a) b ws = spoken-append q a b (speak q d ws)

-- the piece's deeds, read from the words ws, give the words of what it leaves; q is what was asked ashore in the same entry
pub record SpokenBy (q : Option Ashore) (ws : List Word) (o : Out) : Type 0 where
  pub telling : spoken q (deeds_of o.acts) ws ≡ words o.next

abbrev pub Spoken : List Word → Out → Type 0
Spoken ws o = SpokenBy none ws o

pub told-also : (ws vs : List Word) (a : List Action) (o : Out) → spoken none (deeds_of a) ws ≡ vs → Spoken vs o → Spoken ws (also a o)
told-also ws vs a o h t = record { telling = ap (λ z. spoken none z ws) (deeds-append a o.acts) ∙ spoken-append none (deeds_of a) (deeds_of o.acts) ws ∙ ap (spoken none (deeds_of o.acts)) h ∙ t.telling }

pub told-if : (ws : List Word) (b : Bool) (x y : Out) → Spoken ws x → Spoken ws y → Spoken ws (cond b x y)
told-if ws true x y p q = p
told-if ws false x y p q = q

pub told-ignored : (q : Option Ashore) (ws : List Word) (st : Station) → ws ≡ words st → SpokenBy q ws (ignored st)
unfolding spoken
told-ignored q ws st h = record { telling = h }

same_word : (a b : Slot) (i : ℕ) (l : List Slot) → word a ≡ word b → map word (mod_at (λ x. a) i l) ≡ map word (mod_at (λ x. b) i l)
same_word a b i [] h = refl
same_word a b zero (s ∷ l) h = ap (λ w. w ∷ map word l) h
same_word a b (suc i) (s ∷ l) h = ap (λ r. word s ∷ r) (same_word a b i l h)

-- one of them
at_place : (f : Word → Word) (i : ℕ) (ws : List Word) → i < length ws → get_or (mod_at f i ws) i unused ≡ f (get_or ws i unused)
at_place f i [] h = absurd (omega arith)
at_place f zero (w ∷ ws) h = refl
at_place f (suc i) (w ∷ ws) h = at_place f i ws (omega arith)

pub one_of : (f : Word → Word) (i j : ℕ) (ws : List Word) → i < length ws → cond (eqb i j) (f (get_or ws i unused)) (get_or ws i unused) ≡ get_or (mod_at f j ws) i unused
one_of f i j ws h = go (eqb i j) refl
  where
    go : (b : Bool) → eqb i j ≡ b → cond b (f (get_or ws i unused)) (get_or ws i unused) ≡ get_or (mod_at f j ws) i unused
    go true e = rw (← (eqb-true i j e)) (sym (at_place f i ws h))
    go false e = elsewhere (aside unused f j i ws)
      where
        elsewhere : (i ≡ j) ⊎ (get_or (mod_at f j ws) i unused ≡ get_or ws i unused) → get_or ws i unused ≡ get_or (mod_at f j ws) i unused
        elsewhere (inl p) = absurd (eqb-false i j e p)
        elsewhere (inr q) = sym q

-- ── the pieces ───────────────────────────────────────────────────────────────

module _ (i : ℕ) (st : Station) where
  -- the slot's word becomes that of q
  pub turns-to : (f : Word → Word) (q : Slot) → f (word (the_slot st i)) ≡ word q → mod_at f i (words st) ≡ words (set_slot i q st)
  unfolding set_slot
  turns-to f q h = slot-set st word f q i h

  pub keeps : (q : Slot) → word (the_slot st i) ≡ word q → words st ≡ words (set_slot i q st)
  unfolding set_slot
  keeps q h = mod_at-none i (words st) ∙ turns-to (λ w. w) q h

  rests : (f : Word → Word) → f (word (the_slot st i)) ≡ word (the_slot st i) → mod_at f i (words st) ≡ words st
  rests f h = slot-stays st word f i h

  freed_for-told : (ws : List Word) → ws ≡ words (set_slot i (leaves (the_slot st i) frees) st) → (q : List Waiting) → Spoken ws (freed_for i st q)
  unfolding freed_for rung_back spoken set_slot set_queue new_call
  freed_for-told ws h [] = record { telling = h }
  freed_for-told ws h (w ∷ q) = record { telling = sym (mod_at-none i ws) ∙ h ∙ same_word (leaves (the_slot st i) frees) (ring_back_of w.request st) i st.slots refl }

  freed-told : (ws : List Word) → ws ≡ words (set_slot i (leaves (the_slot st i) frees) st) → Spoken ws (freed i st)
  unfolding freed
  freed-told ws h = freed_for-told ws h (to_ring_back st)

  -- the line is released
  pub coast_end-told : (r : Dealing) (g : Option ℕ) → (word (the_slot st i)).rings ≡ false → Spoken (words st) (coast_end i r g st)
  unfolding coast_end spoken
  coast_end-told r none h = told-also (words st) (mod_at frees_line i (words st)) (end_acts i the_coast r none st.clock) (freed i st) refl (freed-told (mod_at frees_line i (words st)) (turns-to frees_line _ (ap (worded idle) h)))
  coast_end-told r (some b) h = told-also (words st) (mod_at frees_line i (words st)) (end_acts i the_coast r (some b) st.clock) (freed i st) refl (freed-told (mod_at frees_line i (words st)) (turns-to frees_line _ (ap (worded idle) h)))

  -- ── whatever happens to the slot ──
  spoken-here : (ds : List Deed) (f : Word → Word) (ws : List Word) → Each (About i []) ds → spoken none ds (mod_at f i ws) ≡ mod_at (λ w. all_done ds (f w)) i ws
  unfolding spoken
  spoken-here [] f ws a = refl
  spoken-here (carrier_on j ∷ ds) f ws a = spoken-here ds f ws a.1
  spoken-here (carrier_off j ∷ ds) f ws a = spoken-here ds f ws a.1
  spoken-here (acknowledge j r ∷ ds) f ws a = spoken-here ds f ws a.1
  spoken-here (call_ship j r ∷ ds) f ws a = rw (← a.0.0, mod_at-mod_at f (λ w. w) i ws) (spoken-here ds f ws a.1)
  spoken-here (unable n x digits ∷ ds) f ws a = absurd a.0
  spoken-here (dial j n ∷ ds) f ws a = rw (← a.0, mod_at-mod_at f dials_line i ws) (spoken-here ds (λ w. dials_line (f w)) ws a.1)
  spoken-here (release_line j ∷ ds) f ws a = rw (← a.0, mod_at-mod_at f frees_line i ws) (spoken-here ds (λ w. frees_line (f w)) ws a.1)
  spoken-here (ringing_on j ∷ ds) f ws a = rw (← a.0, mod_at-mod_at f (sets_ringing true) i ws) (spoken-here ds (λ w. sets_ringing true (f w)) ws a.1)
  spoken-here (ringing_off j ∷ ds) f ws a = rw (← a.0, mod_at-mod_at f (sets_ringing false) i ws) (spoken-here ds (λ w. sets_ringing false (f w)) ws a.1)
  spoken-here (busy_tone j ∷ ds) f ws a = spoken-here ds f ws a.1

  played-told : (f : Word → Word) (p : Slot) (n : Next) (acts : List Action) → the_slot st i ≡ p → Each (About i []) (deeds_of acts) → all_done (deeds_of acts) (f (word p)) ≡ word (leaves p n) → Spoken (mod_at f i (words st)) (played i st n acts)
  played-told f p stays acts e a h = record { telling = spoken-here (deeds_of acts) f (words st) a ∙ rests (λ w. all_done (deeds_of acts) (f w)) (rw e h) }
  played-told f p (becomes q) acts e a h = record { telling = spoken-here (deeds_of acts) f (words st) a ∙ turns-to (λ w. all_done (deeds_of acts) (f w)) q (rw e h) }
  played-told f p frees acts e a h = told-also (mod_at f i (words st)) (mod_at (λ w. all_done (deeds_of acts) (f w)) i (words st)) acts (freed i st) (spoken-here (deeds_of acts) f (words st) a) (freed-told _ (turns-to (λ w. all_done (deeds_of acts) (f w)) _ (rw e h)))

  pub outcome-told : {f : Column → Column} {w : Word → Word} {cs : List Stop} {o : Out} (p : Slot) → Outcome i st f w cs p o → the_slot st i ≡ p → Spoken (mod_at w i (words st)) o
  outcome-told {w = w} p (passed a b c) e = told-ignored none (mod_at w i (words st)) st (rests w (rw e b))
  outcome-told {w = w} p (moved {n} {acts} u a b c) e = played-told w p n acts e (move-about [] i st.clock p n acts u (λ k r d h. refl)) b
