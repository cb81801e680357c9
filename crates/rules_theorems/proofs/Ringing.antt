-- `RingingAsTold` and `RingingInTurn`: 8 and 9 alternate on every slot, and it rings by the last of them.
use mathlib.Core.Path.{◌≡◌, refl, sym, ap, ◌∙◌}
use mathlib.Core.List.{List, [], ◌∷◌, ◌++◌}
use mathlib.Core.Bool.{Bool, true, false}
use Prim.Native.Nat.{ℕ}
use lib.Dec.{eqb}
use borrow.Author.Tests.{eq-eqb, ne_eqb}
use Rattle.sequence.proofs.Tests.{Either, yes!, no!, which}
use Rattle.rules.specs.Rules.Places.{Each}
use Rattle.rules.specs.Rules.Words.{Config, Event, Deed, carrier_on, carrier_off, acknowledge, call_ship, unable, dial, release_line, ringing_on, ringing_off, busy_tone}
use Rattle.rules.specs.Rules.Actions.{the_ship, the_coast, Action}
use Rattle.rules.specs.Rules.Station.{Kind, is_called, rings, is_called_in, rings_in, answered_at, Dealing, Slot, Station, the_slot, fresh}
use Rattle.rules.specs.Rules.Calls.{drop_acts, act}
use Rattle.rules.specs.ListAlone.Repeated.{Dials}
use Rattle.rules.specs.ListAlone.LineWords.{ringing_done, ringings_done, ringing_after, ringing_switch, ringing_switches, change}
use Rattle.rules.specs.Statement.{deeds_of, IsFreed, RingingAsTold, RingingInTurn}
use Rattle.rules.proofs.Base.{by-slot, by-kind, said_of, slot-each, fresh-each}
use Rattle.rules.proofs.Outcome.{becomes, frees, Move, to-dial, to-agree, to-ring, to_drop, to-call, to-rings, to-answer, to-let-go, to-stage, to-lose, to-regain, to-hold, to_end, to-run-out, to_take, to-give}
use Rattle.rules_theorems.proofs.Course.{Unrung, end-unrung, Course, spared, calls, turned, let_go, act-course}
use Rattle.rules_theorems.proofs.Entries.{Reader, FitsOn, run-final, run-entries}

-- ── which slots do not ring ──────────────────────────────────────────────────

kind-unrung : (k : Kind) → is_called k ≡ false → rings k ≡ false
kind-unrung = by-kind (λ k. is_called k ≡ false → rings k ≡ false) (λ h. refl) (λ h. refl) (λ h. refl) (λ h. refl) (λ h. refl) (λ h. refl) (λ h. cc)

dialled-unrung : (k : Kind) (r : Dealing) → Dials r.request.number (said_of k r) → rings k ≡ false
dialled-unrung k r = by-kind (λ z. Dials r.request.number (said_of z r) → rings z ≡ false) (λ h. refl) (λ h. refl) (λ h. refl) (λ h. refl) (λ h. refl) (λ h. refl) (λ h. absurd h) k

slot-unrung : (s : Slot) → is_called_in s ≡ false → rings_in s ≡ false
slot-unrung = by-slot (λ s. is_called_in s ≡ false → rings_in s ≡ false) (λ h. refl) (λ h. refl) (λ k r d. kind-unrung k) (λ r g c h. refl) (λ r n d h. refl)

freed-unrung : (s : Slot) → IsFreed s → rings_in s ≡ false
freed-unrung = by-slot (λ s. IsFreed s → rings_in s ≡ false) (λ h. refl) (λ h. absurd h) (λ k r d h. rw h refl) (λ r g c h. absurd h) (λ r n d h. absurd h)

-- ── deeds that change it, or not ─────────────────────────────────────────────

-- slot i rings before them by b and after them by c
record Swung (i : ℕ) (ds : List Deed) (b c : Bool) : Type 0 where
  given : ringing_switches i ds ≡ change b c
  tells : ringings_done i ds b ≡ c

no_change : (b : Bool) → [] ≡ change b b
no_change true = refl
no_change false = refl

module _ (i : ℕ) where
  one-unrung : (d : Deed) → Unrung i d → (l : List Bool) (b : Bool) → (ringing_switch i d l ≡ l) × (ringing_done i d b ≡ b)
  one-unrung (carrier_on j) u l b = (refl, refl)
  one-unrung (carrier_off j) u l b = (refl, refl)
  one-unrung (acknowledge j r) u l b = (refl, refl)
  one-unrung (call_ship j r) u l b = (refl, refl)
  one-unrung (unable n x digits) u l b = (refl, refl)
  one-unrung (dial j digits) u l b = (refl, refl)
  one-unrung (release_line j) u l b = (refl, refl)
  one-unrung (ringing_on j) u l b = (rw (ne_eqb i j u) refl, rw (ne_eqb i j u) refl)
  one-unrung (ringing_off j) u l b = (rw (ne_eqb i j u) refl, rw (ne_eqb i j u) refl)
  one-unrung (busy_tone j) u l b = (refl, refl)

  all-unrung : (ds : List Deed) → Each (Unrung i) ds → (b : Bool) → (ringing_switches i ds ≡ []) × (ringings_done i ds b ≡ b)
  all-unrung [] u b = (refl, refl)
  all-unrung (d ∷ ds) u b =
      let x = one-unrung d u.0 (ringing_switches i ds) b in
      let y = all-unrung ds u.1 b in
      (x.0 ∙ y.0, rw x.1 y.1)

  unrung : (ds : List Deed) → Each (Unrung i) ds → (b c : Bool) → b ≡ c → Swung i ds b c
  unrung ds u b c e = let x = all-unrung ds u b in rw (← e) (record { given = x.0 ∙ no_change b; tells = x.1 })

  -- and then no 8 nor 9
  swung-then : (a ds : List Deed) → Each (Unrung i) ds → (b c : Bool) → Swung i a b c → Swung i (a ++ ds) b c
  swung-then a ds u b c s = record { given = tolled a ∙ s.given; tells = rung a b ∙ s.tells }
    where
      tolled : (a : List Deed) → ringing_switches i (a ++ ds) ≡ ringing_switches i a
      tolled [] = (all-unrung ds u b).0
      tolled (d ∷ a) = ap (ringing_switch i d) (tolled a)

      rung : (a : List Deed) (b : Bool) → ringings_done i (a ++ ds) b ≡ ringings_done i a b
      rung [] b = (all-unrung ds u b).1
      rung (d ∷ a) b = rung a (ringing_done i d b)

  -- ── what a slot does ───────────────────────────────────────────────────────

  here : eqb i i ≡ true
  here = eq-eqb i i refl

  turned-swung : (t : ℕ) (p q : Slot) (acts : List Action) → Move i t p (becomes q) acts → Swung i (deeds_of acts) (rings_in p) (rings_in q)
  turned-swung t _ _ _ (to-dial k r d z) = unrung _ (tt, tt) _ false (dialled-unrung k r z)
  turned-swung t _ _ _ (to-agree k r d z) = unrung [] tt _ false (kind-unrung k z)
  turned-swung t _ _ _ (to-ring r d) = record { given = refl; tells = refl }
  turned-swung t _ _ _ (to-call r d) = record { given = refl; tells = refl }
  turned-swung t _ _ _ (to-rings k r d z) = record { given = rw (here, z) refl; tells = rw here refl }
  turned-swung t _ _ _ (to-answer r d) = record { given = rw here refl; tells = rw here refl }
  turned-swung t _ _ _ (to-stage r g q c z) = record { given = refl; tells = refl }
  turned-swung t _ _ _ (to-lose r g c) = record { given = refl; tells = refl }
  turned-swung t _ _ _ (to-regain r g c) = record { given = refl; tells = refl }
  turned-swung t _ _ _ (to-hold r g c) = unrung _ (end-unrung i i the_ship r (answered_at g) t) false false refl
  turned-swung t _ _ _ to_take = record { given = refl; tells = refl }

  -- "ringing off if it rings"
  drop-swung : (b tone : Bool) → Swung i (deeds_of (drop_acts i b tone)) b false
  drop-swung false false = record { given = refl; tells = refl }
  drop-swung false true = record { given = refl; tells = refl }
  drop-swung true false = record { given = rw here refl; tells = rw here refl }
  drop-swung true true = record { given = rw here refl; tells = rw here refl }

  freed-swung : (t : ℕ) (p : Slot) (acts : List Action) → Move i t p frees acts → Swung i (deeds_of acts) (rings_in p) false
  freed-swung t _ _ (to_drop k r d z) = unrung _ (tt, tt) _ false (kind-unrung k z)
  freed-swung t _ _ (to-let-go k r d tone) = drop-swung (rings k) tone
  freed-swung t _ _ (to_end r g c) = unrung _ (end-unrung i i the_coast r (answered_at g) t) false false refl
  freed-swung t _ _ (to-run-out r n d) = record { given = refl; tells = refl }
  freed-swung t _ _ to-give = record { given = refl; tells = refl }

  course-swung : (t : ℕ) (p q : Slot) (ds : List Deed) → Course i t p ds q → Swung i ds (rings_in p) (rings_in q)
  course-swung t p q ds (spared s) = unrung ds s.unrung _ _ (go (which (is_called_in p)))
    where
      go : Either (is_called_in p) → rings_in p ≡ rings_in q
      go (yes! h) = ap rings_in (sym (s.kept h).0)
      go (no! h) = slot-unrung p h ∙ sym (slot-unrung q (s.uncalled h))
  course-swung t p q _ (calls r x y) = unrung _ (tt, (tt, tt)) _ _ (slot-unrung p x ∙ sym y)
  course-swung t p q _ (turned {acts = acts} u) = turned-swung t p q acts u
  course-swung t p q _ (let_go {acts = acts} ds u f a) = swung-then (deeds_of acts) ds a.0 _ _ (rw (freed-unrung q f) (freed-swung t p acts u))

  -- ── the run ────────────────────────────────────────────────────────────────

  keeps-ringing : Reader Bool
  unfolding ringing_after
  keeps-ringing = record { on = λ n. ringings_done i n.deeds; after = ringing_after i; at_first = λ b. refl; one_by_one = λ n l b. refl }

  abbrev IsRinging : Bool → Station → Type 0
  IsRinging b st = b ≡ rings_in (the_slot st i)

  event-swung : (cfg : Config) (st : Station) (e : Event) → Swung i (deeds_of (act cfg st e).acts) (rings_in (the_slot st i)) (rings_in (the_slot (act cfg st e).next i))
  event-swung cfg st e = course-swung _ _ _ _ (act-course cfg st e.time e.what i)

  ringing-on : (cfg : Config) → FitsOn keeps-ringing cfg IsRinging
  unfolding keeps-ringing
  ringing-on cfg b st e v f = rw f (event-swung cfg st e).tells

  fresh-rings : (cfg : Config) → IsRinging false (fresh cfg)
  fresh-rings cfg = slot-each (fresh cfg) (λ s. false ≡ rings_in s) refl i (fresh-each cfg (λ s. false ≡ rings_in s) refl)

-- the last of 8 and 9 tells whether it rings
pub ringing-as-told : RingingAsTold
unfolding RingingAsTold keeps-ringing
ringing-as-told cfg set es i = run-final (keeps-ringing i) cfg (IsRinging i) (ringing-on i cfg) es false (fresh cfg) (fresh-rings i cfg)

-- and they alternate
pub ringing-in-turn : RingingInTurn
unfolding RingingInTurn keeps-ringing
ringing-in-turn cfg set es before n after e i = run-entries (keeps-ringing i) cfg (IsRinging i) (ringing-on i cfg) (λ b m. ringing_switches i m.deeds ≡ change b (ringings_done i m.deeds b)) (λ b st x v f. rw f (let s = event-swung i cfg st x in rw s.tells s.given)) es false (fresh cfg) (fresh-rings i cfg) before n after e
