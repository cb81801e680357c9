-- Everything that an event sends is a sequence, by the pieces of the rules, of a station whose stored requests keep them.
use Prim.Native.Nat.{ℕ, ◌<◌}
use mathlib.Core.Path.{◌≡◌, refl}
use mathlib.Core.Bool.{Bool, true, false, cond, not}
use mathlib.Core.List.{List, [], ◌∷◌}
use mathlib.Core.Option.{Option, none, some}
use native.Mathlib.Omega.{arith}
use lib.Dec.{ltb}
use lib.ListN.{length}
use Rattle.sequence.specs.Field.{unable_second}
use Rattle.sequence.proofs.Tests.{both_true}
use Rattle.rules.specs.Rules.Places.{all, Each, lowest}
use Rattle.rules.specs.Rules.Words.{Request, Config, unable}
use Rattle.rules.specs.Rules.Actions.{Action, Ender, the_ship, the_coast, does}
use Rattle.rules.specs.Rules.Station.{rings, Dealing, Slot, pending, busy, Waiting, Station, the_slot, used_up, answered_at, is_free}
use Rattle.rules.specs.Rules.Sound.{config_keeps, request_keeps, duration_keeps, slot_keeps, waiting_keeps, queue_room}
use Rattle.rules.specs.Rules.Requests.{Out, to_ring_back, rung_back, freed_for, freed, lasted, end_acts, coast_end, Standing, nowhere, holds, waits, place_of, no_number, repeated, afresh, rule_d, offer, rule_f, rule_g, e_to_g, newcomer, waiting_or_new, d_to_g, redial, requested}
use Rattle.rules.specs.Rules.Ashore.{slot_to_take, called_from}
use Rattle.rules.specs.Rules.Calls.{drop_acts}
use Rattle.rules.specs.ListAlone.Book.{Stop, Column}
use Rattle.rules.specs.ListAlone.LineWords.{Word}
use Rattle.rules.proofs.PlaceLaws.{each_append, lowest-there}
use Rattle.rules.proofs.Outcome.{Next, stays, becomes, frees, Move, to-dial, to-agree, to-ring, to-call, to-rings, to-answer, to-let-go, to_drop, to-stage, to-lose, to-regain, to-hold, to_end, to-repeat, to-run-out, to_take, to-give, Outcome, passed, moved}
use Rattle.rules.proofs.Ruling.{Ruling, passes, repeats, renews, runs-out, redials, b_or_c-ruling}
use Rattle.rules.proofs.Stored.{Stored, stored-closed, lasted-keeps}
use Rattle.rules.proofs.Base.{slot-all, slot-there, slot-taken}
use Rattle.actions.proofs.Speaking.{Speaks, small, acknowledge-speaks, call_ship-speaks, unable-speaks, over-speaks}

-- ── the pieces ───────────────────────────────────────────────────────────────

abbrev pub Says : Config → Out → Type 0
Says c o = Each (Speaks c) o.acts

module _ (c : Config) (good : config_keeps c ≡ true) where
  says_if : (b : Bool) (x y : Out) → Says c x → Says c y → Says c (cond b x y)
  says_if true x y p q = p
  says_if false x y p q = q

  end-says : (i : ℕ) → i < length c.channels → (e : Ender) (r : Dealing) (b : Option ℕ) (t : ℕ) → request_keeps c r.request ≡ true → Each (Speaks c) (end_acts i e r b t)
  end-says i h e r none t k = let b = small c good i h in ((refl, b), (over-speaks c good r.request k i h e (lasted none t) (lasted-keeps none t), ((refl, b), tt)))
  end-says i h e r (some a) t k = let b = small c good i h in ((refl, b), ((refl, b), (over-speaks c good r.request k i h e (lasted (some a) t) (lasted-keeps (some a) t), ((refl, b), tt))))

  drop-says : (i : ℕ) → i < length c.channels → (ringing tone : Bool) → Each (Speaks c) (drop_acts i ringing tone)
  drop-says i h true true = let b = small c good i h in ((refl, b), ((refl, b), ((refl, b), ((refl, b), tt))))
  drop-says i h true false = let b = small c good i h in ((refl, b), ((refl, b), ((refl, b), tt)))
  drop-says i h false true = let b = small c good i h in ((refl, b), ((refl, b), ((refl, b), tt)))
  drop-says i h false false = let b = small c good i h in ((refl, b), ((refl, b), tt))

  -- a stored request
  module _ (st : Station) (s : Stored c st) where
    known : (i : ℕ) → i < length st.slots → i < length c.channels
    known i h = let m = s.many in omega arith

    placed : (i : ℕ) (p : Slot) → the_slot st i ≡ p → is_free p ≡ false → i < length c.channels
    placed i p e f = known i (slot-there st (λ s. not (is_free s)) refl i (rw (e, f)))

    slot-keeps : (i : ℕ) (p : Slot) → the_slot st i ≡ p → slot_keeps c p ≡ true
    slot-keeps i p e = rw e at (slot-all st (slot_keeps c) refl i s.slots-keep)

    module _ (i : ℕ) (there : i < length c.channels) where
      freed_for-says : (q : List Waiting) → all (waiting_keeps c) q ≡ true → Says c (freed_for i st q)
      unfolding freed_for rung_back
      freed_for-says [] h = tt
      freed_for-says (w ∷ q) h = ((refl, small c good i there), (call_ship-speaks c good w.request (both_true (waiting_keeps c w) (all (waiting_keeps c) q) h).0 i there, tt))

      freed-says : Says c (freed i st)
      unfolding freed
      freed-says = freed_for-says (to_ring_back st) (go (used_up st))
        where
          go : (b : Bool) → all (waiting_keeps c) (cond b [] st.queue) ≡ true
          go true = refl
          go false = s.queue-keeps

      coast_end-says : (r : Dealing) (g : Option ℕ) → request_keeps c r.request ≡ true → Says c (coast_end i r g st)
      unfolding coast_end
      coast_end-says r g k = each_append (Speaks c) (end_acts i the_coast r g st.clock) (freed i st).acts (end-says i there the_coast r g st.clock k) freed-says

  -- ── a request that keeps the rules ─────────────────────────────────────────

  module _ (r : Request) (kept : request_keeps c r ≡ true) where
    queued : Speaks c (does (unable 103 r.who r.number))
    unfolding unable_second
    queued = unable-speaks c good r kept 103 refl

    full : Speaks c (does (unable 102 r.who r.number))
    unfolding unable_second
    full = unable-speaks c good r kept 102 refl

    -- 02, no. 4: no number is left
    no_number_lem : (st : Station) → Says c (no_number st r)
    unfolding no_number unable_second
    no_number_lem st = (unable-speaks c good r kept 107 refl, tt)

    afresh-says : (st : Station) (i : ℕ) → i < length c.channels → Says c (afresh i st r)
    unfolding afresh
    afresh-says st i h = (acknowledge-speaks c good r kept i h, tt)

    module _ (st : Station) (s : Stored c st) where
      e_to_g-says : (o : Option ℕ) → lowest is_free st.slots ≡ o → Says c (e_to_g st r o)
      unfolding e_to_g offer afresh rule_f rule_g
      e_to_g-says (some i) e =
          let h = known st s i (lowest-there is_free st.slots i e) in
          ((refl, small c good i h), (acknowledge-speaks c good r kept i h, tt))
      e_to_g-says none e = says_if (ltb (length st.queue) queue_room) (rule_f st r) (rule_g st r) (queued, tt) (full, tt)

      -- 02, no. 2: it is asked for ashore
      pub called-says : (i : ℕ) → slot_to_take st ≡ some i → Says c (called_from st r (some i))
      unfolding called_from
      called-says i e =
          let h = known st s i (lowest-there is_free st.slots i (slot-taken st i e).1) in
          ((refl, small c good i h), (call_ship-speaks c good r kept i h, tt))

      waiting_or_new-says : (k : Option ℕ) → Says c (waiting_or_new st r k)
      unfolding waiting_or_new newcomer rule_d
      waiting_or_new-says none = e_to_g-says (lowest is_free st.slots) refl
      waiting_or_new-says (some k) = (queued, tt)

      d_to_g-says : (k : Option ℕ) → Says c (d_to_g st r k)
      unfolding d_to_g
      d_to_g-says k = says_if (used_up st) (no_number st r) (waiting_or_new st r k) (no_number_lem st) (waiting_or_new-says k)

    module _ (st : Station) (s : Stored c st) (i : ℕ) where
      redial-says : (o : Dealing) (g : Option ℕ) → i < length c.channels → request_keeps c o.request ≡ true → Says c (redial i o g st r)
      unfolding redial coast_end
      redial-says o g h k = each_append (Speaks c) (coast_end i o g st).acts _ (coast_end-says st s i h o g k) (d_to_g-says (freed i st).next ((stored-closed c).freeing i st s) (place_of r.who (freed i st).next))

      ruling-says : (cs : List Stop) (p : Slot) (x : Out) → Ruling i st r cs p x → the_slot st i ≡ p → Says c x
      unfolding repeated
      ruling-says cs _ _ (passes p a) e = tt
      ruling-says cs _ _ (repeats k o d a b) e = (acknowledge-speaks c good r kept i (placed st s i (pending k o d) e refl), tt)
      ruling-says cs _ _ (renews k o d z u a b) e = afresh-says st i (placed st s i (pending k o d) e refl)
      ruling-says cs _ _ (runs-out k o d z u a b) e = no_number_lem st
      ruling-says cs _ _ (redials o g l a) e = redial-says o (answered_at g) (placed st s i (busy o g l) e refl) (slot-keeps st s i (busy o g l) e)

    pub requested-says : (st : Station) → Stored c st → (o : Standing) → Says c (requested st r o)
    unfolding requested
    requested-says st s nowhere = d_to_g-says st s none
    requested-says st s (holds i) = ruling-says st s i _ (the_slot st i) _ (b_or_c-ruling i st r (the_slot st i)) refl
    requested-says st s (waits k) = d_to_g-says st s (some k)

  -- ── on a slot ──────────────────────────────────────────────────────────────

  move-says : (i t : ℕ) (p : Slot) (n : Next) (acts : List Action) → Move i t p n acts → (is_free p ≡ false → i < length c.channels) → slot_keeps c p ≡ true → Each (Speaks c) acts
  move-says i t _ _ _ (to-dial k r d z) h e = ((refl, small c good i (h refl)), tt)
  move-says i t _ _ _ (to-agree k r d z) h e = tt
  move-says i t _ _ _ (to-ring r d) h e = (call_ship-speaks c good r.request e i (h refl), tt)
  move-says i t _ _ _ (to-call r d) h e = (call_ship-speaks c good r.request e i (h refl), tt)
  move-says i t _ _ _ (to-rings k r d z) h e = ((refl, small c good i (h refl)), tt)
  move-says i t _ _ _ (to-answer r d) h e = ((refl, small c good i (h refl)), tt)
  move-says i t _ _ _ (to-let-go k r d tone) h e = drop-says i (h refl) (rings k) tone
  move-says i t _ _ _ (to_drop k r d z) h e = ((refl, small c good i (h refl)), tt)
  move-says i t _ _ _ (to-stage r n q l z) h e = tt
  move-says i t _ _ _ (to-lose r g l) h e = tt
  move-says i t _ _ _ (to-regain r g l) h e = tt
  move-says i t _ _ _ (to-hold r g l) h e = end-says i (h refl) the_ship r (answered_at g) t e
  move-says i t _ _ _ (to_end r g l) h e = end-says i (h refl) the_coast r (answered_at g) t e
  move-says i t _ _ _ (to-repeat r n d) h e =
      let k = both_true (request_keeps c r.request) (duration_keeps n) e in
      let b = small c good i (h refl) in
      ((refl, b), (over-speaks c good r.request k.0 i (h refl) the_ship n k.1, ((refl, b), tt)))
  move-says i t _ _ _ (to-run-out r n d) h e = tt
  move-says i t _ _ _ to_take h e = tt
  move-says i t _ _ _ to-give h e = tt

  -- only a slot in use is freed
  move-frees : (i t : ℕ) (p : Slot) (acts : List Action) → Move i t p frees acts → is_free p ≡ false
  move-frees i t _ _ (to-let-go k r d tone) = refl
  move-frees i t _ _ (to_drop k r d z) = refl
  move-frees i t _ _ (to_end r g l) = refl
  move-frees i t _ _ (to-run-out r n d) = refl
  move-frees i t _ _ to-give = refl

  module _ (st : Station) (s : Stored c st) (i : ℕ) where
    move-placed : (p : Slot) (n : Next) (acts : List Action) → the_slot st i ≡ p → Move i st.clock p n acts → Each (Speaks c) acts
    move-placed p n acts e u = move-says i st.clock p n acts u (placed st s i p e) (slot-keeps st s i p e)

    pub outcome-says : {f : Column → Column} {w : Word → Word} {cs : List Stop} {o : Out} (p : Slot) → Outcome i st f w cs p o → the_slot st i ≡ p → Says c o
    outcome-says p (passed x y z) e = tt
    outcome-says p (moved {n = stays} u x y z) e = move-placed p _ _ e u
    outcome-says p (moved {n = becomes q} u x y z) e = move-placed p _ _ e u
    outcome-says p (moved {n = frees} {acts} u x y z) e = each_append (Speaks c) acts (freed i st).acts (move-placed p frees acts e u) (freed-says st s i (placed st s i p e (move-frees i st.clock p acts u)))
