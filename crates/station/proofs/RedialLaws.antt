-- c. ".. then d to g apply": what goes on behind an outcome, on the station that it leaves.
use Prim.Native.Nat.{ℕ, zero, suc, ◌≤◌}
use mathlib.Core.Bool.{Bool, true, false, cond}
use mathlib.Core.List.{List, [], ◌∷◌, map-append}
use mathlib.Core.Path.{◌≡◌, refl, sym, ap, ◌∙◌}
use native.Mathlib.Omega.{arith}
use lib.ListN.{length}
use Rattle.units.specs.declared.SlotNumber.{SlotNumber}
use Rattle.units.specs.declared.Tenths.{Tenths}
use Rattle.rules.specs.Rules.Words.{Config, Request}
use Rattle.rules.specs.Rules.Places.{Each, mod_at}
use Rattle.rules.specs.Rules.Station as R
use Rattle.rules.specs.Rules.Station.{set_slot, new_call, set_queue, set_clock, used_up}
use Rattle.rules.specs.Rules.Sound.{sound}
use Rattle.rules.specs.Rules.Requests.{also, to_ring_back, rung_back, freed_for, freed, coast_end}
use Rattle.rules.proofs.PlaceLaws.{mod_at-length}
use Rattle.slots.specs.Images.{Short, ShortSlot, Fits}
use Rattle.soundness.proofs.FitLaws.{sound-fits}
use Rattle.actions.specs.Sent.{sent_block}
use Rattle.blocks.specs.Laid.{Laid}
use Rattle.blocks.proofs.LaidLaws.{laid-append}
use Rattle.outcomes.specs.declared.Outcome.{Outcome}
use Rattle.outcomes.specs.declared.Outcome.TheVariants.{Ignored, Passes, Turns, Dials, RingsBackAgain, Frees, Clears, CoastEnds, ShipEnds, SaysAgain, Repeats, Renews, Redials, Offers, Joins, Replaces, Unable, Drops, Calls, CallsAgain, StartsRinging, Transmits, DropsCall}
use Rattle.outcomes.specs.Does.{goes_on, out_of, without_slot, behind, whole_of}
use Rattle.station.specs.declared.Station.{Station}
use Rattle.station.specs.declared.Stepped.{Stepped}
use Rattle.station.specs.Model.{model_of, config_of, image_of}
use Rattle.station.specs.Pieces.{own_of, out_at, whole_at, laid_of, enacted}
use Rattle.station.proofs.ApplyLaws.{clock-set}
use Rattle.station.proofs.ImageLaws.{model-back, config-back}
use Rattle.station.proofs.AskLaws.{ends_there}

-- ── the first half ───────────────────────────────────────────────────────────

each_set : {A : Type 0} (P : A → Type 0) (x : A) → P x → (i : ℕ) (l : List A) → Each P l → Each P (mod_at (λ y. x) i l)
each_set P x p i [] h = tt
each_set P x p zero (y ∷ l) h = (p, h.1)
each_set P x p (suc i) (y ∷ l) h = (h.0, each_set P x p i l h.1)

-- a slot is freed, and what stands then fits as before
freed-fits : (c : Config) (i : ℕ) (st : R.Station) → Fits c st → Fits c (freed i st).next
unfolding freed freed_for rung_back set_slot new_call set_queue
freed-fits c i st f = back (used_up st)
  where
    go : (q : List R.Waiting) → length q ≤ 32 → Each (λ w. Short w.request) q → Fits c (freed_for i st q).next
    go [] few_wait short =
        record {
          beside = f.beside ∙ sym (mod_at-length _ i st.slots);
          few = rw (mod_at-length (λ x. R.free) i st.slots) f.few;
          few_wait = f.few_wait;
          short_slots = each_set ShortSlot R.free tt i st.slots f.short_slots;
          short_queue = f.short_queue;
        }
    go (w ∷ q) few_wait short =
        record {
          beside = f.beside ∙ sym (mod_at-length _ i st.slots);
          few = rw (mod_at-length _ i st.slots) f.few;
          few_wait = omega arith;
          short_slots = each_set ShortSlot _ short.0 i st.slots f.short_slots;
          short_queue = short.1;
        }

    back : (b : Bool) → Fits c (freed_for i st (cond b [] st.queue)).next
    back true = go [] (omega arith) tt
    back false = go st.queue f.few_wait f.short_queue

-- what goes on behind frees the slot first
on-frees : (i : ℕ) (own : R.Dealing) (q : Request) (st : R.Station) (o : Outcome) → cond (goes_on o) (out_of i own q o st).next (freed i st).next ≡ (freed i st).next
unfolding out_of coast_end
on-frees i own q st Ignored = refl
on-frees i own q st Passes = refl
on-frees i own q st (Turns p) = refl
on-frees i own q st Dials = refl
on-frees i own q st RingsBackAgain = refl
on-frees i own q st Frees = refl
on-frees i own q st Clears = refl
on-frees i own q st (CoastEnds k) = refl
on-frees i own q st (ShipEnds k) = refl
on-frees i own q st (SaysAgain n) = refl
on-frees i own q st Repeats = refl
on-frees i own q st Renews = refl
on-frees i own q st (Redials k) = refl
on-frees i own q st Offers = refl
on-frees i own q st Joins = refl
on-frees i own q st (Replaces k) = refl
on-frees i own q st (Unable n) = refl
on-frees i own q st (Drops k) = refl
on-frees i own q st Calls = refl
on-frees i own q st CallsAgain = refl
on-frees i own q st StartsRinging = refl
on-frees i own q st Transmits = refl
on-frees i own q st (DropsCall rung tone) = refl

freed-clock : (i : ℕ) (st : R.Station) → (freed i st).next.clock ≡ st.clock
unfolding freed freed_for rung_back set_slot new_call set_queue
freed-clock i st = go (to_ring_back st)
  where
    go : (q : List R.Waiting) → (freed_for i st q).next.clock ≡ st.clock
    go [] = refl
    go (w ∷ q) = refl

module _ (s : Station) (t : Tenths) (i : SlotNumber) (q : Request) (o : Outcome) (on : goes_on o ≡ true) where
  frees : (out_at s t i q o).next ≡ (freed i.0 (set_clock t.0 (model_of s))).next
  unfolding out_at
  frees = rw on at (on-frees i.0 (own_of s i.0) q (set_clock t.0 (model_of s)) o)

  pub half-clock : (out_at s t i q o).next.clock ≡ t.0
  unfolding set_clock
  half-clock = ap (λ (x : R.Station). x.clock) frees ∙ freed-clock i.0 (set_clock t.0 (model_of s))

  module _ (sounds : sound (config_of s) (model_of s) ≡ true) where
    clocked : Fits (config_of s) (set_clock t.0 (model_of s))
    unfolding set_clock
    clocked =
        let f = sound-fits (config_of s) (model_of s) sounds in
        record { beside = f.beside; few = f.few; few_wait = f.few_wait; short_slots = f.short_slots; short_queue = f.short_queue }

    pub half-fits : Fits (config_of s) (out_at s t i q o).next
    half-fits = rw frees (freed-fits (config_of s) i.0 (set_clock t.0 (model_of s)) clocked)

    -- the station that is handed back stands for it
    module _ (l : Laid) (r : Stepped) (e : r ≡ enacted (config_of s) l (out_at s t i q o)) where
      handed : r.station ≡ image_of (config_of s) (out_at s t i q o).next
      unfolding enacted
      handed = ap (λ (x : Stepped). x.station) e

      pub half-model : model_of r.station ≡ (out_at s t i q o).next
      half-model = ap model_of handed ∙ model-back (config_of s) (out_at s t i q o).next half-fits

      pub half-config : config_of r.station ≡ config_of s
      half-config = ap config_of handed ∙ config-back (config_of s) (out_at s t i q o).next half-fits

      pub half_count : r.count ≡ l.next
      unfolding enacted
      half_count = ap (λ (x : Stepped). x.count) e

-- ── and what goes on behind it ───────────────────────────────────────────────

module _ (s : Station) (t : Tenths) (i : SlotNumber) (q : Request) (o : Outcome) where
  pub ended : goes_on o ≡ false → whole_at s t i q o ≡ out_at s t i q o
  unfolding whole_at out_at
  ended h = ends_there i.0 (own_of s i.0) q o (set_clock t.0 (model_of s)) h

  followed : goes_on o ≡ true → whole_at s t i q o ≡ also (out_at s t i q o).acts (without_slot q (out_at s t i q o).next)
  unfolding whole_at whole_of behind out_at
  followed h = rw h

  -- the outcome p of the slot j goes on, for a ship that has no slot
  module _ (on : goes_on o ≡ true) (next : Station) (left : model_of next ≡ (out_at s t i q o).next) (clock : (out_at s t i q o).next.clock ≡ t.0)
      (j : SlotNumber) (p : Outcome) (goes : (u : ℕ) (own : R.Dealing) → out_of j.0 own q p (set_clock u (model_of next)) ≡ without_slot q (set_clock u (model_of next))) where
    goes-is : out_at next t j q p ≡ without_slot q (out_at s t i q o).next
    unfolding out_at
    goes-is = goes t.0 (own_of next j.0) ∙ ap (without_slot q) (ap (set_clock t.0) left ∙ clock-set t.0 (out_at s t i q o).next clock)

    whole_is : whole_at s t i q o ≡ also (out_at s t i q o).acts (out_at next t j q p)
    whole_is = followed on ∙ ap (also (out_at s t i q o).acts) (sym goes-is)

    pub whole-fits : length (whole_at s t i q o).next.queue ≤ 32 → length (out_at next t j q p).next.queue ≤ 32
    whole-fits h = rw whole_is at h

    laid_on : (room : List ℕ) → laid_of (config_of s) (out_at next t j q p).acts (laid_of (config_of s) (out_at s t i q o).acts 0 room).next (laid_of (config_of s) (out_at s t i q o).acts 0 room).room
        ≡ laid_of (config_of s) (whole_at s t i q o).acts 0 room
    unfolding laid_of
    laid_on room = rw (whole_is, map-append (sent_block (config_of s)) (out_at s t i q o).acts (out_at next t j q p).acts) (sym (laid-append _ _ 0 room))

    -- the first is told from block number 0 to n, the second behind it
    pub goes_on_lem : config_of next ≡ config_of s → (n : ℕ) (room mid after : List ℕ) → n ≡ (laid_of (config_of s) (out_at s t i q o).acts 0 room).next → mid ≡ (laid_of (config_of s) (out_at s t i q o).acts 0 room).room
        → (r : Stepped) → (r ≡ enacted (config_of next) (laid_of (config_of next) (out_at next t j q p).acts n mid) (out_at next t j q p)) × (after ≡ (laid_of (config_of next) (out_at next t j q p).acts n mid).room)
        → (r ≡ enacted (config_of s) (laid_of (config_of s) (whole_at s t i q o).acts 0 room) (whole_at s t i q o)) × (after ≡ (laid_of (config_of s) (whole_at s t i q o).acts 0 room).room)
    unfolding enacted
    goes_on_lem d n room mid after a b r e =
        let x = out_at next t j q p in
        let c = config_of s in
        let l : laid_of (config_of next) x.acts n mid ≡ laid_of c (whole_at s t i q o).acts 0 room = rw (d, a, b) (laid_on room) in (
          e.0
              ∙ ap (λ (y : Config). enacted y (laid_of (config_of next) x.acts n mid) x) d
              ∙ ap (λ (y : Laid). enacted c y x) l
              ∙ ap (enacted c (laid_of c (whole_at s t i q o).acts 0 room)) (sym whole_is),
          e.1 ∙ ap (λ (y : Laid). y.room) l,
        )
