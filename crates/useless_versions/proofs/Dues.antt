-- The next due time: none on a fresh station, 261 behind P1 at 100; and 29 for no bytes. The clock: 0 there; and 29 for no bytes.
use Prim.Native.Nat.{ℕ, ◌%◌}
use mathlib.Core.Path.{◌≡◌, refl, sym, ap, ◌∙◌}
use mathlib.Core.Bool.{false}
use mathlib.Core.List.{List, [], ◌∷◌}
use native.Mathlib.Omega.{arith}
use Rattle.rules.specs.Rules.Words.{Event}
use Rattle.rules.specs.Rules.Station.{next_due, fresh}
use Rattle.rules.specs.Rules.Verdict.{final}
use Rattle.rules.specs.Statement.{station_after}
use Rattle.soundness.proofs.FitLaws.{sound-fits}
use Rattle.std.specs.Prelude.{Option as Optional, Some, None}
use Rattle.units.specs.declared.Tenths.{Tenths}
use Rattle.station.specs.declared.Station.{Station}
use Rattle.station.specs.Model.{model_of, image_of}
use Rattle.station.specs.Step.{due_image}
use Rattle.station.proofs.ImageLaws.{model-back, config-back}
use Rattle.lent_layout.specs.Stations.{current, station_from}
use Rattle.lent_layout.proofs.Computed.{sized-computed}
use Rattle.coast.specs.Events.{due_returned, clock_returned}
use Rattle.coast.proofs.Theorems.{other-layout-tells-nothing}
use Rattle.station_theorems.proofs.Laid.{records-keep}
use Rattle.useless_versions.specs.Versions.{Anything, NoUselessVersion}
use Rattle.useless_versions.specs.Dues.{DueBy, by-next-due, HandedOut, NoUselessNextDue, DueInC, by-coast-next-due, told_signs, NoUselessNextDueInC, ClockInC, by-coast-clock, NoUselessClockInC}
use Rattle.useless_versions.proofs.ShutOut.{one, shut_out}
use Rattle.useless_versions.proofs.Events.{house, asked, nothing-due, due-261, leads, reached, reached-is, good}
use Rattle.useless_versions.proofs.Hosted.{bytes_after, stands}

-- ── the method ───────────────────────────────────────────────────────────────

due-is : (s : Station) (y : Optional Tenths) → DueBy s y → y ≡ due_image (next_due (model_of s))
due-is _ _ (by-next-due κs a r s p) = p

model_is : (es : List Event) → model_of (reached es) ≡ station_after house es
model_is es = ap model_of (reached-is es) ∙ model-back house (station_after house es) (sound-fits house (station_after house es) (good es))

reached-due : (es : List Event) (y : Optional Tenths) → DueBy (reached es) y → y ≡ due_image (next_due (station_after house es))
reached-due es y m = due-is (reached es) y m ∙ ap (λ m. due_image (next_due m)) (model_is es)

handed : (past : List Station) (es : List Event) → HandedOut past (reached es)
handed past es = record { config = house; steps = (leads es).steps; trace = (leads es).trace; handed = refl }

differ : (y z : Optional Tenths) → y ≡ None → z ≡ Some (record { 0 = 261 }) → y ≡ z → ⊥
differ y z p q e = let r : ◌≡◌ {A = ℕ} 0 1 = cc in omega (arith, r)

module _ (f : List Station → Station → Optional Tenths) (m : (past : List Station) (s : Station) → DueBy s (f past s)) where
  never : (past : List Station) → f past (reached []) ≡ None
  never past = reached-due [] (f past (reached [])) (m past (reached [])) ∙ ap due_image nothing-due

  at-261 : (past : List Station) → f past (reached asked) ≡ Some (record { 0 = 261 })
  at-261 past = reached-due asked (f past (reached asked)) (m past (reached asked)) ∙ ap due_image due-261

pub no-useless-next-due : NoUselessNextDue
unfolding NoUselessNextDue
no-useless-next-due f m = (
  λ d h. differ _ _ (never f m []) (at-261 f m []) (h [] (reached []) (handed [] []) ∙ sym (h [] (reached asked) (handed [] asked))),
  λ h.
      let past : List Station = reached [] ∷ [] in
      differ None _ refl (at-261 f m past) (sym (h past (reached asked) one (handed past asked))),
)

-- ── the entries in C ─────────────────────────────────────────────────────────

no-layout : current [] ≡ false
unfolding current
no-layout = rw (sized-computed [])

-- an entry that tells 0 of a fresh station and 29 of no bytes
module _ (meets : List ℕ → ℕ → Type 0) (told : List ℕ → ℕ) (tells : (b : List ℕ) (y : ℕ) → meets b y → y ≡ told b) (first : told (bytes_after []) ≡ 0) (nothing : told [] ≡ 29) where
  no-useless-telling : NoUselessVersion Anything told_signs meets
  no-useless-telling =
      shut_out Anything told_signs meets (record {
        past = bytes_after [] ∷ [];
        begun = one;
        doable = bytes_after [];
        doable-comes = tt;
        done = λ y m. ap (λ n. n % 256) (tells _ y m ∙ first);
        busy = λ y m i. i;
        later = bytes_after [] ∷ [];
        begun-later = one;
        bad = [];
        bad-comes = tt;
        refused = λ y m. omega (arith, tells [] y m ∙ nothing);
        counted = λ x y m u. u;
      })

c-due-is : (b : List ℕ) (y : ℕ) → DueInC b y → y ≡ due_returned (station_from b)
c-due-is _ _ (by-coast-next-due κs a r s p) = p

c-clock-is : (b : List ℕ) (y : ℕ) → ClockInC b y → y ≡ clock_returned (station_from b)
c-clock-is _ _ (by-coast-clock κs a r s p) = p

fresh-due : due_returned (station_from (bytes_after [])) ≡ 0
unfolding due_returned
fresh-due =
    let m = station_after house [] in
    let fits = sound-fits house m (good []) in
    rw (stands [], records-keep house m fits, config-back house m fits, model-back house m fits, good [], nothing-due) refl

fresh-clock : clock_returned (station_from (bytes_after [])) ≡ 0
unfolding clock_returned image_of final fresh
fresh-clock =
    let m = station_after house [] in
    let fits = sound-fits house m (good []) in
    rw (stands [], records-keep house m fits, config-back house m fits, model-back house m fits, good []) refl

pub no-useless-next-due-in-c : NoUselessNextDueInC
unfolding NoUselessNextDueInC
no-useless-next-due-in-c = no-useless-telling DueInC _ c-due-is fresh-due (other-layout-tells-nothing [] no-layout).0

pub no-useless-clock-in-c : NoUselessClockInC
unfolding NoUselessClockInC
no-useless-clock-in-c = no-useless-telling ClockInC _ c-clock-is fresh-clock (other-layout-tells-nothing [] no-layout).1
