-- Set-up: a station with channel 26 is set up; the identity 0 with no channels is refused.
use Prim.Native.Nat.{ℕ}
use mathlib.Core.Path.{◌≡◌, refl, sym, ap, ◌∙◌}
use mathlib.Core.Bool.{true}
use mathlib.Core.List.{List, [], ◌∷◌}
use mathlib.Core.Option.{none, some}
use native.Mathlib.Omega.{arith}
use lib.ListN.{replicate}
use Rattle.sequence.specs.Identity.{is_coast}
use Rattle.sequence.specs.Field.{channel_ok}
use Rattle.rules.specs.Rules.Station.{fresh}
use Rattle.rules.specs.Rules.Sound.{identity_keeps, channels_keep, config_keeps}
use Rattle.rules.specs.Rules.Verdict.{set_up_verdict}
use Rattle.std.specs.Prelude.{Result}
use Rattle.gate.specs.declared.Refusal.{Refusal}
use Rattle.station.specs.declared.Station.{Station}
use Rattle.station.specs.Model.{image_of}
use Rattle.station.specs.Step.{channel_number, given, chosen, blank_station, set_up_of, set_up_by}
use Rattle.lent_layout.specs.Stations.{sized, station_bytes, station_from}
use Rattle.rules.specs.Rules.Words.{Config}
use Rattle.lent_layout.specs.Statement.{FoundAgain}
use Rattle.lent_layout.proofs.FoundAgain.{handed-out-is-found-again}
use Rattle.coast.specs.Events.{set_up_returned, station_set_up}
use Rattle.coast.proofs.Theorems as Exchange
use Rattle.useless_versions.specs.Versions.{Anything}
use Rattle.useless_versions.specs.SetUps.{Wanted, SetUpBy, by-set-up, number_told, station_told, set_up_signs, NoUselessSetUp, Lent, Left, SetUpInC, by-coast-set-up, set_up_signs_in_c, NoUselessSetUpInC}
use Rattle.useless_versions.proofs.ShutOut.{one, shut_out}
use Rattle.useless_versions.proofs.Events.{set-up}

abbrev wanted : Wanted
wanted = record { identity = 2001234; channels = channel_number 26 ∷ replicate 15 (channel_number 0); count = 1 }

abbrev unfit : Wanted
unfit = record { identity = 0; channels = replicate 16 (channel_number 0); count = 0 }

refused-36 : set_up_verdict (given 0 []) ≡ some 36
unfolding set_up_verdict config_keeps identity_keeps is_coast
refused-36 = refl

-- ── by value ─────────────────────────────────────────────────────────────────

set-up-is : (x : Wanted) (y : Result Station Refusal) → SetUpBy x y → y ≡ set_up_of (chosen x.identity x.channels x.count)
set-up-is _ _ (by-set-up κs a r s p) = p

wanted-is : (y : Result Station Refusal) → SetUpBy wanted y → y ≡ set_up_by 2001234 (26 ∷ [])
unfolding set_up_by
wanted-is = set-up-is wanted

unfit-is : (y : Result Station Refusal) → SetUpBy unfit y → y ≡ set_up_by 0 []
unfolding set_up_by
unfit-is = set-up-is unfit

answers-0 : number_told (set_up_by 2001234 (26 ∷ [])) ≡ 0
unfolding set_up_by
answers-0 = rw set-up

answers-36 : number_told (set_up_by 0 []) ≡ 36
unfolding set_up_by
answers-36 = rw refused-36

has-a-slot : (station_told (set_up_by 2001234 (26 ∷ []))).count ≡ 1
unfolding set_up_by image_of fresh
has-a-slot = rw set-up

blank-has-none : blank_station.count ≡ 0
unfolding blank_station image_of fresh
blank-has-none = refl

pub no-useless-set-up : NoUselessSetUp
unfolding NoUselessSetUp
no-useless-set-up =
    shut_out Anything set_up_signs SetUpBy (record {
      past = wanted ∷ [];
      begun = one;
      doable = wanted;
      doable-comes = tt;
      done = λ y m. ap number_told (wanted-is y m) ∙ answers-0;
      busy = λ y m i.
          let q : ◌≡◌ {A = ℕ} 1 0 = sym has-a-slot ∙ ap (λ (s : Station). s.count) (sym (ap station_told (wanted-is y m)) ∙ i) ∙ blank-has-none in
          omega (arith, q);
      later = wanted ∷ [];
      begun-later = one;
      bad = unfit;
      bad-comes = tt;
      refused = λ y m. omega (arith, ap number_told (unfit-is y m) ∙ answers-36);
      counted = λ x y m u. u;
    })

-- ── in C ─────────────────────────────────────────────────────────────────────

c-set-up-is : (x : Lent) (y : Left) → SetUpInC x y
    → (y.number ≡ set_up_returned (given x.identity x.channels) x.station)
    × (y.kept ≡ station_set_up (given x.identity x.channels) x.station)
c-set-up-is _ _ (by-coast-set-up κs a r s p) = (p.0, p.1)

-- the lent bytes are those of another station
abbrev another : List ℕ
another = station_bytes (station_told (set_up_by 2001235 (26 ∷ [])))

other-set-up : set_up_verdict (given 2001235 (26 ∷ [])) ≡ none
unfolding set_up_verdict config_keeps identity_keeps channels_keep is_coast channel_ok
other-set-up = refl

-- what was set up is found again
found : (c : Config) → set_up_verdict c ≡ none → FoundAgain (station_told (set_up_of c))
found c v = handed-out-is-found-again.0 c (station_told (set_up_of c)) (rw v refl)

another-sized : sized another ≡ true
unfolding set_up_by
another-sized = (found (given 2001235 (26 ∷ [])) other-set-up).0

c-answers-0 : set_up_returned (given 2001234 (26 ∷ [])) another ≡ 0
unfolding set_up_returned set_up_by
c-answers-0 = rw another-sized answers-0

c-answers-36 : set_up_returned (given 0 []) another ≡ 36
unfolding set_up_returned set_up_by
c-answers-36 = rw another-sized answers-36

identity-is : (station_told (set_up_by 2001234 (26 ∷ []))).mast.identity ≡ 2001234
unfolding set_up_by image_of
identity-is = rw set-up

other-identity : (station_told (set_up_by 2001235 (26 ∷ []))).mast.identity ≡ 2001235
unfolding set_up_by image_of
other-identity = rw other-set-up

changed : (kept : List ℕ) → kept ≡ station_set_up (given 2001234 (26 ∷ [])) another → kept ≡ another → ⊥
unfolding set_up_by
changed kept e same =
    let bytes = sym (Exchange.set-up (given 2001234 (26 ∷ [])) (station_told (set_up_of (given 2001234 (26 ∷ [])))) another (rw set-up refl) another-sized) ∙ sym e ∙ same in
    let stations = sym (found (given 2001234 (26 ∷ [])) set-up).1 ∙ ap station_from bytes ∙ (found (given 2001235 (26 ∷ [])) other-set-up).1 in
    let q : ◌≡◌ {A = ℕ} 2001234 2001235 = sym identity-is ∙ ap (λ (s : Station). s.mast.identity) stations ∙ other-identity in
    omega (arith, q)

abbrev good : Lent
good = record { identity = 2001234; channels = 26 ∷ []; station = another }

abbrev bad-list : Lent
bad-list = record { identity = 0; channels = []; station = another }

pub no-useless-set-up-in-c : NoUselessSetUpInC
unfolding NoUselessSetUpInC
no-useless-set-up-in-c =
    shut_out Anything set_up_signs_in_c SetUpInC (record {
      past = good ∷ [];
      begun = one;
      doable = good;
      doable-comes = tt;
      done = λ y m. (c-set-up-is _ y m).0 ∙ c-answers-0;
      busy = λ y m i. changed y.kept (c-set-up-is _ y m).1 i;
      later = good ∷ [];
      begun-later = one;
      bad = bad-list;
      bad-comes = tt;
      refused = λ y m. omega (arith, (c-set-up-is (bad-list) y m).0 ∙ c-answers-36);
      counted = λ x y m u. u;
    })
