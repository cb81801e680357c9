-- Set-up, for Rattle and for C: neither has a useless version. No count is told.
use Rattle.std.specs.Prelude.{ℕ, ◌≡◌, List, Result, Ok, Err}
use contract.Lifetimes.{Lfts}
use Rattle.units.specs.declared.Channel.{Channel}
use Rattle.gate.specs.declared.Refusal.{Refusal}
use Rattle.gate.specs.Asked.{refusal_number}
use Rattle.station.specs.declared.Station.{Station}
use Rattle.station.specs.Step.{blank_station}
use Rattle.station.proofs.Station.set_up.Reads as Station-set_up
use Rattle.coast.proofs.setting.coast_set_up.Reads as coast_set_up
use Rattle.useless_versions.specs.Versions.{Signs, NoUselessVersion, Anything}

pub record Wanted : Type 0 where
  pub identity : ℕ
  pub channels : List Channel
  pub count : ℕ

pub data SetUpBy : Wanted → Result Station Refusal → Type 0 where
  by-set-up : (κs : Lfts 1) (a : _) (r : _) (s : _) → Station-set_up.Post κs a r s
      → SetUpBy (record { identity = a.0; channels = a.1.0.now; count = a.1.1.0 }) r

abbrev pub number_told : Result Station Refusal → ℕ
number_told (Ok s) = 0
number_told (Err r) = refusal_number r

-- beside a refusal no station, a blank one in its place
abbrev pub station_told : Result Station Refusal → Station
station_told (Ok s) = s
station_told (Err r) = blank_station

-- nothing done: the blank station handed back
abbrev pub set_up_signs : Signs Wanted (Result Station Refusal)
set_up_signs = record { answer = number_told; idle = λ x y. station_told y ≡ blank_station; miscounted = λ x y. ⊥ }

unfoldable pub NoUselessSetUp : Type 0
NoUselessSetUp = NoUselessVersion Anything set_up_signs SetUpBy

-- ── from C ───────────────────────────────────────────────────────────────────

pub record Lent : Type 0 where
  pub identity : ℕ
  pub channels : List ℕ
  pub station : List ℕ

pub record Left : Type 0 where
  pub number : ℕ
  pub kept : List ℕ

pub data SetUpInC : Lent → Left → Type 0 where
  by-coast-set-up : (κs : Lfts 2) (a : _) (r : _) (s : _) → coast_set_up.Post κs a r s
      → SetUpInC (record { identity = a.0; channels = a.1.0.now; station = a.1.1.0.now })
      (record { number = r; kept = s.1.1.0.now })

-- nothing done: the lent bytes as they were
abbrev pub set_up_signs_in_c : Signs Lent Left
set_up_signs_in_c = record { answer = λ y. y.number; idle = λ x y. y.kept ≡ x.station; miscounted = λ x y. ⊥ }

unfoldable pub NoUselessSetUpInC : Type 0
NoUselessSetUpInC = NoUselessVersion Anything set_up_signs_in_c SetUpInC
