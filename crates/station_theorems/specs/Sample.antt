-- Document 01's sample script on the rack: what the contracts force, step by step, and the useless versions that they shut out.
use Rattle.std.specs.Prelude.{ℕ, ◌≡◌, false, [], ◌∷◌, ◌++◌, drop}
use Rattle.rules.specs.Rules.Bytes.{block}
use Rattle.rules.specs.Tables.Runs.{station}
use Rattle.rules.specs.Tables.Cases.{p2, sample, sample_shows}
use Rattle.station_theorems.specs.Steps.{Step, Trace, events_in}
use Rattle.station_theorems.specs.Statement.{accepted, all_shown}

-- S 002001234 26, then Q 100 (P1), H 90 0, U 261 0, T 261, with rooms of 320 bytes whatever they hold
pub record Sampled (q h u t : Step) : Type 0 where
  pub trace : Trace (station 1) (q ∷ h ∷ u ∷ t ∷ [])
  pub script : events_in (q ∷ h ∷ u ∷ t ∷ []) ≡ sample

-- the answers, clocks, counts, due times and actions that are printed; the rooms; and of the two refusals the station too
pub record Forced (q h u t : Step) : Type 0 where
  pub shown : all_shown (q ∷ h ∷ u ∷ t ∷ []) ≡ sample_shows
  pub q_room : q.left ≡ block 1 0 [] ++ (block 3 0 p2 ++ drop 80 q.lent)
  pub h-room : h.left ≡ h.lent
  pub h-station : h.back.station ≡ h.before
  pub u-room : u.left ≡ u.lent
  pub u-station : u.back.station ≡ u.before
  pub t-room : t.left ≡ block 2 0 [] ++ drop 40 t.lent

unfoldable pub SampleForced : Type 0
SampleForced = (q h u t : Step) → Sampled q h u t → Forced q h u t

-- "Try these useless versions": each by what it hands back at the step where it would differ; and two refusals that change something
pub data Useless (q h u t : Step) : Type 0 where
  -- Q 100 is done
  refuses-everything : accepted q ≡ false → Useless q h u t
  -- H 90 is answered otherwise than Q 100
  has-one-fixed-reply : q.back.answer ≡ h.back.answer → Useless q h u t
  -- Q 100 changes the station
  does-nothing : q.back.station ≡ q.before → Useless q h u t
  -- H 90 is refused
  only-says-done-after-the-first : h.back.answer ≡ 0 → Useless q h u t
  -- Q 100 has two actions
  invents-the-count : (n : ℕ) → (n ≡ 2 → ⊥) → q.back.count ≡ n → Useless q h u t
  -- H 90 and U 261 leave the clock and the room
  moves-the-clock-at-a-refusal : (h.back.station.clock ≡ h.before.clock → ⊥) → Useless q h u t
  writes-a-byte-at-a-refusal : (u.left ≡ u.lent → ⊥) → Useless q h u t

unfoldable pub NoneUseless : Type 0
NoneUseless = (q h u t : Step) → Sampled q h u t → Useless q h u t → ⊥
