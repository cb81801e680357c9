-- What is claimed of the lent bytes: whatever is handed out is found again in them.
use Rattle.std.specs.Prelude.{ℕ, ◌≤◌, ◌≡◌, true, false, Ok, List, ◌++◌, length, take}
use Rattle.std.proofs.Math.Option.{none, some}
use Rattle.sequence.specs.declared.Meaning.{Meaning}
use Rattle.sequence.specs.Symbols.{all_at_most}
use Rattle.sequence.specs.Layout.{valid}
use Rattle.rules.specs.Rules.Words.{Config, Event}
use Rattle.station.specs.declared.Station.{Station}
use Rattle.station.specs.Step.{refusal, stepped_by, blank_station, set_up_of}
use Rattle.lent_layout.specs.Meanings.{meaning_size, meaning_bytes, meaning_from}
use Rattle.lent_layout.specs.Stations.{sized, current, station_bytes, station_from}

-- the bytes of a valid meaning, whatever stands behind them
abbrev pub MeaningIsFoundAgain : Type 0
MeaningIsFoundAgain = (m : Meaning) (rest : List ℕ)
    → (length (meaning_bytes m) ≡ meaning_size) × (valid m ≡ true → meaning_from (meaning_bytes m ++ rest) ≡ m)

-- and bytes that tell a valid meaning are that meaning's, all of them
abbrev pub MeaningIsLaidAgain : Type 0
MeaningIsLaidAgain = (b : List ℕ) → all_at_most 255 b ≡ true → valid (meaning_from b) ≡ true
    → (meaning_size ≤ length b) × (meaning_bytes (meaning_from b) ≡ take meaning_size b)

-- decoding what was encoded gives the station back, and it takes a station's bytes
abbrev pub FoundAgain : Station → Type 0
FoundAgain s = (sized (station_bytes s) ≡ true) × (station_from (station_bytes s) ≡ s)

-- every station that set-up hands out, and every station that an accepted event does
abbrev pub HandedOutIsFoundAgain : Type 0
HandedOutIsFoundAgain =
    ((c : Config) (s : Station) → set_up_of c ≡ Ok s → FoundAgain s)
    × ((s : Station) (e : Event) → refusal s e ≡ none → FoundAgain (stepped_by s e).station)

-- so is the station that other bytes stand for
abbrev pub BlankIsFoundAgain : Type 0
BlankIsFoundAgain = FoundAgain blank_station

-- bytes of another size or another version stand for a station that every event refuses with 29
abbrev pub OtherLayoutIsNotSound : Type 0
OtherLayoutIsNotSound = (b : List ℕ) → current b ≡ false → (e : Event) → refusal (station_from b) e ≡ some 29
