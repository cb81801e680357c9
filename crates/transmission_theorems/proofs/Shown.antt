-- What may be heard of a transmission, and what a start that is found says.
use Prim.Native.Nat.{ℕ, ◌+◌, ◌-◌, ◌≤◌, ◌<◌}
use mathlib.Core.Path.{◌≡◌}
use mathlib.Core.Logic.{◌⊎◌}
use mathlib.Core.Bool.{true}
use mathlib.Core.List.{List, ◌++◌}
use lib.ListN.{length, get_or, replicate}
use Rattle.characters.specs.Code.{none}
use Rattle.transmission.specs.Layout.{sent, transmission}
use Rattle.transmission.specs.Phasing.{most_lost, heard_at, phasing_at}
use Rattle.transmission.specs.Reading.{start_in, phasing_in}
use Rattle.transmission_theorems.specs.Statement.{Accepted}

-- what is sent, behind the eleven places of `heard`
abbrev pub sent_behind : List ℕ → List ℕ
sent_behind s = replicate most_lost none ++ sent s

-- every place of t holds none, or what was sent there: the transmission of s begins at place 11 less the characters lost
abbrev pub ShownAt : List ℕ → ℕ → List ℕ → ℕ → Type 0
ShownAt s lost t q = (heard_at t q ≡ none) ⊎ (heard_at t q ≡ get_or (sent_behind s) (lost + q) none)

abbrev pub Shown : List ℕ → ℕ → List ℕ → Type 0
Shown s lost t = (q : ℕ) → ShownAt s lost t q

-- a place stands outside of some in a row, or among them
abbrev pub Outside : ℕ → ℕ → ℕ → Type 0
Outside place count p = (p < place) ⊎ (place + count ≤ p)

abbrev pub Inside : ℕ → ℕ → ℕ → Type 0
Inside place count p = (place ≤ p) × (p < place + count)

-- t holds what was sent, from a start on, but for `count` places in a row
abbrev pub KeptBut : List ℕ → List ℕ → ℕ → ℕ → ℕ → Type 0
KeptBut s t start place count = (p : ℕ) → Outside place count p → heard_at t (start + p) ≡ get_or (sent s) p none

-- a copy among these places is none, and its repeat, five places on, stands behind them
abbrev pub RepeatsKept : List ℕ → List ℕ → ℕ → ℕ → ℕ → Type 0
RepeatsKept s t start place count =
    (p : ℕ) → 12 ≤ p → p < length (transmission s) → Inside place count p → (heard_at t (start + p) ≡ none) × (place + count ≤ p + 5)

-- the transmission is found at a start
abbrev pub Found : List ℕ → ℕ → Type 0
Found t start = (start_in t ≡ start) × (phasing_in t ≡ true)

-- or an earlier one is, and is whole
abbrev pub FoundEarlier : List ℕ → ℕ → Type 0
FoundEarlier t start = (start_in t < start) × (phasing_at t (start_in t) ≡ 14)

-- What `Starts` proves:

-- up to five places in a row spoiled
abbrev pub FoundSpoiled : Type 0
FoundSpoiled =
    (s t : List ℕ) → Accepted s → Shown s 0 t → (place count : ℕ) → count ≤ 5 → KeptBut s t most_lost place count → Found t most_lost

-- up to eleven lost at the beginning
abbrev pub FoundCut : Type 0
FoundCut =
    (s t : List ℕ) → Accepted s → (lost : ℕ) → lost ≤ most_lost → Shown s lost t → KeptBut s t (most_lost - lost) 0 lost
    → Found t (most_lost - lost)

-- one that is whole
abbrev pub FoundWhole : Type 0
FoundWhole =
    (t : List ℕ) (start : ℕ) → phasing_at t start ≡ 14 → (phasing_in t ≡ true) × ((start_in t ≡ start) ⊎ FoundEarlier t start)
