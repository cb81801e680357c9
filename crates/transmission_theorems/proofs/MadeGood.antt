-- What is found of a transmission is read as the symbols sent, where what was spoiled or lost leaves each a good copy; and so is what
-- stands whole, unless an earlier whole phasing is found.
use Prim.Native.Nat.{ℕ, ◌≤◌, ◌<◌}
use mathlib.Core.Path.{◌≡◌}
use mathlib.Core.Logic.{◌⊎◌, inl, inr}
use mathlib.Core.Bool.{true}
use mathlib.Core.List.{List}
use native.Mathlib.Omega.{arith}
use lib.ListN.{length, get_or}
use Rattle.sequence.specs.Figures.{longest}
use Rattle.sequence.specs.Symbols.{all_at_most}
use Rattle.sequence.specs.Reading.{length_in}
use Rattle.reading.proofs.Passed.{long}
use Rattle.writing.proofs.EvenedLaws.{all-at}
use Rattle.transmission.specs.Answers.{done}
use Rattle.transmission.specs.Layout.{transmission}
use Rattle.transmission.specs.Copies.{symbol_at, count_of}
use Rattle.transmission.specs.Reading.{start_in, symbols_in, phasing_in, reading_answer}
use Rattle.transmission.proofs.LayoutLaws.{transmission-length}
use Rattle.transmission_theorems.proofs.Shown.{KeptBut, RepeatsKept, Found, FoundEarlier}
use Rattle.transmission_theorems.proofs.OwnStart.{whole-starts}
use Rattle.transmission_theorems.proofs.Starts.{whole-found}
use Rattle.transmission_theorems.proofs.KeptCopies.{symbol-kept}
use Rattle.transmission_theorems.proofs.ReadBack.{read_as, read_whole}

-- t is read as these symbols
abbrev Read : List ℕ → List ℕ → Type 0
Read t s = (reading_answer t longest ≡ done) × (symbols_in t ≡ s)

module _ (s : List ℕ) (size : length_in s ≡ true) (small : all_at_most 127 s ≡ true) (ends : count_of s ≡ length s) where
  count-in : (21 ≤ length s) × (length s ≤ 28)
  count-in = long s size

  pub found-read : (t : List ℕ) (start place count : ℕ) → KeptBut s t start place count → RepeatsKept s t start place count
      → Found t start → Read t s
  found-read t start place count kept repeats found =
      (read_whole s t count-in.0 count-in.1 each ends read found.1, read_as s t count-in.0 count-in.1 each ends read)
    where
      each : (k : ℕ) → get_or s k 0 ≤ 127
      each k = all-at 127 s k small

      read : (k : ℕ) → k < length s → symbol_at t (start_in t) k ≡ get_or s k 0
      read k h = rw found.0 (symbol-kept s t start place count kept repeats k h (each k))

  pub whole-there : (t : List ℕ) (start count : ℕ) → KeptBut s t start (length (transmission s)) count → Read t s ⊎ FoundEarlier t start
  whole-there t start count kept = go found.1
    where
      found : (phasing_in t ≡ true) × ((start_in t ≡ start) ⊎ FoundEarlier t start)
      found = whole-found t start (whole-starts s t start _ count (omega (arith, count-in)) (omega (arith, transmission-length s)) kept)

      go : (start_in t ≡ start) ⊎ FoundEarlier t start → Read t s ⊎ FoundEarlier t start
      go (inl e) = inl (found-read t start _ count kept (λ p h k i. absurd (omega arith)) (e, found.0))
      go (inr e) = inr e
