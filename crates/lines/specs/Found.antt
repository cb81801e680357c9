-- What a field that was found says of the rest of the line, and where its end lies.
use Rattle.std.specs.Prelude.{List, ℕ, ◌≤◌, drop}
use Rattle.std.specs.Prelude.{Option as Optional, Some, None}
use Rattle.std.proofs.Math.Option.{Option, none}
use Rattle.lines.specs.Readable.{between, with, scan}

abbrev pub means : Optional (ℕ × ℕ) → List ℕ → Option (List ℕ)
means None s = none
means (Some (v, next)) s = with v (scan between (drop next s))

abbrev pub Within : Optional (ℕ × ℕ) → ℕ → ℕ → Type 0
Within None start end = Unit {0}
Within (Some (v, next)) start end = (start ≤ next) × (next ≤ end)
