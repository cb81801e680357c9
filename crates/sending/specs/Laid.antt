-- A room in which a part of a transmission is laid.
use Rattle.std.specs.Prelude.{ℕ, ◌*◌, ◌≤◌, List, ◌++◌, length, take, drop}
use Rattle.std.proofs.Math.Seq.{slice}
use Rattle.sequence.specs.Figures.{shortest, longest}
use Rattle.transmission.specs.Layout.{transmission, bytes_of}
use Rattle.transmission.specs.Writing.{longest_transmission}

-- symbols and a room that are not refused
pub record Fit (s room : List ℕ) : Type 0 where
  pub least : shortest ≤ length s
  pub most : length s ≤ longest
  pub wide : 2 * longest_transmission ≤ length room

-- a room whose bytes from one place up to another are those of a list
abbrev pub laid : List ℕ → ℕ → ℕ → List ℕ → List ℕ
laid bytes from to room = take from room ++ slice from to bytes ++ drop to room

-- a place has one DX and one RX character, four bytes
unfoldable pub places_laid : List ℕ → ℕ → ℕ → List ℕ → List ℕ
places_laid s from to room = laid (bytes_of (transmission s)) (4 * from) (4 * to) room
