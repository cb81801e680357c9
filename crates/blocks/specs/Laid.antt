-- Blocks laid into a room one at a time, each by its number.
use Rattle.std.specs.Prelude.{ℕ, suc, ◌*◌, Bool, cond, ◌&&◌, List, [], ◌∷◌, ◌++◌, leb, ltb, length, take, drop}
use Rattle.actions.specs.Blocks.{in_bytes}

-- a room of so many bytes holds block number k, and the number behind it is a byte
unfoldable pub holds_at : ℕ → ℕ → Bool
holds_at k size = ltb k 255 && leb (40 * suc k) size

-- the number of the next block
unfoldable pub lay_count : ℕ → ℕ → ℕ
lay_count k size = cond (holds_at k size) (suc k) k

unfoldable pub lay_room : List ℕ → ℕ → List ℕ → List ℕ
lay_room b k room = cond (holds_at k (length room)) (take (40 * k) room ++ in_bytes b ++ drop (40 * suc k) room) room

-- a room into which blocks are laid, and the number of the next one
pub record Laid : Type 0 where
  pub next : ℕ
  pub room : List ℕ

-- all of them, from block number k on
unfoldable pub laid_from : List (List ℕ) → ℕ → List ℕ → Laid
laid_from [] k room = record { next = k; room = room }
laid_from (b ∷ bs) k room = laid_from bs (lay_count k (length room)) (lay_room b k room)
