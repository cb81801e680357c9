-- Laws of a row.
use Prim.Native.Nat.{ℕ, zero, suc, ◌+◌, ◌<◌}
use mathlib.Core.Path.{◌≡◌, refl, sym, ap, ◌∙◌}
use native.Mathlib.Nat.{add-zero, add-suc, suc-add, zero-add, le_of_suc-le-suc, not-suc-le-zero}
use lib.ListN.{length, get_or}
use Rattle.characters.specs.Rows.{in_row}

pub length-in-row : (f : ℕ → ℕ) (k n : ℕ) → length (in_row f k n) ≡ n
length-in-row f k zero = refl
length-in-row f k (suc n) = ap suc (length-in-row f (suc k) n)

at-in-row : (f : ℕ → ℕ) (k n i : ℕ) → i < n → get_or (in_row f k n) i 0 ≡ f (k + i)
at-in-row f k zero i h = absurd (not-suc-le-zero h)
at-in-row f k (suc n) zero h = ap f (sym (add-zero k))
at-in-row f k (suc n) (suc i) h = at-in-row f (suc k) n i (le_of_suc-le-suc h) ∙ ap f (suc-add k i ∙ sym (add-suc k i))

-- of a row from 0 on
pub at_place : (f : ℕ → ℕ) (n i : ℕ) → i < n → get_or (in_row f 0 n) i 0 ≡ f i
at_place f n i h = at-in-row f 0 n i h ∙ ap f (zero-add i)
