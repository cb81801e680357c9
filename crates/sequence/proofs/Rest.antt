-- What is left of a list from a place on: the turns of the loops over symbols.
use Prim.Native.Nat.{ℕ, ◌+◌, ◌<◌}
use mathlib.Core.Path.{◌≡◌, refl, ◌∙◌}
use mathlib.Core.Bool.{Bool, true, false, ◌&&◌}
use mathlib.Core.List.{List, [], ◌∷◌}
use native.Mathlib.Numerals.{add-one}
use lib.Bits.{bit_xor}
use lib.Dec.{leb}
use Rattle.std.specs.List.{fold, list_all}
use lib.ListN.{length, drop, get_or}
use lib.Seq.{drop-cons}
use Rattle.sequence.specs.Symbols.{exclusive_or, all_at_most}

-- the two words on symbols as folds of the library, which its lemmas on iterators speak of
pub or-is : (x : ℕ) (s : List ℕ) → exclusive_or x s ≡ fold bit_xor x s
or-is x [] = refl
or-is x (a ∷ s) = or-is (bit_xor x a) s

pub all-is : (m : ℕ) (s : List ℕ) → all_at_most m s ≡ list_all (λ a. leb a m) s
all-is m [] = refl
all-is m (a ∷ s) = rw (all-is m s)

pub fold-within : (m : ℕ) (b : Bool) (s : List ℕ) → fold (λ b a. b && leb a m) b s ≡ (b && all_at_most m s)
fold-within m true [] = refl
fold-within m false [] = refl
fold-within m b (a ∷ s) = fold-within m (b && leb a m) s ∙ both b
  where
    both : (b : Bool) → ((b && leb a m) && all_at_most m s) ≡ (b && (leb a m && all_at_most m s))
    both true = refl
    both false = refl

pub rest : (s : List ℕ) (i : ℕ) → i < length s → drop i s ≡ get_or s i 0 ∷ drop (i + 1) s
rest s i h = rw (add-one, drop-cons s i 0)

pub or_turn : (x : ℕ) (s : List ℕ) (i : ℕ) → i < length s → exclusive_or (bit_xor x (get_or s i 0)) (drop (i + 1) s) ≡ exclusive_or x (drop i s)
or_turn x s i h = rw (rest s i h)
