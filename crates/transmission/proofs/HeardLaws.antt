-- What was handed in, byte by byte, and what was heard of it, place by place.
use Prim.Native.Nat.{ℕ, zero, suc, ◌+◌, ◌*◌, ◌/◌, ◌<◌}
use mathlib.Core.Path.{◌≡◌, refl, ap, ◌∙◌}
use mathlib.Core.List.{List, [], ◌∷◌, map}
use native.Mathlib.Omega.{arith}
use lib.Dec.{ltb}
use lib.ListN.{length, get_or, replicate, length-append, length-map, get_or-replicate, get_or-append, get_or-eq_default, get_or-map}
use lib.Seq.{get_or-append-add}
use borrow.Author.Tests.{ltb-true, ltb-false}
use Rattle.sequence.proofs.Tests.{Either, yes!, no!, which}
use Rattle.characters.specs.Code.{none, no_character, symbol_of}
use Rattle.characters.proofs.CodeLaws.{over-is-none}
use Rattle.transmission.specs.Phasing.{characters_of, most_lost, heard, heard_at}

pub length-characters : (bytes : List ℕ) → length (characters_of bytes) ≡ length bytes / 2
length-characters [] = refl
length-characters (low ∷ []) = refl
length-characters (low ∷ high ∷ bytes) = let h = length-characters bytes in omega arith

pub character-there : (bytes : List ℕ) (i d : ℕ) → i < length bytes / 2
    → get_or (characters_of bytes) i d ≡ get_or bytes (2 * i) 0 + 256 * get_or bytes (2 * i + 1) 0
character-there [] i d h = absurd (omega arith)
character-there (low ∷ []) i d h = absurd (omega arith)
character-there (low ∷ high ∷ bytes) zero d h = refl
character-there (low ∷ high ∷ bytes) (suc i) d h =
    let e : 2 * suc i ≡ suc (suc (2 * i)) = omega arith in
    let f : suc (suc (2 * i)) + 1 ≡ suc (suc (2 * i + 1)) = omega arith in
    rw (e, f) (character-there bytes i d (omega arith))

-- a place that holds a symbol is there
pub good-is-there : (t : List ℕ) (place : ℕ) → (heard_at t place ≡ none → ⊥) → place < length t
good-is-there t place good = go (which (ltb place (length t)))
  where
    go : Either (ltb place (length t)) → place < length t
    go (yes! l) = ltb-true _ _ l
    go (no! l) = absurd (good (get_or-eq_default t none (ltb-false place _ l)))

module _ (characters : List ℕ) where
  pub length-heard : length (heard characters) ≡ most_lost + length characters
  unfolding heard
  length-heard =
      length-append (replicate most_lost none) (map symbol_of characters)
      ∙ ap (λ (n : ℕ). most_lost + n) (length-map characters symbol_of)

  -- the eleven before the first that was handed in
  pub heard-lost : (place : ℕ) → place < most_lost → heard_at (heard characters) place ≡ none
  unfolding heard
  heard-lost place h =
      get_or-append (replicate most_lost none) (map symbol_of characters) none place h ∙ get_or-replicate most_lost place none none h

  -- one handed in, and none past the last
  pub heard-there : (i : ℕ) → heard_at (heard characters) (most_lost + i) ≡ symbol_of (get_or characters i no_character)
  unfolding heard
  heard-there i =
      get_or-append-add (replicate most_lost none) (map symbol_of characters) i none
      ∙ rw (over-is-none no_character (omega arith)) (get_or-map symbol_of characters i no_character)

-- half a character at the end is not heard
pub length-heard-bytes : (bytes : List ℕ) → length (heard (characters_of bytes)) ≡ most_lost + length bytes / 2
length-heard-bytes bytes = length-heard (characters_of bytes) ∙ ap (λ (n : ℕ). most_lost + n) (length-characters bytes)
