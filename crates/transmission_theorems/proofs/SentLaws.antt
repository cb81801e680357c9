-- The symbols of a transmission, and what is heard of each of its characters.
use Prim.Native.Nat.{ℕ, ◌-◌}
use mathlib.Core.Path.{◌≡◌, refl, sym, ap, ◌∙◌}
use mathlib.Core.Bool.{true}
use mathlib.Core.List.{List, [], ◌∷◌, ◌++◌, map}
use native.Mathlib.Omega.{arith}
use lib.Dec.{leb}
use lib.ListN.{length, get_or, get_or-map}
use borrow.Author.Tests.{leb-true, le-leb}
use Rattle.sequence.specs.Symbols.{all_at_most}
use Rattle.sequence.proofs.Tests.{both_true}
use Rattle.writing.proofs.EvenedLaws.{all-at}
use Rattle.sequence_theorems.proofs.RoundTrip.{all_append}
use Rattle.characters.specs.Code.{none, no_character, character_of, symbol_of}
use Rattle.characters.proofs.CodeLaws.{over-is-none, symbol-of-its-own}
use Rattle.transmission.specs.Layout.{dx_phasing, rx_phasing, format_twice, end_of, dx, rx, in_turn, sent, transmission}

all-in-turn : (m : ℕ) (xs ys : List ℕ) → all_at_most m xs ≡ true → all_at_most m ys ≡ true → all_at_most m (in_turn xs ys) ≡ true
all-in-turn m [] ys a b = refl
all-in-turn m (x ∷ xs) [] a b = refl
all-in-turn m (x ∷ xs) (y ∷ ys) a b =
    let h = both_true (leb x m) (all_at_most m xs) a in
    let k = both_true (leb y m) (all_at_most m ys) b in
    rw (h.0, k.0) (all-in-turn m xs ys h.1 k.1)

module _ (s : List ℕ) (small : all_at_most 127 s ≡ true) where
  at_most : (i : ℕ) → leb (get_or s i 0) 127 ≡ true
  at_most i = le-leb (get_or s i 0) 127 (all-at 127 s i small)

  formats-small : all_at_most 127 (format_twice s) ≡ true
  formats-small = rw (at_most 0) small

  dx-small : all_at_most 127 (dx s) ≡ true
  unfolding dx dx_phasing
  dx-small =
      all_append 127 dx_phasing (format_twice s ++ (end_of s ∷ end_of s ∷ [])) refl
      (all_append 127 (format_twice s) (end_of s ∷ end_of s ∷ []) formats-small (rw (at_most (length s - 2))))

  rx-small : all_at_most 127 (rx s) ≡ true
  unfolding rx rx_phasing
  rx-small = all_append 127 rx_phasing (format_twice s) refl formats-small

  pub sent-small : all_at_most 127 (sent s) ≡ true
  sent-small = all-in-turn 127 (dx s) (rx s) dx-small rx-small

symbols-back : (l : List ℕ) → all_at_most 127 l ≡ true → map symbol_of (map character_of l) ≡ l
symbols-back [] e = refl
symbols-back (x ∷ l) e =
    let h = both_true (leb x 127) (all_at_most 127 l) e in
    rw (symbol-of-its-own x (leb-true x 127 h.0), symbols-back l h.1)

pub heard-as-sent : (s : List ℕ) → all_at_most 127 s ≡ true → (p : ℕ) → symbol_of (get_or (transmission s) p no_character) ≡ get_or (sent s) p none
unfolding transmission
heard-as-sent s small p =
    let e : get_or (map symbol_of (transmission s)) p none ≡ symbol_of (get_or (transmission s) p no_character) =
    rw (over-is-none no_character (omega arith)) (get_or-map symbol_of (transmission s) p no_character) in
    sym e ∙ ap (λ (l : List ℕ). get_or l p none) (symbols-back (sent s) (sent-small s small))
