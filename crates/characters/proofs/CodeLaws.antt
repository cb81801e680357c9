-- Laws of the ten-unit code.
use Prim.Native.Nat.{ℕ, ◌%◌, ◌≤◌, ◌<◌}
use mathlib.Core.Path.{◌≡◌, refl, sym, ap, ◌∙◌}
use mathlib.Core.Logic.{◌⊎◌, inl, inr, ⊎_elim}
use native.Mathlib.Omega.{arith}
use lib.Dec.{eqb}
use borrow.Author.Tests.{le-leb, eq-eqb, ne_eqb, eqb-true, eqb-false}
use lib.Count.{ones, ones-le}
use Rattle.sequence.proofs.Tests.{Either, yes!, no!, which}
use Rattle.characters.specs.Code.{zeros, ten_units, character_of, none, no_character, symbol_of}

-- a symbol has at most seven ones
pub ones-in-symbol : (symbol : ℕ) → symbol ≤ 127 → ones symbol ≤ 7
ones-in-symbol symbol h = ones-le 7 symbol (omega (arith, h))

zeros-at-most : (symbol : ℕ) → zeros symbol ≤ 7
unfolding zeros
zeros-at-most symbol = omega arith

units-fit : (symbol : ℕ) → symbol ≤ 127 → ten_units symbol < no_character
unfolding ten_units
units-fit symbol h =
    let seven = zeros-at-most symbol in
    omega (arith, h, seven)

pub over-is-none : (character : ℕ) → no_character ≤ character → none ≡ symbol_of character
unfolding symbol_of character_of
over-is-none character h =
    let small : character % 128 ≤ 127 = omega arith in
    let differs : ten_units (character % 128) ≡ character → ⊥ =
    λ e. let fit = units-fit (character % 128) small in omega (arith, e, fit, h) in
    rw (le-leb _ _ small, ne_eqb _ _ differs)

-- ── the symbol of a character ────────────────────────────────────────────────

-- a character's low seven units are its symbol
pub units-low : (symbol : ℕ) → symbol ≤ 127 → character_of symbol % 128 ≡ symbol
unfolding character_of ten_units
units-low symbol h = rw (le-leb symbol 127 h) (omega arith)

pub symbol-of-its-own : (symbol : ℕ) → symbol ≤ 127 → symbol_of (character_of symbol) ≡ symbol
unfolding symbol_of
symbol-of-its-own symbol h = rw (units-low symbol h, eq-eqb (character_of symbol) (character_of symbol) refl)

-- a character is none, or that of its symbol
abbrev pub NoneOrGood : ℕ → Type 0
NoneOrGood character = (symbol_of character ≡ none) ⊎ ((symbol_of character ≤ 127) × (character_of (symbol_of character) ≡ character))

pub none-or-good : (character : ℕ) → NoneOrGood character
unfolding symbol_of
none-or-good character = go (which (eqb (character_of (character % 128)) character))
  where
    go : Either (eqb (character_of (character % 128)) character) → NoneOrGood character
    go (yes! e) = inr (rw e (omega arith), rw e (eqb-true _ _ e))
    go (no! e) = inl (rw e)

pub good-character : (character : ℕ) → symbol_of character ≤ 127 → character_of (symbol_of character) ≡ character
good-character character h = ⊎_elim (λ n. absurd (omega (arith, n, h))) (λ good. good.1) (none-or-good character)

-- a character is read as a symbol exactly where it is that symbol's own
pub reads_as : (character symbol : ℕ) → symbol ≤ 127 → eqb (symbol_of character) symbol ≡ eqb character (character_of symbol)
reads_as character symbol h = go (which (eqb character (character_of symbol)))
  where
    go : Either (eqb character (character_of symbol)) → eqb (symbol_of character) symbol ≡ eqb character (character_of symbol)
    go (yes! e) = let same = eqb-true character (character_of symbol) e in
        eq-eqb _ _ (ap symbol_of same ∙ symbol-of-its-own symbol h) ∙ sym e
    go (no! e) =
        ne_eqb _ _ (λ k. eqb-false character (character_of symbol) e (sym (good-character character (rw k h)) ∙ ap character_of k)) ∙ sym e
