-- A symbol by its copies, the symbols in a row, and where they end.
use Prim.Native.Nat.{ℕ, zero, suc, ◌+◌, ◌-◌, ◌*◌, ◌≤◌, ◌<◌}
use mathlib.Core.Path.{◌≡◌, refl, sym}
use mathlib.Core.Bool.{Bool, true, false, cond}
use mathlib.Core.List.{List, [], ◌∷◌, ◌++◌}
use native.Mathlib.Omega.{arith}
use lib.Dec.{eqb}
use lib.ListN.{length, get_or, take, drop, length-take}
use borrow.Author.Tests.{eqb-true}
use Rattle.sequence.specs.Figures.{longest}
use Rattle.sequence.specs.Layout.{end_ok}
use Rattle.sequence.proofs.Tests.{Either, yes!, no!, which}
use Rattle.sequence.proofs.Rest.{rest}
use Rattle.characters.specs.Code.{none}
use Rattle.characters.proofs.RowLaws.{length-in-row, at_place}
use Rattle.transmission.specs.Phasing.{heard_at}
use Rattle.transmission.specs.Copies.{first_good, symbol_at, symbols_from, before_end, count_of}

-- ── copies ───────────────────────────────────────────────────────────────────

-- some places, and others where these are all none
pub good-of-both : (t places others : List ℕ)
    → first_good t (places ++ others) ≡ cond (eqb (first_good t places) none) (first_good t others) (first_good t places)
good-of-both t [] others = refl
good-of-both t (place ∷ places) others = go (which (eqb (heard_at t place) none)) (good-of-both t places others)
  where
    go : Either (eqb (heard_at t place) none)
        → first_good t (places ++ others) ≡ cond (eqb (first_good t places) none) (first_good t others) (first_good t places)
        → first_good t (place ∷ (places ++ others))
        ≡ cond (eqb (first_good t (place ∷ places)) none) (first_good t others) (first_good t (place ∷ places))
    go (yes! e) later = rw e later
    go (no! e) later = rw (e, e)

pub one_place : (t : List ℕ) (place : ℕ) → first_good t (place ∷ []) ≡ heard_at t place
one_place t place = go (which (eqb (heard_at t place) none))
  where
    go : Either (eqb (heard_at t place) none) → first_good t (place ∷ []) ≡ heard_at t place
    go (yes! e) = rw e (sym (eqb-true _ _ e))
    go (no! e) = rw e

-- a symbol behind the format has two
pub behind-format : (t : List ℕ) (start k : ℕ) → 1 ≤ k
    → symbol_at t start k ≡ first_good t ((start + 14 + 2 * k) ∷ (start + 19 + 2 * k) ∷ [])
unfolding symbol_at
behind-format t start zero h = absurd (omega arith)
behind-format t start (suc k) h = refl

-- ── symbols ──────────────────────────────────────────────────────────────────

module _ (t : List ℕ) (start : ℕ) where
  pub symbols-length : length (symbols_from t start) ≡ longest
  unfolding symbols_from
  symbols-length = length-in-row (symbol_at t start) 0 longest

  pub symbol-there : (k : ℕ) → k < longest → get_or (symbols_from t start) k 0 ≡ symbol_at t start k
  unfolding symbols_from
  symbol-there k h = at_place (symbol_at t start) longest k h

-- ── their count ──────────────────────────────────────────────────────────────

module _ (symbols : List ℕ) where
  -- what is left from a place on, up to place 25
  abbrev pub ends_from : ℕ → ℕ
  ends_from place = place + 2 + before_end (take (26 - place) (drop place symbols))

  pub ends-from-19 : ends_from 19 ≡ count_of symbols
  unfolding count_of
  ends-from-19 = refl

  module _ (place : ℕ) (h : place ≤ 25) (l : place < length symbols) where
    left : 26 - place ≡ suc (26 - (place + 1))
    left = omega arith

    pub ends-here : end_ok (get_or symbols place 0) ≡ true → ends_from place ≡ place + 2
    ends-here e = rw (left, rest symbols place l, e) (omega arith)

    pub ends-later : end_ok (get_or symbols place 0) ≡ false → ends_from place ≡ ends_from (place + 1)
    ends-later e = rw (left, rest symbols place l, e) (omega arith)

  pub ends-at-last : ends_from 26 ≡ longest
  ends-at-last = refl

-- at most 28
before-within : (s : List ℕ) → before_end s ≤ length s
before-within [] = omega arith
before-within (symbol ∷ s) = go (end_ok symbol) (before-within s)
  where
    go : (b : Bool) → before_end s ≤ length s → cond b 0 (suc (before_end s)) ≤ suc (length s)
    go true later = omega arith
    go false later = omega arith

pub count_most : (symbols : List ℕ) → count_of symbols ≤ longest
unfolding count_of
count_most symbols = omega (arith, before-within (take 7 (drop 19 symbols)), length-take 7 (drop 19 symbols))
