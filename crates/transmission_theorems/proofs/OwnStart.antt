-- A transmission's own start is a start still, with five places in a row spoiled or eleven lost at the beginning.
use Prim.Native.Nat.{ℕ, ◌+◌, ◌≤◌}
use mathlib.Core.Path.{◌≡◌, refl, ◌∙◌}
use mathlib.Core.Logic.{◌⊎◌, inl, inr}
use mathlib.Core.Bool.{Bool, true, ◌&&◌, ◌||◌}
use mathlib.Core.List.{List, [], ◌∷◌}
use native.Mathlib.Omega.{arith}
use lib.Dec.{leb, ltb, eqb}
use lib.ListN.{length, get_or}
use borrow.Author.Tests.{ltb-true, ltb-false, leb-true, eqb-true}
use Rattle.sequence.proofs.Tests.{both_true, either_true, Either, yes!, no!, which}
use Rattle.characters.specs.Code.{none}
use Rattle.transmission.specs.Layout.{dx_phasing, rx_phasing, dx, rx, sent}
use Rattle.transmission.specs.Phasing.{heard_at, is_phasing, phasing_at}
use Rattle.transmission.specs.Reading.{all_in_row}
use Rattle.transmission.proofs.RowTests.{in_row}
use Rattle.transmission.proofs.PhasingLaws.{at-most-14}
use Rattle.transmission_theorems.proofs.Shown.{Outside, KeptBut}
use Rattle.transmission_theorems.proofs.InPlaceLaws.{of_phasing, passing, at_least}
use Rattle.transmission_theorems.proofs.EnoughPhasing.{needs, starts}

-- the symbol is sent in a place, and that is none of `count` from a place on
abbrev stays : List ℕ → ℕ → ℕ → ℕ → ℕ → Bool
stays s place count q symbol = (ltb q place || leb (place + count) q) && eqb (get_or (sent s) q none) symbol

dx_left : List ℕ → ℕ → ℕ → ℕ
dx_left s place count = passing (stays s place count) dx_phasing 0

rx_left : List ℕ → ℕ → ℕ → ℕ
rx_left s place count = passing (stays s place count) rx_phasing 1

-- phasing is left
left : List ℕ → ℕ → ℕ → Bool
left s place count = is_phasing (dx_left s place count) (rx_left s place count)

-- what is left counts
counts : (s t : List ℕ) (start place count : ℕ) → KeptBut s t start place count → left s place count ≡ true
    → dx_left s place count + rx_left s place count ≤ phasing_at t start
unfolding left dx_left rx_left
counts s t start place count kept e =
    let b = at_least t start (stays s place count) there in
    starts t start _ _ e b.0 b.1
  where
    there : (q symbol : ℕ) → of_phasing symbol ≡ true → stays s place count q symbol ≡ true → heard_at t (start + q) ≡ symbol
    there q symbol l h =
        let a = both_true (ltb q place || leb (place + count) q) (eqb (get_or (sent s) q none) symbol) h in
        kept q (go (either_true (ltb q place) (leb (place + count) q) a.0)) ∙ eqb-true _ _ a.1
      where
        go : (ltb q place ≡ true) ⊎ (leb (place + count) q ≡ true) → Outside place count q
        go (inl p) = inl (ltb-true _ _ p)
        go (inr p) = inr (leb-true _ _ p)

some_left : (s t : List ℕ) (start place count : ℕ) → KeptBut s t start place count → left s place count ≡ true → 1 ≤ phasing_at t start
unfolding left
some_left s t start place count kept e =
    let c = counts s t start place count kept e in
    let n = needs (dx_left s place count) (rx_left s place count) e in
    omega arith

-- where the places come behind the phasing it is whole
pub whole-starts : (s t : List ℕ) (start place count : ℕ) → 1 ≤ length s → 16 ≤ place → KeptBut s t start place count
    → phasing_at t start ≡ 14
unfolding left dx_left rx_left is_phasing dx_phasing rx_phasing dx rx
whole-starts [] t start place count long behind kept = absurd (omega arith)
whole-starts (a ∷ l) t start place count long behind kept =
    let least : 14 ≤ phasing_at t start = counts (a ∷ l) t start 16 (place + count) (λ q h. kept q (later q h)) refl in
    let most = at-most-14 t start in
    omega arith
  where
    later : (q : ℕ) → Outside 16 (place + count) q → Outside place count q
    later q (inl h) = inl (omega arith)
    later q (inr h) = inr (omega arith)

-- computed: five in a row among the phasing characters, and some at the beginning
five-left : (a : ℕ) (l : List ℕ) → all_in_row (λ place. left (a ∷ l) place 5) 0 16 ≡ true
unfolding left dx_left rx_left is_phasing dx_phasing rx_phasing dx rx
five-left a l = refl

cut_left : (a : ℕ) (l : List ℕ) → all_in_row (λ lost. left (a ∷ l) 0 lost) 0 12 ≡ true
unfolding left dx_left rx_left is_phasing dx_phasing rx_phasing dx rx
cut_left a l = refl

pub spoiled-starts : (s t : List ℕ) (start place count : ℕ) → 1 ≤ length s → count ≤ 5 → KeptBut s t start place count
    → 1 ≤ phasing_at t start
spoiled-starts [] t start place count long few kept = absurd (omega arith)
spoiled-starts (a ∷ l) t start place count long few kept = go (which (ltb place 16))
  where
    go : Either (ltb place 16) → 1 ≤ phasing_at t start
    go (yes! p) =
        some_left (a ∷ l) t start place 5
        (λ q h. kept q (wider q h))
        (in_row (λ place. left (a ∷ l) place 5) 0 16 place (five-left a l) (omega arith) (omega (arith, ltb-true place 16 p)))
      where
        wider : (q : ℕ) → Outside place 5 q → Outside place count q
        wider q (inl h) = inl h
        wider q (inr h) = inr (omega arith)
    go (no! p) = omega (arith, whole-starts (a ∷ l) t start place count long (ltb-false place 16 p) kept)

pub cut-starts : (s t : List ℕ) (start lost : ℕ) → 1 ≤ length s → lost ≤ 11 → KeptBut s t start 0 lost → 1 ≤ phasing_at t start
cut-starts [] t start lost long few kept = absurd (omega arith)
cut-starts (a ∷ l) t start lost long few kept =
    some_left (a ∷ l) t start 0 lost kept (in_row (λ lost. left (a ∷ l) 0 lost) 0 12 lost (cut_left a l) (omega arith) (omega arith))
