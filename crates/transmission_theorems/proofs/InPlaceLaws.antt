-- How many of the symbols wanted stand in their places: bounds.
use Prim.Native.Nat.{ℕ, ◌+◌, ◌≤◌}
use mathlib.Core.Path.{◌≡◌, refl, sym, ap}
use mathlib.Core.Bool.{Bool, true, false, cond, ◌&&◌, ◌||◌}
use mathlib.Core.List.{List, [], ◌∷◌}
use native.Mathlib.Nat.{zero-add, add-zero, add_assoc, add-le-add}
use native.Mathlib.Omega.{arith}
use lib.Dec.{eqb}
use borrow.Author.Tests.{eqb-true, eq-eqb}
use Rattle.sequence.specs.Symbols.{within}
use Rattle.sequence.proofs.Tests.{both_true}
use Rattle.characters.specs.Code.{none}
use Rattle.transmission.specs.Layout.{dx_phasing, rx_phasing}
use Rattle.transmission.specs.Phasing.{heard_at, in_place, dx_good, rx_good}

-- the symbols of phasing
abbrev pub of_phasing : ℕ → Bool
of_phasing symbol = within 104 111 symbol || eqb symbol 125

abbrev all_of_phasing : List ℕ → Bool
all_of_phasing [] = true
all_of_phasing (symbol ∷ wanted) = of_phasing symbol && all_of_phasing wanted

-- none is no symbol of phasing
pub not_none : (symbol : ℕ) → of_phasing symbol ≡ true → none ≡ symbol → ⊥
not_none symbol l e = let z : false ≡ true = rw (sym e) at l in let w : ◌≡◌ {A = ℕ} 0 1 = cc in omega arith

-- how many of the symbols wanted pass a test on their place, every second one from a place on
abbrev pub passing : (ℕ → ℕ → Bool) → List ℕ → ℕ → ℕ
passing test [] place = 0
passing test (symbol ∷ wanted) place = cond (test place symbol) 1 0 + passing test wanted (place + 2)

in-place : (t wanted : List ℕ) (place : ℕ) → in_place t wanted place ≡ passing (λ q v. eqb (heard_at t q) v) wanted place
in-place t [] place = refl
in-place t (symbol ∷ wanted) place = ap (λ (n : ℕ). cond (eqb (heard_at t place) symbol) 1 0 + n) (in-place t wanted (place + 2))

one_more : (a b : Bool) → (a ≡ true → b ≡ true) → cond a 1 0 ≤ cond b 1 0
one_more false b h = omega arith
one_more true b h = rw (h refl) (omega arith)

-- where one test from a on gives another from b on, as many pass
passing-grows : (test other : ℕ → ℕ → Bool) (a b : ℕ)
    → ((q symbol : ℕ) → of_phasing symbol ≡ true → test (a + q) symbol ≡ true → other (b + q) symbol ≡ true)
    → (wanted : List ℕ) (place : ℕ) → all_of_phasing wanted ≡ true → passing test wanted (a + place) ≤ passing other wanted (b + place)
passing-grows test other a b h [] place l = omega arith
passing-grows test other a b h (symbol ∷ wanted) place l =
    let k = both_true (of_phasing symbol) (all_of_phasing wanted) l in
    rw (add_assoc a place 2, add_assoc b place 2)
    (add-le-add (one_more _ _ (h place symbol k.0)) (passing-grows test other a b h wanted (place + 2) k.1))

dx-of-phasing : all_of_phasing dx_phasing ≡ true
unfolding dx_phasing
dx-of-phasing = refl

rx-of-phasing : all_of_phasing rx_phasing ≡ true
unfolding rx_phasing
rx-of-phasing = refl

-- the counts of a start, against those of a test on the places behind it
module _ (t : List ℕ) (start : ℕ) (test : ℕ → ℕ → Bool) where
  pub at_most : ((q symbol : ℕ) → of_phasing symbol ≡ true → heard_at t (start + q) ≡ symbol → test q symbol ≡ true)
      → (dx_good t start ≤ passing test dx_phasing 0) × (rx_good t start ≤ passing test rx_phasing 1)
  unfolding dx_good rx_good
  at_most h =
      let grows =
      passing-grows (λ q v. eqb (heard_at t q) v) test start 0 (λ q v l e. rw (zero-add q) (h q v l (eqb-true _ _ e))) in (
        rw (in-place t dx_phasing start) (rw (add-zero start) at (grows dx_phasing 0 dx-of-phasing)),
        rw (in-place t rx_phasing (start + 1)) (grows rx_phasing 1 rx-of-phasing),
      )

  pub at_least : ((q symbol : ℕ) → of_phasing symbol ≡ true → test q symbol ≡ true → heard_at t (start + q) ≡ symbol)
      → (passing test dx_phasing 0 ≤ dx_good t start) × (passing test rx_phasing 1 ≤ rx_good t start)
  unfolding dx_good rx_good
  at_least h =
      let grows =
      passing-grows test (λ q v. eqb (heard_at t q) v) 0 start (λ q v l e. eq-eqb _ _ (h q v l (rw (zero-add q) at e))) in (
        rw (in-place t dx_phasing start) (rw (add-zero start) at (grows dx_phasing 0 dx-of-phasing)),
        rw (in-place t rx_phasing (start + 1)) (grows rx_phasing 1 rx-of-phasing),
      )
