-- How many phasing characters make a start.
use Prim.Native.Nat.{ℕ, ◌+◌, ◌≤◌}
use mathlib.Core.Path.{◌≡◌, refl, sym, ◌∙◌}
use mathlib.Core.Logic.{◌⊎◌, inl, inr}
use mathlib.Core.Bool.{true, false, cond, ◌&&◌, ◌||◌, or-true}
use mathlib.Core.List.{List}
use native.Mathlib.Omega.{arith}
use lib.Dec.{leb}
use borrow.Author.Tests.{leb-true, leb-false, le-leb}
use Rattle.sequence.proofs.Tests.{both_true, either_true, Either, yes!, no!, which}
use Rattle.characters.specs.Code.{none}
use Rattle.transmission.specs.Layout.{dx_phasing, rx_phasing}
use Rattle.transmission.specs.Phasing.{heard_at, dx_good, rx_good, is_phasing, phasing_at}
use Rattle.transmission_theorems.proofs.InPlaceLaws.{not_none, at_most}

-- a start has an RX character, and three in all; and that is enough
pub needs : (dx rx : ℕ) → is_phasing dx rx ≡ true → (1 ≤ rx) × (3 ≤ dx + rx)
unfolding is_phasing
needs dx rx e = go (either_true (leb 2 dx && leb 1 rx) _ e)
  where
    three : ((leb 1 dx && leb 2 rx) ≡ true) ⊎ (leb 3 rx ≡ true) → (1 ≤ rx) × (3 ≤ dx + rx)
    three (inl p) =
        let h = both_true (leb 1 dx) (leb 2 rx) p in
        omega (arith, leb-true 1 dx h.0, leb-true 2 rx h.1)
    three (inr p) = omega (arith, leb-true 3 rx p)

    go : ((leb 2 dx && leb 1 rx) ≡ true) ⊎ (((leb 1 dx && leb 2 rx) || leb 3 rx) ≡ true) → (1 ≤ rx) × (3 ≤ dx + rx)
    go (inl p) =
        let h = both_true (leb 2 dx) (leb 1 rx) p in
        omega (arith, leb-true 2 dx h.0, leb-true 1 rx h.1)
    go (inr p) = three (either_true (leb 1 dx && leb 2 rx) (leb 3 rx) p)

enough : (dx rx : ℕ) → 1 ≤ rx → 3 ≤ dx + rx → is_phasing dx rx ≡ true
unfolding is_phasing
enough dx rx h k = go (which (leb 3 rx)) (which (leb 2 dx))
  where
    go : Either (leb 3 rx) → Either (leb 2 dx) → ((leb 2 dx && leb 1 rx) || ((leb 1 dx && leb 2 rx) || leb 3 rx)) ≡ true
    go (yes! p) q = rw (p, or-true, or-true)
    go (no! p) (yes! q) = rw (q, le-leb 1 rx h)
    go (no! p) (no! q) =
        let some : 1 ≤ dx = omega (arith, leb-false 3 rx p) in
        let two : 2 ≤ rx = omega (arith, leb-false 2 dx q) in
        rw (le-leb 1 dx some, le-leb 2 rx two, or-true)

-- a start with at least so many
pub starts : (t : List ℕ) (start dx rx : ℕ) → is_phasing dx rx ≡ true → dx ≤ dx_good t start → rx ≤ rx_good t start
    → dx + rx ≤ phasing_at t start
unfolding phasing_at
starts t start dx rx e h k =
    let n = needs dx rx e in
    rw (enough (dx_good t start) (rx_good t start) (omega arith) (omega arith)) (omega arith)

-- no start, with at most so many
pub no_start : (t : List ℕ) (start dx rx : ℕ) → is_phasing dx rx ≡ false → dx_good t start ≤ dx → rx_good t start ≤ rx
    → phasing_at t start ≡ 0
unfolding phasing_at
no_start t start dx rx e h k = go (which (is_phasing (dx_good t start) (rx_good t start)))
  where
    go : Either (is_phasing (dx_good t start) (rx_good t start))
        → cond (is_phasing (dx_good t start) (rx_good t start)) (dx_good t start + rx_good t start) 0 ≡ 0
    go (no! p) = rw p
    go (yes! p) =
        let n = needs (dx_good t start) (rx_good t start) p in
        let z : true ≡ false = sym (enough dx rx (omega arith) (omega arith)) ∙ e in
        cc

-- nothing stands where nothing was heard
pub nothing-heard : (t : List ℕ) (start : ℕ) → ((q : ℕ) → heard_at t (start + q) ≡ none) → phasing_at t start ≡ 0
unfolding dx_phasing rx_phasing is_phasing
nothing-heard t start h =
    let b = at_most t start (λ q v. false) (λ q v l e. absurd (not_none v l (sym (h q) ∙ e))) in
    no_start t start 0 0 refl b.0 b.1
