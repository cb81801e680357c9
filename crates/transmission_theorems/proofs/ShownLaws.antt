-- What a transmission shows at each of its places.
use Prim.Native.Nat.{ℕ, ◌+◌, ◌-◌, ◌≤◌, ◌<◌}
use mathlib.Core.Path.{◌≡◌}
use mathlib.Core.Logic.{◌⊎◌, inl, inr}
use mathlib.Core.List.{List}
use native.Mathlib.Omega.{arith}
use lib.Dec.{leb, ltb}
use lib.ListN.{get_or, replicate}
use lib.Seq.{get_or-append-add}
use borrow.Author.Tests.{leb-true, leb-false, ltb-true, ltb-false}
use Rattle.sequence.proofs.Tests.{Either, yes!, no!, which}
use Rattle.characters.specs.Code.{none}
use Rattle.transmission.specs.Layout.{sent}
use Rattle.transmission.specs.Phasing.{most_lost, heard_at}
use Rattle.transmission_theorems.proofs.Shown.{sent_behind, ShownAt, Shown, Outside, Inside, KeptBut}

pub out-or-in : (place count p : ℕ) → Outside place count p ⊎ Inside place count p
out-or-in place count p = go (which (ltb p place)) (which (leb (place + count) p))
  where
    go : Either (ltb p place) → Either (leb (place + count) p) → Outside place count p ⊎ Inside place count p
    go (yes! a) b = inl (inl (ltb-true p place a))
    go (no! a) (yes! b) = inl (inr (leb-true (place + count) p b))
    go (no! a) (no! b) = inr (ltb-false p place a, leb-false (place + count) p b)

-- none, or what was sent there
abbrev pub NoneOrSent : List ℕ → List ℕ → ℕ → ℕ → Type 0
NoneOrSent s t start p = (heard_at t (start + p) ≡ none) ⊎ (heard_at t (start + p) ≡ get_or (sent s) p none)

module _ (s t : List ℕ) (lost start : ℕ) (begins : lost + start ≡ most_lost) where
  -- the place of a start's place p among those shown
  at-start : (p : ℕ) → get_or (sent_behind s) (lost + (start + p)) none ≡ get_or (sent s) p none
  at-start p =
      let e : lost + (start + p) ≡ most_lost + p = omega arith in
      rw e (get_or-append-add (replicate most_lost none) (sent s) p none)

  pub all_shown : ((q : ℕ) → q < start → heard_at t q ≡ none) → ((p : ℕ) → NoneOrSent s t start p) → Shown s lost t
  all_shown before each q = go (which (ltb q start))
    where
      behind : start ≤ q → ShownAt s lost t q
      behind h =
          let e : start + (q - start) ≡ q = omega arith in
          rw (← at-start (q - start), e) at (each (q - start))

      go : Either (ltb q start) → ShownAt s lost t q
      go (yes! a) = inl (before q (ltb-true q start a))
      go (no! a) = behind (ltb-false q start a)

-- places in a row that hold none, and the others what was sent
pub none-or-sent : (s t : List ℕ) (start place count : ℕ) → KeptBut s t start place count
    → ((p : ℕ) → Inside place count p → heard_at t (start + p) ≡ none) → (p : ℕ) → NoneOrSent s t start p
none-or-sent s t start place count kept nones p = go (out-or-in place count p)
  where
    go : Outside place count p ⊎ Inside place count p → NoneOrSent s t start p
    go (inl o) = inr (kept p o)
    go (inr i) = inl (nones p i)
