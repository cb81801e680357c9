-- Which symbols fit which kinds of places, and that a transmission of them fits a transmission of the kinds.
use Prim.Native.Nat.{ℕ, zero, suc, ◌-◌}
use mathlib.Core.Path.{◌≡◌, refl, sym, ap, ◌∙◌}
use mathlib.Core.Bool.{true, false}
use mathlib.Core.List.{List, [], ◌∷◌, ◌++◌}
use lib.ListN.{length, get_or, replicate}
use borrow.Author.Tests.{eq-eqb}
use Rattle.characters.specs.Code.{none}
use Rattle.transmission.specs.Layout.{dx_phasing, rx_phasing, format_twice, end_of, dx, rx, in_turn}
use Rattle.transmission.specs.Phasing.{most_lost}
use Rattle.transmission_theorems.proofs.Shown.{sent_behind}
use Rattle.transmission_theorems.proofs.InPlaceLaws.{of_phasing}
use Rattle.transmission_theorems.proofs.PossibleStarts.{may_be}

-- a symbol that is none of phasing, or may stand there
pub data Fits (kind symbol : ℕ) : Type 0 where
  plain : of_phasing symbol ≡ false → Fits kind symbol
  possible : may_be kind symbol ≡ true → Fits kind symbol

pub data AllFit : List ℕ → List ℕ → Type 0 where
  no_more : AllFit [] []
  one_more : {kind symbol : ℕ} {k s : List ℕ} → Fits kind symbol → AllFit k s → AllFit (kind ∷ k) (symbol ∷ s)

itself : (symbol : ℕ) → Fits symbol symbol
itself symbol = possible (rw (eq-eqb symbol symbol refl))

all-itself : (s : List ℕ) → AllFit s s
all-itself [] = no_more
all-itself (symbol ∷ s) = one_more (itself symbol) (all-itself s)

pub append-fit : {k s l t : List ℕ} → AllFit k s → AllFit l t → AllFit (k ++ l) (s ++ t)
append-fit no_more g = g
append-fit (one_more h f) g = one_more h (append-fit f g)

pub at-fit : {k s : List ℕ} (kind symbol : ℕ) → Fits kind symbol → AllFit k s → (i : ℕ) → Fits (get_or k i kind) (get_or s i symbol)
at-fit kind symbol out no_more i = out
at-fit kind symbol out (one_more h f) zero = h
at-fit kind symbol out (one_more h f) (suc i) = at-fit kind symbol out f i

same_length : {k s : List ℕ} → AllFit k s → length k ≡ length s
same_length no_more = refl
same_length (one_more h f) = ap suc (same_length f)

in-turn-fit : {k s l t : List ℕ} → AllFit k s → AllFit l t → AllFit (in_turn k l) (in_turn s t)
in-turn-fit no_more g = no_more
in-turn-fit (one_more h f) no_more = no_more
in-turn-fit (one_more h f) (one_more i g) = one_more h (one_more i (in-turn-fit f g))

-- what is of phasing and fits may stand there
pub fits-so : {kind symbol : ℕ} → Fits kind symbol → of_phasing symbol ≡ true → may_be kind symbol ≡ true
fits-so (plain p) e = let z : false ≡ true = sym p ∙ e in cc
fits-so (possible p) e = p

module _ (k s : List ℕ) (f : AllFit k s) where
  twice-fit : AllFit (format_twice k) (format_twice s)
  twice-fit = one_more (at-fit 0 0 (plain refl) f 0) f

  end-fit : Fits (end_of k) (end_of s)
  end-fit = rw (same_length f) (at-fit 0 0 (plain refl) f (length s - 2))

  dx-fit : AllFit (dx k) (dx s)
  unfolding dx
  dx-fit = append-fit (all-itself dx_phasing) (append-fit twice-fit (one_more end-fit (one_more end-fit no_more)))

  rx-fit : AllFit (rx k) (rx s)
  unfolding rx
  rx-fit = append-fit (all-itself rx_phasing) twice-fit

  pub sent-fit : AllFit (sent_behind k) (sent_behind s)
  sent-fit = append-fit (all-itself (replicate most_lost none)) (in-turn-fit dx-fit rx-fit)
