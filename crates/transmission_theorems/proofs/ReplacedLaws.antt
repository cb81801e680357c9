-- A list with other members in the places from one on.
use Prim.Native.Nat.{ℕ, ◌+◌, ◌-◌, ◌≤◌, ◌<◌}
use mathlib.Core.Path.{◌≡◌, ap, ◌∙◌}
use mathlib.Core.Logic.{inl, inr}
use mathlib.Core.List.{List, ◌++◌}
use native.Mathlib.Omega.{arith}
use lib.ListN.{length, get_or, take, drop, get_or-append}
use lib.Seq.{get_or-append-add, get_or-take, get_or-drop, length-take-le}
use Rattle.transmission_theorems.specs.Statement.{replaced}
use Rattle.transmission_theorems.proofs.Shown.{Outside}

module _ (l : List ℕ) (place : ℕ) (others : List ℕ) (fits : place + length others ≤ length l) where
  in-front : length (take place l) ≡ place
  in-front = length-take-le place l (omega arith)

  behind : (i d : ℕ) → get_or (replaced l place others) (place + i) d ≡ get_or (others ++ drop (place + length others) l) i d
  behind i d = rw in-front at (get_or-append-add (take place l) (others ++ drop (place + length others) l) i d)

  pub replaced-inside : (i d : ℕ) → i < length others → get_or (replaced l place others) (place + i) d ≡ get_or others i d
  replaced-inside i d h = behind i d ∙ get_or-append others (drop (place + length others) l) d i h

  pub replaced-outside : (i d : ℕ) → Outside place (length others) i → get_or (replaced l place others) i d ≡ get_or l i d
  replaced-outside i d (inl h) =
      get_or-append (take place l) (others ++ drop (place + length others) l) d i (omega (arith, in-front)) ∙ get_or-take place l i d h
  replaced-outside i d (inr h) =
      let j : ℕ = i - (place + length others) in
      let e : i ≡ place + (length others + j) = omega arith in
      let f : place + length others + j ≡ i = omega arith in
      ap (λ (n : ℕ). get_or (replaced l place others) n d) e
      ∙ behind (length others + j) d
      ∙ get_or-append-add others (drop (place + length others) l) j d
      ∙ get_or-drop (place + length others) l j d
      ∙ ap (λ (n : ℕ). get_or l n d) f
