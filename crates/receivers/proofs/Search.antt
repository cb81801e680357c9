-- What the search through one receiver's bytes comes to.
use Prim.Native.Nat.{ℕ, zero, suc, ◌+◌, ◌<◌, ◌≤◌}
use mathlib.Core.Path.{◌≡◌, refl, subst}
use mathlib.Core.List.{List, [], ◌∷◌}
use native.Mathlib.Nat.{le_of_suc-le-suc, not-suc-le-zero}
use native.Mathlib.Omega.{arith}
use lib.ListN.{length, drop, length-drop}
use lib.Seq.{drop-nil}
use Rattle.std.specs.Prelude.{Option as Optional, Some, None}
use Rattle.receivers.specs.declared.Stretch.{Stretch}
use Rattle.receivers.specs.Finding.{length_at, here_or_later, first_from, found_from, first_in}
use Rattle.receivers.proofs.LengthLaws.{long_of, length-begins, begins-none}

-- nothing begins anywhere in the bytes, or the first that does begins so far behind their place
pub data Search (place : ℕ) (b : List ℕ) : Optional Stretch → Type 0 where
  nowhere : ((p : ℕ) → length_at (drop p b) ≡ None) → Search place b None
  somewhere : (p n : ℕ) → length_at (drop p b) ≡ Some n → ((q : ℕ) → q < p → length_at (drop q b) ≡ None)
      → Search place b (Some (record { place = place + p; count = n }))

nothing-in-none : (p : ℕ) → length_at (drop p []) ≡ None
nothing-in-none p = rw (drop-nil p) (begins-none [] (λ n h. omega (arith, h.fits, (long_of n [] h).0)))

-- the first byte begins nothing, and what is found behind it is found
module _ (x : ℕ) (b : List ℕ) (none : length_at (x ∷ b) ≡ None) where
  none_from : ((p : ℕ) → length_at (drop p b) ≡ None) → (p : ℕ) → length_at (drop p (x ∷ b)) ≡ None
  none_from h zero = none
  none_from h (suc p) = h p

  none_before : (p : ℕ) → ((q : ℕ) → q < p → length_at (drop q b) ≡ None) → (q : ℕ) → q < suc p → length_at (drop q (x ∷ b)) ≡ None
  none_before p h zero l = none
  none_before p h (suc q) l = h q (le_of_suc-le-suc l)

  behind : (place : ℕ) (w : Optional Stretch) → Search (place + 1) b w → Search place (x ∷ b) w
  behind place _ (nowhere h) = nowhere (none_from h)
  behind place _ (somewhere p n e h) =
      let same : place + 1 + p ≡ place + suc p = omega arith in
      rw same (somewhere (suc p) n e (none_before p h))

searched : (place : ℕ) (b : List ℕ) → Search place b (first_from place b)
searched place [] = nowhere nothing-in-none
searched place (x ∷ b) = go (length_at (x ∷ b)) refl (searched (place + 1) b)
  where
    go : (o : Optional ℕ) → length_at (x ∷ b) ≡ o → Search (place + 1) b (first_from (place + 1) b)
        → Search place (x ∷ b) (here_or_later place o (first_from (place + 1) b))
    go None e later = behind x b e place _ later
    go (Some n) e later =
        let same : place + 0 ≡ place = omega arith in
        subst (λ k. Search place (x ∷ b) (Some (record { place = k; count = n }))) same (somewhere 0 n e (λ q l. absurd (not-suc-le-zero l)))

pub search : (b : List ℕ) → Search 0 b (first_in b)
unfolding first_in
search b = searched 0 b

-- what is found stands within the bytes, and has 21 to 28
pub record Inside (b : List ℕ) (w : Stretch) : Type 0 where
  pub within : w.place + w.count ≤ length b
  pub least : 21 ≤ w.count
  pub most : w.count ≤ 28

pub inside : (b : List ℕ) (w : Stretch) → first_in b ≡ Some w → Inside b w
inside b w e = go w (rw e at (search b))
  where
    go : (w : Stretch) → Search 0 b (Some w) → Inside b w
    go _ (somewhere p n f none) =
        let h = length-begins n (drop p b) f in
        let l = long_of n (drop p b) h in
        record { within = omega (arith, h.fits, l.0, length-drop p b); least = l.0; most = l.1 }

-- nothing is found where fewer are left
pub too-late : (b : List ℕ) (place : ℕ) → length b < place + 21 → found_from place b ≡ None
too-late b place h = go (found_from place b) (searched place (drop place b))
  where
    go : (w : Optional Stretch) → Search place (drop place b) w → w ≡ None
    go _ (nowhere none) = refl
    go _ (somewhere p n f none) =
        let left = drop p (drop place b) in
        let k = length-begins n left f in
        absurd (omega (arith, h, k.fits, (long_of n left k).0, length-drop p (drop place b), length-drop place b))
