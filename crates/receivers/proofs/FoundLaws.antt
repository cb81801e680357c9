-- What is found in either receiver's bytes: in whose, within them, and of what size.
use Prim.Native.Nat.{ℕ, ◌+◌, ◌≤◌}
use mathlib.Core.Path.{◌≡◌, refl}
use mathlib.Core.List.{List}
use mathlib.Core.Logic.{◌⊎◌, inl, inr}
use native.Mathlib.Omega.{arith}
use lib.ListN.{length}
use Rattle.std.specs.Prelude.{Option as Optional, Some, None}
use Rattle.receivers.specs.declared.Stretch.{Stretch}
use Rattle.receivers.specs.declared.Receiver.TheVariants.{First, Second}
use Rattle.receivers.specs.declared.Found.{Found}
use Rattle.receivers.specs.Finding.{first_in, first_or_second, found_in, handed, heard_by}
use Rattle.receivers.proofs.Search.{Inside, inside}

-- "in the first receiver's bytes or, failing that, in the second's"
pub data Which (first second : List ℕ) : Optional Found → Type 0 where
  in-first : (w : Stretch) → first_in first ≡ Some w → Which first second (Some (record { receiver = First; stretch = w }))
  in-second : (w : Stretch) → first_in first ≡ None → first_in second ≡ Some w
      → Which first second (Some (record { receiver = Second; stretch = w }))
  in-none : first_in first ≡ None → first_in second ≡ None → Which first second None

pub found-which : (first second : List ℕ) → Which first second (found_in first second)
unfolding found_in
found-which first second = go (first_in first) (first_in second) refl refl
  where
    go : (v w : Optional Stretch) → first_in first ≡ v → first_in second ≡ w → Which first second (first_or_second v w)
    go (Some v) w e f = in-first v e
    go None (Some w) e f = in-second w e f
    go None None e f = in-none e f

pub found-inside : (first second : List ℕ) (f : Found) → found_in first second ≡ Some f → Inside (heard_by f.receiver first second) f.stretch
found-inside first second f e = go f (rw e at (found-which first second))
  where
    go : (f : Found) → Which first second (Some f) → Inside (heard_by f.receiver first second) f.stretch
    go _ (in-first w e) = inside first w e
    go _ (in-second w none e) = inside second w e

-- the stretch that is handed back: within its receiver's bytes, of 21 to 28 bytes or empty
of-handed : (P : List ℕ → Stretch → Type 0) → ((b : List ℕ) (w : Stretch) → Inside b w → P b w)
    → ((b : List ℕ) → P b (record { place = 0; count = 0 })) → (first second : List ℕ)
    → P (heard_by (handed (found_in first second)).receiver first second) (handed (found_in first second)).stretch
of-handed P h none first second = go (found_in first second) (found-which first second)
  where
    go : (f : Optional Found) → Which first second f → P (heard_by (handed f).receiver first second) (handed f).stretch
    go _ (in-first w e) = h first w (inside first w e)
    go _ (in-second w other e) = h second w (inside second w e)
    go _ (in-none e f) = none second

pub found_within : (first second : List ℕ)
    → (handed (found_in first second)).stretch.place + (handed (found_in first second)).stretch.count
    ≤ length (heard_by (handed (found_in first second)).receiver first second)
found_within = of-handed (λ b w. w.place + w.count ≤ length b) (λ b w i. i.within) (λ b. omega arith)

pub found-sized : (first second : List ℕ)
    → ((handed (found_in first second)).stretch ≡ record { place = 0; count = 0 })
    ⊎ ((21 ≤ (handed (found_in first second)).stretch.count) × ((handed (found_in first second)).stretch.count ≤ 28))
found-sized =
    of-handed (λ b w. (w ≡ record { place = 0; count = 0 }) ⊎ ((21 ≤ w.count) × (w.count ≤ 28))) (λ b w i. inr (i.least, i.most)) (λ b. inl refl)
