-- The laws of the queue: a place past its end, a ship that asks for something else.
use Prim.Native.Nat.{ℕ, zero, suc, ◌≤◌}
use mathlib.Core.List.{List, [], ◌∷◌, map}
use mathlib.Core.Path.{◌≡◌, refl, ap}
use native.Mathlib.Nat.{le_of_suc-le-suc, not-suc-le-zero}
use lib.ListN.{length, get_or, set, take}
use Rattle.rules.specs.Rules.Places.{mod_at, drop_at}
use Rattle.requests.specs.Views.{viewed}

pub drop_at-past : {A : Type 0} (k : ℕ) (l : List A) → length l ≤ k → l ≡ drop_at k l
drop_at-past k [] h = refl
drop_at-past zero (x ∷ l) h = absurd (not-suc-le-zero h)
drop_at-past (suc k) (x ∷ l) h = ap (λ r. x ∷ r) (drop_at-past k l (le_of_suc-le-suc h))

-- a store that depends on what stood there is a change of the list
pub viewed-mod : {A B : Type 0} (v : A → B) (f : B → B) (n : ℕ) (l : List A) (i : ℕ) (x d : A) → v x ≡ f (v (get_or l i d)) → viewed v n (set l i x) ≡ mod_at f i (viewed v n l)
unfolding viewed
viewed-mod v f zero l i x d h = refl
viewed-mod v f (suc n) [] i x d h = refl
viewed-mod v f (suc n) (y ∷ l) zero x d h = ap (λ z. z ∷ map v (take n l)) h
viewed-mod v f (suc n) (y ∷ l) (suc i) x d h = ap (λ r. v y ∷ r) (viewed-mod v f n l i x d h)
