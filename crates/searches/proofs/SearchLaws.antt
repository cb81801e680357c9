-- The place that an iterator finds in an array is the lowest of the model's list.
use Prim.Native.Nat.{ℕ, zero, suc, ◌+◌}
use mathlib.Core.Bool.{Bool, true, false, cond}
use mathlib.Core.List.{List, [], ◌∷◌}
use mathlib.Core.Option.{Option, none, some}
use mathlib.Core.Path.{◌≡◌, refl, ap, ◌∙◌}
use native.Mathlib.Numerals.{add-one}
use lib.Dec.{ltb}
use lib.ListN.{take, length}
use Rattle.std.specs.List.{position_or_len, position_from}
use Rattle.std.proofs.lemmas.Iterator.Adapters.{position_from-zero}
use Rattle.std.specs.Prelude.{Option as Optional, Some, None}
use Rattle.rules.specs.Rules.Places.{lowest, shift}
use Rattle.requests.specs.Views.{viewed}

-- what passes by what it stands for
lowest-viewed : {A B : Type 0} (v : A → B) (f : B → Bool) (n : ℕ) (l : List A) → lowest (λ x. f (v x)) (take n l) ≡ lowest f (viewed v n l)
unfolding viewed
lowest-viewed v f zero l = refl
lowest-viewed v f (suc n) [] = refl
lowest-viewed v f (suc n) (x ∷ l) = ap (λ r. cond (f (v x)) (some 0) (shift r)) (lowest-viewed v f n l)

-- a place found, as the model's
abbrev pub place : Optional ℕ → Option ℕ
place None = none
place (Some i) = some i

module _ {A : Type 0} (p : A → Bool) where
  later : (i : ℕ) (l : List A) → place (position_from p (i + 1) l) ≡ shift (place (position_from p i l))
  later i [] = refl
  later i (x ∷ l) = go (p x) (later (i + 1) l)
    where
      go : (b : Bool) → place (position_from p (i + 1 + 1) l) ≡ shift (place (position_from p (i + 1) l)) → place (cond b (Some (i + 1)) (position_from p (i + 1 + 1) l)) ≡ shift (place (cond b (Some i) (position_from p (i + 1) l)))
      go true h = rw add-one
      go false h = h

  lowest-from : (l : List A) → place (position_from p 0 l) ≡ lowest p l
  lowest-from [] = refl
  lowest-from (x ∷ l) = go (p x) (later 0 l ∙ ap shift (lowest-from l))
    where
      go : (b : Bool) → place (position_from p 1 l) ≡ shift (lowest p l) → place (cond b (Some 0) (position_from p 1 l)) ≡ cond b (some 0) (shift (lowest p l))
      go true h = refl
      go false h = h

-- the lowest of the list
pub lowest-found : {A B : Type 0} (v : A → B) (f : B → Bool) (n : ℕ) (l : List A) (r : Optional ℕ) → r ≡ cond (ltb (position_or_len (λ x. f (v x)) (take n l)) (length (take n l))) (Some (position_or_len (λ x. f (v x)) (take n l))) None → place r ≡ lowest f (viewed v n l)
lowest-found v f n l r e = ap place (e ∙ position_from-zero (λ x. f (v x)) (take n l)) ∙ lowest-from (λ x. f (v x)) (take n l) ∙ lowest-viewed v f n l
