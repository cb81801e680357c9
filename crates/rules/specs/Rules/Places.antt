-- A place in a list: changed, left out, looked for.
use Rattle.std.specs.Prelude.{List, [], ◌∷◌, Bool, true, false, cond, not, ◌&&◌, ◌||◌, ℕ, zero, suc}
use Rattle.std.proofs.Math.Option.{Option, none, some}

-- the element at a place changed; nothing outside the list
abbrev pub mod_at : {A : Type 0} → (A → A) → ℕ → List A → List A
mod_at f n [] = []
mod_at f zero (x ∷ xs) = f x ∷ xs
mod_at f (suc n) (x ∷ xs) = x ∷ mod_at f n xs

-- the element at a place left out
abbrev pub drop_at : {A : Type 0} → ℕ → List A → List A
drop_at n [] = []
drop_at zero (x ∷ xs) = xs
drop_at (suc n) (x ∷ xs) = x ∷ drop_at n xs

abbrev pub shift : Option ℕ → Option ℕ
shift none = none
shift (some n) = some (suc n)

-- the lowest place whose element passes
abbrev pub lowest : {A : Type 0} → (A → Bool) → List A → Option ℕ
lowest p [] = none
lowest p (x ∷ xs) = cond (p x) (some zero) (shift (lowest p xs))

abbrev pub all : {A : Type 0} → (A → Bool) → List A → Bool
all p [] = true
all p (x ∷ xs) = p x && all p xs

-- what is claimed of each
abbrev pub Each : {A : Type 0} → (A → Type 0) → List A → Type 0
Each P [] = Unit {0}
Each P (x ∷ xs) = P x × Each P xs

-- an element stands in the list, by a test of sameness
abbrev pub elem : {A : Type 0} → (A → A → Bool) → A → List A → Bool
elem same x [] = false
elem same x (y ∷ ys) = same x y || elem same x ys

-- none stands twice
abbrev pub distinct : {A : Type 0} → (A → A → Bool) → List A → Bool
distinct same [] = true
distinct same (x ∷ xs) = not (elem same x xs) && distinct same xs

abbrev pub is_some : {A : Type 0} → Option A → Bool
is_some none = false
is_some (some a) = true
