-- Laws of a place in a list, and of tests.
use mathlib.Core.Path.{◌≡◌, refl, ap}
use mathlib.Core.Logic.{◌⊎◌, inl, inr}
use mathlib.Core.List.{List, [], ◌∷◌, ◌++◌, map}
use mathlib.Core.Bool.{Bool, true, false, cond, ◌||◌}
use mathlib.Core.Option.{Option, none, some}
use Prim.Native.Nat.{ℕ, zero, suc, ◌≤◌, ◌<◌}
use native.Mathlib.Omega.{arith}
use lib.Dec.{eqb}
use lib.ListN.{get_or, length}
use borrow.Author.Tests.{eqb-true}
use Rattle.sequence.proofs.Tests.{both_true}
use Rattle.rules.specs.Rules.Places.{mod_at, drop_at, shift, lowest, all, Each, elem}

-- ── tests ────────────────────────────────────────────────────────────────────

pub or-false : (a b : Bool) → (a || b) ≡ false → (a ≡ false) × (b ≡ false)
or-false true b h = let k : true ≡ false = h in (cc, cc)
or-false false b h = (refl, h)

-- ── the element at a place changed ────────────────────────────────────────────

pub mod_at-mod_at : {A : Type 0} (f g : A → A) (i : ℕ) (l : List A) → mod_at g i (mod_at f i l) ≡ mod_at (λ x. g (f x)) i l
mod_at-mod_at f g i [] = refl
mod_at-mod_at f g zero (x ∷ xs) = refl
mod_at-mod_at f g (suc i) (x ∷ xs) = ap (λ r. x ∷ r) (mod_at-mod_at f g i xs)

pub mod_at-map : {A B : Type 0} (v : A → B) (g : B → B) (p d : A) (i : ℕ) (l : List A) → g (v (get_or l i d)) ≡ v p → mod_at g i (map v l) ≡ map v (mod_at (λ x. p) i l)
mod_at-map v g p d i [] h = refl
mod_at-map v g p d zero (x ∷ xs) h = ap (λ y. y ∷ map v xs) h
mod_at-map v g p d (suc i) (x ∷ xs) h = ap (λ r. v x ∷ r) (mod_at-map v g p d i xs h)

pub mod_at-same : {A B : Type 0} (v : A → B) (g : B → B) (d : A) (i : ℕ) (l : List A) → g (v (get_or l i d)) ≡ v (get_or l i d) → mod_at g i (map v l) ≡ map v l
mod_at-same v g d i [] h = refl
mod_at-same v g d zero (x ∷ xs) h = ap (λ y. y ∷ map v xs) h
mod_at-same v g d (suc i) (x ∷ xs) h = ap (λ r. v x ∷ r) (mod_at-same v g d i xs h)

pub mod_at-none : {A : Type 0} (i : ℕ) (l : List A) → l ≡ mod_at (λ x. x) i l
mod_at-none i [] = refl
mod_at-none zero (x ∷ l) = refl
mod_at-none (suc i) (x ∷ l) = ap (λ r. x ∷ r) (mod_at-none i l)

pub mod_at-length : {A : Type 0} (f : A → A) (i : ℕ) (l : List A) → length (mod_at f i l) ≡ length l
mod_at-length f i [] = refl
mod_at-length f zero (x ∷ l) = refl
mod_at-length f (suc i) (x ∷ l) = ap suc (mod_at-length f i l)

-- at another place nothing is changed
pub aside : {A : Type 0} (d : A) (f : A → A) (i j : ℕ) (l : List A) → (j ≡ i) ⊎ (get_or (mod_at f i l) j d ≡ get_or l j d)
aside d f i j [] = inr refl
aside d f zero zero (x ∷ l) = inl refl
aside d f zero (suc j) (x ∷ l) = inr refl
aside d f (suc i) zero (x ∷ l) = inr refl
aside d f (suc i) (suc j) (x ∷ l) = go (aside d f i j l)
  where
    go : (j ≡ i) ⊎ (get_or (mod_at f i l) j d ≡ get_or l j d) → (suc j ≡ suc i) ⊎ (get_or (mod_at f i l) j d ≡ get_or l j d)
    go (inl p) = inl (ap suc p)
    go (inr p) = inr p

-- nor outside the list; else it is there
pub there-or-not : {A : Type 0} (d x : A) (i : ℕ) (l : List A) → (get_or (mod_at (λ y. x) i l) i d ≡ x) ⊎ ((get_or l i d ≡ d) × (get_or (mod_at (λ y. x) i l) i d ≡ d))
there-or-not d x i [] = inr (refl, refl)
there-or-not d x zero (y ∷ l) = inl refl
there-or-not d x (suc i) (y ∷ l) = there-or-not d x i l

-- ── the lowest place that passes ──────────────────────────────────────────────

pub lowest-is : {A : Type 0} (z : A) (p : A → Bool) (ss : List A) (i : ℕ) → lowest p ss ≡ some i → p (get_or ss i z) ≡ true
lowest-is d p [] i h = cc
lowest-is d p (s ∷ ss) i h = go (p s) refl (lowest p ss) refl (λ j. lowest-is d p ss j) h
  where
    go : (b : Bool) → p s ≡ b → (o : Option ℕ) → lowest p ss ≡ o → ((j : ℕ) → lowest p ss ≡ some j → p (get_or ss j d) ≡ true) → cond b (some zero) (shift o) ≡ some i → p (get_or (s ∷ ss) i d) ≡ true
    go true e o eo ih k = let z : zero ≡ i = cc in rw (← z) e
    go false e none eo ih k = cc
    go false e (some j) eo ih k = let z : suc j ≡ i = cc in rw (← z) (ih j eo)

pub lowest-there : {A : Type 0} (p : A → Bool) (l : List A) (i : ℕ) → lowest p l ≡ some i → i < length l
lowest-there p [] i h = let q : ◌≡◌ {A = ℕ} 0 1 = cc in absurd (omega (arith, q))
lowest-there p (x ∷ l) i h = go (p x) (lowest p l) refl (λ j. lowest-there p l j) h
  where
    go : (b : Bool) (o : Option ℕ) → lowest p l ≡ o → ((j : ℕ) → lowest p l ≡ some j → j < length l) → cond b (some zero) (shift o) ≡ some i → i < suc (length l)
    go true o e ih k = let y : zero ≡ i = cc in omega arith
    go false none e ih k = let q : ◌≡◌ {A = ℕ} 0 1 = cc in absurd (omega (arith, q))
    go false (some j) e ih k = let y : suc j ≡ i = cc in let z = ih j e in omega arith

pub shift-some : (o : Option ℕ) (k : ℕ) → shift o ≡ some (suc k) → o ≡ some k
shift-some none k h = cc
shift-some (some n) k h = let e : suc n ≡ suc k = cc in ap some (omega arith)

pub shift_none : (o : Option ℕ) → shift o ≡ none → o ≡ none
shift_none none h = refl
shift_none (some n) h = cc

-- ── what holds of all ─────────────────────────────────────────────────────────

pub all_set : {A : Type 0} (f : A → Bool) (i : ℕ) (p : A) (ss : List A) → all f ss ≡ true → f p ≡ true → all f (mod_at (λ y. p) i ss) ≡ true
all_set f i p [] h k = refl
all_set f zero p (s ∷ ss) h k = rw k (both_true (f s) (all f ss) h).1
all_set f (suc i) p (s ∷ ss) h k = let w = both_true (f s) (all f ss) h in rw w.0 (all_set f i p ss w.1 k)

pub all-at : {A : Type 0} (f : A → Bool) (d : A) → f d ≡ true → (i : ℕ) (ss : List A) → all f ss ≡ true → f (get_or ss i d) ≡ true
all-at f d z i [] h = z
all-at f d z zero (s ∷ ss) h = (both_true (f s) (all f ss) h).0
all-at f d z (suc i) (s ∷ ss) h = all-at f d z i ss (both_true (f s) (all f ss) h).1

pub all_end : {A : Type 0} (f : A → Bool) (l : List A) (x : A) → all f l ≡ true → f x ≡ true → all f (l ++ x ∷ []) ≡ true
all_end f [] x h k = rw k refl
all_end f (y ∷ l) x h k = let a = both_true (f y) (all f l) h in rw a.0 (all_end f l x a.1 k)

pub all-dropped : {A : Type 0} (f : A → Bool) (k : ℕ) (l : List A) → all f l ≡ true → all f (drop_at k l) ≡ true
all-dropped f k [] h = refl
all-dropped f zero (x ∷ l) h = (both_true (f x) (all f l) h).1
all-dropped f (suc k) (x ∷ l) h = let a = both_true (f x) (all f l) h in rw a.0 (all-dropped f k l a.1)

pub dropped-length : {A : Type 0} (k : ℕ) (l : List A) → length (drop_at k l) ≤ length l
dropped-length k [] = omega arith
dropped-length zero (x ∷ l) = omega arith
dropped-length (suc k) (x ∷ l) = omega (arith, dropped-length k l)

-- of one that stands among them
pub all-elem : (f : ℕ → Bool) (l : List ℕ) → all f l ≡ true → (k : ℕ) → elem eqb k l ≡ true → f k ≡ true
all-elem f [] h k e = cc
all-elem f (x ∷ l) h k e = let w = both_true (f x) (all f l) h in go (eqb k x) refl w.0 (all-elem f l w.1 k) e
  where
    go : (b : Bool) → eqb k x ≡ b → f x ≡ true → (elem eqb k l ≡ true → f k ≡ true) → (b || elem eqb k l) ≡ true → f k ≡ true
    go true q one more e = rw (eqb-true k x q) one
    go false q one more e = more e

-- ── what is claimed of each ───────────────────────────────────────────────────

pub each_append : {A : Type 0} (P : A → Type 0) (a b : List A) → Each P a → Each P b → Each P (a ++ b)
each_append P [] b h k = k
each_append P (x ∷ a) b h k = (h.0, each_append P a b h.1 k)

pub each_weaken : {A : Type 0} (P Q : A → Type 0) → ((x : A) → P x → Q x) → (l : List A) → Each P l → Each Q l
each_weaken P Q f [] h = tt
each_weaken P Q f (x ∷ l) h = (f x h.0, each_weaken P Q f l h.1)

pub each_set : {A : Type 0} (P : A → Type 0) (i : ℕ) (x : A) (l : List A) → P x → Each P l → Each P (mod_at (λ y. x) i l)
each_set P i x [] p k = tt
each_set P zero x (y ∷ l) p k = (p, k.1)
each_set P (suc i) x (y ∷ l) p k = (k.0, each_set P i x l p k.1)

pub each_at : {A : Type 0} (P : A → Type 0) (d : A) → P d → (i : ℕ) (l : List A) → Each P l → P (get_or l i d)
each_at P d p i [] k = p
each_at P d p zero (y ∷ l) k = k.0
each_at P d p (suc i) (y ∷ l) k = each_at P d p i l k.1

pub each-dropped : {A : Type 0} (P : A → Type 0) (i : ℕ) (l : List A) → Each P l → Each P (drop_at i l)
each-dropped P i [] k = tt
each-dropped P zero (y ∷ l) k = k.1
each-dropped P (suc i) (y ∷ l) k = (k.0, each-dropped P i l k.1)

-- where one place is taken by another element: of the others, and of all if of that one too
pub each-others : {A : Type 0} (P : A → Type 0) (x : A) (i : ℕ) (l : List A) → Each P (mod_at (λ y. x) i l) → Each P (drop_at i l)
each-others P x i [] k = tt
each-others P x zero (y ∷ l) k = k.1
each-others P x (suc i) (y ∷ l) k = (k.0, each-others P x i l k.1)

pub each_back : {A : Type 0} (P : A → Type 0) (x d : A) (i : ℕ) (l : List A) → P (get_or l i d) → Each P (mod_at (λ y. x) i l) → Each P l
each_back P x d i [] p k = tt
each_back P x d zero (y ∷ l) p k = (p, k.1)
each_back P x d (suc i) (y ∷ l) p k = (k.0, each_back P x d i l p k.1)
