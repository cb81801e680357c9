-- A loop that copies a target's elements into a list, one store a turn: the ends of the library's `paste`.
use Prim.Native.Nat.{ℕ, ◌+◌, ◌<◌}
use mathlib.Core.Path.{◌≡◌, subst, ◌∙◌}
use mathlib.Core.List.{List, ◌++◌, append-nil}
use native.Mathlib.Omega.{arith}
use native.Mathlib.Nat.{zero-add}
use native.Mathlib.Numerals.{add-one}
use lib.ListN.{length, drop, get_or, set, drop_of_length-le}
use lib.Seq.{paste, paste-suc, take_all, take_at, take-length, drop-append-add, drop-drop}

-- one store more, at the code's own index
pub paste-turn : (l : List ℕ) (at : ℕ) (t : List ℕ) (i : ℕ) → at + i < length l → i < length t
    → set (paste l at t i) (at + i) (get_or t i 0) ≡ paste l at t (i + 1)
paste-turn l at t i hl ht = rw add-one (paste-suc l at t i 0 hl ht)

pub front-turn : (l t : List ℕ) (i : ℕ) → i < length l → i < length t → set (paste l 0 t i) i (get_or t i 0) ≡ paste l 0 t (i + 1)
front-turn l t i hl ht =
    subst (λ (k : ℕ). set (paste l 0 t i) k (get_or t i 0) ≡ paste l 0 t (i + 1)) (zero-add i) (paste-turn l 0 t i (omega arith) ht)

-- the whole target at the front, with what is left of the list, or with nothing left
pub paste-front : (l t : List ℕ) (n : ℕ) → length t ≡ n → paste l 0 t n ≡ t ++ drop n l
paste-front l t n e = rw (zero-add n, take_all n t (omega arith))

pub paste-whole : (l t : List ℕ) (n : ℕ) → length t ≡ n → length l ≡ n → paste l 0 t n ≡ t
paste-whole l t n e f = rw (zero-add n, take_all n t (omega arith), drop_of_length-le l {i = n} (omega arith), append-nil t)

-- a second target behind the first
pub paste-behind : (f t l laid : List ℕ) (n : ℕ) → length f ≡ n → laid ≡ f ++ drop n l
    → paste laid n t (length t) ≡ (f ++ t) ++ drop (n + length t) l
paste-behind f t l laid n e h =
    let d : drop (n + length t) (f ++ drop n l) ≡ drop (n + length t) l =
    (rw e at (drop-append-add f (drop n l) (length t))) ∙ drop-drop (length t) n l in
    rw (h, d, take_at f (drop n l) n e, take-length t)
