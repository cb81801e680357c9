-- How many symbols there are up to the end, and with which the end is found.
use Prim.Native.Nat.{ℕ, zero, suc, ◌-◌, ◌≤◌, min}
use mathlib.Core.Path.{◌≡◌, refl, sym, ap, ◌∙◌}
use mathlib.Core.Bool.{Bool, true, false, cond}
use mathlib.Core.List.{List, [], ◌∷◌, ◌++◌}
use native.Mathlib.Omega.{arith}
use native.Mathlib.Nat.{zero-min, min-zero, suc-min-suc}
use lib.ListN.{length, take, drop, take-append-drop, length-drop}
use lib.Seq.{length-take-le, drop-append-le}
use Rattle.sequence.specs.Layout.{end_ok}
use Rattle.transmission.specs.Copies.{before_end, count_of}
use Rattle.transmission.proofs.SymbolLaws.{count_most}

-- as far as a list goes, what stands behind it does not move its first end
end-within : (n : ℕ) (xs ys : List ℕ) → min (length xs) (before_end (take n (xs ++ ys))) ≡ min (length xs) (before_end (take n xs))
end-within zero xs ys = refl
end-within (suc n) [] ys = zero-min (before_end (take (suc n) ys))
end-within (suc n) (x ∷ xs) ys = go (end_ok x) (end-within n xs ys)
  where
    go : (e : Bool) → min (length xs) (before_end (take n (xs ++ ys))) ≡ min (length xs) (before_end (take n xs))
        → min (suc (length xs)) (cond e 0 (suc (before_end (take n (xs ++ ys)))))
        ≡ min (suc (length xs)) (cond e 0 (suc (before_end (take n xs))))
    go true h = refl
    go false h = suc-min-suc _ _ ∙ ap suc h ∙ sym (suc-min-suc _ _)

-- the first places of a list have its first end, or none
pub before-end-take : (n : ℕ) (xs : List ℕ) → before_end (take n xs) ≡ min n (before_end xs)
before-end-take zero xs = sym (zero-min _)
before-end-take (suc n) [] = sym (min-zero _)
before-end-take (suc n) (x ∷ xs) = go (end_ok x) (before-end-take n xs)
  where
    go : (e : Bool) → before_end (take n xs) ≡ min n (before_end xs)
        → cond e 0 (suc (before_end (take n xs))) ≡ min (suc n) (cond e 0 (suc (before_end xs)))
    go true h = sym (min-zero _)
    go false h = ap suc h ∙ sym (suc-min-suc _ _)

-- whether symbols have their end last but one does not hang on what stands behind them
module _ (s more : List ℕ) (long : 21 ≤ length s) where
  within : min (length s - 19) (before_end (take 7 (drop 19 (s ++ more)))) ≡ min (length s - 19) (before_end (take 7 (drop 19 s)))
  within = rw (drop-append-le 19 s more (omega arith), ← length-drop 19 s) (end-within 7 (drop 19 s) more)

  pub count_kept : count_of s ≡ length s → count_of (s ++ more) ≡ length s
  unfolding count_of
  count_kept e = omega (arith, within)

  count-its-own : count_of (s ++ more) ≡ length s → count_of s ≡ length s
  unfolding count_of
  count-its-own e = omega (arith, within)

-- so it is with the symbols that are cut off at their end
pub front_ends : (s r : List ℕ) → 21 ≤ length s → length r ≡ 28 → take (count_of r) r ≡ s → count_of s ≡ length s
front_ends s r least size e =
    let l : count_of r ≡ length s = sym (length-take-le (count_of r) r (omega (arith, count_most r))) ∙ ap length e in
    count-its-own s (drop (count_of r) r) least
    (ap (λ (f : List ℕ). count_of (f ++ drop (count_of r) r)) (sym e) ∙ ap count_of (take-append-drop (count_of r) r) ∙ l)
