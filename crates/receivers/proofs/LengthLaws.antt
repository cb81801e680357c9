-- The valid sequence that bytes begin with: what it needs, and that it is the shortest.
use Prim.Native.Nat.{ℕ, zero, suc, ◌+◌, ◌-◌, ◌<◌, ◌≤◌}
use mathlib.Core.Path.{◌≡◌, refl, sym, ap, ◌∙◌}
use mathlib.Core.Bool.{Bool, true, false, cond, true≢false}
use mathlib.Core.List.{List}
use native.Mathlib.Omega.{arith}
use lib.Dec.{leb}
use lib.ListN.{length, get_or, take}
use lib.Seq.{length-take-le, get_or-take}
use borrow.Author.Tests.{leb-true, eqb-true, le-leb, lt-leb}
use Rattle.std.specs.Result.{is_ok}
use Rattle.std.specs.Prelude.{Option as Optional, Some, None}
use Rattle.sequence.specs.Layout.{end_ok}
use Rattle.sequence.specs.Answers.{Answer, is_done, answered}
use Rattle.sequence.specs.Reading.{format_in, category_in, answer_of, meaning_of, reading_of}
use Rattle.sequence.proofs.AnswerLaws.{refused}
use Rattle.sequence.proofs.Tests.{Either, yes!, no!, which, both_true}
use Rattle.reading.proofs.Passed.{passed, long-enough, ends_last}
use Rattle.receivers.specs.Finding.{is_valid, begins_with, shortest_of, length_at}

-- ── what bytes begin with ────────────────────────────────────────────────────

pub record Begins (n : ℕ) (b : List ℕ) : Type 0 where
  pub fits : n ≤ length b
  pub valid : is_valid (take n b) ≡ true

pub begins : (n : ℕ) (b : List ℕ) → begins_with n b ≡ true → Begins n b
unfolding begins_with
begins n b e =
    let h = both_true (leb n (length b)) (is_valid (take n b)) e in
    record { fits = leb-true n (length b) h.0; valid = h.1 }

pub begins-with : (n : ℕ) (b : List ℕ) → Begins n b → begins_with n b ≡ true
unfolding begins_with
begins-with n b h = rw (le-leb _ _ h.fits, h.valid)

module _ (n : ℕ) (b : List ℕ) (h : Begins n b) where
  pub as_long : length (take n b) ≡ n
  as_long = length-take-le n b h.fits

  pub long_of : (21 ≤ n) × (n ≤ 28)
  unfolding is_valid
  long_of = rw as_long at (long-enough (take n b) h.valid)

  format-of : get_or b 0 0 ≡ 123
  unfolding is_valid format_in
  format-of = sym (get_or-take n b 0 0 (omega (arith, long_of))) ∙ eqb-true _ _ (passed (take n b) h.valid).format

  category-of : get_or b 6 0 ≡ 100
  unfolding is_valid category_in
  category-of = sym (get_or-take n b 6 0 (omega (arith, long_of))) ∙ eqb-true _ _ (passed (take n b) h.valid).category

  pub end_of : end_ok (get_or b (n - 2) 0) ≡ true
  unfolding is_valid
  end_of =
      let e = rw as_long at (ends_last (take n b) h.valid) in
      rw (get_or-take n b (n - 2) 0 (omega (arith, long_of))) at e

-- what the reader does not refuse is valid
pub read-valid : (s : List ℕ) → is_ok (reading_of s) ≡ is_valid s
unfolding reading_of is_valid
read-valid s = go (answer_of s)
  where
    go : (a : Answer) → is_ok (answered a (meaning_of s)) ≡ is_done a
    go None = refl
    go (Some r) = sym (refused r)

-- where too few bytes are left, or no end stands in its place, they begin with none of that length
pub too_few : (n : ℕ) (b : List ℕ) → length b < n → begins_with n b ≡ false
unfolding begins_with
too_few n b h = rw (lt-leb _ _ h)

pub no-end-there : (n : ℕ) (b : List ℕ) → end_ok (get_or b (n - 2) 0) ≡ false → begins_with n b ≡ false
no-end-there n b e = go (which (begins_with n b))
  where
    go : Either (begins_with n b) → begins_with n b ≡ false
    go (yes! t) = let q : false ≡ true = sym e ∙ end_of n b (begins n b t) in t ∙ sym q
    go (no! f) = f

-- ── the shortest ─────────────────────────────────────────────────────────────

-- the lengths from one on, and what is left of them behind it
abbrev pub length_from : ℕ → List ℕ → Optional ℕ
length_from n b = shortest_of (29 - n) n b

pub from-21 : (b : List ℕ) → length_from 21 b ≡ length_at b
unfolding length_at
from-21 b = refl

one_more : (n : ℕ) (b : List ℕ) → n ≤ 28 → length_from n b ≡ cond (begins_with n b) (Some n) (length_from (n + 1) b)
one_more n b h =
    let e : 29 - n ≡ suc (28 - n) = omega arith in
    let f : 28 - n ≡ 29 - (n + 1) = omega arith in
    rw e (rw f refl)

pub is_later : (n : ℕ) (b : List ℕ) → n ≤ 28 → begins_with n b ≡ false → length_from n b ≡ length_from (n + 1) b
is_later n b h e = one_more n b h ∙ (rw e)

pub none_left : (b : List ℕ) → length_from 29 b ≡ None
none_left b = refl

-- bytes begin with none, or with one of a length
pub data Length (b : List ℕ) : Optional ℕ → Type 0 where
  no-length : Length b None
  a-length : (n : ℕ) → Begins n b → Length b (Some n)

-- of so many lengths from one on: none is a valid sequence's, or the shortest is
shortest-begins : (more n : ℕ) (b : List ℕ) → Length b (shortest_of more n b)
shortest-begins zero n b = no-length
shortest-begins (suc more) n b = go (begins_with n b) refl (shortest-begins more (n + 1) b)
  where
    go : (t : Bool) → begins_with n b ≡ t → Length b (shortest_of more (n + 1) b) → Length b (cond t (Some n) (shortest_of more (n + 1) b))
    go true e later = a-length n (begins n b e)
    go false e later = later

length-of : (b : List ℕ) → Length b (length_at b)
unfolding length_at
length-of b = shortest-begins 8 21 b

pub length-begins : (n : ℕ) (b : List ℕ) → length_at b ≡ Some n → Begins n b
length-begins n b e = go n (rw e at (length-of b))
  where
    go : (n : ℕ) → Length b (Some n) → Begins n b
    go _ (a-length n h) = h

-- with none of any length they begin with none
pub begins-none : (b : List ℕ) → ((n : ℕ) → Begins n b → ⊥) → length_at b ≡ None
begins-none b none = go (length_at b) (length-of b)
  where
    go : (o : Optional ℕ) → Length b o → o ≡ None
    go _ no-length = refl
    go _ (a-length n h) = absurd (none n h)

other_length : (n k : ℕ) (b : List ℕ) → begins_with n b ≡ false → begins_with k b ≡ true → n ≡ k → ⊥
other_length n k b f e q = true≢false (sym e ∙ sym (ap (λ l. begins_with l b) q) ∙ f)

-- a length that is no longer than another
pub data AtMost (k : ℕ) : Optional ℕ → Type 0 where
  at_most : (n : ℕ) → n ≤ k → AtMost k (Some n)

-- and where one is, the shortest is no longer
shortest-least : (more n k : ℕ) (b : List ℕ) → n ≤ k → k < n + more → begins_with k b ≡ true → AtMost k (shortest_of more n b)
shortest-least zero n k b h m e = absurd (omega (arith, h, m))
shortest-least (suc more) n k b h m e =
    go (begins_with n b) refl (λ o. shortest-least more (n + 1) k b o (omega (arith, m)) e)
  where
    go : (t : Bool) → begins_with n b ≡ t → (n + 1 ≤ k → AtMost k (shortest_of more (n + 1) b))
        → AtMost k (cond t (Some n) (shortest_of more (n + 1) b))
    go true f later = at_most n h
    go false f later = let other = other_length n k b f e in later (omega (arith, h, other))

least : (k : ℕ) (b : List ℕ) → Begins k b → AtMost k (length_at b)
unfolding length_at
least k b h = let l = long_of k b h in shortest-least 8 21 k b l.0 (omega (arith, l.1)) (begins-with k b h)

pub length-least : (k n : ℕ) (b : List ℕ) → Begins k b → length_at b ≡ Some n → n ≤ k
length-least k n b h e = go n (rw e at (least k b h))
  where
    go : (n : ℕ) → AtMost k (Some n) → n ≤ k
    go _ (at_most n l) = l

pub none-begins : (k : ℕ) (b : List ℕ) → length_at b ≡ None → Begins k b → ⊥
none-begins k b e h = elim (rw e at (least k b h)) [ ]

-- without the format or the category in its place they begin with none at all
pub no-format-there : (b : List ℕ) → (get_or b 0 0 ≡ 123 → ⊥) → length_at b ≡ None
no-format-there b other = begins-none b (λ n h. other (format-of n b h))

pub no-category-there : (b : List ℕ) → (get_or b 6 0 ≡ 100 → ⊥) → length_at b ≡ None
no-category-there b other = begins-none b (λ n h. other (category-of n b h))
