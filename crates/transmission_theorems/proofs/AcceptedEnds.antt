-- A sequence that the reader accepts has its first end last but one.
use Prim.Native.Nat.{ℕ, suc, ◌-◌}
use mathlib.Core.Path.{◌≡◌, sym, ap, ◌∙◌}
use mathlib.Core.Bool.{true}
use mathlib.Core.List.{List, [], ◌∷◌, ◌++◌}
use native.Mathlib.Omega.{arith}
use lib.Dec.{leb}
use lib.ListN.{length, get_or, drop, length-drop}
use lib.Seq.{drop-drop, drop-append-le}
use borrow.Author.Tests.{leb-true}
use Rattle.sequence.specs.Symbols.{all_at_most}
use Rattle.sequence.specs.Layout.{end_ok}
use Rattle.sequence.specs.Answers.{is_done}
use Rattle.sequence.specs.Reading.{answer_of, pairs_in}
use Rattle.sequence.proofs.Tests.{both_true}
use Rattle.reading.proofs.Passed.{long-enough, no_end, pairs_small, ends_last}
use Rattle.sequence_theorems.proofs.NumberLaws.{all_drop}
use Rattle.sequence_theorems.proofs.RoundTrip.{pairs-count, last-two}
use Rattle.transmission.specs.Copies.{before_end, count_of}
use Rattle.transmission_theorems.proofs.EndLaws.{before-end-take}

ends-behind : (pairs : List ℕ) (e : ℕ) (l : List ℕ) → all_at_most 99 pairs ≡ true → end_ok e ≡ true → before_end (pairs ++ e ∷ l) ≡ length pairs
ends-behind [] e l a o = rw o
ends-behind (p ∷ pairs) e l a o =
    let h = both_true (leb p 99) (all_at_most 99 pairs) a in
    rw (no_end p (leb-true p 99 h.0)) (ap suc (ends-behind pairs e l h.1 o))

module _ (s : List ℕ) (ok : is_done (answer_of s) ≡ true) where
  end-of-pairs : before_end (drop 19 s) ≡ length s - 21
  end-of-pairs =
      let h = long-enough s ok in
      let c = pairs-count s ok in
      let e : drop 19 s ≡ drop 1 (pairs_in s) ++ (get_or s (length s - 2) 0 ∷ get_or s (length s - 1) 0 ∷ []) =
      sym (drop-drop 1 18 s) ∙ ap (drop 1) (last-two s ok) ∙ drop-append-le 1 (pairs_in s) _ (omega arith) in
      let l : length (drop 1 (pairs_in s)) ≡ length s - 21 = length-drop 1 (pairs_in s) ∙ omega arith in
      rw e (ends-behind (drop 1 (pairs_in s)) _ _ (all_drop 99 1 (pairs_in s) (pairs_small s ok)) (ends_last s ok) ∙ l)

  pub accepted-ends : count_of s ≡ length s
  unfolding count_of
  accepted-ends =
      let h = long-enough s ok in
      omega (arith, before-end-take 7 (drop 19 s), end-of-pairs)
