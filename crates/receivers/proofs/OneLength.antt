-- At one place at most one length is valid: a longer sequence would have the shorter one's end among its digit pairs.
use Prim.Native.Nat.{ℕ, ◌+◌, ◌-◌, ◌<◌}
use mathlib.Core.Path.{◌≡◌, sym, ap, ◌∙◌}
use mathlib.Core.Bool.{true≢false}
use mathlib.Core.List.{List}
use native.Mathlib.Omega.{arith}
use lib.ListN.{length, get_or, take, drop}
use lib.Seq.{get_or-take, get_or-drop}
use Rattle.sequence.specs.Reading.{pairs_in}
use Rattle.reading.proofs.Passed.{no_end, pairs_small}
use Rattle.writing.proofs.EvenedLaws.{all-at}
use Rattle.receivers.specs.Finding.{is_valid}
use Rattle.receivers.proofs.LengthLaws.{Begins, as_long, long_of, end_of}

module _ (b : List ℕ) (m n : ℕ) (short : Begins m b) (long : Begins n b) (h : m < n) where
  among-pairs : get_or (pairs_in (take n b)) (m - 20) 0 ≡ get_or b (m - 2) 0
  unfolding pairs_in
  among-pairs =
      let l = long_of m b short in
      let t = take n b in
      let place : 18 + (m - 20) ≡ m - 2 = omega arith in
      let few : m - 20 < length t - 20 = omega (arith, as_long n b long) in
      get_or-take (length t - 20) (drop 18 t) (m - 20) 0 few
      ∙ get_or-drop 18 t (m - 20) 0
      ∙ ap (λ k. get_or t k 0) place
      ∙ get_or-take n b (m - 2) 0 (omega arith)

  no-shorter : ⊥
  unfolding is_valid
  no-shorter =
      let pair = all-at 99 (pairs_in (take n b)) (m - 20) (pairs_small (take n b) long.valid) in
      true≢false (sym (end_of m b short) ∙ no_end (get_or b (m - 2) 0) (rw among-pairs at pair))

pub one-begins : (b : List ℕ) (m n : ℕ) → Begins m b → Begins n b → m ≡ n
one-begins b m n h k =
    let not-less = no-shorter b m n h k in
    let not_more = no-shorter b n m k h in
    omega (arith, not-less, not_more)
