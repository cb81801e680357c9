-- 52 and 53: the first symbol with no good copy decides, since the copies of a later one stand later.
use Prim.Native.Nat.{ℕ, ◌+◌, ◌*◌, ◌≤◌, ◌<◌}
use mathlib.Core.Path.{◌≡◌}
use mathlib.Core.Bool.{true, false, not, ◌&&◌, and-false}
use mathlib.Core.List.{List}
use native.Mathlib.Omega.{arith}
use lib.Dec.{ltb}
use lib.ListN.{length}
use borrow.Author.Tests.{ltb-true, ltb-false, le-ltb}
use Rattle.sequence.proofs.Tests.{Either, yes!, no!, which}
use Rattle.transmission.specs.Copies.{copies_there}
use Rattle.transmission.specs.Reading.{start_in, count_in, unread, copies_in, whole_in}
use Rattle.transmission.proofs.RowTests.{holds-from-0, fails-from-0}

there-before : (t : List ℕ) (start k j : ℕ) → k ≤ j → copies_there t start k ≡ false → copies_there t start j ≡ false
unfolding copies_there
there-before t start k j h e = le-ltb (start + 19 + 2 * j) (length t) (omega (arith, ltb-false (start + 19 + 2 * k) (length t) e))

module _ (t : List ℕ) (k : ℕ) (read-before : (j : ℕ) → j < k → unread t j ≡ false) where
  -- every symbol has a good copy
  pub all-copies : count_in t ≤ k → copies_in t ≡ true
  unfolding copies_in
  all-copies h = holds-from-0 _ (count_in t) (λ j l. rw (read-before j (omega arith)))

  pub all_whole : count_in t ≤ k → whole_in t ≡ true
  unfolding whole_in
  all_whole h = holds-from-0 _ (count_in t) (λ j l. rw (read-before j (omega arith)))

  module _ (h : k < count_in t) (u : unread t k ≡ true) where
    -- it has none, and all are there
    pub copies-bad : copies_there t (start_in t) k ≡ true → copies_in t ≡ false
    unfolding copies_in
    copies-bad e = fails-from-0 _ (count_in t) k h (rw (u, e))

    -- one of its copies is not there
    pub no-copies-bad : copies_there t (start_in t) k ≡ false → copies_in t ≡ true
    unfolding copies_in
    no-copies-bad e = holds-from-0 _ (count_in t) each
      where
        each : (j : ℕ) → j < count_in t → not (unread t j && copies_there t (start_in t) j) ≡ true
        each j l = go (which (ltb j k))
          where
            go : Either (ltb j k) → not (unread t j && copies_there t (start_in t) j) ≡ true
            go (yes! f) = rw (read-before j (ltb-true j k f))
            go (no! f) = rw (there-before t (start_in t) k j (ltb-false j k f) e, and-false (unread t j))

    pub ends-early : copies_there t (start_in t) k ≡ false → whole_in t ≡ false
    unfolding whole_in
    ends-early e = fails-from-0 _ (count_in t) k h (rw (u, e))
