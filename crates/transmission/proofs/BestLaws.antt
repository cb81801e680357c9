-- The best start has the most phasing characters, and is the earliest that has so many.
use Prim.Native.Nat.{ℕ, zero, suc, ◌+◌, ◌≤◌, ◌<◌}
use mathlib.Core.Path.{◌≡◌, refl, sym}
use mathlib.Core.Logic.{◌⊎◌, inl, inr, ⊎_elim}
use mathlib.Core.List.{List}
use native.Mathlib.Nat.{eq-or-lt_of_le, le_of_suc-le-suc}
use native.Mathlib.Omega.{arith}
use lib.Dec.{leb, ltb}
use lib.ListN.{length}
use borrow.Author.Tests.{leb-true, leb-false, ltb-true, ltb-false}
use Rattle.sequence.proofs.Tests.{Either, yes!, no!, which}
use Rattle.transmission.specs.declared.Start.{Start}
use Rattle.transmission.specs.Phasing.{phasing_at, start_at, best_of, best_start}
use Rattle.transmission.proofs.PhasingLaws.{HasRx, start-has-rx, at-most-14, whole-has-first}

-- the best among some starts
pub record Best (t : List ℕ) (among : ℕ → Type 0) (best : Start) : Type 0 where
  pub most : (q : ℕ) → among q → phasing_at t q ≤ best.phasing
  pub earliest : (q : ℕ) → among q → q < best.place → phasing_at t q < best.phasing
  pub its_own : 1 ≤ best.phasing → phasing_at t best.place ≡ best.phasing
  pub found : 1 ≤ best.place → 1 ≤ best.phasing

-- nothing was found among no starts
pub none_yet : (t : List ℕ) (among : ℕ → Type 0) → ((q : ℕ) → among q → ⊥) → Best t among (record { place = 0; phasing = 0 })
none_yet t among empty =
    record {
      most = λ q a. absurd (empty q a);
      earliest = λ q a l. absurd (empty q a);
      its_own = λ h. absurd (omega (arith, h));
      found = λ h. absurd (omega (arith, h));
    }

-- and so among fewer
pub of-fewer : (t : List ℕ) (among fewer : ℕ → Type 0) (best : Start) → Best t among best → ((q : ℕ) → fewer q → among q)
    → Best t fewer best
of-fewer t among fewer best b all =
    record {
      most = λ q f. b.most q (all q f);
      earliest = λ q f. b.earliest q (all q f);
      its_own = b.its_own;
      found = b.found;
    }

-- ── one start more ───────────────────────────────────────────────────────────

-- q is one of those before, or the one more
abbrev pub OneMore : (ℕ → Type 0) → (ℕ → Type 0) → ℕ → Type 0
OneMore among wider start = (q : ℕ) → wider q → among q ⊎ (q ≡ start)

module _ (t : List ℕ) (among wider : ℕ → Type 0) (best : Start) (start : ℕ) (b : Best t among best) (more : OneMore among wider start) where
  -- it is no better than the best so far
  pub stays : phasing_at t start ≤ best.phasing → (start < best.place → phasing_at t start < best.phasing) → Best t wider best
  stays h k =
      record {
        most = λ q w. ⊎_elim (λ a. b.most q a) (λ e. rw e h) (more q w);
        earliest = λ q w. ⊎_elim (λ a. b.earliest q a) (λ e. rw e k) (more q w);
        its_own = b.its_own;
        found = b.found;
      }

  -- it has more phasing characters, or as many and is earlier
  pub beaten : best.phasing ≤ phasing_at t start → (best.place ≤ start → best.phasing < phasing_at t start) → 1 ≤ phasing_at t start
      → Best t wider (start_at t start)
  beaten h k some =
      record {
        most = λ q w. ⊎_elim (λ a. omega (arith, b.most q a)) (λ e. rw e (omega arith)) (more q w);
        earliest = λ q w l. ⊎_elim (λ a. sooner q l a) (λ e. absurd (omega (arith, e, l))) (more q w);
        its_own = λ f. refl;
        found = λ l. some;
      }
    where
      sooner : (q : ℕ) → q < start → among q → phasing_at t q < phasing_at t start
      sooner q l a = go (which (leb best.place start))
        where
          go : Either (leb best.place start) → phasing_at t q < phasing_at t start
          go (yes! e) = omega (arith, b.most q a, k (leb-true _ _ e))
          go (no! e) = omega (arith, b.earliest q a (omega (arith, l, leb-false best.place start e)), h)

-- ── the best of all ──────────────────────────────────────────────────────────

abbrev pub Every : ℕ → Type 0
Every q = Prim.Unit {0}

-- where no other start has phasing, the best of some is the best of all
best-of-all : (t : List ℕ) (among : ℕ → Type 0) (best : Start) → Best t among best → ((q : ℕ) → 1 ≤ phasing_at t q → among q)
    → Best t Every best
best-of-all t among best b all =
    record {
      most = λ q u. ⊎_elim (λ a. b.most q a) (λ z. omega (arith, z)) (either q);
      earliest = λ q u l. ⊎_elim (λ a. b.earliest q a l) (λ z. omega (arith, z, b.found (omega (arith, l)))) (either q);
      its_own = b.its_own;
      found = b.found;
    }
  where
    either : (q : ℕ) → among q ⊎ (phasing_at t q ≡ 0)
    either q = go (which (leb 1 (phasing_at t q)))
      where
        go : Either (leb 1 (phasing_at t q)) → among q ⊎ (phasing_at t q ≡ 0)
        go (yes! e) = inl (all q (leb-true _ _ e))
        go (no! e) = inr (omega (arith, leb-false 1 (phasing_at t q) e))

-- there is one only
no_more : (t : List ℕ) (a b : Start) → Best t Every a → Best t Every b → a.phasing ≤ b.phasing
no_more t a b p q = go (which (leb 1 a.phasing))
  where
    go : Either (leb 1 a.phasing) → a.phasing ≤ b.phasing
    go (yes! e) = omega (arith, q.most a.place tt, p.its_own (leb-true _ _ e))
    go (no! e) = omega (arith, leb-false 1 a.phasing e)

no-later : (t : List ℕ) (a b : Start) → Best t Every a → Best t Every b → a.phasing ≡ b.phasing → a.place ≤ b.place
no-later t a b p q same = go (which (leb a.place b.place))
  where
    go : Either (leb a.place b.place) → a.place ≤ b.place
    go (yes! e) = leb-true _ _ e
    go (no! e) =
        let sooner = p.earliest b.place tt (leb-false _ _ e) in
        absurd (omega (arith, sooner, same, q.its_own (omega (arith, sooner, same))))

same_start : (a b : Start) → a.place ≡ b.place → a.phasing ≡ b.phasing → a ≡ b
same_start a b e f = go a.place b.place a.phasing b.phasing e f
  where
    go : (p q m n : ℕ) → p ≡ q → m ≡ n → ◌≡◌ {A = Start} (record { place = p; phasing = m }) (record { place = q; phasing = n })
    go p q m n e f = rw (e, f)

one-best : (t : List ℕ) (a b : Start) → Best t Every a → Best t Every b → a ≡ b
one-best t a b p q =
    let same : a.phasing ≡ b.phasing = omega (arith, no_more t a b p q, no_more t b a q p) in
    same_start a b (omega (arith, no-later t a b p q same, no-later t b a q p (sym same))) same

-- ── the best of the first n places ───────────────────────────────────────────

best-place : (t : List ℕ) (n : ℕ) → (best_of t n).place ≤ n
best-place t zero = omega arith
best-place t (suc n) = go (which (leb (phasing_at t n) (best_of t n).phasing)) (best-place t n)
  where
    go : Either (leb (phasing_at t n) (best_of t n).phasing) → (best_of t n).place ≤ n → (best_of t (suc n)).place ≤ suc n
    go (yes! e) h = rw e (omega arith)
    go (no! e) h = rw e (omega arith)

before_last : (n : ℕ) → OneMore (λ q. q < n) (λ q. q < suc n) n
before_last n q h = go (eq-or-lt_of_le (le_of_suc-le-suc h))
  where
    go : (q ≡ n) ⊎ (q < n) → (q < n) ⊎ (q ≡ n)
    go (inl e) = inr e
    go (inr l) = inl l

best-of : (t : List ℕ) (n : ℕ) → Best t (λ q. q < n) (best_of t n)
best-of t zero = none_yet t (λ q. q < 0) (λ q l. omega (arith, l))
best-of t (suc n) = go (which (leb (phasing_at t n) (best_of t n).phasing)) (best-of t n) (best-place t n)
  where
    go : Either (leb (phasing_at t n) (best_of t n).phasing) → Best t (λ q. q < n) (best_of t n) → (best_of t n).place ≤ n
        → Best t (λ q. q < suc n) (best_of t (suc n))
    go (yes! e) b h = rw e (stays t _ _ (best_of t n) n b (before_last n) (leb-true _ _ e) (λ l. absurd (omega (arith, l, h))))
    go (no! e) b h =
        let l = leb-false (phasing_at t n) (best_of t n).phasing e in
        rw e (beaten t _ _ (best_of t n) n b (before_last n) (omega arith) (λ k. l) (omega arith))

-- every start lies within what was heard
start-within : (t : List ℕ) (q : ℕ) → 1 ≤ phasing_at t q → q < length t
start-within t q h = let r = start-has-rx t q h in omega (arith, r.before-end)

pub best-within : (t : List ℕ) → (best_start t).place ≤ length t
unfolding best_start
best-within t = best-place t (length t)

pub best-start : (t : List ℕ) → Best t Every (best_start t)
unfolding best_start
best-start t = best-of-all t (λ q. q < length t) (best_of t (length t)) (best-of t (length t)) (start-within t)

-- the best of the starts that have an RX character in its place is the best start
pub best-with-rx : (t : List ℕ) (best : Start) → Best t (HasRx t (length t)) best → best ≡ best_start t
best-with-rx t best b = one-best t best (best_start t) (best-of-all t (HasRx t (length t)) best b (start-has-rx t)) (best-start t)

-- with fourteen it is the best start, wherever the search has come to: none has more, and an earlier one with as many was passed
pub best-when-whole : (t : List ℕ) (end : ℕ) (best : Start) → Best t (HasRx t end) best → best.place + 1 < end → best.phasing ≡ 14
    → best ≡ best_start t
best-when-whole t end best b h e = one-best t best (best_start t) all (best-start t)
  where
    sooner : (q : ℕ) → q < best.place → phasing_at t q < best.phasing
    sooner q l = go (which (ltb (phasing_at t q) 14))
      where
        go : Either (ltb (phasing_at t q) 14) → phasing_at t q < best.phasing
        go (yes! f) = omega (arith, e, ltb-true (phasing_at t q) 14 f)
        go (no! f) =
            let whole : phasing_at t q ≡ 14 = omega (arith, ltb-false (phasing_at t q) 14 f, at-most-14 t q) in
            b.earliest q (whole-has-first t q end whole (omega (arith, l, h))) l

    all : Best t Every best
    all = record { most = λ q u. omega (arith, e, at-most-14 t q); earliest = λ q u. sooner q; its_own = b.its_own; found = b.found }
