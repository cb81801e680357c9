-- The search for the best start, one character more.
use Prim.Native.Nat.{ℕ, ◌+◌, ◌-◌, ◌*◌, ◌/◌, ◌%◌, ◌≤◌, ◌<◌}
use mathlib.Core.Path.{◌≡◌, refl, sym, ap, ◌∙◌}
use mathlib.Core.Bool.{Bool, true, false, cond}
use mathlib.Core.Logic.{◌⊎◌, inl, inr, ⊎_elim}
use mathlib.Core.List.{List}
use native.Mathlib.Omega.{arith}
use lib.Dec.{ltb, eqb}
use lib.ListN.{length, get_or}
use borrow.Author.Tests.{ltb-true, ltb-false, eqb-true, eqb-false, lt-ltb, le-ltb, ne_eqb}
use Rattle.std.specs.Prelude.{Option as Optional, Some, None}
use Rattle.sequence.proofs.Tests.{Either, yes!, no!, which}
use Rattle.characters.specs.Code.{character_of, symbol_of}
use Rattle.characters.proofs.CodeLaws.{units-low, good-character}
use Rattle.transmission.specs.declared.Start.{Start}
use Rattle.transmission.specs.Phasing.{characters_of, most_lost, heard, phasing_at, start_at, best_start, found_start}
use Rattle.transmission.proofs.HeardLaws.{heard-lost, length-heard-bytes}
use Rattle.transmission.proofs.PhasingLaws.{HasRx}
use Rattle.transmission.proofs.BestLaws.{Best, OneMore, none_yet, of-fewer, stays, beaten, best-with-rx, best-when-whole}
use Rattle.phasing.specs.Characters.{character_at}
use Rattle.phasing.specs.Starts.{better_of, better_found, start_of, BestBefore}
use Rattle.phasing.proofs.CharacterLaws.{handed-in, heard-is}

-- ── one start more ───────────────────────────────────────────────────────────

better-is-best : (t : List ℕ) (among wider : ℕ → Type 0) (best : Start) (start : ℕ) → Best t among best → OneMore among wider start
    → Best t wider (better_of best (start_at t start))
better-is-best t among wider best start b more =
    go (which (ltb best.phasing (phasing_at t start))) (which (ltb (phasing_at t start) best.phasing)) (which (ltb start best.place))
  where
    go : Either (ltb best.phasing (phasing_at t start)) → Either (ltb (phasing_at t start) best.phasing)
        → Either (ltb start best.place) → Best t wider (better_of best (start_at t start))
    go (yes! e) less sooner =
        let l = ltb-true best.phasing (phasing_at t start) e in
        rw e (beaten t among wider best start b more (omega arith) (λ k. l) (omega arith))
    go (no! e) (yes! f) sooner =
        let l = ltb-true (phasing_at t start) best.phasing f in
        rw (e, f) (stays t among wider best start b more (omega arith) (λ k. l))
    go (no! e) (no! f) (yes! g) =
        let l = ltb-true start best.place g in
        let same : best.phasing ≡ phasing_at t start =
        omega (arith, ltb-false best.phasing (phasing_at t start) e, ltb-false (phasing_at t start) best.phasing f) in
        let some = b.found (omega (arith, l)) in
        rw (e, f, g) (beaten t among wider best start b more (omega arith) (λ k. absurd (omega (arith, k, l))) (omega arith))
    go (no! e) (no! f) (no! g) =
        let l = ltb-false start best.place g in
        let no_more = ltb-false best.phasing (phasing_at t start) e in
        rw (e, f, g) (stays t among wider best start b more no_more (λ k. absurd (omega (arith, k, l))))

one-of-both : (one other : Start) → 1 ≤ one.phasing → 1 ≤ other.phasing → 1 ≤ (better_of one other).phasing
one-of-both one other h k = go (ltb one.phasing other.phasing) (ltb other.phasing one.phasing) (ltb other.place one.place)
  where
    go : (a b c : Bool) → 1 ≤ (cond a other (cond b one (cond c other one))).phasing
    go true b c = k
    go false true c = h
    go false false true = k
    go false false false = h

either-place : (one other : Start) (end : ℕ) → one.place + 1 < end → other.place + 1 < end → (better_of one other).place + 1 < end
either-place one other end h k =
    go (ltb one.phasing other.phasing) (ltb other.phasing one.phasing) (ltb other.place one.place)
  where
    go : (a b c : Bool) → (cond a other (cond b one (cond c other one))).place + 1 < end
    go true b c = k
    go false true c = h
    go false false true = k
    go false false false = h

-- ── one start more, where none may have been found ────────────────────────────

-- a start that is found has phasing
found_some : (s : Start) → found_start s ≡ Some s → 1 ≤ s.phasing
found_some s e = go (which (eqb s.phasing 0))
  where
    go : Either (eqb s.phasing 0) → 1 ≤ s.phasing
    go (yes! f) = let n : None ≡ Some s = rw f at e in (cc)
    go (no! f) = let other = eqb-false s.phasing 0 f in omega (arith, other)

is_found : (s : Start) → 1 ≤ s.phasing → found_start s ≡ Some s
is_found s h = rw (ne_eqb s.phasing 0 (λ e. omega (arith, h, e)))

-- the better of what was found and a start that is looked at: itself, and found
better-start : (best : Optional Start) (s : Start) → found_start (start_of best) ≡ best
    → (start_of (better_found best (found_start s)) ≡ better_of (start_of best) s)
    × (found_start (start_of (better_found best (found_start s))) ≡ better_found best (found_start s))
better-start best s known = go (which (eqb s.phasing 0)) best known
  where
    go : Either (eqb s.phasing 0) → (best : Optional Start) → found_start (start_of best) ≡ best
        → (start_of (better_found best (found_start s)) ≡ better_of (start_of best) s)
        × (found_start (start_of (better_found best (found_start s))) ≡ better_found best (found_start s))
    go (yes! e) None k = let z = eqb-true s.phasing 0 e in (rw (e, z, le-ltb s.place 0 (omega arith)), rw e)
    go (yes! e) (Some b) k =
        let z = eqb-true s.phasing 0 e in
        let some = found_some b k in
        (rw (e, z, le-ltb b.phasing 0 (omega arith), lt-ltb 0 b.phasing some), rw e k)
    go (no! e) None k =
        let other = eqb-false s.phasing 0 e in
        let some : 0 < s.phasing = omega (arith, other) in
        (rw (e, lt-ltb 0 s.phasing some), rw e (is_found s some))
    go (no! e) (Some b) k =
        let other = eqb-false s.phasing 0 e in
        (rw e, rw e (is_found (better_of b s) (one-of-both b s (found_some b k) (omega (arith, other)))))

-- ── one character more ───────────────────────────────────────────────────────

-- the character in place i is the RX character of a start that has so many places before it
pub record Here (bytes : List ℕ) (i start : ℕ) : Type 0 where
  pub number : ℕ
  pub of-eight : number < 8
  pub its-place : start + 1 + 2 * number ≡ most_lost + i
  pub its-units : get_or bytes (2 * i) 0 % 128 ≡ 111 - number

units_of : (bytes : List ℕ) (i symbol : ℕ) → i < length bytes / 2 → symbol ≤ 127 → symbol_of (character_at bytes (most_lost + i)) ≡ symbol
    → get_or bytes (2 * i) 0 % 128 ≡ symbol
units_of bytes i symbol h k e =
    let back : most_lost + i - most_lost ≡ i = omega arith in
    let bytes_of = rw back at (handed-in bytes (most_lost + i) (omega arith) (omega arith)) in
    let its_own = sym (ap character_of e) ∙ good-character (character_at bytes (most_lost + i)) (rw e k) in
    omega (arith, bytes_of, its_own, units-low symbol k)

rx-or-here : (bytes : List ℕ) (i start : ℕ) → i < length bytes / 2 → HasRx (heard (characters_of bytes)) (most_lost + (i + 1)) start
    → HasRx (heard (characters_of bytes)) (most_lost + i) start ⊎ Here bytes i start
rx-or-here bytes i start h r = go (which (ltb (start + 1 + 2 * r.number) (most_lost + i)))
  where
    go : Either (ltb (start + 1 + 2 * r.number) (most_lost + i))
        → HasRx (heard (characters_of bytes)) (most_lost + i) start ⊎ Here bytes i start
    go (yes! l) = inl (record { number = r.number; of-eight = r.of-eight; before-end = ltb-true _ _ l; there = r.there })
    go (no! l) =
        let e : start + 1 + 2 * r.number ≡ most_lost + i =
        omega (arith, ltb-false (start + 1 + 2 * r.number) (most_lost + i) l, r.before-end) in
        let s = sym (heard-is bytes (most_lost + i)) ∙ (rw e at r.there) in
        let units = units_of bytes i (111 - r.number) h (omega arith) s in
        inr (record { number = r.number; of-eight = r.of-eight; its-place = e; its-units = units })

module _ (bytes : List ℕ) (i : ℕ) (best : Optional Start) (there : i < length bytes / 2) (b : BestBefore bytes (most_lost + i) best) where
  -- the character is no start's
  pub passed_over : ((q : ℕ) → Here bytes i q → ⊥) → BestBefore bytes (most_lost + (i + 1)) best
  passed_over no_start = (of-fewer (heard (characters_of bytes)) _ _ (start_of best) b.0 before, omega (arith, b.1), b.2)
    where
      before : (q : ℕ) → HasRx (heard (characters_of bytes)) (most_lost + (i + 1)) q → HasRx (heard (characters_of bytes)) (most_lost + i) q
      before q r = ⊎_elim (λ rx. rx) (λ here. absurd (no_start q here)) (rx-or-here bytes i q there r)

  -- it can be one start's only
  pub looked-at : (start : ℕ) → start < most_lost + i → ((q : ℕ) → Here bytes i q → q ≡ start)
      → BestBefore bytes (most_lost + (i + 1)) (better_found best (found_start (start_at (heard (characters_of bytes)) start)))
  looked-at start h its-start =
      let s = start_at (heard (characters_of bytes)) start in
      let same = better-start best s b.2 in (
        rw same.0 (better-is-best (heard (characters_of bytes)) _ _ (start_of best) start b.0 one_more),
        rw same.0 (either-place (start_of best) s _ (omega (arith, b.1)) (omega arith)),
        same.1,
      )
    where
      one_more : OneMore (HasRx (heard (characters_of bytes)) (most_lost + i)) (HasRx (heard (characters_of bytes)) (most_lost + (i + 1))) start
      one_more q r = ⊎_elim inl (λ here. inr (its-start q here)) (rx-or-here bytes i q there r)

-- none before the first character
pub none_before : (bytes : List ℕ) → BestBefore bytes (most_lost + 0) None
none_before bytes = (none_yet (heard (characters_of bytes)) _ lost, omega arith, refl)
  where
    lost : (q : ℕ) → HasRx (heard (characters_of bytes)) (most_lost + 0) q → ⊥
    lost q r = omega (arith, sym r.there ∙ heard-lost (characters_of bytes) (q + 1 + 2 * r.number) (omega (arith, r.before-end)))

-- the best of all behind the last, and where phasing is whole
pub best-behind : (bytes : List ℕ) (i : ℕ) (best : Optional Start) → length bytes / 2 ≡ i → BestBefore bytes (most_lost + i) best
    → best ≡ found_start (best_start (heard (characters_of bytes)))
best-behind bytes i best e b =
    let f : length (heard (characters_of bytes)) ≡ most_lost + i = rw e at (length-heard-bytes bytes) in
    sym b.2 ∙ ap found_start (best-with-rx (heard (characters_of bytes)) (start_of best) (rw f b.0))

pub best-whole : (bytes : List ℕ) (place : ℕ) (best : Optional Start) → (start_of best).phasing ≡ 14 → BestBefore bytes place best
    → best ≡ found_start (best_start (heard (characters_of bytes)))
best-whole bytes place best e b =
    sym b.2 ∙ ap found_start (best-when-whole (heard (characters_of bytes)) place (start_of best) b.0 b.1 e)
