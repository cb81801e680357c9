-- The first valid sequence in one receiver's bytes, place by place.
use Prim.Native.Nat.{ℕ, zero, suc, ◌+◌, ◌-◌, ◌<◌, ◌≤◌}
use mathlib.Core.Path.{◌≡◌, refl, sym, ap, ◌∙◌}
use mathlib.Core.Bool.{Bool, true, false, cond}
use mathlib.Core.List.{List}
use native.Mathlib.Nat.{add-zero}
use native.Mathlib.Omega.{arith}
use lib.Dec.{ltb, eqb}
use lib.ListN.{length, get_or, take, drop, length-drop}
use lib.Seq.{take_all, length-take-le, get_or-take, get_or-drop}
use borrow.Author.Tests.{eqb-false, ltb-false}
use Rattle.std.specs.Prelude.{Some, None}
use Rattle.std.specs.List.{position}
use Rattle.std.proofs.lemmas.List.Quantifiers.{position-Some}
use Rattle.std.specs.List.{position_or_len}
use Rattle.std.proofs.lemmas.List.Sums.{fails_before_first}
use Rattle.sequence.proofs.Rest.{rest}
use Rattle.sequence.proofs.Tests.{Either, yes!, no!, which}
use Rattle.receivers.specs.Finding.{length_at, found_from, first_in}
use Rattle.receivers.proofs.LengthLaws.{no-format-there}

pub from-the-first : (b : List ℕ) → found_from 0 b ≡ first_in b
unfolding first_in
from-the-first b = refl

module _ (b : List ℕ) (place : ℕ) (h : place < length b) where
  pub found-later : length_at (drop place b) ≡ None → found_from place b ≡ found_from (place + 1) b
  found-later e = let r = rest b place h in rw r (rw (rw r at e))

  -- without the format the place is passed over
  pub found-behind : (get_or b place 0 ≡ 123 → ⊥) → found_from place b ≡ found_from (place + 1) b
  found-behind other = found-later (no-format-there (drop place b) (λ e. other (sym (ap (λ l. get_or l 0 0) (rest b place h)) ∙ e)))

-- so many places without the format are passed over
passed : (b : List ℕ) (place k : ℕ) → place + k ≤ length b → ((j : ℕ) → j < k → get_or b (place + j) 0 ≡ 123 → ⊥)
    → found_from (place + k) b ≡ found_from place b
passed b place zero h other = rw add-zero
passed b place (suc k) h other =
    let e : place + suc k ≡ place + k + 1 = omega arith in
    rw e (sym (found-behind b (place + k) (omega arith) (other k (omega arith))) ∙ passed b place k (omega arith) (λ j l. other j (omega arith)))

-- where no test is passed, it fails at each place
none-passes : (test : ℕ → Bool) (l : List ℕ) (j : ℕ) → position test l ≡ None → j < length l → test (get_or l j 0) ≡ false
none-passes test l j e h = go (which (ltb (position_or_len test l) (length l)))
  where
    go : Either (ltb (position_or_len test l) (length l)) → test (get_or l j 0) ≡ false
    go (yes! f) = let g : cond true (Some (position_or_len test l)) None ≡ None = rw f at e in (cc)
    go (no! f) = fails_before_first test l j 0 (omega (arith, ltb-false (position_or_len test l) (length l) f))

-- the next four places
module _ (b : List ℕ) (place : ℕ) (h : place + 4 ≤ length b) where
  abbrev four : List ℕ
  four = take 4 (drop place b)

  are_four : length four ≡ 4
  are_four = length-take-le 4 (drop place b) (omega (arith, length-drop place b))

  among : (j : ℕ) → j < 4 → eqb (get_or four j 0) 123 ≡ false → get_or b (place + j) 0 ≡ 123 → ⊥
  among j l e =
      let there : get_or four j 0 ≡ get_or b (place + j) 0 = get_or-take 4 (drop place b) j 0 l ∙ get_or-drop place b j 0 in
      eqb-false _ _ (rw there at e)

  pub to-the-format : (k : ℕ) → position (λ byte. eqb byte 123) four ≡ Some k → found_from (place + k) b ≡ found_from place b
  to-the-format k e =
      let s = position-Some (λ byte. eqb byte 123) four k 0 e in
      passed b place k (omega (arith, s.0, are_four)) (λ j l. among j (omega (arith, l, s.0, are_four)) (s.2 j l))

  pub all-four : position (λ byte. eqb byte 123) four ≡ None → found_from (place + 4) b ≡ found_from place b
  all-four e = passed b place 4 h (λ j l. among j l (none-passes (λ byte. eqb byte 123) four j e (omega (arith, are_four, l))))

-- the part of some bytes from a place on, as it is cut from them
pub cut-from : (b : List ℕ) (place : ℕ) → take (length b - place) (drop place b) ≡ drop place b
cut-from b place = take_all (length b - place) (drop place b) (omega (arith, length-drop place b))
