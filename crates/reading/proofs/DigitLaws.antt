-- Digits out of pairs, and the sixteen places that they fill.
use Prim.Native.Nat.{ℕ, zero, suc, ◌+◌, ◌-◌, ◌*◌, ◌/◌, ◌%◌, ◌<◌, ◌≤◌}
use mathlib.Core.Path.{◌≡◌, refl, ap, ◌∙◌}
use mathlib.Core.List.{List, [], ◌∷◌, ◌++◌, append_assoc}
use mathlib.Core.Bool.{Bool, true, false, cond}
use native.Mathlib.Omega.{arith}
use native.Mathlib.Numerals.{add-one}
use lib.ListN.{length, take, drop, get_or, replicate, length-append, length-take, length-drop, set}
use lib.Seq.{get_or-take, take-suc, drop-append-le, take-append-add, set_at}
use lib.Dec.{eqb}
use Rattle.sequence.specs.Reading.{digits_of, sixteen, zero_before}

pub digits-length : (l : List ℕ) → length (digits_of l) ≡ 2 * length l
digits-length [] = refl
digits-length (p ∷ ps) = let h = digits-length ps in omega arith

digits_append : (l m : List ℕ) → digits_of (l ++ m) ≡ digits_of l ++ digits_of m
digits_append [] m = refl
digits_append (p ∷ ps) m = ap (λ (d : List ℕ). p / 10 ∷ p % 10 ∷ d) (digits_append ps m)

-- the digits of one pair more
digits_more : (l : List ℕ) (i : ℕ) → i < length l
    → digits_of (take (i + 1) l) ≡ digits_of (take i l) ++ (get_or l i 0 / 10 ∷ get_or l i 0 % 10 ∷ [])
digits_more l i h = rw (add-one, take-suc l i 0 h) (digits_append (take i l) (get_or l i 0 ∷ []))

-- zeros past the digits
take-zeros : (n m : ℕ) → n ≤ m → take n (replicate {A = ℕ} m 0) ≡ replicate n 0
take-zeros zero m h = refl
take-zeros (suc n) zero h = absurd (omega arith)
take-zeros (suc n) (suc m) h = ap (λ (l : List ℕ). 0 ∷ l) (take-zeros n m (omega arith))

zeros-at : (n i : ℕ) → get_or {A = ℕ} (replicate n 0) i 0 ≡ 0
zeros-at zero i = refl
zeros-at (suc n) zero = refl
zeros-at (suc n) (suc i) = zeros-at n i

past-zeros : (l : List ℕ) (n i : ℕ) → get_or (l ++ replicate n 0) i 0 ≡ get_or l i 0
past-zeros [] n i = zeros-at n i
past-zeros (a ∷ l) n zero = refl
past-zeros (a ∷ l) n (suc i) = past-zeros l n i

pub sixteen-at : (l : List ℕ) (i : ℕ) → i < 16 → get_or (sixteen l) i 0 ≡ get_or l i 0
unfolding sixteen
sixteen-at l i h = get_or-take 16 (l ++ replicate 16 0) i 0 h ∙ past-zeros l 16 i

pub sixteen-length : (l : List ℕ) → length (sixteen l) ≡ 16
unfolding sixteen
sixteen-length l = simp (length-take, length-append) (omega arith)

padded : (d : List ℕ) (n k : ℕ) → length d + n ≡ k → take k (d ++ replicate k 0) ≡ d ++ replicate n 0
padded d n k e = rw (← e, take-append-add d (replicate (length d + n) 0) n, take-zeros n (length d + n) (omega arith))

sixteen-is : (d : List ℕ) (n : ℕ) → length d + n ≡ 16 → sixteen d ≡ d ++ replicate n 0
unfolding sixteen
sixteen-is d n e = padded d n 16 e

-- one digit more, in its place
digit-more : (d : List ℕ) (n a : ℕ) → length d ≡ n → n < 16 → set (sixteen d) n a ≡ sixteen (d ++ (a ∷ []))
digit-more d n a e h =
    let k : length d + suc (15 - n) ≡ 16 = omega arith in
    let m : length (d ++ (a ∷ [])) + (15 - n) ≡ 16 = simp length-append (omega arith) in
    rw (sixteen-is d (suc (15 - n)) k, sixteen-is (d ++ (a ∷ [])) (15 - n) m, set_at d 0 (replicate (15 - n) 0) a n e, append_assoc)

-- the first pair, its first digit laid over where it is the 0 put before an odd count
pub first-pair : (l : List ℕ) (o : ℕ) → o ≤ 1 → 1 ≤ length l
    → set (set (replicate 16 0) 0 (get_or l 0 0 / 10)) (1 - o) (get_or l 0 0 % 10) ≡ sixteen (drop o (digits_of (take 1 l)))
unfolding sixteen
first-pair [] o h k = absurd (omega arith)
first-pair (p ∷ ps) zero h k = refl
first-pair (p ∷ ps) (suc zero) h k = refl
first-pair (p ∷ ps) (suc (suc o)) h k = absurd (omega arith)

-- and one turn of the loop over the others
pub pair_turn : (l out : List ℕ) (o i : ℕ) → o ≤ 1 → 1 ≤ i → i < length l → length l ≤ 8 → out ≡ sixteen (drop o (digits_of (take i l)))
    → set (set out (2 * i - o) (get_or l i 0 / 10)) (2 * i + 1 - o) (get_or l i 0 % 10) ≡ sixteen (drop o (digits_of (take (i + 1) l)))
pair_turn l out o i small some h most e =
    let d = drop o (digits_of (take i l)) in
    let t = get_or l i 0 / 10 in
    let u = get_or l i 0 % 10 in
    let w : length (digits_of (take i l)) ≡ 2 * i = digits-length (take i l) ∙ simp length-take (omega arith) in
    let a : length d ≡ 2 * i - o = simp length-drop (omega arith) in
    let b : length (d ++ (t ∷ [])) ≡ 2 * i + 1 - o = simp length-append (omega arith) in
    rw (
      e,
      digits_more l i h,
      drop-append-le o (digits_of (take i l)) (t ∷ u ∷ []) (omega arith),
      digit-more d (2 * i - o) t a (omega arith),
      digit-more (d ++ (t ∷ [])) (2 * i + 1 - o) u b (omega arith),
      append_assoc,
    )

pub zero-before-le : (p : ℕ) → zero_before p ≤ 1
unfolding zero_before
zero-before-le p = at_most (eqb p 105)
  where
    at_most : (b : Bool) → cond b 1 0 ≤ 1
    at_most true = omega arith
    at_most false = omega arith
