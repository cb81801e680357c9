-- One text behind the other in a room.
use mathlib.Core.Bool.{Bool, true, false, cond, not}
use mathlib.Core.List.{List, [], ◌∷◌, ◌++◌, append_assoc, append-nil}
use mathlib.Core.Path.{◌≡◌, refl, sym, ◌∙◌, ap}
use Prim.Native.Nat.{ℕ, zero, suc, ◌+◌, ◌-◌, ◌*◌, ◌<◌, ◌≤◌}
use native.Mathlib.Omega.{arith}
use native.Mathlib.Nat.{add-zero}
use native.Mathlib.Numerals.{add-one}
use lib.Dec.{eqb, ltb}
use lib.ListN.{length, get_or, set, take, drop, length-append, length-take, take-append-drop, length-drop}
use lib.Seq.{paste, set_split, take_at, drop_at, drop-drop, take-suc, take-length, take_all, append_snoc}
use borrow.Author.Tests.{ltb-false}
use Rattle.std.specs.List.{position_or_len}
use Rattle.std.proofs.lemmas.List.Sums.{prefix_len-le-length}
use Rattle.std.specs.Option.{unwrap_or}
use Rattle.std.specs.Prelude.{Option as Optional, Some, None}
use Rattle.printing.specs.Texts.{ten_digits, shortened, decimal, numbers_text, put_at, Put}

-- ── the laws of putting ──────────────────────────────────────────────────────

module _ (l t : List ℕ) (at : ℕ) (h : at + length t ≤ length l) where
  front_length : length (take at l ++ t) ≡ at + length t
  front_length = length-append (take at l) t ∙ simp length-take (omega arith)

  put-then-put : (u : List ℕ) → at + length t + length u ≤ length l → put_at (put_at l at t) (at + length t) u ≡ put_at l at (t ++ u)
  unfolding put_at
  put-then-put u k =
      let e : drop (at + length t + length u) ((take at l ++ t) ++ drop (at + length t) l) ≡ drop (at + length t + length u) l =
      sym (drop-drop (length u) (at + length t) _) ∙ ap (drop (length u)) (drop_at (take at l ++ t) (drop (at + length t) l) (at + length t) front_length) ∙ drop-drop (length u) (at + length t) l in
      let n : at + length (t ++ u) ≡ at + length t + length u = omega (arith, length-append t u) in
      rw (take_at (take at l ++ t) (drop (at + length t) l) (at + length t) front_length, e, n, append_assoc (take at l) t u)

pub then : {l m n t u : List ℕ} {at r q : ℕ} → at + length t + length u ≤ length l → Put l m at r t → Put m n r q u → Put l n at q (t ++ u)
then {l} {m} {n} {t} {u} {at} {r} {q} h p s =
    record {
      behind = omega (arith, p.behind, s.behind, length-append t u);
      laid = s.laid ∙ rw (p.behind, p.laid) (put-then-put l t at (omega arith) u h);
    }

pub nothing : (l : List ℕ) (at : ℕ) → Put l l at at []
unfolding put_at
nothing l at = record { behind = omega arith; laid = sym (rw (append-nil (take at l), add-zero at) (take-append-drop at l)) }

pub one_byte : (l : List ℕ) (at b : ℕ) → at < length l → Put l (set l at b) at (at + 1) (b ∷ [])
unfolding put_at
one_byte l at b h = record { behind = refl; laid = rw (append_snoc (take at l) b (drop (at + 1) l), add-one at) (set_split l at b h) }

-- a whole copy
pub copied : (l s laid : List ℕ) (at n : ℕ) → n ≡ length s → laid ≡ paste l at s n → Put l laid at (at + n) s
unfolding put_at
copied l s laid at n e h = record { behind = rw e; laid = h ∙ rw (e, take-length s) }

-- ── a number ─────────────────────────────────────────────────────────────────

-- where the first digit stands that is no 0, of all but the last
leading : (l : List ℕ) (n : ℕ) → length l ≡ n + 1 → shortened l ≡ drop (position_or_len (λ d. not (eqb d 48)) (take n l)) l
unfolding shortened
leading [] n h = absurd (omega arith)
leading (d ∷ []) zero h = refl
leading (d ∷ []) (suc n) h = absurd (omega arith)
leading (d ∷ e ∷ l) zero h = absurd (omega arith)
leading (d ∷ e ∷ l) (suc n) h = go (eqb d 48) (leading (e ∷ l) n (omega arith))
  where
    p : ℕ
    p = position_or_len (λ d. not (eqb d 48)) (take n (e ∷ l))

    go : (b : Bool) → shortened (e ∷ l) ≡ drop p (e ∷ l) → cond b (shortened (e ∷ l)) (d ∷ e ∷ l) ≡ drop (cond (not (not b)) (1 + p) 0) (d ∷ e ∷ l)
    go true r = let q : 1 + p ≡ suc p = omega arith in rw q r
    go false r = refl

pub or-all : (n m : ℕ) → n ≤ m → unwrap_or (cond (ltb n m) (Some n) None) m ≡ n
or-all n m h = go (ltb n m) refl
  where
    go : (b : Bool) → ltb n m ≡ b → unwrap_or (cond b (Some n) None) m ≡ n
    go true e = refl
    go false e = omega (arith, ltb-false n m e)

pub zeros-lead : (l : List ℕ) (r : Optional ℕ) (n : ℕ) → 1 ≤ length l
    → r ≡ cond (ltb (position_or_len (λ d. not (eqb d 48)) (take (length l - 1) l)) (length (take (length l - 1) l))) (Some (position_or_len (λ d. not (eqb d 48)) (take (length l - 1) l))) None
    → n ≡ unwrap_or r (length l - 1) → shortened l ≡ drop n l
zeros-lead l r n h e f =
    let w : length (take (length l - 1) l) ≡ length l - 1 = simp length-take (omega arith) in
    let p = position_or_len (λ d. not (eqb d 48)) (take (length l - 1) l) in
    let g : n ≡ p = f ∙ ap (λ o. unwrap_or o (length l - 1)) (rw w at e) ∙ or-all p (length l - 1) (rw w at (prefix_len-le-length (λ d. not (not (eqb d 48))) (take (length l - 1) l))) in
    rw g (leading l (length l - 1) (omega arith))

shortened-length : (l : List ℕ) → length (shortened l) ≤ length l
unfolding shortened
shortened-length [] = omega arith
shortened-length (d ∷ []) = omega arith
shortened-length (d ∷ e ∷ l) = go (eqb d 48) (shortened-length (e ∷ l))
  where
    go : (b : Bool) → length (shortened (e ∷ l)) ≤ length (e ∷ l) → length (cond b (shortened (e ∷ l)) (d ∷ e ∷ l)) ≤ length (d ∷ e ∷ l)
    go true h = omega arith
    go false h = omega arith

pub decimal-length : (n : ℕ) → length (decimal n) ≤ 10
unfolding decimal ten_digits
decimal-length n = shortened-length (ten_digits n)

-- ── numbers, each behind a space ─────────────────────────────────────────────

spaced-more : (l : List ℕ) (n : ℕ) → numbers_text (l ++ (n ∷ [])) ≡ numbers_text l ++ (32 ∷ decimal n)
unfolding numbers_text
spaced-more [] n = ap (λ r. 32 ∷ r) (append-nil (decimal n))
spaced-more (m ∷ l) n = ap (λ r. 32 ∷ r) (ap (λ r. decimal m ++ r) (spaced-more l n) ∙ sym (append_assoc (decimal m) (numbers_text l) (32 ∷ decimal n)))

pub number_more : (s : List ℕ) (i : ℕ) → i < length s → numbers_text (take (i + 1) s) ≡ numbers_text (take i s) ++ (32 ∷ decimal (get_or s i 0))
number_more s i h = rw (add-one, take-suc s i 0 h) (spaced-more (take i s) (get_or s i 0))

pub numbers-length : (l : List ℕ) → length (numbers_text l) ≤ 11 * length l
unfolding numbers_text
numbers-length [] = omega arith
numbers-length (n ∷ l) = omega (arith, decimal-length n, numbers-length l, length-append (decimal n) (numbers_text l))

pub put-decimal : {l m : List ℕ} {at r : ℕ} (n k : ℕ) (d : List ℕ) → d ≡ ten_digits n → shortened d ≡ drop k d
    → Put l m at r (take (10 - k) (drop k d)) → Put l m at r (decimal n)
unfolding decimal ten_digits
put-decimal n k d e z p =
    let w : length d ≡ 10 = ap length e in
    rw (← e, z, ← take_all (10 - k) (drop k d) (omega (arith, length-drop k d))) p

pub put_all : {l m : List ℕ} {at r : ℕ} (s : List ℕ) (i : ℕ) → length s ≤ i → Put l m at r (numbers_text (take i s)) → Put l m at r (numbers_text s)
put_all s i h p = rw (take_all i s h) at p
