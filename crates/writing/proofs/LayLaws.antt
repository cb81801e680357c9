-- What the room holds once the parts of a sequence are laid one after the other.
use Prim.Native.Nat.{ℕ, ◌+◌, ◌/◌, ◌<◌, ◌≤◌}
use mathlib.Core.Path.{◌≡◌, refl, sym, ◌∙◌}
use mathlib.Core.Bool.{true}
use mathlib.Core.List.{List, [], ◌∷◌, ◌++◌, append_assoc}
use native.Mathlib.Omega.{arith}
use lib.Bits.{bit_xor}
use lib.ListN.{length, drop, set, length-append}
use lib.Seq.{paste, set_at}
use Rattle.sequence.specs.declared.Meaning.{Meaning}
use Rattle.sequence.specs.Symbols.{exclusive_or}
use Rattle.sequence.specs.Number.{evened, pairs_of}
use Rattle.sequence.specs.Layout.{valid, front, body, layout}
use Rattle.sequence.proofs.Paste.{paste-behind}
use Rattle.sequence.proofs.Rest.{rest}
use Rattle.writing.proofs.Valid.{front_length, count-pairs}

-- the pairs and the end of sequence behind the front
pub body-laid : (m : Meaning) (room laid : List ℕ) (n : ℕ) → valid m ≡ true → 28 ≤ length room → n ≡ 18 + (m.number.count + 1) / 2 → n < 28
    → laid ≡ front m ++ drop 18 room
    → set (paste laid 18 (pairs_of (evened m.number)) (length (pairs_of (evened m.number)))) n m.end ≡ body m ++ drop (length (body m)) room
unfolding body
body-laid m room laid n ok wide e small h =
    let f = front_length m in
    let k = count-pairs m ok in
    let l : 18 + length (pairs_of (evened m.number)) ≡ n = omega arith in
    let p : length (front m ++ pairs_of (evened m.number)) ≡ n = simp length-append (omega arith) in
    let b : length (front m ++ (pairs_of (evened m.number) ++ (m.end ∷ []))) ≡ n + 1 = simp length-append (omega arith) in
    rw (
      paste-behind (front m) (pairs_of (evened m.number)) room laid 18 f h,
      l,
      b,
      rest room n (omega arith),
      set_at (front m ++ pairs_of (evened m.number)) _ _ m.end n p,
    )
    (simp append_assoc)

-- the check of one list, and of another behind it
or-behind : (x : ℕ) (a b : List ℕ) → exclusive_or (exclusive_or x a) b ≡ exclusive_or x (a ++ b)
or-behind x [] b = refl
or-behind x (s ∷ a) b = or-behind (bit_xor x s) a b

-- the check that the front, the pairs and the end of sequence have joined one after the other
pub check-joined : (m : Meaning) → bit_xor (exclusive_or (exclusive_or 0 (front m)) (pairs_of (evened m.number))) m.end ≡ exclusive_or 0 (body m)
unfolding body
check-joined m =
    or-behind (exclusive_or 0 (front m)) (pairs_of (evened m.number)) (m.end ∷ [])
    ∙ or-behind 0 (front m) (pairs_of (evened m.number) ++ (m.end ∷ []))

-- and it is laid behind the body
pub check-laid : (m : Meaning) (room laid : List ℕ) (x n : ℕ) → n ≡ length (body m) → n < length room → laid ≡ body m ++ drop (length (body m)) room
    → x ≡ exclusive_or 0 (body m) → set laid n x ≡ layout m ++ drop (length (layout m)) room
unfolding layout
check-laid m room laid x n e h f g =
    let k : length (body m ++ (exclusive_or 0 (body m) ∷ [])) ≡ n + 1 = simp length-append (omega arith) in
    rw (g, f, k, ← e, rest room n h, set_at (body m) _ _ (exclusive_or 0 (body m)) n (sym e), append_assoc)
