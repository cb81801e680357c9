-- What was laid out by a list of fields is read back by it, and what was read is laid out again.
use Prim.Native.Nat.{ℕ, zero, suc, ◌+◌, ◌*◌, ◌/◌, ◌%◌, ◌≤◌}
use mathlib.Core.Path.{◌≡◌, refl, sym, ap, ◌∙◌}
use mathlib.Core.Bool.{true}
use mathlib.Core.List.{List, [], ◌∷◌, ◌++◌, append_assoc, append-nil, flatten}
use native.Mathlib.Omega.{arith}
use lib.Dec.{leb}
use lib.ListN.{length, get_or, take, drop, length-append}
use lib.Seq.{get_or_at, append_snoc, take-add, take-length, drop-drop, take-paste, drop-paste}
use borrow.Author.Tests.{leb-true}
use Rattle.sequence.proofs.Tests.{both_true}
use Rattle.sequence.proofs.Paste.{paste-whole}
use Rattle.sequence.proofs.Rest.{rest}
use Rattle.layouts.specs.Fields.{Field, size, filled, low_first, number_at, encode, decode_from, laid}

-- ── one number ───────────────────────────────────────────────────────────────

pub low_first-length : (w n : ℕ) → length (low_first w n) ≡ w
low_first-length zero n = refl
low_first-length (suc zero) n = refl
low_first-length (suc (suc w)) n = ap suc (low_first-length (suc w) (n / 256))

halves : (n : ℕ) → n % 256 + 256 * (n / 256) ≡ n
halves n = omega arith

number-back : (w n : ℕ) (before rest : List ℕ) (i : ℕ) → 1 ≤ w → length before ≡ i → number_at (before ++ (low_first w n ++ rest)) i w ≡ n
number-back zero n before rest i h e = absurd (omega arith)
number-back (suc zero) n before rest i h e = get_or_at before n rest 0 i e
number-back (suc (suc w)) n before rest i h e =
    let low = get_or_at before (n % 256) (low_first (suc w) (n / 256) ++ rest) 0 i e in
    let one : length (before ++ (n % 256 ∷ [])) ≡ i + 1 = length-append before (n % 256 ∷ []) ∙ ap (λ k. k + 1) e in
    let high = number-back (suc w) (n / 256) (before ++ (n % 256 ∷ [])) rest (i + 1) (omega arith) one in
    let back = ap (λ (r : List ℕ). number_at r (i + 1) (suc w)) (sym (append_snoc before (n % 256) (low_first (suc w) (n / 256) ++ rest))) ∙ high in
    rw low (ap (λ (m : ℕ). n % 256 + 256 * m) back ∙ halves n)

-- ── a list of fields ─────────────────────────────────────────────────────────

pub there_and_back : (fs : List Field) (ns before rest : List ℕ) (p o : ℕ) → length ns ≡ length fs → filled fs ≡ true → length before ≡ p + o
    → decode_from fs (before ++ (encode fs ns ++ rest)) p o ≡ ns
there_and_back [] [] before rest p o l h e = refl
there_and_back [] (n ∷ ns) before rest p o l h e = absurd (omega arith)
there_and_back (f ∷ fs) [] before rest p o l h e = absurd (omega arith)
there_and_back (f ∷ fs) (n ∷ ns) before rest p o l h e =
    let a = both_true (leb 1 f.width) (filled fs) h in
    let bytes = low_first f.width n in
    let first = number-back f.width n before (encode fs ns ++ rest) (p + o) (leb-true 1 f.width a.0) e in
    let longer : length (before ++ bytes) ≡ p + (o + f.width) = length-append before bytes ∙ (rw (e, low_first-length f.width n) (omega arith)) in
    let others = there_and_back fs ns (before ++ bytes) rest p (o + f.width) (omega arith) a.1 longer in
    rw (append_assoc bytes (encode fs ns) rest, first, ← append_assoc before bytes (encode fs ns ++ rest), others)

-- ── bytes that were read are laid out again ──────────────────────────────────

number-again : (w : ℕ) (b : List ℕ) (i : ℕ) → ((j : ℕ) → get_or b j 0 ≤ 255) → i + w ≤ length b → low_first w (number_at b i w) ≡ take w (drop i b)
number-again zero b i small h = refl
number-again (suc zero) b i small h = rw (rest b i (omega arith))
number-again (suc (suc w)) b i small h =
    let more = number_at b (i + 1) (suc w) in
    let low : (get_or b i 0 + 256 * more) % 256 ≡ get_or b i 0 = omega (arith, small i) in
    let high : (get_or b i 0 + 256 * more) / 256 ≡ more = omega (arith, small i) in
    rw (low, high, rest b i (omega arith), number-again (suc w) b (i + 1) small (omega arith))

pub back-and-there : (fs : List Field) (b : List ℕ) (p o : ℕ) → ((j : ℕ) → get_or b j 0 ≤ 255) → p + o + size fs ≤ length b
    → encode fs (decode_from fs b p o) ≡ take (size fs) (drop (p + o) b)
back-and-there [] b p o small l = refl
back-and-there (f ∷ fs) b p o small l =
    let next : p + (o + f.width) ≡ p + o + f.width = omega arith in
    let others = back-and-there fs b p (o + f.width) small (omega arith) in
    rw (number-again f.width b (p + o) small (omega arith), others, next, take-add f.width (size fs) (drop (p + o) b), drop-drop f.width (p + o) b)

-- ── lengths ──────────────────────────────────────────────────────────────────

pub encode-length : (fs : List Field) (ns : List ℕ) → length ns ≡ length fs → length (encode fs ns) ≡ size fs
encode-length [] ns e = refl
encode-length (f ∷ fs) [] e = absurd (omega arith)
encode-length (f ∷ fs) (n ∷ ns) e =
    length-append (low_first f.width n) (encode fs ns) ∙ (rw (low_first-length f.width n, encode-length fs ns (omega arith)))

pub decode-length : (fs : List Field) (b : List ℕ) (p o : ℕ) → length (decode_from fs b p o) ≡ length fs
decode-length [] b p o = refl
decode-length (f ∷ fs) b p o = ap suc (decode-length fs b p (o + f.width))

-- ── bytes laid behind others ─────────────────────────────────────────────────

pub laid_next : (room : List ℕ) (p : ℕ) (s t : List ℕ) → p ≤ length room → laid (laid room p s) (p + length s) t ≡ laid room p (s ++ t)
unfolding laid
laid_next room p s t h =
    let front = take-paste room p s (length s) h (omega arith) in
    let back : drop (p + length s + length t) (take p room ++ take (length s) s ++ drop (p + length s) room) ≡ drop (p + length s + length t) room =
    sym (drop-drop (length t) (p + length s) (take p room ++ take (length s) s ++ drop (p + length s) room))
    ∙ ap (drop (length t)) (drop-paste room p s (length s) h (omega arith))
    ∙ drop-drop (length t) (p + length s) room in
    let size : p + length s + length t ≡ p + length (s ++ t) = rw (length-append s t) (omega arith) in
    rw (front, back, take-length s, take-length t, take-length (s ++ t), append_assoc (take p room) s t, size)

-- pieces laid one behind the other, the first of them from so many bytes behind a place on
abbrev pub laid_all : List ℕ → ℕ → ℕ → List (List ℕ) → List ℕ
laid_all room p o [] = room
laid_all room p o (s ∷ more) = laid_all (laid room (p + o) s) p (o + length s) more

pub laid-all : (room : List ℕ) (p : ℕ) (s : List ℕ) (more : List (List ℕ)) → p ≤ length room
    → laid_all (laid room p s) p (length s) more ≡ laid room p (s ++ flatten more)
unfolding flatten
laid-all room p s [] h = ap (laid room p) (sym (append-nil s))
laid-all room p s (t ∷ more) h =
    let e : length s + length t ≡ length (s ++ t) = sym (length-append s t) in
    rw (laid_next room p s t h, e) (laid-all room p (s ++ t) more h ∙ ap (laid room p) (append_assoc s t (flatten more)))

-- over bytes that are just as many
pub laid-whole : (room s : List ℕ) → length s ≡ length room → laid room 0 s ≡ s
unfolding laid
laid-whole room s e = rw e (paste-whole room s (length room) e refl)
