-- Records within a layout: by their numbers, and by their places.
use Prim.Native.Nat.{ℕ, zero, suc, ◌+◌, ◌*◌}
use mathlib.Core.Path.{◌≡◌, refl, sym, ap, ◌∙◌}
use mathlib.Core.List.{List, [], ◌∷◌, ◌++◌, map, flat_map, append_assoc}
use native.Mathlib.Omega.{arith}
use native.Mathlib.Nat.{add-zero, mul-suc}
use lib.ListN.{length, length-append}
use lib.Seq.{take_at, drop_at}
use Rattle.layouts.specs.Fields.{Field, size, low_first, encode, decode_from, decode}
use Rattle.layouts.specs.Records.{repeated, records_at, records_in}
use Rattle.layouts.proofs.FieldLaws.{decode-length}

-- ── fields further on ────────────────────────────────────────────────────────

pub decode-further : (fs : List Field) (b : List ℕ) (p q o : ℕ) → decode_from fs b p (q + o) ≡ decode_from fs b (p + q) o
decode-further [] b p q o = refl
decode-further (f ∷ fs) b p q o =
    let here : p + (q + o) ≡ p + q + o = omega arith in
    let next : q + o + f.width ≡ q + (o + f.width) = omega arith in
    rw (here, next, decode-further fs b p q (o + f.width))

-- ── one list of fields behind another ────────────────────────────────────────

pub encode-behind : (fs gs : List Field) (ns ms : List ℕ) → length ns ≡ length fs → encode (fs ++ gs) (ns ++ ms) ≡ encode fs ns ++ encode gs ms
encode-behind [] gs [] ms e = refl
encode-behind [] gs (n ∷ ns) ms e = absurd (omega arith)
encode-behind (f ∷ fs) gs [] ms e = absurd (omega arith)
encode-behind (f ∷ fs) gs (n ∷ ns) ms e =
    rw (encode-behind fs gs ns ms (omega arith)) (sym (append_assoc (low_first f.width n) (encode fs ns) (encode gs ms)))

pub decode-behind : (fs gs : List Field) (b : List ℕ) (p o : ℕ) → decode_from (fs ++ gs) b p o ≡ decode_from fs b p o ++ decode_from gs b p (o + size fs)
decode-behind [] gs b p o = let e : o ≡ o + 0 = omega arith in ap (decode_from gs b p) e
decode-behind (f ∷ fs) gs b p o =
    let e : o + f.width + size fs ≡ o + (f.width + size fs) = omega arith in
    rw (decode-behind fs gs b p (o + f.width), e)

-- ── so many records ──────────────────────────────────────────────────────────

module _ {A : Type 0} (numbers : A → List ℕ) (fs : List Field) (whole : (x : A) → length (numbers x) ≡ length fs) where
  pub encode-repeated : (l : List A) → encode (repeated (length l) fs) (flat_map numbers l) ≡ flat_map (λ x. encode fs (numbers x)) l
  unfolding repeated flat_map
  encode-repeated [] = refl
  encode-repeated (x ∷ l) = encode-behind fs (repeated (length l) fs) (numbers x) (flat_map numbers l) (whole x) ∙ (rw (encode-repeated l))

  -- what is made of each record's own numbers
  pub records-told : (f : List ℕ → A) (l : List A) (rest : List ℕ)
      → records_in f (length l) (length fs) (flat_map numbers l ++ rest) ≡ map (λ x. f (numbers x)) l
  unfolding records_in flat_map
  records-told f [] rest = refl
  records-told f (x ∷ l) rest =
      rw (append_assoc (numbers x) (flat_map numbers l) rest, take_at (numbers x) (flat_map numbers l ++ rest) (length fs) (whole x), drop_at (numbers x) (flat_map numbers l ++ rest) (length fs) (whole x), records-told f l rest)

pub records-decoded : {A : Type 0} (f : List ℕ → A) (fs : List Field) (b : List ℕ) (k p o : ℕ) (rest : List ℕ)
    → records_in f k (length fs) (decode_from (repeated k fs) b p o ++ rest) ≡ records_at (λ q. f (decode fs b q)) k (size fs) (p + o)
unfolding records_in records_at repeated
records-decoded f fs b zero p o rest = refl
records-decoded f fs b (suc k) p o rest =
    let more = decode_from (repeated k fs) b p (o + size fs) in
    let one : decode_from fs b p o ≡ decode fs b (p + o) = ap (decode_from fs b p) (sym (add-zero o)) ∙ decode-further fs b p o 0 in
    let next : p + (o + size fs) ≡ p + o + size fs = omega arith in
    let l = decode-length fs b (p + o) 0 in
    rw (decode-behind fs (repeated k fs) b p o, one, append_assoc (decode fs b (p + o)) more rest, take_at (decode fs b (p + o)) (more ++ rest) (length fs) l, drop_at (decode fs b (p + o)) (more ++ rest) (length fs) l, records-decoded f fs b k p (o + size fs) rest, next)

pub repeated-length : (k : ℕ) (fs : List Field) → length (repeated k fs) ≡ length fs * k
unfolding repeated
repeated-length zero fs = omega arith
repeated-length (suc k) fs = length-append fs (repeated k fs) ∙ (rw (repeated-length k fs, mul-suc (length fs) k) (omega arith))

size-behind : (fs gs : List Field) → size (fs ++ gs) ≡ size fs + size gs
size-behind [] gs = omega arith
size-behind (f ∷ fs) gs = rw (size-behind fs gs) (omega arith)

pub repeated-size : (k : ℕ) (fs : List Field) → size (repeated k fs) ≡ size fs * k
unfolding repeated
repeated-size zero fs = omega arith
repeated-size (suc k) fs = size-behind fs (repeated k fs) ∙ (rw (repeated-size k fs, mul-suc (size fs) k) (omega arith))

pub records_at-more : {A : Type 0} (f : ℕ → A) (k size p : ℕ) → records_at f (suc k) size p ≡ records_at f k size p ++ (f (p + size * k) ∷ [])
unfolding records_at
records_at-more f zero size p = let e : p ≡ p + size * 0 = omega arith in ap (λ q. f q ∷ []) e
records_at-more f (suc k) size p =
    let e : p + size + size * k ≡ p + size * suc k = rw (mul-suc size k) (omega arith) in
    rw (records_at-more f k size (p + size), e)

pub flat_map-more : {A : Type 0} (f : A → List ℕ) (l m : List A) → flat_map f (l ++ m) ≡ flat_map f l ++ flat_map f m
unfolding flat_map
flat_map-more f [] m = refl
flat_map-more f (x ∷ l) m = rw (flat_map-more f l m) (sym (append_assoc (f x) (flat_map f l) (flat_map f m)))

pub flat_map-length : {A : Type 0} (f : A → List ℕ) (n : ℕ) → ((x : A) → length (f x) ≡ n) → (l : List A) → length (flat_map f l) ≡ n * length l
unfolding flat_map
flat_map-length f n h [] = omega arith
flat_map-length f n h (x ∷ l) =
    length-append (f x) (flat_map f l) ∙ (rw (h x, flat_map-length f n h l, mul-suc n (length l)) (omega arith))
