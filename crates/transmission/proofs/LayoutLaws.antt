-- Laws of a transmission's layout: how long its parts are, and what stands in each place.
use Prim.Native.Nat.{ℕ, zero, suc, ◌+◌, ◌-◌, ◌*◌, ◌<◌, ◌≤◌}
use mathlib.Core.Path.{◌≡◌, refl, sym, ap, ◌∙◌}
use mathlib.Core.List.{List, [], ◌∷◌, ◌++◌, map}
use native.Mathlib.Omega.{arith}
use lib.Dec.{eqb}
use lib.ListN.{length, get_or, take, drop, replicate, length-append, length-map, get_or-replicate, get_or-append, get_or-map}
use lib.Seq.{get_or-append-add, take-nil, drop-nil}
use borrow.Author.Tests.{eqb-true, eqb-false}
use Rattle.sequence.proofs.Tests.{Either, yes!, no!, which}
use Rattle.characters.specs.Code.{character_of}
use Rattle.characters.proofs.RowLaws.{at_place}
use Rattle.transmission.specs.Layout.{dx_phasing, rx_phasing, format_twice, end_of, dx, rx, in_turn, sent, transmission, bytes_of}

-- within a list the default plays no part
pub any-default : (l : List ℕ) (i d e : ℕ) → i < length l → get_or l i d ≡ get_or l i e
any-default [] i d e h = absurd (omega arith)
any-default (x ∷ l) zero d e h = refl
any-default (x ∷ l) (suc i) d e h = any-default l i d e (omega arith)

map-within : (f : ℕ → ℕ) (l : List ℕ) (i d : ℕ) → i < length l → get_or (map f l) i d ≡ f (get_or l i 0)
map-within f l i d h = any-default (map f l) i d (f 0) (rw (length-map l f) h) ∙ get_or-map f l i 0

-- ── two lists in turn ────────────────────────────────────────────────────────

in-turn-length : (xs ys : List ℕ) → length xs ≡ length ys → length (in_turn xs ys) ≡ 2 * length xs
in-turn-length [] ys e = refl
in-turn-length (x ∷ xs) [] e = absurd (omega arith)
in-turn-length (x ∷ xs) (y ∷ ys) e = let h = in-turn-length xs ys (omega arith) in omega arith

in-turn-first : (xs ys : List ℕ) (i d : ℕ) → i < length xs → i < length ys → get_or (in_turn xs ys) (2 * i) d ≡ get_or xs i d
in-turn-first [] ys i d h k = absurd (omega arith)
in-turn-first (x ∷ xs) [] i d h k = absurd (omega arith)
in-turn-first (x ∷ xs) (y ∷ ys) zero d h k = refl
in-turn-first (x ∷ xs) (y ∷ ys) (suc i) d h k =
    let e : 2 * suc i ≡ suc (suc (2 * i)) = omega arith in
    rw e (in-turn-first xs ys i d (omega arith) (omega arith))

in-turn-second : (xs ys : List ℕ) (i d : ℕ) → i < length xs → i < length ys → get_or (in_turn xs ys) (2 * i + 1) d ≡ get_or ys i d
in-turn-second [] ys i d h k = absurd (omega arith)
in-turn-second (x ∷ xs) [] i d h k = absurd (omega arith)
in-turn-second (x ∷ xs) (y ∷ ys) zero d h k = refl
in-turn-second (x ∷ xs) (y ∷ ys) (suc i) d h k =
    let e : 2 * suc i + 1 ≡ suc (suc (2 * i + 1)) = omega arith in
    rw e (in-turn-second xs ys i d (omega arith) (omega arith))

-- ── bytes of characters ──────────────────────────────────────────────────────

pub bytes-length : (cs : List ℕ) → length (bytes_of cs) ≡ 2 * length cs
bytes-length [] = refl
bytes-length (c ∷ cs) = let h = bytes-length cs in omega arith

pub bytes-taken : (n : ℕ) (cs : List ℕ) → take (2 * n) (bytes_of cs) ≡ bytes_of (take n cs)
bytes-taken zero cs = refl
bytes-taken (suc n) [] = take-nil (2 * suc n)
bytes-taken (suc n) (c ∷ cs) =
    let e : 2 * suc n ≡ suc (suc (2 * n)) = omega arith in
    rw (e, bytes-taken n cs)

pub bytes-dropped : (n : ℕ) (cs : List ℕ) → drop (2 * n) (bytes_of cs) ≡ bytes_of (drop n cs)
bytes-dropped zero cs = refl
bytes-dropped (suc n) [] = drop-nil (2 * suc n)
bytes-dropped (suc n) (c ∷ cs) =
    let e : 2 * suc n ≡ suc (suc (2 * n)) = omega arith in
    rw (e, bytes-dropped n cs)

-- ── DX and RX ────────────────────────────────────────────────────────────────

module _ (s : List ℕ) where
  dx-length : length (dx s) ≡ length s + 9
  unfolding dx dx_phasing
  dx-length = simp length-append (omega arith)

  rx-length : length (rx s) ≡ length s + 9
  unfolding rx rx_phasing
  rx-length = omega arith

  pub dx-phasing : (i d : ℕ) → i < 6 → get_or (dx s) i d ≡ 125
  unfolding dx dx_phasing
  dx-phasing i d h = get_or-append dx_phasing (format_twice s ++ (end_of s ∷ end_of s ∷ [])) d i h ∙ get_or-replicate 6 i 125 d h

  pub dx-format : (d : ℕ) → get_or (dx s) 6 d ≡ get_or s 0 0
  unfolding dx dx_phasing
  dx-format d = refl

  pub dx-symbol : (k d : ℕ) → k < length s → get_or (dx s) (7 + k) d ≡ get_or s k d
  unfolding dx dx_phasing
  dx-symbol k d h =
      get_or-append-add (dx_phasing ++ (get_or s 0 0 ∷ [])) (s ++ (end_of s ∷ end_of s ∷ [])) k d
      ∙ get_or-append s (end_of s ∷ end_of s ∷ []) d k h

  -- the format's two DX places
  pub dx-formats : (i d : ℕ) → 1 ≤ length s → 6 ≤ i → i < 8 → get_or (dx s) i d ≡ get_or s 0 0
  dx-formats i d some low high = go (which (eqb i 6))
    where
      go : Either (eqb i 6) → get_or (dx s) i d ≡ get_or s 0 0
      go (yes! e) = rw (eqb-true i 6 e) (dx-format d)
      go (no! e) =
          let n = eqb-false i 6 e in
          let k : i ≡ 7 + 0 = omega arith in
          rw k (dx-symbol 0 d some ∙ any-default s 0 d 0 some)

  -- "at the end DX has end, check, end, end": the last two
  pub dx-end : (i d : ℕ) → length s + 7 ≤ i → i < length s + 9 → get_or (dx s) i d ≡ end_of s
  unfolding dx dx_phasing
  dx-end i d low high =
      let k = i - (length s + 7) in
      let e : i ≡ 7 + (length s + k) = omega arith in
      rw e
      (get_or-append-add (dx_phasing ++ (get_or s 0 0 ∷ [])) (s ++ (end_of s ∷ end_of s ∷ [])) (length s + k) d
      ∙ get_or-append-add s (replicate 2 (end_of s)) k d
      ∙ get_or-replicate 2 k (end_of s) d (omega arith))

  pub rx-phasing : (i d : ℕ) → i < 8 → get_or (rx s) i d ≡ 111 - i
  unfolding rx rx_phasing
  rx-phasing i d h =
      get_or-append rx_phasing (format_twice s) d i h ∙ any-default rx_phasing i d 0 h ∙ at_place (λ i. 111 - i) 8 i h

  pub rx-format : (d : ℕ) → get_or (rx s) 8 d ≡ get_or s 0 0
  unfolding rx rx_phasing
  rx-format d = refl

  pub rx-symbol : (k d : ℕ) → get_or (rx s) (9 + k) d ≡ get_or s k d
  unfolding rx rx_phasing
  rx-symbol k d = get_or-append-add (rx_phasing ++ (get_or s 0 0 ∷ [])) s k d

  -- "and RX end, check": the end
  pub rx-end : (d : ℕ) → 2 ≤ length s → get_or (rx s) (length s + 7) d ≡ end_of s
  rx-end d two =
      let e : length s + 7 ≡ 9 + (length s - 2) = omega arith in
      rw e (rx-symbol (length s - 2) d ∙ any-default s (length s - 2) d 0 (omega arith))

  -- ── in turn ────────────────────────────────────────────────────────────────

  pub sent-length : length (sent s) ≡ 2 * (length s + 9)
  sent-length = in-turn-length (dx s) (rx s) (dx-length ∙ sym rx-length) ∙ ap (λ (n : ℕ). 2 * n) dx-length

  -- DX in the even places, RX in the odd ones
  pub sent-dx : (i d : ℕ) → i < length s + 9 → get_or (sent s) (2 * i) d ≡ get_or (dx s) i d
  sent-dx i d h = in-turn-first (dx s) (rx s) i d (rw dx-length h) (rw rx-length h)

  pub sent-rx : (i d : ℕ) → i < length s + 9 → get_or (sent s) (2 * i + 1) d ≡ get_or (rx s) i d
  sent-rx i d h = in-turn-second (dx s) (rx s) i d (rw dx-length h) (rw rx-length h)

  -- ── the characters ─────────────────────────────────────────────────────────

  pub transmission-length : length (transmission s) ≡ 2 * (length s + 9)
  unfolding transmission
  transmission-length = length-map (sent s) character_of ∙ sent-length

  pub transmission-dx : (i d : ℕ) → i < length s + 9 → get_or (transmission s) (2 * i) d ≡ character_of (get_or (dx s) i 0)
  unfolding transmission
  transmission-dx i d h = map-within character_of (sent s) (2 * i) d (omega (arith, sent-length)) ∙ ap character_of (sent-dx i 0 h)

  pub transmission-rx : (i d : ℕ) → i < length s + 9 → get_or (transmission s) (2 * i + 1) d ≡ character_of (get_or (rx s) i 0)
  unfolding transmission
  transmission-rx i d h = map-within character_of (sent s) (2 * i + 1) d (omega (arith, sent-length)) ∙ ap character_of (sent-rx i 0 h)
