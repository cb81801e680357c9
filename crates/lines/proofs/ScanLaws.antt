-- How the fields of a line are read on, byte by byte.
use mathlib.Core.Bool.{Bool, true, false, cond}
use mathlib.Core.List.{List, ◌∷◌}
use mathlib.Core.Option.{none}
use mathlib.Core.Path.{◌≡◌, refl, sym}
use Prim.Native.Nat.{ℕ, ◌+◌, ◌-◌, ◌*◌, ◌<◌, ◌≤◌}
use lib.Dec.{leb, eqb}
use lib.ListN.{length, drop, get_or, drop_of_length-le}
use borrow.Author.Tests.{le-leb, lt-leb, eq-eqb, ne_eqb, leb-true}
use Rattle.sequence.proofs.Tests.{both_true}
use Rattle.sequence.proofs.Rest.{rest}
use Rattle.lines.specs.Decimal.{is_digit}
use Rattle.lines.specs.Readable.{between, opened, inside, with, scan}

pub digit-within : (b : ℕ) → is_digit b ≡ true → (48 ≤ b) × (b ≤ 57)
unfolding is_digit
digit-within b e = let h = both_true (leb 48 b) (leb b 57) e in (leb-true 48 b h.0, leb-true b 57 h.1)

-- ── in a field ───────────────────────────────────────────────────────────────

module _ (v b : ℕ) (t : List ℕ) where
  pub inside-stop : is_digit b ≡ false → scan (inside v) (b ∷ t) ≡ with v (scan between (b ∷ t))
  unfolding scan
  inside-stop e = rw e (go (eqb b 32))
    where
      go : (x : Bool) → cond x (with v (scan opened t)) none ≡ with v (cond x (scan opened t) none)
      go true = refl
      go false = refl

  pub inside-over : is_digit b ≡ true → 4294967295 < v * 10 + (b - 48) → scan (inside v) (b ∷ t) ≡ none
  unfolding scan
  inside-over e h = rw (e, lt-leb (v * 10 + (b - 48)) 4294967295 h)

  pub inside-more : is_digit b ≡ true → v * 10 + (b - 48) ≤ 4294967295 → scan (inside v) (b ∷ t) ≡ scan (inside (v * 10 + (b - 48))) t
  unfolding scan
  inside-more e h = rw (e, le-leb (v * 10 + (b - 48)) 4294967295 h)

module _ (v : ℕ) (s : List ℕ) (i : ℕ) where
  pub end-here : length s ≤ i → scan (inside v) (drop i s) ≡ with v (scan between (drop i s))
  unfolding scan
  end-here h = rw (drop_of_length-le s {i = i} h)

  module _ (h : i < length s) where
    pub stop-here : is_digit (get_or s i 0) ≡ false → scan (inside v) (drop i s) ≡ with v (scan between (drop i s))
    stop-here e = rw (rest s i h) (inside-stop v (get_or s i 0) (drop (i + 1) s) e)

    pub over-here : is_digit (get_or s i 0) ≡ true → 4294967295 < v * 10 + (get_or s i 0 - 48) → scan (inside v) (drop i s) ≡ none
    over-here e k = rw (rest s i h) (inside-over v (get_or s i 0) (drop (i + 1) s) e k)

    pub more-here : is_digit (get_or s i 0) ≡ true → v * 10 + (get_or s i 0 - 48) ≤ 4294967295
        → scan (inside (v * 10 + (get_or s i 0 - 48))) (drop (i + 1) s) ≡ scan (inside v) (drop i s)
    more-here e k = rw (rest s i h) (sym (inside-more v (get_or s i 0) (drop (i + 1) s) e k))

-- ── where a field begins, and before its space ───────────────────────────────

module _ (s : List ℕ) (i : ℕ) where
  pub none-opened : length s ≤ i → scan opened (drop i s) ≡ none
  unfolding scan
  none-opened h = rw (drop_of_length-le s {i = i} h)

  module _ (h : i < length s) where
    pub no-field : is_digit (get_or s i 0) ≡ false → scan opened (drop i s) ≡ none
    unfolding scan
    no-field e = rw (rest s i h, e)

    pub field-begins : is_digit (get_or s i 0) ≡ true → scan opened (drop i s) ≡ scan (inside (get_or s i 0 - 48)) (drop (i + 1) s)
    unfolding scan
    field-begins e = rw (rest s i h, e)

    pub no-space : (get_or s i 0 ≡ 32 → ⊥) → scan between (drop i s) ≡ none
    unfolding scan
    no-space e = rw (rest s i h, ne_eqb _ _ e)

    pub space-here : get_or s i 0 ≡ 32 → scan between (drop i s) ≡ scan opened (drop (i + 1) s)
    unfolding scan
    space-here e = rw (rest s i h, eq-eqb _ _ e)
