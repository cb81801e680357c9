-- The fields of a line and the numbers that they are read as.
use mathlib.Core.Bool.{true, false}
use mathlib.Core.List.{List, [], ◌∷◌, ◌++◌, map}
use mathlib.Core.Option.{Option, none, some}
use mathlib.Core.Path.{◌≡◌, refl, sym, ◌∙◌, ap}
use Prim.Native.Nat.{ℕ, ◌+◌, ◌-◌, ◌*◌, ◌≤◌}
use native.Mathlib.Omega.{arith}
use lib.Dec.{eqb}
use borrow.Author.Tests.{le-leb, leb-true, eqb-true, leb-false}
use Rattle.rules.specs.Rules.Places.{all}
use Rattle.sequence.proofs.Tests.{Either, yes!, no!, which, both_true}
use Rattle.lines.specs.Decimal.{is_digit, is_decimal, value_from, value_of}
use Rattle.lines.specs.Lines.{spaced, is_number}
use Rattle.lines.specs.Readable.{between, opened, inside, with, scan}
use Rattle.lines.proofs.SaidLaws.{no-some}
use Rattle.lines.proofs.ScanLaws.{digit-within, inside-stop, inside-over, inside-more}

-- ── fields are read as their numbers ─────────────────────────────────────────

-- more digits never make a number smaller
grows : (v : ℕ) (t : List ℕ) → v ≤ value_from v t
grows v [] = omega arith
grows v (b ∷ t) = omega (arith, grows (v * 10 + (b - 48)) t)

digits-read : (v : ℕ) (t : List ℕ) (rest : List (List ℕ)) → all is_digit t ≡ true → value_from v t ≤ 4294967295
    → scan (inside v) (t ++ spaced rest) ≡ with (value_from v t) (scan between (spaced rest))
unfolding scan is_digit
digits-read v [] [] d h = refl
digits-read v [] (f ∷ rest) d h = refl
digits-read v (b ∷ t) rest d h =
    let e = both_true (is_digit b) (all is_digit t) d in
    inside-more v b (t ++ spaced rest) e.0 (omega (arith, grows (v * 10 + (b - 48)) t)) ∙ digits-read (v * 10 + (b - 48)) t rest e.1 h

pub fields_read : (fields : List (List ℕ)) → all is_decimal fields ≡ true → all is_number (map value_of fields) ≡ true
    → scan between (spaced fields) ≡ some (map value_of fields)
unfolding scan is_decimal value_of
fields_read [] d n = refl
fields_read ([] ∷ fields) d n = cc
fields_read ((b ∷ t) ∷ fields) d n =
    let k = both_true (all is_digit (b ∷ t)) (all is_decimal fields) d in
    let e = both_true (is_digit b) (all is_digit t) k.0 in
    let m = both_true (is_number (value_from (b - 48) t)) (all is_number (map value_of fields)) n in
    rw e.0 (digits-read (b - 48) t fields e.1 (leb-true _ _ m.0) ∙ ap (with (value_from (b - 48) t)) (fields_read fields k.1 m.1))

-- ── and numbers are read of nothing else ─────────────────────────────────────

pub record Fields (t : List ℕ) (ns : List ℕ) : Type 0 where
  pub fields : List (List ℕ)
  pub decimals : all is_decimal fields ≡ true
  pub values : map value_of fields ≡ ns
  pub written : t ≡ spaced fields
  pub small : all is_number ns ≡ true

-- behind digits that say v: more digits, and further fields
record Tail (v : ℕ) (t : List ℕ) (ns : List ℕ) : Type 0 where
  pub more : List ℕ
  pub fields : List (List ℕ)
  pub digits : all is_digit more ≡ true
  pub decimals : all is_decimal fields ≡ true
  pub values : value_from v more ∷ map value_of fields ≡ ns
  pub written : t ≡ more ++ spaced fields
  pub small : all is_number ns ≡ true

-- what is known of every tail of a text
abbrev Tails : List ℕ → Type 0
Tails t = (w : ℕ) → is_number w ≡ true → (ms : List ℕ) → scan (inside w) t ≡ some ms → Tail w t ms

with-some : (v : ℕ) (o : Option (List ℕ)) (ns : List ℕ) → with v o ≡ some ns → (ms : List ℕ) × (o ≡ some ms) × (v ∷ ms ≡ ns)
with-some v none ns e = absurd (no-some e)
with-some v (some ms) ns e = (ms, refl, cc)

module _ (c : ℕ) (t ms : List ℕ) (tails : Tails t) where
  begun : is_digit c ≡ true → scan opened (c ∷ t) ≡ some ms → Fields (32 ∷ c ∷ t) ms
  unfolding scan is_decimal value_of
  begun d e =
      let f : Tail (c - 48) t ms = tails (c - 48) (le-leb (c - 48) 4294967295 (omega (arith, digit-within c d))) ms (rw d at e) in
      record {
        fields = (c ∷ f.more) ∷ f.fields;
        decimals = rw (d, f.digits) f.decimals;
        values = f.values;
        written = ap (λ r. 32 ∷ c ∷ r) f.written;
        small = f.small;
      }

  opens : scan opened (c ∷ t) ≡ some ms → Fields (32 ∷ c ∷ t) ms
  unfolding scan
  opens e = go (which (is_digit c))
    where
      go : Either (is_digit c) → Fields (32 ∷ c ∷ t) ms
      go (yes! d) = begun d e
      go (no! d) = absurd (no-some (rw d at e))

spaces : (b : ℕ) (t ms : List ℕ) → (scan opened t ≡ some ms → Fields (32 ∷ t) ms) → scan between (b ∷ t) ≡ some ms → Fields (b ∷ t) ms
unfolding scan
spaces b t ms f e = go (which (eqb b 32))
  where
    go : Either (eqb b 32) → Fields (b ∷ t) ms
    go (yes! q) = rw (eqb-true b 32 q) (f (rw q at e))
    go (no! q) = absurd (no-some (rw q at e))

module _ (v b : ℕ) (t ns : List ℕ) (n : is_number v ≡ true) (e : scan (inside v) (b ∷ t) ≡ some ns) where
  goes_on : is_digit b ≡ true → Tails t → Tail v (b ∷ t) ns
  goes_on d tails = go (which (is_number (v * 10 + (b - 48))))
    where
      go : Either (is_number (v * 10 + (b - 48))) → Tail v (b ∷ t) ns
      go (yes! m) =
          let f : Tail (v * 10 + (b - 48)) t ns = tails (v * 10 + (b - 48)) m ns (sym (inside-more v b t d (leb-true _ _ m)) ∙ e) in
          record {
            more = b ∷ f.more;
            fields = f.fields;
            digits = rw d f.digits;
            decimals = f.decimals;
            values = f.values;
            written = ap (λ r. b ∷ r) f.written;
            small = f.small;
          }
      go (no! m) = absurd (no-some (sym (inside-over v b t d (leb-false _ _ m)) ∙ e))

  ends : is_digit b ≡ false → ((ms : List ℕ) → scan between (b ∷ t) ≡ some ms → Fields (b ∷ t) ms) → Tail v (b ∷ t) ns
  ends d fields =
      let w = with-some v (scan between (b ∷ t)) ns (sym (inside-stop v b t d) ∙ e) in
      let f = fields w.0 w.1 in
      record {
        more = [];
        fields = f.fields;
        digits = refl;
        decimals = f.decimals;
        values = ap (λ r. v ∷ r) f.values ∙ w.2;
        written = f.written;
        small = rw (← w.2, n) f.small;
      }

  steps : Tails t → ((ms : List ℕ) → scan between (b ∷ t) ≡ some ms → Fields (b ∷ t) ms) → Tail v (b ∷ t) ns
  steps tails fields = go (which (is_digit b))
    where
      go : Either (is_digit b) → Tail v (b ∷ t) ns
      go (yes! d) = goes_on d tails
      go (no! d) = ends d fields

no-field : (ms : List ℕ) → scan opened [] ≡ some ms → Fields (32 ∷ []) ms
unfolding scan
no-field ms e = absurd (no-some e)

tail_of : (v : ℕ) → is_number v ≡ true → (t ns : List ℕ) → scan (inside v) t ≡ some ns → Tail v t ns
unfolding scan
tail_of v n [] ns e =
    let q : v ∷ [] ≡ ns = cc in
    record { more = []; fields = []; digits = refl; decimals = refl; values = q; written = refl; small = rw (← q, n) }
tail_of v n (b ∷ []) ns e = steps v b [] ns n e (λ w m ms q. tail_of w m [] ms q) (λ ms q. spaces b [] ms (no-field ms) q)
tail_of v n (b ∷ c ∷ t) ns e =
    steps v b (c ∷ t) ns n e
    (λ w m ms q. tail_of w m (c ∷ t) ms q)
    (λ ms q. spaces b (c ∷ t) ms (opens c t ms (λ w m ms q. tail_of w m t ms q)) q)

pub fields-of : (t ns : List ℕ) → scan between t ≡ some ns → Fields t ns
unfolding scan
fields-of [] ns e =
    let q : [] ≡ ns = cc in
    record { fields = []; decimals = refl; values = q; written = refl; small = rw (← q) refl }
fields-of (b ∷ []) ns e = spaces b [] ns (no-field ns) e
fields-of (b ∷ c ∷ t) ns e = spaces b (c ∷ t) ns (opens c t ns (λ w m ms q. tail_of w m t ms q)) e
