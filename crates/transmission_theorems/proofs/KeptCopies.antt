-- Places in a row that were spoiled or lost leave each symbol a good copy.
use Prim.Native.Nat.{ℕ, zero, suc, ◌+◌, ◌*◌, ◌≤◌, ◌<◌}
use mathlib.Core.Path.{◌≡◌, ◌∙◌}
use mathlib.Core.Logic.{◌⊎◌, inl, inr}
use mathlib.Core.List.{List, ◌∷◌}
use native.Mathlib.Omega.{arith}
use lib.ListN.{length, get_or}
use borrow.Author.Tests.{ne_eqb}
use Rattle.characters.specs.Code.{none}
use Rattle.transmission.specs.Layout.{sent, transmission}
use Rattle.transmission.specs.Phasing.{heard_at}
use Rattle.transmission.specs.Copies.{copies_of, first_good, symbol_at}
use Rattle.transmission.proofs.LayoutLaws.{any-default, dx-format, dx-symbol, rx-format, rx-symbol, sent-dx, sent-rx}
use Rattle.transmission.proofs.LayoutLaws.{transmission-length}
use Rattle.transmission_theorems.proofs.Shown.{Outside, Inside, KeptBut, RepeatsKept}
use Rattle.transmission_theorems.proofs.ShownLaws.{out-or-in}

-- of some places, the first that is not none holds this symbol
data Given (t : List ℕ) (symbol : ℕ) : List ℕ → Type 0 where
  good : {place : ℕ} {places : List ℕ} → heard_at t place ≡ symbol → Given t symbol (place ∷ places)
  repeated : {place : ℕ} {places : List ℕ} → heard_at t place ≡ none → Given t symbol places → Given t symbol (place ∷ places)

given : {t : List ℕ} {symbol : ℕ} {places : List ℕ} → symbol ≤ 127 → Given t symbol places → first_good t places ≡ symbol
given {symbol = x} h (good e) = rw (e, ne_eqb x none (λ q. omega arith))
given h (repeated e g) = rw e (given h g)

-- the copies of a symbol, where they are sent
module _ (s : List ℕ) where
  first-copy : (k : ℕ) → k < length s → get_or (sent s) (14 + 2 * k) none ≡ get_or s k 0
  first-copy k h =
      let e : 14 + 2 * k ≡ 2 * (7 + k) = omega arith in
      rw e (sent-dx s (7 + k) none (omega arith) ∙ dx-symbol s k none h ∙ any-default s k none 0 h)

  repeat : (k : ℕ) → k < length s → get_or (sent s) (19 + 2 * k) none ≡ get_or s k 0
  repeat k h =
      let e : 19 + 2 * k ≡ 2 * (9 + k) + 1 = omega arith in
      rw e (sent-rx s (9 + k) none (omega arith) ∙ rx-symbol s k none ∙ any-default s k none 0 h)

  first-format : get_or (sent s) 12 none ≡ get_or s 0 0
  first-format = sent-dx s 6 none (omega arith) ∙ dx-format s none

  repeated-format : get_or (sent s) 17 none ≡ get_or s 0 0
  repeated-format = sent-rx s 8 none (omega arith) ∙ rx-format s none

-- what was sent stands in t, but for places in a row that leave each copy its repeat
module _ (s t : List ℕ) (start place count : ℕ) (kept : KeptBut s t start place count) (repeats : RepeatsKept s t start place count) where
  -- a copy outside is good; one inside is none, and then the others count
  copy : (p symbol : ℕ) {places : List ℕ} → 12 ≤ p → p < length (transmission s) → get_or (sent s) p none ≡ symbol
      → (place + count ≤ p + 5 → Given t symbol places) → Given t symbol ((start + p) ∷ places)
  copy p symbol {places} least most e others = go (out-or-in place count p)
    where
      go : Outside place count p ⊎ Inside place count p → Given t symbol ((start + p) ∷ places)
      go (inl o) = good (kept p o ∙ e)
      go (inr i) = let r = repeats p least most i in repeated r.0 (others r.1)

  format-given : 1 ≤ length s → Given t (get_or s 0 0) (copies_of start 0)
  format-given h =
      let l = transmission-length s in
      copy 12 _ (omega arith) (omega arith) (first-format s)
      (λ f. copy 14 _ (omega arith) (omega arith) (first-copy s 0 h) (λ g. good (kept 17 (inr f) ∙ repeated-format s)))

  symbol-given : (k : ℕ) → suc k < length s → Given t (get_or s (suc k) 0) (copies_of start (suc k))
  symbol-given k h =
      let e : start + 14 + 2 * suc k ≡ start + (14 + 2 * suc k) = omega arith in
      let f : start + 19 + 2 * suc k ≡ start + (19 + 2 * suc k) = omega arith in
      let l = transmission-length s in
      rw (e, f)
      (copy (14 + 2 * suc k) _ (omega arith) (omega arith) (first-copy s (suc k) h)
      (λ g. good (kept (19 + 2 * suc k) (inr (omega arith)) ∙ repeat s (suc k) h)))

  pub symbol-kept : (k : ℕ) → k < length s → get_or s k 0 ≤ 127 → symbol_at t start k ≡ get_or s k 0
  unfolding symbol_at
  symbol-kept zero h small = given small (format-given h)
  symbol-kept (suc k) h small = given small (symbol-given k h)
