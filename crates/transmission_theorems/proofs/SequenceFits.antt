-- The symbols of a valid sequence fit the kinds of its places.
use Prim.Native.Nat.{ℕ, ◌/◌, ◌%◌, ◌*◌, ◌≤◌}
use mathlib.Core.Path.{◌≡◌, refl}
use mathlib.Core.Logic.{◌⊎◌, inl, inr}
use mathlib.Core.Bool.{Bool, true, false, cond, ◌&&◌, ◌||◌, or-true}
use mathlib.Core.List.{List, [], ◌∷◌, ◌++◌}
use native.Mathlib.Omega.{arith}
use lib.Dec.{leb, eqb}
use lib.ListN.{length, replicate}
use borrow.Author.Tests.{lt-leb, ne_eqb, leb-true, eqb-true}
use Rattle.sequence.specs.declared.Field.{Field}
use Rattle.sequence.specs.declared.Field.TheVariants.{Blank, Channel, Duration}
use Rattle.sequence.specs.declared.Meaning.{Meaning}
use Rattle.sequence.specs.Symbols.{within, all_at_most, exclusive_or}
use Rattle.sequence.specs.Identity.{identity_symbols}
use Rattle.sequence.specs.Field.{is_call, channel_ok, duration_ok, unable_second, telecommands_ok, field_ok, field_first, field_second, field_third}
use Rattle.sequence.specs.Number.{parity, evened, pairs_of}
use Rattle.sequence.specs.Layout.{end_ok, valid, front, body, layout}
use Rattle.sequence.proofs.Tests.{both_true, either_true, Either, yes!, no!, which}
use Rattle.writing.proofs.Bounds.{channel-le, duration-le}
use Rattle.writing.proofs.EvenedLaws.{evened-all}
use Rattle.writing.proofs.Valid.{parts, identities-le}
use Rattle.sequence_theorems.proofs.NumberLaws.{pairs-all}
use Rattle.characters.specs.Code.{none}
use Rattle.transmission_theorems.proofs.PossibleStarts.{a_first, a_parity, not125, kind_of, front_kinds, kinds}
use Rattle.transmission_theorems.proofs.Fits.{Fits, plain, possible, AllFit, no_more, one_more, append-fit}

-- a symbol below 104
low : (kind symbol : ℕ) → symbol ≤ 103 → Fits kind symbol
low kind symbol h = plain (rw (lt-leb 104 symbol (omega arith), ne_eqb symbol 125 (λ e. omega arith)))

-- one of which nothing is known: 125, or another
any : (symbol : ℕ) → Fits (kind_of symbol) symbol
any symbol = go (which (eqb symbol 125)) (which (within 104 111 symbol))
  where
    go : Either (eqb symbol 125) → Either (within 104 111 symbol) → Fits (kind_of symbol) symbol
    go (yes! p) q = rw (eqb-true symbol 125 p) (possible refl)
    go (no! p) (yes! q) = rw p (possible (rw q (or-true (eqb not125 symbol))))
    go (no! p) (no! q) = plain (rw (q, p))

one_of : (x a b d : ℕ) → (eqb x a || (eqb x b || eqb x d)) ≡ true → (x ≡ a) ⊎ ((x ≡ b) ⊎ (x ≡ d))
one_of x a b d e = go (either_true (eqb x a) _ e)
  where
    last : (eqb x b ≡ true) ⊎ (eqb x d ≡ true) → (x ≡ a) ⊎ ((x ≡ b) ⊎ (x ≡ d))
    last (inl p) = inr (inl (eqb-true x b p))
    last (inr p) = inr (inr (eqb-true x d p))

    go : (eqb x a ≡ true) ⊎ ((eqb x b || eqb x d) ≡ true) → (x ≡ a) ⊎ ((x ≡ b) ⊎ (x ≡ d))
    go (inl p) = inl (eqb-true x a p)
    go (inr p) = last (either_true (eqb x b) (eqb x d) p)

call_fits : (first : ℕ) → is_call first ≡ true → Fits a_first first
unfolding is_call
call_fits first e = go (one_of first 100 101 106 e)
  where
    go : (first ≡ 100) ⊎ ((first ≡ 101) ⊎ (first ≡ 106)) → Fits a_first first
    go (inl p) = rw p (plain refl)
    go (inr (inl p)) = rw p (plain refl)
    go (inr (inr p)) = rw p (possible refl)

first_fits : (first second : ℕ) → telecommands_ok first second ≡ true → Fits a_first first
unfolding telecommands_ok
first_fits first second e = go (which (is_call first)) (which (eqb first 104)) e
  where
    go : Either (is_call first) → Either (eqb first 104)
        → cond (is_call first) (within 100 126 second) (cond (eqb first 104) (unable_second second) (eqb first 105 && eqb second 126)) ≡ true
        → Fits a_first first
    go (yes! p) q t = call_fits first p
    go (no! p) (yes! q) t = rw (eqb-true first 104 q) (possible refl)
    go (no! p) (no! q) t = rw (eqb-true first 105 (both_true (eqb first 105) (eqb second 126) (rw (p, q) at t)).0) (possible refl)

record FieldFits (d : Field) : Type 0 where
  first : Fits none (field_first d)
  second : Fits none (field_second d)
  third : Fits none (field_third d)

field_fits : (f : ℕ) (d : Field) → field_ok f d ≡ true → FieldFits d
unfolding field_ok
field_fits f Blank e = record { first = plain refl; second = plain refl; third = plain refl }
field_fits f (Channel c) e =
    let l = channel-le c (both_true (is_call f) (channel_ok c) e).1 in
    record { first = plain refl; second = plain refl; third = low none c.0 (omega arith) }
field_fits f (Duration d) e =
    let t = duration-le d (both_true (eqb f 105) (duration_ok d) e).1 in
    record {
      first = low none d.hours (omega (arith, t.hours));
      second = low none d.minutes (omega (arith, t.minutes));
      third = low none d.seconds (omega (arith, t.seconds));
    }

parity-fits : (count : ℕ) → Fits a_parity (parity count)
unfolding parity
parity-fits count = go (eqb (count % 2) 1)
  where
    go : (t : Bool) → Fits a_parity (cond t 105 106)
    go true = possible refl
    go false = possible refl

end_fits : (e : ℕ) → end_ok e ≡ true → Fits none e
unfolding end_ok
end_fits e t = go (one_of e 117 122 127 t)
  where
    go : (e ≡ 117) ⊎ ((e ≡ 122) ⊎ (e ≡ 127)) → Fits none e
    go (inl p) = rw p (plain refl)
    go (inr (inl p)) = rw p (plain refl)
    go (inr (inr p)) = rw p (plain refl)

pairs-fit : (ps : List ℕ) → all_at_most 99 ps ≡ true → AllFit (replicate (length ps) none) ps
pairs-fit [] e = no_more
pairs-fit (p ∷ ps) e =
    let h = both_true (leb p 99) (all_at_most 99 ps) e in
    one_more (low none p (omega (arith, leb-true p 99 h.0))) (pairs-fit ps h.1)

-- an identity's five pairs
five-fit : (n : ℕ) → n ≤ 799999999 → {k s : List ℕ} → AllFit k s → AllFit (replicate 5 none ++ k) (identity_symbols n s)
five-fit n h f =
    one_more (low none (n / 10000000) (omega arith))
    (one_more (low none (n / 100000 % 100) (omega arith))
    (one_more (low none (n / 1000 % 100) (omega arith))
    (one_more (low none (n / 10 % 100) (omega arith)) (one_more (low none (n % 10 * 10) (omega arith)) f))))

module _ (m : Meaning) (ok : valid m ≡ true) where
  front_fits : AllFit (front_kinds (kind_of m.second)) (front m)
  unfolding front
  front_fits =
      let i = identities-le m.address m.sender (parts m ok).identities in
      let f = field_fits m.first m.field (parts m ok).field in
      one_more (plain refl)
      (five-fit m.address i.0
      (one_more (plain refl)
      (five-fit m.sender i.1
      (one_more (first_fits m.first m.second (parts m ok).telecommands)
      (one_more (any m.second)
      (one_more f.first
      (one_more f.second (one_more f.third (one_more (parity-fits m.number.count) no_more)))))))))

  pub layout-fits : AllFit (kinds (kind_of m.second) (kind_of (exclusive_or 0 (body m))) (length (pairs_of (evened m.number)))) (layout m)
  unfolding layout body
  layout-fits =
      append-fit
      (append-fit front_fits
      (append-fit (pairs-fit (pairs_of (evened m.number)) (pairs-all (evened m.number) (evened-all m.number (parts m ok).number)))
      (one_more (end_fits m.end (parts m ok).end) no_more)))
      (one_more (any (exclusive_or 0 (body m))) no_more)
