-- The channel field and its three symbols give each other back.
use Prim.Native.Nat.{ℕ}
use mathlib.Core.Path.{◌≡◌, refl, sym}
use mathlib.Core.Bool.{true, false, cond, ◌&&◌}
use native.Mathlib.Omega.{arith}
use lib.Dec.{eqb}
use borrow.Author.Tests.{ne_eqb, eqb-true}
use Rattle.sequence.specs.declared.Field.{Field}
use Rattle.sequence.specs.declared.Field.TheVariants.{Blank, Channel, Duration}
use Rattle.sequence.specs.Field.{is_call, channel_ok, duration_ok, field_ok, field_first, field_second, field_third}
use Rattle.sequence.specs.Reading.{blank_symbols, channel_symbols, duration_symbols, field_symbols, field_of}
use Rattle.sequence.proofs.Tests.{both_true, Either, yes!, no!, which}
use Rattle.writing.proofs.Bounds.{duration-le}

not_call : (f : ℕ) → f ≡ 105 → is_call f ≡ false
unfolding is_call
not_call f e = rw e

-- a field that may be written is read back
pub record Kept (f : ℕ) (d : Field) : Type 0 where
  pub reads : field_symbols f (field_first d) (field_second d) (field_third d) ≡ true
  pub same : field_of f (field_first d) (field_second d) (field_third d) ≡ d

pub kept : (f : ℕ) (d : Field) → field_ok f d ≡ true → Kept f d
unfolding field_ok field_of field_symbols channel_symbols duration_symbols blank_symbols
kept f Blank e = record { reads = refl; same = refl }
kept f (Channel c) e =
    let h = both_true (is_call f) (channel_ok c) e in
    record { reads = rw (h.0, h.1); same = rw h.0 }
kept f (Duration d) e =
    let a = both_true (eqb f 105) (duration_ok d) e in
    let t = duration-le d a.1 in
    let n = ne_eqb d.hours 126 (λ (z : d.hours ≡ 126). omega (arith, t.hours)) in
    let k = not_call f (eqb-true f 105 a.0) in
    record { reads = rw (n, k, a.0, a.1); same = rw (n, k) }

-- three symbols that may be read are written back
pub record Back (f x y z : ℕ) : Type 0 where
  pub writes : field_ok f (field_of f x y z) ≡ true
  pub same_x : field_first (field_of f x y z) ≡ x
  pub same_y : field_second (field_of f x y z) ≡ y
  pub same_z : field_third (field_of f x y z) ≡ z

pub back : (f x y z : ℕ) → field_symbols f x y z ≡ true → Back f x y z
unfolding field_ok field_of field_symbols channel_symbols duration_symbols blank_symbols
back f x y z e = go (which (blank_symbols x y z)) (which (is_call f)) e
  where
    go : Either (blank_symbols x y z) → Either (is_call f)
        → cond (blank_symbols x y z) true (cond (is_call f) (channel_symbols x y z) (eqb f 105 && duration_symbols x y z)) ≡ true → Back f x y z
    go (yes! p) q t =
        let a = both_true (eqb x 126) _ p in
        let b = both_true (eqb y 126) (eqb z 126) a.1 in
        record {
          writes = rw p;
          same_x = rw p (sym (eqb-true x 126 a.0));
          same_y = rw p (sym (eqb-true y 126 b.0));
          same_z = rw p (sym (eqb-true z 126 b.1));
        }
    go (no! p) (yes! q) t =
        let a = both_true (eqb x 90) _ (rw (p, q) at t) in
        let b = both_true (eqb y 0) (channel_ok (record { 0 = z })) a.1 in
        record {
          writes = rw (p, q, q) b.1;
          same_x = rw (p, q) (sym (eqb-true x 90 a.0));
          same_y = rw (p, q) (sym (eqb-true y 0 b.0));
          same_z = rw (p, q);
        }
    go (no! p) (no! q) t =
        record { writes = rw (p, q) (rw (p, q) at t); same_x = rw (p, q); same_y = rw (p, q); same_z = rw (p, q) }
