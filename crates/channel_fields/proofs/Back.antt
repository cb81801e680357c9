-- The numbers of a field that goes with its telecommand stand for that field again, and no other numbers do.
use Prim.Native.Nat.{ℕ, ◌%◌, ◌≤◌}
use mathlib.Core.Path.{◌≡◌, refl}
use mathlib.Core.Bool.{true, false}
use native.Mathlib.Omega.{arith}
use lib.Dec.{eqb}
use borrow.Author.Tests.{eqb-true}
use Rattle.sequence.specs.declared.Field.{Field}
use Rattle.sequence.specs.declared.Field.TheVariants.{Blank, Channel, Duration}
use Rattle.sequence.specs.Field.{is_call, channel_ok, field_ok}
use Rattle.sequence.proofs.Tests.{both_true, Either, yes!, no!, which}
use Rattle.writing.proofs.Bounds.{channel-le}
use Rattle.channel_fields.specs.declared.FieldBytes.{FieldBytes}
use Rattle.channel_fields.specs.ChannelFields.{field_bytes, no_field, field_from}

pub field_back : (first : ℕ) (d : Field) → field_ok first d ≡ true → field_from (field_bytes d) ≡ d
unfolding field_ok field_from
field_back first Blank e = refl
field_back first (Channel c) e =
    let l = channel-le c (both_true (is_call first) (channel_ok c) e).1 in
    let k : c.0 % 256 ≡ c.0 = omega arith in
    rw k
field_back first (Duration d) e = refl

no-field : (first : ℕ) → field_ok first no_field ≡ true → ⊥
unfolding field_ok channel_ok
no-field first e = let q : false ≡ true = (both_true (is_call first) false e).1 in let z : ◌≡◌ {A = ℕ} 0 1 = cc in omega (arith, z)

-- a field's bytes are these
these : (f : FieldBytes) (kind first second third : ℕ) → f.kind ≡ kind → f.first ≡ first → f.second ≡ second → f.third ≡ third
    → record { kind = kind; first = first; second = second; third = third } ≡ f
these f kind first second third a b c d = rw (← a, ← b, ← c, ← d)

pub field-again : (first : ℕ) (f : FieldBytes) → f.first ≤ 255 → field_ok first (field_from f) ≡ true → field_bytes (field_from f) ≡ f
unfolding field_from
field-again first f h = go (which (eqb f.kind 2)) (which (eqb f.second 0)) (which (eqb f.third 0)) (which (eqb f.kind 1)) (which (eqb f.kind 0)) (which (eqb f.first 0))
  where
    go : Either (eqb f.kind 2) → Either (eqb f.second 0) → Either (eqb f.third 0) → Either (eqb f.kind 1) → Either (eqb f.kind 0) → Either (eqb f.first 0)
        → field_ok first (field_from f) ≡ true → field_bytes (field_from f) ≡ f
    go (yes! k) s t c z x e = rw k (these f _ _ _ _ (eqb-true f.kind 2 k) refl refl refl)
    go (no! k) (no! s) t c z x e = absurd (no-field first (rw (k, s) at e))
    go (no! k) (yes! s) (no! t) c z x e = absurd (no-field first (rw (k, s, t) at e))
    go (no! k) (yes! s) (yes! t) (yes! c) z x e =
        rw (k, s, t, c) (these f _ _ _ _ (eqb-true f.kind 1 c) (omega arith) (eqb-true f.second 0 s) (eqb-true f.third 0 t))
    go (no! k) (yes! s) (yes! t) (no! c) (yes! z) (yes! x) e =
        rw (k, s, t, c, z, x) (these f _ _ _ _ (eqb-true f.kind 0 z) (eqb-true f.first 0 x) (eqb-true f.second 0 s) (eqb-true f.third 0 t))
    go (no! k) (yes! s) (yes! t) (no! c) (yes! z) (no! x) e = absurd (no-field first (rw (k, s, t, c, z, x) at e))
    go (no! k) (yes! s) (yes! t) (no! c) (no! z) x e = absurd (no-field first (rw (k, s, t, c, z) at e))
