-- The symbols of a valid meaning's telecommands, field, number and end are at most 127.
use Prim.Native.Nat.{ℕ, ◌≤◌}
use mathlib.Core.Path.{◌≡◌}
use mathlib.Core.Bool.{true}
use native.Mathlib.Omega.{arith}
use Rattle.std.proofs.lemmas.Bool.Decides.{nat_tests}
use lib.Dec.{eqb}
use Rattle.units.specs.declared.Channel.{Channel as ChannelNumber}
use Rattle.units.specs.declared.Duration.{Duration as Lasting}
use Rattle.sequence.specs.declared.Field.{Field}
use Rattle.sequence.specs.declared.Field.TheVariants.{Blank, Channel, Duration}
use Rattle.sequence.specs.Field.{is_call, unable_second, telecommands_ok, channel_ok, duration_ok, field_ok, field_first, field_second, field_third}
use Rattle.sequence.specs.Number.{parity}
use Rattle.sequence.specs.Layout.{end_ok}
use Rattle.sequence.proofs.Tests.{both_true}

call-le : (first : ℕ) → is_call first ≡ true → first ≤ 127
unfolding is_call
call-le first e = grind (arith, nat_tests)

unable-le : (second : ℕ) → unable_second second ≡ true → second ≤ 127
unfolding unable_second
unable-le second e = grind (arith, nat_tests)

pub telecommands-le : (first second : ℕ) → telecommands_ok first second ≡ true → (first ≤ 127) × (second ≤ 127)
unfolding telecommands_ok
telecommands-le first second e = grind (arith, nat_tests, call-le, unable-le)

pub channel-le : (c : ChannelNumber) → channel_ok c ≡ true → c.0 ≤ 88
unfolding channel_ok
channel-le c e = grind (arith, nat_tests)

pub record Lasts (d : Lasting) : Type 0 where
  pub hours : d.hours ≤ 99
  pub minutes : d.minutes ≤ 59
  pub seconds : d.seconds ≤ 59

pub duration-le : (d : Lasting) → duration_ok d ≡ true → Lasts d
unfolding duration_ok
duration-le d e = record { hours = grind (arith, nat_tests); minutes = grind (arith, nat_tests); seconds = grind (arith, nat_tests) }

pub record FieldBounds (d : Field) : Type 0 where
  pub first : field_first d ≤ 127
  pub second : field_second d ≤ 127
  pub third : field_third d ≤ 127

pub field-le : (f : ℕ) (d : Field) → field_ok f d ≡ true → FieldBounds d
unfolding field_ok
field-le f Blank e = record { first = omega arith; second = omega arith; third = omega arith }
field-le f (Channel c) e =
    let l = channel-le c (both_true (is_call f) (channel_ok c) e).1 in
    record { first = omega arith; second = omega arith; third = omega arith }
field-le f (Duration d) e =
    let t = duration-le d (both_true (eqb f 105) (duration_ok d) e).1 in
    record { first = omega (arith, t.hours); second = omega (arith, t.minutes); third = omega (arith, t.seconds) }

pub end-le : (e : ℕ) → end_ok e ≡ true → e ≤ 127
unfolding end_ok
end-le e t = grind (arith, nat_tests)

pub parity-le : (count : ℕ) → parity count ≤ 127
unfolding parity
parity-le count = grind (arith, nat_tests)
