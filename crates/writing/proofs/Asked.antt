-- What the functions that lay a valid meaning ask of it.
use Prim.Native.Nat.{◌<◌, ◌≤◌}
use mathlib.Core.Path.{◌≡◌}
use mathlib.Core.Bool.{true}
use native.Mathlib.Omega.{arith}
use Rattle.sequence.specs.declared.Meaning.{Meaning}
use Rattle.sequence.specs.Field.{field_third}
use Rattle.sequence.specs.Number.{number_ok}
use Rattle.sequence.specs.Layout.{valid}
use Rattle.writing.proofs.Bounds.{field-le}
use Rattle.writing.proofs.EvenedLaws.{count-most as most}
use Rattle.writing.proofs.Valid.{parts, identities-le, layout-length}

module _ (m : Meaning) (ok : valid m ≡ true) where
  pub address-nine : m.address < 1000000000
  address-nine = omega (arith, identities-le _ _ (parts m ok).identities)

  pub sender-nine : m.sender < 1000000000
  sender-nine = omega (arith, identities-le _ _ (parts m ok).identities)

  pub third-seven : field_third m.field ≤ 127
  third-seven = (field-le _ _ (parts m ok).field).third

  pub number-good : number_ok m.number ≡ true
  number-good = (parts m ok).number

  pub count-most : m.number.count ≤ 16
  count-most = most m.number number-good

pub ruleset of_valid = (address-nine, sender-nine, third-seven, number-good, count-most, layout-length)
