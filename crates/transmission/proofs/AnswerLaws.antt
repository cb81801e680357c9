-- What an answer says of a result: with a refusal it is refused, and with none it is the value.
use mathlib.Core.Path.{◌≡◌, refl}
use mathlib.Core.Bool.{true, false}
use Rattle.std.specs.Prelude.{Some, None, Ok, Err}
use Rattle.transmission.specs.declared.Refusal.{Refusal}
use Rattle.transmission.specs.declared.Refusal.TheVariants.{BadLength, BadSymbol, ShortRoom, NoPhasing, CopiesBad, EndsEarly}
use Rattle.transmission.specs.Answers.{Answer, done, is_done, answered}

-- a refusal has a number, and done has none
pub refused : (r : Refusal) → is_done (Some r) ≡ false
refused BadLength = refl
refused BadSymbol = refl
refused ShortRoom = refl
refused NoPhasing = refl
refused CopiesBad = refl
refused EndsEarly = refl

pub done-is : (a : Answer) → is_done a ≡ true → a ≡ done
done-is None e = refl
done-is (Some r) e = absurd (cc (refused r))

module _ {A : Type 0} where
  pub answered-ok : (a : Answer) (x y : A) → answered a x ≡ Ok y → (a ≡ done) × (x ≡ y)
  answered-ok None x y e = (refl, cc)
  answered-ok (Some r) x y e = cc

  pub answered-err : (a : Answer) (x : A) (r : Refusal) → answered a x ≡ Err r → a ≡ Some r
  answered-err None x r e = cc
  answered-err (Some q) x r e = cc
