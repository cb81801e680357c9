-- What an answer says of a result: with a refusal it is refused, and with none it is the value.
use Prim.Native.Nat.{ℕ}
use mathlib.Core.Path.{◌≡◌, refl}
use mathlib.Core.Bool.{true, false}
use mathlib.Core.List.{List}
use Rattle.std.specs.Prelude.{Some, None, Ok, Err}
use Rattle.sequence.specs.declared.Refusal.{Refusal}
use Rattle.sequence.specs.declared.Refusal.TheVariants.{BadLength, BadSymbol, BadCheck, BadFormat, BadIdentities}
use Rattle.sequence.specs.declared.Refusal.TheVariants.{BadCategory, BadTelecommands, BadField, BadNumber, BadEnd, ShortRoom}
use Rattle.sequence.specs.declared.Meaning.{Meaning}
use Rattle.sequence.specs.Answers.{Answer, done, is_done, answered}
use Rattle.sequence.specs.Reading.{answer_of, meaning_of, blank_meaning, meaning_read, reading_of}

-- a refusal has a number, and done has none
pub refused : (r : Refusal) → is_done (Some r) ≡ false
refused BadLength = refl
refused BadSymbol = refl
refused BadCheck = refl
refused BadFormat = refl
refused BadIdentities = refl
refused BadCategory = refl
refused BadTelecommands = refl
refused BadField = refl
refused BadNumber = refl
refused BadEnd = refl
refused ShortRoom = refl

pub done-is : (a : Answer) → is_done a ≡ true → a ≡ done
done-is None e = refl
done-is (Some r) e = absurd (cc (refused r))

module _ {A : Type 0} where
  pub answered-ok : (a : Answer) (x y : A) → answered a x ≡ Ok y → (a ≡ done) × (x ≡ y)
  answered-ok None x y e = (refl, cc)
  answered-ok (Some r) x y e = cc

  pub answered-err : (a : Answer) (x : A) (r : Refusal) → answered a x ≡ Err r → a ≡ Some r
  answered-err None x r e = cc
  answered-err (Some q) x r e = cc

module _ (s : List ℕ) where
  pub read-ok : (m : Meaning) → reading_of s ≡ Ok m → (answer_of s ≡ done) × (meaning_read s ≡ m)
  unfolding reading_of meaning_read
  read-ok m e = let h = answered-ok (answer_of s) (meaning_of s) m e in (h.0, rw h.0 h.1)

  pub read-err : (r : Refusal) → reading_of s ≡ Err r → (answer_of s ≡ Some r) × (meaning_read s ≡ blank_meaning)
  unfolding reading_of meaning_read
  read-err r e = let h = answered-err (answer_of s) (meaning_of s) r e in (h, rw (h, refused r))

  pub read-done : answer_of s ≡ done → reading_of s ≡ Ok (meaning_read s)
  unfolding reading_of meaning_read
  read-done e = rw e
