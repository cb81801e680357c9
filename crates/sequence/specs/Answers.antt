-- Document 01's number of each answer: of a refusal its own, and 0 where nothing is refused.
use Rattle.std.specs.Prelude.{ℕ, Bool, eqb, Option as Optional, Some, None, Result, Ok, Err}
use Rattle.sequence.specs.declared.Refusal.{Refusal}
use Rattle.sequence.specs.declared.Refusal.TheVariants.{BadLength, BadSymbol, BadCheck, BadFormat, BadIdentities}
use Rattle.sequence.specs.declared.Refusal.TheVariants.{BadCategory, BadTelecommands, BadField, BadNumber, BadEnd, ShortRoom}

abbrev pub Answer : Type 0
Answer = Optional Refusal

abbrev pub done : Answer
done = None

abbrev pub refusal_number : Refusal → ℕ
refusal_number BadLength = 11
refusal_number BadSymbol = 12
refusal_number BadCheck = 13
refusal_number BadFormat = 14
refusal_number BadIdentities = 15
refusal_number BadCategory = 16
refusal_number BadTelecommands = 17
refusal_number BadField = 18
refusal_number BadNumber = 19
refusal_number BadEnd = 20
refusal_number ShortRoom = 21

abbrev pub answer_number : Answer → ℕ
answer_number None = 0
answer_number (Some r) = refusal_number r

abbrev pub is_done : Answer → Bool
is_done a = eqb (answer_number a) 0

-- the refusal, or with none the value
abbrev pub answered : {A : Type 0} → Answer → A → Result A Refusal
answered None a = Ok a
answered (Some r) a = Err r
