-- The documents' number of each answer: of a refusal its own, and 0 where nothing is refused.
use Rattle.std.specs.Prelude.{ℕ, Bool, eqb, Option as Optional, Some, None, Result, Ok, Err}
use Rattle.transmission.specs.declared.Refusal.{Refusal}
use Rattle.transmission.specs.declared.Refusal.TheVariants.{BadLength, BadSymbol, ShortRoom, NoPhasing, CopiesBad, EndsEarly}

abbrev pub refusal_number : Refusal → ℕ
refusal_number BadLength = 11
refusal_number BadSymbol = 12
refusal_number ShortRoom = 21
refusal_number NoPhasing = 51
refusal_number CopiesBad = 52
refusal_number EndsEarly = 53

abbrev pub Answer : Type 0
Answer = Optional Refusal

abbrev pub done : Answer
done = None

abbrev pub answer_number : Answer → ℕ
answer_number None = 0
answer_number (Some r) = refusal_number r

abbrev pub is_done : Answer → Bool
is_done a = eqb (answer_number a) 0

-- the refusal, or with none the value
abbrev pub answered : {A : Type 0} → Answer → A → Result A Refusal
answered None a = Ok a
answered (Some r) a = Err r

-- the answer in what was handed back, and the count: 0 beside a refusal
abbrev pub answer_told : Result ℕ Refusal → Answer
answer_told (Ok n) = done
answer_told (Err r) = Some r

abbrev pub count_told : Result ℕ Refusal → ℕ
count_told (Ok n) = n
count_told (Err r) = 0
