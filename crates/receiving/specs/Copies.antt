-- What is answered to a transmission that starts where phasing was found.
use Rattle.std.specs.Prelude.{ℕ, Some, List, [], ◌∷◌}
use Rattle.sequence.specs.Refusals.{row, first_refusal}
use Rattle.transmission.specs.declared.Refusal.TheVariants.{CopiesBad, EndsEarly}
use Rattle.transmission.specs.Answers.{Answer, done}
use Rattle.transmission.specs.Reading.{copies_in, whole_in}

-- 52 and 53, behind 21 and 51
abbrev pub answer_to_copies : List ℕ → Answer
answer_to_copies t = first_refusal (row (copies_in t) (Some CopiesBad) ∷ row (whole_in t) (Some EndsEarly) ∷ []) done
