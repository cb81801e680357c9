-- What the writer and the reader of a transmission return to a host in C.
use Rattle.std.specs.Prelude.{ℕ, ◌*◌, Result, Ok, Err}
use Rattle.transmission.specs.declared.Refusal.{Refusal}
use Rattle.transmission.specs.Answers.{refusal_number}

-- the answer, and 256 times the count of characters written or of symbols read
abbrev pub answer_with_count : Result ℕ Refusal → ℕ
answer_with_count (Ok count) = 256 * count
answer_with_count (Err refusal) = refusal_number refusal
