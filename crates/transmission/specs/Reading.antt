-- What the reader of a transmission answers, and what the room then holds.
use Rattle.std.specs.Prelude.{ℕ, zero, suc, Bool, true, cond, not, ◌&&◌, Result, Some, List, [], ◌∷◌, ◌++◌, leb, eqb, length, take, drop}
use Rattle.characters.specs.Code.{none}
use Rattle.sequence.specs.Figures.{longest}
use Rattle.sequence.specs.Refusals.{Row, row, first_refusal}
use Rattle.transmission.specs.declared.Refusal.{Refusal}
use Rattle.transmission.specs.declared.Refusal.TheVariants.{ShortRoom, NoPhasing, CopiesBad, EndsEarly}
use Rattle.transmission.specs.Answers.{Answer, done, is_done, answered}
use Rattle.transmission.specs.Phasing.{heard, best_start, characters_of}
use Rattle.transmission.specs.Copies.{symbol_at, symbols_from, count_of, copies_there}

-- a test at each of n places in a row, from one on
abbrev pub all_in_row : (ℕ → Bool) → ℕ → ℕ → Bool
all_in_row test k zero = true
all_in_row test k (suc n) = test k && all_in_row test (suc k) n

-- where the transmission starts, its symbols, and how many they are
unfoldable pub start_in : List ℕ → ℕ
start_in t = (best_start t).place

unfoldable pub count_in : List ℕ → ℕ
count_in t = count_of (symbols_from t (start_in t))

unfoldable pub symbols_in : List ℕ → List ℕ
symbols_in t = take (count_in t) (symbols_from t (start_in t))

-- 51: "no phasing found"
unfoldable pub phasing_in : List ℕ → Bool
phasing_in t = leb 1 (best_start t).phasing

-- no copy of a symbol is good
unfoldable pub unread : List ℕ → ℕ → Bool
unread t k = eqb (symbol_at t (start_in t) k) none

-- 52: "both copies bad": all are there, and none is good
unfoldable pub copies_in : List ℕ → Bool
copies_in t = all_in_row (λ k. not (unread t k && copies_there t (start_in t) k)) 0 (count_in t)

-- 53: "the transmission ends early": none is good, and one is not there
unfoldable pub whole_in : List ℕ → Bool
whole_in t = all_in_row (λ k. not (unread t k && not (copies_there t (start_in t) k))) 0 (count_in t)

-- 21, a room under 28 symbols, first; then 51, 52, 53, "tested in that order"
unfoldable pub reading_refusals : List ℕ → ℕ → List (Row Answer)
reading_refusals t room =
    row (leb longest room) (Some ShortRoom)
    ∷ row (phasing_in t) (Some NoPhasing)
    ∷ row (copies_in t) (Some CopiesBad)
    ∷ row (whole_in t) (Some EndsEarly)
    ∷ []

unfoldable pub reading_answer : List ℕ → ℕ → Answer
reading_answer t room = first_refusal (reading_refusals t room) done

-- of what was handed in, the count of symbols read, or the refusal
unfoldable pub transmission_read : List ℕ → ℕ → Result ℕ Refusal
transmission_read bytes room =
    answered (reading_answer (heard (characters_of bytes)) room) (count_in (heard (characters_of bytes)))

-- a refusal leaves the room untouched
unfoldable pub room_after_reading : List ℕ → List ℕ → List ℕ
room_after_reading bytes room =
    cond (is_done (reading_answer (heard (characters_of bytes)) (length room)))
    (symbols_in (heard (characters_of bytes)) ++ drop (count_in (heard (characters_of bytes))) room) room
