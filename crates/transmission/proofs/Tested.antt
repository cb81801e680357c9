-- Readings held to what is expected by a test that works the start out once, where the definitions do so at each symbol.
use Prim.Native.Nat.{ℕ}
use mathlib.Core.Path.{◌≡◌, refl}
use mathlib.Core.Bool.{cond, not, ◌&&◌}
use mathlib.Core.List.{List, [], ◌∷◌, ◌++◌, map}
use lib.Dec.{leb, eqb}
use lib.ListN.{length, take, drop}
use Rattle.characters.specs.Code.{none}
use Rattle.sequence.specs.Figures.{longest}
use Rattle.sequence.specs.Refusals.{row, first_refusal}
use Rattle.std.specs.Prelude.{Some}
use Rattle.transmission.specs.declared.Refusal.TheVariants.{ShortRoom, NoPhasing, CopiesBad, EndsEarly}
use Rattle.transmission.specs.Answers.{Answer, done, answer_number, answer_told, count_told, is_done, answered}
use Rattle.transmission.specs.Layout.{bytes_of}
use Rattle.transmission.specs.Phasing.{characters_of, heard}
use Rattle.transmission.specs.Copies.{symbol_at, symbols_from, count_of, copies_there}
use Rattle.transmission.specs.Reading.{all_in_row, start_in, count_in, symbols_in, phasing_in, unread, copies_in, whole_in}
use Rattle.transmission.specs.Reading.{reading_refusals, reading_answer, transmission_read, room_after_reading}
use Rattle.transmission.specs.Cases.{ReadCase, handed, expected_of, computed_of}

-- the answer to what was heard, its start and its count of symbols known
abbrev answer_from : List ℕ → ℕ → ℕ → ℕ → Answer
answer_from t start n room =
    first_refusal
    (row (leb longest room) (Some ShortRoom)
    ∷ row (phasing_in t) (Some NoPhasing)
    ∷ row (all_in_row (λ k. not (eqb (symbol_at t start k) none && copies_there t start k)) 0 n) (Some CopiesBad)
    ∷ row (all_in_row (λ k. not (eqb (symbol_at t start k) none && not (copies_there t start k))) 0 n) (Some EndsEarly)
    ∷ [])
    done

-- answer, count and room
abbrev told_of : Answer → ℕ → List ℕ → List ℕ → List ℕ
told_of answer n symbols room = answer_number (answer_told (answered answer n)) ∷ count_told (answered answer n) ∷ cond (is_done answer) (take n symbols ++ drop n room) room

abbrev read_from : List ℕ → ℕ → List ℕ → List ℕ → List ℕ
read_from t start symbols room = told_of (answer_from t start (count_of symbols) (length room)) (count_of symbols) symbols room

abbrev heard_in : ReadCase → List ℕ
heard_in r = heard (characters_of (bytes_of (handed r.symbols)))

abbrev test : ReadCase → List ℕ
test r = start_in (heard_in r) ∷ read_from (heard_in r) r.start (symbols_from (heard_in r) r.start) r.lent

as_read : (r : ReadCase) → test r ≡ r.start ∷ expected_of r → computed_of r ≡ expected_of r
unfolding count_in symbols_in unread copies_in whole_in reading_refusals reading_answer transmission_read room_after_reading
as_read r e =
    let start : start_in (heard_in r) ≡ r.start = cc in
    let rest : read_from (heard_in r) r.start (symbols_from (heard_in r) r.start) r.lent ≡ expected_of r = cc in
    rw (← start) at rest

pub all-as-read : (rs : List ReadCase) → map test rs ≡ map (λ r. r.start ∷ expected_of r) rs → map computed_of rs ≡ map expected_of rs
all-as-read [] e = refl
all-as-read (r ∷ rs) e =
    let first : test r ≡ r.start ∷ expected_of r = cc in
    let others : map test rs ≡ map (λ r. r.start ∷ expected_of r) rs = cc in
    rw (as_read r first, all-as-read rs others)
