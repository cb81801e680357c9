-- What is answered, step by step, and what the room then holds.
use Prim.Native.Nat.{ℕ, ◌+◌, ◌*◌, ◌/◌, ◌≤◌, ◌<◌}
use mathlib.Core.Path.{◌≡◌, sym, ap, ◌∙◌}
use mathlib.Core.Bool.{Bool, true, false, cond}
use mathlib.Core.List.{List, ◌++◌}
use native.Mathlib.Omega.{arith}
use lib.Dec.{ltb, eqb}
use lib.ListN.{length, get_or, take, drop}
use lib.Seq.{length-take-le}
use borrow.Author.Tests.{lt-leb, le-leb, lt-ltb, le-ltb, ltb-false, eqb-true, eqb-false}
use Rattle.std.specs.Prelude.{Some, None, Err, Ok}
use Rattle.std.specs.List.{position, position_or_len}
use Rattle.std.proofs.lemmas.List.{get_or-take}
use Rattle.std.proofs.lemmas.List.Quantifiers.{position-Some}
use Rattle.std.proofs.lemmas.List.Sums.{fails_before_first}
use Rattle.sequence.specs.Figures.{longest}
use Rattle.sequence.proofs.Tests.{Either, yes!, no!, which}
use Rattle.characters.specs.Code.{none}
use Rattle.transmission.specs.declared.Refusal.{Refusal}
use Rattle.transmission.specs.declared.Refusal.TheVariants.{ShortRoom, NoPhasing, CopiesBad, EndsEarly}
use Rattle.transmission.specs.declared.Start.{Start}
use Rattle.transmission.specs.Answers.{done}
use Rattle.transmission.specs.Phasing.{characters_of, most_lost, heard, best_start, found_start}
use Rattle.transmission.specs.Copies.{symbols_from, count_of, copies_there}
use Rattle.transmission.specs.Reading.{start_in, count_in, symbols_in, phasing_in, unread, reading_refusals, reading_answer}
use Rattle.transmission.specs.Reading.{transmission_read, room_after_reading}
use Rattle.transmission.proofs.AnswerLaws.{refused}
use Rattle.transmission.proofs.HeardLaws.{length-heard-bytes}
use Rattle.transmission.proofs.BestLaws.{best-within}
use Rattle.transmission.proofs.SymbolLaws.{symbols-length, symbol-there, count_most}
use Rattle.transmission.proofs.CopyLaws.{all-copies, all_whole, copies-bad, no-copies-bad, ends-early}
use Rattle.receiving.specs.Copies.{answer_to_copies}

pub start-most : (bytes : List ℕ) → start_in (heard (characters_of bytes)) ≤ most_lost + length bytes / 2
unfolding start_in
start-most bytes = omega (arith, best-within (heard (characters_of bytes)), length-heard-bytes bytes)

pub start-found : (t : List ℕ) (best : Start) → Some best ≡ found_start (best_start t) → best.place ≡ start_in t
unfolding start_in
start-found t best e = go (which (eqb (best_start t).phasing 0))
  where
    go : Either (eqb (best_start t).phasing 0) → best.place ≡ (best_start t).place
    go (yes! z) = let n : Some best ≡ None = rw z at e in (cc)
    go (no! f) = let same : Some best ≡ Some (best_start t) = rw f at e in let b : best ≡ best_start t = cc in rw b

pub count_fits : (symbols : List ℕ) (count : ℕ) → count ≡ count_of symbols → count ≤ longest
count_fits symbols count e = omega (arith, e, count_most symbols)

module _ (t all : List ℕ) (start count : ℕ) (a : all ≡ symbols_from t start) (n : count ≡ count_of all) where
  pub there_all : count ≤ length all
  there_all = omega (arith, count_fits all count n, ap length a, symbols-length t start)

  -- the symbols up to the end and the one behind it, in a room
  module _ (s : start ≡ start_in t) where
    pub count-those : count ≡ count_in t
    unfolding count_in
    count-those = n ∙ rw (a, s)

    pub those-in : take count all ≡ symbols_in t
    unfolding symbols_in
    those-in = rw (count-those, a, s)

    pub laid_in : (left room : List ℕ) → left ≡ take count all → left ++ drop count room ≡ symbols_in t ++ drop (count_in t) room
    laid_in left room e = rw (e, those-in, count-those)

-- ── 52 and 53 ────────────────────────────────────────────────────────────────

pub symbols_count : (t : List ℕ) → length (symbols_in t) ≡ count_in t
unfolding symbols_in count_in
symbols_count t =
    length-take-le (count_in t) (symbols_from t (start_in t)) (omega (arith, count_most (symbols_from t (start_in t)), symbols-length t (start_in t)))

pub count-in-most : (t : List ℕ) → count_in t ≤ longest
unfolding count_in
count-in-most t = count_most (symbols_from t (start_in t))

-- no test before the first place, and none at all, is passed
none_before : (test : ℕ → Bool) (l : List ℕ) (j : ℕ) → position test l ≡ None → j < length l → test (get_or l j 0) ≡ false
none_before test l j e h = go (which (ltb (position_or_len test l) (length l)))
  where
    go : Either (ltb (position_or_len test l) (length l)) → test (get_or l j 0) ≡ false
    go (yes! f) = let g : cond true (Some (position_or_len test l)) None ≡ None = rw f at e in (cc)
    go (no! f) = fails_before_first test l j 0 (omega (arith, ltb-false (position_or_len test l) (length l) f))

module _ (t symbols : List ℕ) (start : ℕ) (s : start ≡ start_in t) (all : symbols ≡ symbols_in t) where
  count-in : length symbols ≡ count_in t
  count-in = rw all (symbols_count t)

  read-there : (j : ℕ) → j < count_in t → unread t j ≡ eqb (get_or symbols j 0) none
  unfolding unread symbols_in count_in
  read-there j h =
      rw (all, get_or-take (count_in t) (symbols_from t (start_in t)) j 0 h)
      (ap (λ (k : ℕ). eqb k none) (sym (symbol-there t (start_in t) j (omega (arith, h, count_most (symbols_from t (start_in t)))))))

  pub all-good : position (λ symbol. eqb symbol none) symbols ≡ None → done ≡ answer_to_copies t
  all-good e = rw (all-copies t (count_in t) read (omega arith), all_whole t (count_in t) read (omega arith))
    where
      read : (j : ℕ) → j < count_in t → unread t j ≡ false
      read j h = read-there j h ∙ none_before (λ symbol. eqb symbol none) symbols j e (omega (arith, count-in))

  module _ (k : ℕ) (e : position (λ symbol. eqb symbol none) symbols ≡ Some k) where
    pub inside : k < count_in t
    inside = omega (arith, (position-Some (λ symbol. eqb symbol none) symbols k 0 e).0, count-in)

    unread-there : unread t k ≡ true
    unread-there = read-there k inside ∙ (position-Some (λ symbol. eqb symbol none) symbols k 0 e).1

    read-before : (j : ℕ) → j < k → unread t j ≡ false
    read-before j h = read-there j (omega (arith, inside)) ∙ (position-Some (λ symbol. eqb symbol none) symbols k 0 e).2 j h

    there : (end : ℕ) → length t ≡ end → start + 19 + 2 * k < end → copies_there t (start_in t) k ≡ true
    unfolding copies_there
    there end e l = rw (← s) (lt-ltb (start + 19 + 2 * k) (length t) (omega arith))

    not_there : (end : ℕ) → length t ≡ end → end ≤ start + 19 + 2 * k → copies_there t (start_in t) k ≡ false
    unfolding copies_there
    not_there end e l = rw (← s) (le-ltb (start + 19 + 2 * k) (length t) (omega arith))

    pub all-bad : (end : ℕ) → length t ≡ end → start + 19 + 2 * k < end → Some CopiesBad ≡ answer_to_copies t
    all-bad end e l = rw (copies-bad t k read-before inside unread-there (there end e l))

    pub one-missing : (end : ℕ) → length t ≡ end → end ≤ start + 19 + 2 * k → Some EndsEarly ≡ answer_to_copies t
    one-missing end e l =
        rw (
          no-copies-bad t k read-before inside unread-there (not_there end e l),
          ends-early t k read-before inside unread-there (not_there end e l),
        )

-- ── the answer ───────────────────────────────────────────────────────────────

module _ (t : List ℕ) (room : ℕ) where
  pub room-short : room < longest → reading_answer t room ≡ Some ShortRoom
  unfolding reading_answer reading_refusals
  room-short h = rw (lt-leb longest room h)

  module _ (h : longest ≤ room) where
    pub phasing-not-found : None ≡ found_start (best_start t) → reading_answer t room ≡ Some NoPhasing
    unfolding reading_answer reading_refusals phasing_in
    phasing-not-found e = go (which (eqb (best_start t).phasing 0))
      where
        go : Either (eqb (best_start t).phasing 0) → reading_answer t room ≡ Some NoPhasing
        go (yes! z) = rw (le-leb longest room h, eqb-true (best_start t).phasing 0 z)
        go (no! f) = let some : None ≡ Some (best_start t) = rw f at e in (cc)

    pub phasing-found : (best : Start) → Some best ≡ found_start (best_start t) → reading_answer t room ≡ answer_to_copies t
    unfolding reading_answer reading_refusals phasing_in
    phasing-found best e = go (which (eqb (best_start t).phasing 0))
      where
        go : Either (eqb (best_start t).phasing 0) → reading_answer t room ≡ answer_to_copies t
        go (yes! z) = let n : Some best ≡ None = rw z at e in (cc)
        go (no! f) =
            let other = eqb-false (best_start t).phasing 0 f in
            rw (le-leb longest room h, le-leb 1 (best_start t).phasing (omega (arith, other)))

-- ── what is handed back ──────────────────────────────────────────────────────

module _ (bytes room : List ℕ) where
  pub refusal-read : (r : Refusal) → reading_answer (heard (characters_of bytes)) (length room) ≡ Some r
      → (Err r ≡ transmission_read bytes (length room)) × (room ≡ room_after_reading bytes room)
  unfolding transmission_read room_after_reading
  refusal-read r e = (rw e, rw (e, refused r))

  pub symbols-read : reading_answer (heard (characters_of bytes)) (length room) ≡ done
      → (count : ℕ) (left : List ℕ) → count ≡ count_in (heard (characters_of bytes))
      → left ≡ symbols_in (heard (characters_of bytes)) ++ drop (count_in (heard (characters_of bytes))) room
      → (Ok count ≡ transmission_read bytes (length room)) × (left ≡ room_after_reading bytes room)
  unfolding transmission_read room_after_reading
  symbols-read e count left n l = (rw (e, n), rw e l)
