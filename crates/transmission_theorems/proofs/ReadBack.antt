-- What is found, with a good copy of each of its symbols, is read as those symbols.
use Prim.Native.Nat.{ℕ, ◌≤◌, ◌<◌}
use mathlib.Core.Path.{◌≡◌, sym, ap, ◌∙◌}
use mathlib.Core.Bool.{true, false}
use mathlib.Core.List.{List, ◌++◌}
use native.Mathlib.Omega.{arith}
use lib.ListN.{length, get_or, take, drop, take-append-drop}
use lib.Seq.{ext_get_or, get_or-take, length-take-le}
use borrow.Author.Tests.{ne_eqb}
use Rattle.sequence.specs.Figures.{longest}
use Rattle.sequence.proofs.RefusalLaws.{all_held}
use Rattle.characters.specs.Code.{none}
use Rattle.transmission.specs.Answers.{done}
use Rattle.transmission.specs.Copies.{symbol_at, symbols_from, count_of}
use Rattle.transmission.specs.Reading.{start_in, count_in, symbols_in, phasing_in, unread, reading_refusals, reading_answer}
use Rattle.transmission.proofs.SymbolLaws.{symbols-length, symbol-there}
use Rattle.transmission.proofs.CopyLaws.{all-copies, all_whole}
use Rattle.transmission_theorems.proofs.EndLaws.{count_kept, front_ends}

-- 28 symbols from the start on, whatever follows the last
abbrev in_all : List ℕ → List ℕ
in_all t = symbols_from t (start_in t)

module _ (s t : List ℕ) (least : 21 ≤ length s) (most : length s ≤ 28) (small : (k : ℕ) → get_or s k 0 ≤ 127)
    (ends : count_of s ≡ length s) (read : (k : ℕ) → k < length s → symbol_at t (start_in t) k ≡ get_or s k 0) where
  begins : take (length s) (in_all t) ≡ s
  begins =
      let l = symbols-length t (start_in t) in
      let c : length (take (length s) (in_all t)) ≡ length s = length-take-le _ _ (omega arith) in
      ext_get_or 0 _ s c
      (λ k h.
      let i : k < length s = omega arith in
      get_or-take (length s) (in_all t) k 0 i ∙ symbol-there t (start_in t) k (omega arith) ∙ read k i)

  counts : count_in t ≡ length s
  unfolding count_in
  counts =
      let more : List ℕ = drop (length s) (in_all t) in
      let all : in_all t ≡ s ++ more = sym (take-append-drop (length s) (in_all t)) ∙ ap (λ (l : List ℕ). l ++ more) begins in
      ap count_of all ∙ count_kept s more least ends

  pub read_as : symbols_in t ≡ s
  unfolding symbols_in
  read_as = rw counts begins

  all_read : (k : ℕ) → k < count_in t → unread t k ≡ false
  unfolding unread
  all_read k h =
      let i : k < length s = omega (arith, counts) in
      ne_eqb (symbol_at t (start_in t) k) none (λ e. omega (arith, small k, read k i))

  pub read_whole : phasing_in t ≡ true → reading_answer t longest ≡ done
  unfolding reading_answer reading_refusals
  read_whole found =
      let copies = all-copies t (count_in t) all_read (omega arith) in
      let whole = all_whole t (count_in t) all_read (omega arith) in
      all_held (reading_refusals t longest) done (rw (found, copies, whole))

-- and symbols that are read as some end where those end
pub read-ends : (s t : List ℕ) → 21 ≤ length s → symbols_in t ≡ s → count_of s ≡ length s
unfolding symbols_in count_in
read-ends s t least read = front_ends s (symbols_from t (start_in t)) least (symbols-length t (start_in t)) read
