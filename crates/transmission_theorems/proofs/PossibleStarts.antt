-- What each place of a transmission may hold that is a symbol of phasing, its kind; and that no other start is possible then, computed.
-- Kinds are numbers as symbols are, so that a transmission of kinds has each in its symbol's places.
use Prim.Native.Nat.{ℕ, ◌≤◌, ◌<◌}
use mathlib.Core.Path.{◌≡◌, refl}
use mathlib.Core.Bool.{Bool, true, false, cond, not, ◌&&◌, ◌||◌}
use mathlib.Core.List.{List, [], ◌∷◌, ◌++◌}
use native.Mathlib.Omega.{arith}
use lib.Dec.{eqb}
use lib.ListN.{replicate, drop}
use borrow.Author.Tests.{not-true, ne_eqb}
use Rattle.sequence.specs.Symbols.{within}
use Rattle.characters.specs.Code.{none}
use Rattle.transmission.specs.Layout.{dx_phasing, rx_phasing, dx, rx}
use Rattle.transmission.specs.Phasing.{most_lost, heard_at, is_phasing}
use Rattle.transmission.specs.Reading.{all_in_row}
use Rattle.transmission.proofs.RowTests.{in_row}
use Rattle.transmission_theorems.proofs.Shown.{sent_behind}
use Rattle.transmission_theorems.proofs.InPlaceLaws.{passing}

-- the first telecommand: 104 to 106, if any; the parity of the count: 105 or 106; a symbol of which all that is known is that it is not 125
abbrev pub a_first : ℕ
a_first = 1

abbrev pub a_parity : ℕ
a_parity = 2

abbrev pub not125 : ℕ
not125 = 3

-- any other kind is the one symbol that may stand there
abbrev pub may_be : ℕ → ℕ → Bool
may_be kind symbol =
    eqb kind symbol
    || ((eqb kind a_first && within 104 106 symbol)
    || ((eqb kind a_parity && within 105 106 symbol) || (eqb kind not125 && within 104 111 symbol)))

abbrev pub kind_of : ℕ → ℕ
kind_of symbol = cond (eqb symbol 125) 125 not125

-- the kinds of a sequence with n digit pairs, by those of its second telecommand and its check
abbrev pub front_kinds : ℕ → List ℕ
front_kinds second = replicate 12 none ++ (a_first ∷ second ∷ none ∷ none ∷ none ∷ a_parity ∷ [])

abbrev pub kinds : ℕ → ℕ → ℕ → List ℕ
kinds second check n = (front_kinds second ++ (replicate n none ++ (none ∷ []))) ++ (check ∷ [])

-- phasing is possible at the beginning of these places, if every one holds what it may
unfoldable pub may_begin : List ℕ → Bool
may_begin k = is_phasing (passing (λ q v. may_be (heard_at k q) v) dx_phasing 0) (passing (λ q v. may_be (heard_at k q) v) rx_phasing 1)

-- at place 11 alone
abbrev not_else : List ℕ → ℕ → Bool
not_else k start = eqb start most_lost || not (may_begin (drop start (sent_behind k)))

-- with one digit pair and up to eight, at each place of the longest transmission
none_else : ℕ → ℕ → Bool
none_else second check = all_in_row (λ n. all_in_row (not_else (kinds second check n)) 0 85) 1 8

computed : (a b : Bool) → none_else (cond a 125 not125) (cond b 125 not125) ≡ true
unfolding none_else may_begin dx rx dx_phasing rx_phasing is_phasing
computed true true = refl
computed true false = refl
computed false true = refl
computed false false = refl

pub none-else : (second check n start : ℕ) → 1 ≤ n → n ≤ 8 → start < 85 → (start ≡ most_lost → ⊥)
    → may_begin (drop start (sent_behind (kinds (kind_of second) (kind_of check) n))) ≡ false
unfolding none_else
none-else second check n start some most before other =
    let k = kinds (kind_of second) (kind_of check) in
    let all : none_else (kind_of second) (kind_of check) ≡ true = computed (eqb second 125) (eqb check 125) in
    let row : all_in_row (not_else (k n)) 0 85 ≡ true = in_row (λ i. all_in_row (not_else (k i)) 0 85) 1 8 n all some (omega arith) in
    let here : not_else (k n) start ≡ true = in_row (not_else (k n)) 0 85 start row (omega arith) (omega arith) in
    not-true _ (rw (ne_eqb start most_lost other) at here)
