-- Reading gives nothing but what stood in good characters.
use Prim.Native.Nat.{ℕ, ◌+◌, ◌-◌, ◌≤◌, ◌<◌}
use mathlib.Core.Path.{◌≡◌, refl, sym, ap, ◌∙◌}
use mathlib.Core.Logic.{inl, inr}
use mathlib.Core.Bool.{Bool, true, false, not, ◌&&◌}
use mathlib.Core.List.{List, [], ◌∷◌}
use native.Mathlib.Omega.{arith}
use lib.Dec.{eqb, leb}
use lib.ListN.{length, get_or, length-take}
use lib.Seq.{get_or-take}
use borrow.Author.Tests.{eqb-true, eqb-false, leb-true, leb-false}
use Rattle.sequence.specs.Figures.{longest}
use Rattle.sequence.proofs.Tests.{both_true, Either, yes!, no!, which}
use Rattle.sequence.proofs.RefusalLaws.{kind-held}
use Rattle.characters.specs.Code.{none, no_character, character_of, symbol_of}
use Rattle.characters.proofs.CodeLaws.{NoneOrGood, none-or-good}
use Rattle.transmission.specs.Answers.{done, is_done}
use Rattle.transmission.specs.Phasing.{most_lost, heard, heard_at}
use Rattle.transmission.specs.Copies.{copies_of, first_good, symbol_at, symbols_from, copies_there}
use Rattle.transmission.specs.Reading.{start_in, count_in, symbols_in, phasing_in, unread}
use Rattle.transmission.specs.Reading.{copies_in, whole_in, reading_refusals, reading_answer}
use Rattle.transmission.proofs.HeardLaws.{good-is-there, length-heard, heard-lost, heard-there}
use Rattle.transmission.proofs.LayoutLaws.{any-default}
use Rattle.transmission.proofs.SymbolLaws.{symbols-length, symbol-there}
use Rattle.transmission.proofs.RowTests.{in_row}
use Rattle.transmission_theorems.specs.Statement.{FirstOf, here, behind, StoodIn, NothingElse}

-- the first good one of some places stands in one of them, behind none alone
record StandsAt (t places : List ℕ) (symbol : ℕ) : Type 0 where
  pub place : ℕ
  pub first : FirstOf t place places
  pub holds : heard_at t place ≡ symbol

stands : (t places : List ℕ) → (first_good t places ≡ none → ⊥) → StandsAt t places (first_good t places)
stands t [] bad = absurd (bad refl)
stands t (place ∷ places) bad = go (which (eqb (heard_at t place) none)) (stands t places)
  where
    go : Either (eqb (heard_at t place) none) → ((first_good t places ≡ none → ⊥) → StandsAt t places (first_good t places))
        → StandsAt t (place ∷ places) (first_good t (place ∷ places))
    go (yes! e) later =
        let l = later (rw e at bad) in
        rw e (record { place = l.place; first = behind (eqb-true _ _ e) l.first; holds = l.holds })
    go (no! e) later = rw e (record { place = place; first = here; holds = refl })

-- a place that holds a symbol is there, and not among the eleven before the first character
module _ (characters : List ℕ) (place : ℕ) (good : heard_at (heard characters) place ≡ none → ⊥) where
  not-lost : most_lost ≤ place
  not-lost = go (which (leb most_lost place))
    where
      go : Either (leb most_lost place) → most_lost ≤ place
      go (yes! e) = leb-true most_lost place e
      go (no! e) = absurd (good (heard-lost characters place (leb-false most_lost place e)))

  its-place : most_lost + (place - most_lost) ≡ place
  its-place = let l = not-lost in omega arith

  its-symbol : symbol_of (get_or characters (place - most_lost) no_character) ≡ heard_at (heard characters) place
  its-symbol = sym (heard-there characters (place - most_lost)) ∙ ap (heard_at (heard characters)) its-place

  stood : (k : ℕ) → FirstOf (heard characters) place (copies_of (start_in (heard characters)) k)
      → StoodIn characters k (heard_at (heard characters) place)
  stood k first = go (none-or-good (get_or characters (place - most_lost) no_character))
    where
      go : NoneOrGood (get_or characters (place - most_lost) no_character) → StoodIn characters k (heard_at (heard characters) place)
      go (inl e) = absurd (good (sym its-symbol ∙ e))
      go (inr h) =
          record {
            place = place - most_lost;
            there = omega (arith, not-lost, good-is-there (heard characters) place good, length-heard characters);
            first_good = rw its-place first;
            its-character = sym h.1 ∙ ap character_of its-symbol;
            is-symbol = rw its-symbol at h.0;
          }

-- an answer of done says that neither 52 nor 53 refused, and so that every symbol has a good copy
good-copy : (bad there : Bool) → not (bad && there) ≡ true → not (bad && not there) ≡ true → bad ≡ false
good-copy false there e f = refl
good-copy true true e f = sym e
good-copy true false e f = sym f

readable : (t : List ℕ) → reading_answer t longest ≡ done → (k : ℕ) → k < count_in t → symbol_at t (start_in t) k ≡ none → ⊥
unfolding reading_answer reading_refusals copies_in whole_in unread
readable t e k h =
    let held = both_true (phasing_in t) _ (kind-held is_done (reading_refusals t longest) done refl (ap is_done e)) in
    let copies = both_true (copies_in t) _ held.1 in
    let whole = both_true (whole_in t) true copies.1 in
    let a = in_row _ 0 (count_in t) k copies.0 (omega arith) (omega arith) in
    let b = in_row _ 0 (count_in t) k whole.0 (omega arith) (omega arith) in
    eqb-false (symbol_at t (start_in t) k) none (good-copy (unread t k) (copies_there t (start_in t) k) a b)

-- the symbols read, one by one
module _ (t : List ℕ) (k : ℕ) (h : k < length (symbols_in t)) where
  counted : (k < count_in t) × (k < 28)
  unfolding symbols_in
  counted =
      let l = length-take (count_in t) (symbols_from t (start_in t)) in
      let m = symbols-length t (start_in t) in
      (omega arith, omega arith)

  read_at : get_or (symbols_in t) k none ≡ symbol_at t (start_in t) k
  unfolding symbols_in
  read_at =
      get_or-take (count_in t) (symbols_from t (start_in t)) k none counted.0
      ∙ any-default (symbols_from t (start_in t)) k none 0 (omega (arith, symbols-length t (start_in t), counted.1))
      ∙ symbol-there t (start_in t) k counted.1

pub only-what-stood : NothingElse
unfolding symbol_at
only-what-stood characters e k h =
    let t : List ℕ = heard characters in
    let bad = readable t e k (counted t k h).0 in
    let at = stands t (copies_of (start_in t) k) bad in
    rw (read_at t k h, ← at.holds) (stood characters at.place (λ e. bad (sym at.holds ∙ e)) k at.first)
