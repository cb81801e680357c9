-- What it says that nothing is refused: every test of the table holds; and the other way round.
use Prim.Native.Nat.{ℕ, ◌-◌, ◌≤◌}
use mathlib.Core.Path.{◌≡◌, refl, ap}
use mathlib.Core.Bool.{true, false}
use mathlib.Core.List.{List}
use native.Mathlib.Omega.{arith}
use lib.Dec.{leb}
use lib.ListN.{length, get_or}
use borrow.Author.Tests.{leb-true, ne_eqb}
use Rattle.sequence.specs.Answers.{done as nothing_refused, is_done}
use Rattle.sequence.specs.Symbols.{all_at_most}
use Rattle.sequence.specs.Layout.{end_ok}
use Rattle.sequence.specs.Reading.{length_in, check_in, format_in, identities_in, category_in, telecommands_in, field_in, number_in, end_in, refusals, answer_of}
use Rattle.sequence.specs.Reading.{pairs_in, parity_ok, pairs_ok}
use Rattle.sequence.proofs.Tests.{both_true}
use Rattle.sequence.proofs.RefusalLaws.{all_held, done_held}

pub long : (s : List ℕ) → length_in s ≡ true → (21 ≤ length s) × (length s ≤ 28)
unfolding length_in
long s e =
    let h = both_true (leb 21 (length s)) (leb (length s) 28) e in
    (leb-true _ _ h.0, leb-true _ _ h.1)

pub twenty : (s : List ℕ) → length_in s ≡ true → 20 ≤ length s
twenty s e = let h = long s e in omega arith

pub record Passed (s : List ℕ) : Type 0 where
  pub long : length_in s ≡ true
  pub symbols : all_at_most 127 s ≡ true
  pub check : check_in s ≡ true
  pub format : format_in s ≡ true
  pub identities : identities_in s ≡ true
  pub category : category_in s ≡ true
  pub telecommands : telecommands_in s ≡ true
  pub field : field_in s ≡ true
  pub number : number_in s ≡ true
  pub end : end_in s ≡ true

pub passed : (s : List ℕ) → is_done (answer_of s) ≡ true → Passed s
unfolding answer_of refusals
passed s e =
    let a = both_true (length_in s) _ (done_held (refusals s) refl e) in
    let b = both_true (all_at_most 127 s) _ a.1 in
    let c = both_true (check_in s) _ b.1 in
    let d = both_true (format_in s) _ c.1 in
    let f = both_true (identities_in s) _ d.1 in
    let g = both_true (category_in s) _ f.1 in
    let h = both_true (telecommands_in s) _ g.1 in
    let i = both_true (field_in s) _ h.1 in
    let j = both_true (number_in s) _ i.1 in
    let k = both_true (end_in s) _ j.1 in
    record {
      long = a.0;
      symbols = b.0;
      check = c.0;
      format = d.0;
      identities = f.0;
      category = g.0;
      telecommands = h.0;
      field = i.0;
      number = j.0;
      end = k.0;
    }

pub done : (s : List ℕ) → Passed s → answer_of s ≡ nothing_refused
unfolding answer_of refusals
done s p =
    all_held (refusals s) nothing_refused
    (rw (p.long, p.symbols, p.check, p.format, p.identities, p.category, p.telecommands, p.field, p.number, p.end))

-- "digit pairs, each 0 to 99" are no ends
pub no_end : (p : ℕ) → p ≤ 99 → end_ok p ≡ false
unfolding end_ok
no_end p h =
    rw (ne_eqb p 117 (λ e. omega arith), ne_eqb p 122 (λ e. omega arith), ne_eqb p 127 (λ e. omega arith))

module _ (s : List ℕ) (ok : is_done (answer_of s) ≡ true) where
  pub pairs_small : all_at_most 99 (pairs_in s) ≡ true
  unfolding number_in pairs_ok
  pairs_small = (both_true (parity_ok (get_or s 17 0) (get_or (pairs_in s) 0 0)) _ (passed s ok).number).1

  pub ends_last : end_ok (get_or s (length s - 2) 0) ≡ true
  unfolding end_in
  ends_last = (passed s ok).end

pub long-enough : (s : List ℕ) → is_done (answer_of s) ≡ true → (21 ≤ length s) × (length s ≤ 28)
long-enough s e = long s (passed s e).long

-- the lengths that the code asks for, from what it has tested
pub accepted-long : (s : List ℕ) → answer_of s ≡ nothing_refused → (21 ≤ length s) × (length s ≤ 28)
accepted-long s e = long-enough s (ap is_done e)

pub ruleset lengths = (twenty, accepted-long)
