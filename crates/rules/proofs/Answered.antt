-- An accepted event is answered 0 or 1, a refused one from 11 on.
use mathlib.Core.Path.{◌≡◌, refl}
use mathlib.Core.Bool.{Bool, true, false, not, cond}
use mathlib.Core.List.{List, [], ◌∷◌}
use mathlib.Core.Option.{Option, none, some}
use Prim.Native.Nat.{ℕ}
use native.Mathlib.Omega.{arith}
use lib.Dec.{leb, eqb}
use borrow.Author.Tests.{leb-true, eq-eqb}
use Rattle.std.specs.Prelude.{Some, None}
use Rattle.sequence.specs.declared.Refusal.TheVariants.{BadLength, BadSymbol, BadCheck, BadFormat, BadIdentities, BadCategory, BadTelecommands, BadField, BadNumber, BadEnd, ShortRoom}
use Rattle.sequence.specs.Refusals.{Row, first_refusal}
use Rattle.sequence.specs.Answers.{Answer, answer_number, is_done}
use Rattle.rules.specs.Rules.Places.{all, Each, elem}
use Rattle.rules.specs.Rules.Words.{Config, Event}
use Rattle.rules.specs.Rules.Station.{Station}
use Rattle.rules.specs.Rules.Sound.{sound}
use Rattle.rules.specs.Rules.Verdict.{read_in, refusals, verdict}
use Rattle.rules.specs.Statement.{ZeroOrOne}
use Rattle.rules.proofs.PlaceLaws.{all-elem}
use Rattle.rules.proofs.Accepted.{accepted}
use Rattle.rules.proofs.Eight.{answers-few}

-- the number of every refusal but 29
abbrev pub other_numbers : List ℕ
other_numbers = 11 ∷ 12 ∷ 13 ∷ 14 ∷ 15 ∷ 16 ∷ 17 ∷ 18 ∷ 19 ∷ 20 ∷ 21 ∷ 30 ∷ 31 ∷ 32 ∷ 33 ∷ 34 ∷ 35 ∷ 37 ∷ 38 ∷ []

-- a test that all of them pass
module _ (p : ℕ → Bool) (others : all p other_numbers ≡ true) where
  other : (k : ℕ) → elem eqb k other_numbers ≡ true → p k ≡ true
  other k h = all-elem p other_numbers others k h

  abbrev GivesSuch : Row (Option ℕ) → Type 0
  GivesSuch r = r.holds ≡ false → (n : ℕ) → r.refusal ≡ some n → p n ≡ true

  first-such : (rows : List (Row (Option ℕ))) → Each GivesSuch rows → (n : ℕ) → first_refusal rows none ≡ some n → p n ≡ true
  first-such [] each n e = cc
  first-such (r ∷ rows) each n e = go r.holds each.0 e (first-such rows each.1 n)
    where
      go : (b : Bool) → (b ≡ false → (n : ℕ) → r.refusal ≡ some n → p n ≡ true) → cond b (first_refusal rows none) r.refusal ≡ some n
          → (first_refusal rows none ≡ some n → p n ≡ true) → p n ≡ true
      go true one h later = later h
      go false one h later = one refl n h

  one-such : (k : ℕ) → p k ≡ true → (n : ℕ) → ◌≡◌ {A = Option ℕ} (some k) (some n) → p n ≡ true
  one-such k h n e = let q : k ≡ n = cc in rw (← q) h

  row-such : (k : ℕ) → elem eqb k other_numbers ≡ true → (b : Bool) → b ≡ false → (n : ℕ) → ◌≡◌ {A = Option ℕ} (some k) (some n) → p n ≡ true
  row-such k h b f = one-such k (other k h)

  read-such : (a : Answer) → is_done a ≡ false → p (answer_number a) ≡ true
  read-such None f = cc
  read-such (Some BadLength) f = other 11 refl
  read-such (Some BadSymbol) f = other 12 refl
  read-such (Some BadCheck) f = other 13 refl
  read-such (Some BadFormat) f = other 14 refl
  read-such (Some BadIdentities) f = other 15 refl
  read-such (Some BadCategory) f = other 16 refl
  read-such (Some BadTelecommands) f = other 17 refl
  read-such (Some BadField) f = other 18 refl
  read-such (Some BadNumber) f = other 19 refl
  read-such (Some BadEnd) f = other 20 refl
  read-such (Some ShortRoom) f = other 21 refl

  pub refused-such : (c : Config) (st : Station) (e : Event) → (sound c st ≡ false → p 29 ≡ true) → (n : ℕ) → verdict c st e ≡ some n → p n ≡ true
  unfolding verdict refusals
  refused-such c st e unsound =
      let read = read_in e.what in
      first-such (refusals c st e) (
        λ f. one-such 29 (unsound f),
        (row-such 30 refl _, (row-such 31 refl _, (row-such 32 refl _, (row-such 33 refl _, (row-such 34 refl _, (λ f. one-such (answer_number read) (read-such read f), (row-such 35 refl _, (row-such 15 refl _, (row-such 17 refl _, (row-such 19 refl _, (row-such 38 refl _, (row-such 37 refl _, tt)))))))))))),
      )

pub zero-or-one : ZeroOrOne
unfolding ZeroOrOne
zero-or-one c st e = (
  λ v. answers-few c st e (accepted c st e v).is-sound,
  λ n v. leb-true 11 n (refused-such (leb 11) refl c st e (λ f. refl) n v),
)

-- a sound station answers no event with 29
pub sound-not-29 : (c : Config) (st : Station) (e : Event) → sound c st ≡ true → (n : ℕ) → verdict c st e ≡ some n → n ≡ 29 → ⊥
sound-not-29 c st e s n v h =
    let unsound : sound c st ≡ false → not (eqb 29 29) ≡ true = λ f. cc in
    let k : not (eqb n 29) ≡ true = refused-such (λ k. not (eqb k 29)) refl c st e unsound n v in
    let z : not true ≡ true = rw (eq-eqb n 29 h) at k in
    let q : ◌≡◌ {A = ℕ} 0 1 = cc in
    omega (arith, q)
