-- A table of refusals, row by row.
use mathlib.Core.Path.{◌≡◌, refl, sym, ◌∙◌}
use mathlib.Core.Bool.{Bool, true, false, not, cond, ◌&&◌}
use mathlib.Core.List.{List, [], ◌∷◌}
use borrow.Author.Tests.{not-true}
use Rattle.sequence.specs.Refusals.{Row, row, first_refusal, all_hold}
use Rattle.sequence.specs.Answers.{Answer, done, is_done}
use Rattle.sequence.proofs.Tests.{both_true}

-- where every test holds, the last answer is given
pub all_held : {A : Type 0} (rows : List (Row A)) (last : A) → all_hold rows ≡ true → first_refusal rows last ≡ last
all_held [] last e = refl
all_held (r ∷ rows) last e =
    let h = both_true r.holds (all_hold rows) e in
    rw h.0 (all_held rows last h.1)

-- no row of the table refuses with an answer of a kind
abbrev pub none_refuses : {A : Type 0} → (A → Bool) → List (Row A) → Bool
none_refuses kind [] = true
none_refuses kind (r ∷ rows) = not (kind r.refusal) && none_refuses kind rows

-- and then an answer of that kind says that every test holds
pub kind-held : {A : Type 0} (kind : A → Bool) (rows : List (Row A)) (last : A) → none_refuses kind rows ≡ true
    → kind (first_refusal rows last) ≡ true → all_hold rows ≡ true
kind-held kind [] last n e = refl
kind-held kind (r ∷ rows) last n e =
    let h = both_true (not (kind r.refusal)) (none_refuses kind rows) n in
    go r.holds (not-true (kind r.refusal) h.0) (kind-held kind rows last h.1) e
  where
    go : (b : Bool) → kind r.refusal ≡ false → (kind (first_refusal rows last) ≡ true → all_hold rows ≡ true)
        → kind (cond b (first_refusal rows last) r.refusal) ≡ true → all_hold (row b r.refusal ∷ rows) ≡ true
    go true n later t = later t
    go false n later t = sym n ∙ t

pub done_held : (rows : List (Row Answer)) → none_refuses is_done rows ≡ true → is_done (first_refusal rows done) ≡ true → all_hold rows ≡ true
done_held rows n e = kind-held is_done rows done n e
