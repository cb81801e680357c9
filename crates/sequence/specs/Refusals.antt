-- "Refusals, in this order": a table of tests, each with the refusal that is given where it fails.
use Rattle.std.specs.Prelude.{Bool, true, cond, ◌&&◌, List, [], ◌∷◌}

pub record Row (A : Type 0) : Type 0 where
  pub holds : Bool
  pub refusal : A

abbrev pub row : {A : Type 0} → Bool → A → Row A
row test refusal = record { holds = test; refusal = refusal }

-- the refusal of the first row whose test fails, and the last answer where every test holds
abbrev pub first_refusal : {A : Type 0} → List (Row A) → A → A
first_refusal [] last = last
first_refusal (r ∷ rows) last = cond r.holds (first_refusal rows last) r.refusal

abbrev pub all_hold : {A : Type 0} → List (Row A) → Bool
all_hold [] = true
all_hold (r ∷ rows) = r.holds && all_hold rows
