-- A number that keeps the rules is stored as it is, so that the stored request is the one asked for.
use Prim.Native.Nat.{ℕ, ◌≤◌, min}
use mathlib.Core.Bool.{true, ◌&&◌}
use mathlib.Core.List.{List, [], ◌∷◌, map}
use mathlib.Core.Path.{◌≡◌, refl, ap, ◌∙◌}
use native.Mathlib.Omega.{arith}
use lib.Dec.{leb}
use lib.ListN.{length}
use lib.Seq.{take_all}
use borrow.Author.Tests.{leb-true}
use Rattle.sequence.specs.Symbols.{within, all_at_most}
use Rattle.sequence.proofs.Tests.{both_true}
use Rattle.sequence.proofs.Rest.{all-is}
use Rattle.std.specs.List.{list_all}
use Rattle.rules.specs.Rules.Ashore.{ashore_request}
use Rattle.rules.specs.Rules.Sound.{number_keeps}
use Rattle.requests.specs.Views.{viewed, request_of}
use Rattle.requests.specs.Images.{request_image, tidy_request}
use Rattle.requests.proofs.ArrayLaws.{viewed-length}
use Rattle.slots.specs.declared.mast.Mast.{Mast}
use Rattle.slots.specs.Views.{named}
use Rattle.slots.proofs.ImageLaws.{request-there}
use Rattle.ashore.specs.Stored.{stored_digit, stored_digits, request_from}

-- the test of the digits, by std's reading of a list
pub digits_listed : (l : List ℕ) → number_keeps l ≡ ((leb 1 (length l) && leb (length l) 16) && list_all (λ d. leb d 9) l)
unfolding number_keeps
digits_listed l = rw (all-is 9 l)

each-kept : (l : List ℕ) → all_at_most 9 l ≡ true → map stored_digit l ≡ l
each-kept [] e = refl
each-kept (d ∷ l) e =
    let h = both_true (leb d 9) (all_at_most 9 l) e in
    let k : min 255 d ≡ d = omega (arith, leb-true d 9 h.0) in
    rw (k, each-kept l h.1)

pub digits-kept : (l : List ℕ) → number_keeps l ≡ true → stored_digits l ≡ l
unfolding number_keeps stored_digits viewed
digits-kept l e =
    let h = both_true (within 1 16 (length l)) (all_at_most 9 l) e in
    let k = both_true (leb 1 (length l)) (leb (length l) 16) h.0 in
    rw (take_all 16 l (leb-true (length l) 16 k.1)) (each-kept l h.1)

digits-short : (l : List ℕ) → length (stored_digits l) ≤ 16
unfolding stored_digits
digits-short l = omega (arith, viewed-length stored_digit 16 l)

module _ (mast : Mast) (ship mode : ℕ) (l : List ℕ) where
  there : request_of (request_from mast ship mode l) ≡ ashore_request (named mast) (record { ship = ship; mode = mode; digits = stored_digits l })
  unfolding request_from ashore_request
  there = request-there _ (digits-short l)

  -- the request that the rules have of a call from ashore
  pub request-asked : number_keeps l ≡ true → request_of (request_from mast ship mode l) ≡ ashore_request (named mast) (record { ship = ship; mode = mode; digits = l })
  request-asked e = there ∙ ap (λ d. ashore_request (named mast) (record { ship = ship; mode = mode; digits = d })) (digits-kept l e)

  -- and laid out anew it is the same record
  pub request-tidy : tidy_request (request_from mast ship mode l) ≡ request_from mast ship mode l
  unfolding tidy_request request_from
  request-tidy = ap request_image there
