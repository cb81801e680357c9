-- The digits of a caller ashore: one more than a number may have is enough to look at.
use Prim.Native.Nat.{ℕ, ◌<◌, min}
use native.Mathlib.Omega.{arith}
use mathlib.Core.Bool.{Bool, true, false, ◌&&◌}
use mathlib.Core.List.{List, [], ◌∷◌, map}
use mathlib.Core.Option.{Option, none, some}
use mathlib.Core.Path.{◌≡◌, refl, sym, ap, ◌∙◌}
use lib.Dec.{leb}
use lib.ListN.{length, take}
use lib.Seq.{take_all, length-take-le}
use borrow.Author.Tests.{lt-leb, leb-true, leb-false}
use Rattle.sequence.proofs.Tests.{Either, yes!, no!, which}
use Rattle.sequence.specs.Symbols.{all_at_most}
use Rattle.rules.specs.Rules.Words.{Event}
use Rattle.rules.specs.Rules.Ashore.{ashore_request}
use Rattle.rules.specs.Rules.Sound.{number_keeps}
use Rattle.rules.specs.Rules.Verdict.{refusals}
use Rattle.rules.specs.Rules.Requests.{Out}
use Rattle.rules.specs.Rules.Calls.{act}
use Rattle.rules.proofs.Accepted.{accepted}
use Rattle.requests.specs.Views.{viewed, itself}
use Rattle.requests.proofs.ArrayLaws.{padded-front, viewed-length}
use Rattle.station.specs.declared.Station.{Station}
use Rattle.station.specs.Model.{model_of, config_of}
use Rattle.station.specs.Step.{event_at, ashore_of, refusal, stepped_for, stepped_by, room_for, room_after}
use Rattle.station.proofs.GateLaws.{passed}
use Rattle.coast.specs.Digits.{digit_numbers}

-- ── laid out in numbers ──────────────────────────────────────────────────────

map-itself : (l : List ℕ) → map itself l ≡ l
map-itself [] = refl
map-itself (x ∷ l) = ap (λ r. x ∷ r) (map-itself l)

pub handed-on : (l : List ℕ) → take (min 17 (length l)) (digit_numbers l) ≡ take 17 l
unfolding digit_numbers viewed
handed-on l =
    let n : length (viewed itself 17 l) ≡ min 17 (length l) = viewed-length itself 17 l in
    rw (← n) (padded-front 0 17 (viewed itself 17 l) (omega arith)) ∙ map-itself (take 17 l)

-- ── what is longer is refused all the same ───────────────────────────────────

too_many : (l : List ℕ) → 16 < length l → number_keeps l ≡ false
unfolding number_keeps
too_many l h = rw (lt-leb (length l) 16 h) (neither (leb 1 (length l)) (all_at_most 9 l))
  where
    neither : (a b : Bool) → ((a && false) && b) ≡ false
    neither true b = refl
    neither false b = refl

module _ (s : Station) (time ship mode : ℕ) (room : List ℕ) where
  abbrev called : List ℕ → Event
  called l = event_at time (ashore_of ship mode l) room

  refused-alike : (l m : List ℕ) → number_keeps l ≡ false → number_keeps m ≡ false → refusal s (called l) ≡ refusal s (called m)
  unfolding refusal refusals ashore_request
  refused-alike l m p q = rw (p, q) refl

  abbrev Alike : List ℕ → List ℕ → Type 0
  Alike l m = (stepped_by s (called l) ≡ stepped_by s (called m)) × (room_after s room (called l) ≡ room_after s room (called m))

  -- a refusal does not say what was asked for
  told-alike : (first second : Out) (m : List ℕ) → number_keeps m ≡ false → (o : Option ℕ) → refusal s (called m) ≡ o
      → (stepped_for s first o ≡ stepped_for s second o) × (room_for (config_of s) room first o ≡ room_for (config_of s) room second o)
  told-alike first second m q none e =
      let k : true ≡ false = sym (accepted (config_of s) (model_of s) (called m) (passed s (called m) (sym e)).judged).number ∙ q in
      (cc, cc)
  told-alike first second m q (some n) e = (refl, refl)

  stepped-alike : (l m : List ℕ) → number_keeps l ≡ false → number_keeps m ≡ false → Alike l m
  unfolding stepped_by room_after
  stepped-alike l m p q = rw (refused-alike l m p q) (told-alike (act (config_of s) (model_of s) (called l)) (act (config_of s) (model_of s) (called m)) m q (refusal s (called m)) refl)

  pub looked-at : (l : List ℕ) → Alike (take 17 l) l
  looked-at l = go (which (leb (length l) 17))
    where
      go : Either (leb (length l) 17) → Alike (take 17 l) l
      go (yes! p) = rw (take_all 17 l (leb-true (length l) 17 p)) (refl, refl)
      go (no! p) =
          let long = leb-false (length l) 17 p in
          let n : length (take 17 l) ≡ 17 = length-take-le 17 l (omega arith) in
          stepped-alike (take 17 l) l (too_many (take 17 l) (omega arith)) (too_many l (omega arith))

-- ── handed on to the station ─────────────────────────────────────────────────

pub sliced : (n : ℕ) (numbers l : List ℕ) → n ≡ min 17 (length l) → numbers ≡ digit_numbers l → take n numbers ≡ take 17 l
sliced n numbers l e f = rw (e, f) (handed-on l)

pub called-with : (s t : Station) → s ≡ t → (time ship mode : ℕ) (room l d : List ℕ) → d ≡ take 17 l
    → (stepped_by s (event_at time (ashore_of ship mode d) room) ≡ stepped_by t (event_at time (ashore_of ship mode l) room))
    × (room_after s room (event_at time (ashore_of ship mode d) room) ≡ room_after t room (event_at time (ashore_of ship mode l) room))
called-with s t e time ship mode room l d f = rw (e, f) (looked-at t time ship mode room l)
