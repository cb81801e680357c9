-- Where the start of a transmission is found.
use Prim.Native.Nat.{ℕ, ◌+◌, ◌-◌, ◌≤◌, ◌<◌}
use mathlib.Core.Path.{◌≡◌, ap}
use mathlib.Core.Logic.{◌⊎◌, inl, inr}
use mathlib.Core.Bool.{true}
use mathlib.Core.List.{List, [], ◌∷◌}
use native.Mathlib.Nat.{zero-add}
use native.Mathlib.Omega.{arith}
use lib.Dec.{ltb, eqb}
use lib.ListN.{length}
use borrow.Author.Tests.{le-leb, ltb-true, ltb-false, eqb-true, eqb-false}
use Rattle.sequence.proofs.Tests.{Either, yes!, no!, which}
use Rattle.reading.proofs.Passed.{long-enough}
use Rattle.characters.specs.Code.{none}
use Rattle.sequence.specs.Answers.{is_done}
use Rattle.transmission.specs.Layout.{dx_phasing}
use Rattle.transmission.specs.Phasing.{heard_at, most_lost, dx_good, phasing_at, best_start}
use Rattle.transmission.specs.Reading.{start_in, phasing_in}
use Rattle.transmission.proofs.PhasingLaws.{in-place-most, rx-most, phasing-most, at-most-14}
use Rattle.transmission.proofs.BestLaws.{best-start}
use Rattle.transmission_theorems.specs.Statement.{Accepted}
use Rattle.transmission_theorems.proofs.Shown.{Found, FoundEarlier, FoundSpoiled, FoundCut, FoundWhole}
use Rattle.transmission_theorems.proofs.NoOtherStart.{no-other-start}
use Rattle.transmission_theorems.proofs.OwnStart.{spoiled-starts, cut-starts}

-- some phasing is found where some start has any
some-found : (t : List ℕ) (start : ℕ) → 1 ≤ phasing_at t start
    → (phasing_at t start ≤ phasing_at t (start_in t)) × (phasing_in t ≡ true)
unfolding start_in phasing_in
some-found t start h =
    let b = best-start t in
    let most = b.most start tt in
    let own = b.its_own (omega arith) in
    (omega arith, le-leb 1 (best_start t).phasing (omega arith))

-- no start before the best has as many
before-best : (t : List ℕ) (start : ℕ) → start < start_in t → phasing_at t start < phasing_at t (start_in t)
unfolding start_in
before-best t start l =
    let b = best-start t in
    let less = b.earliest start tt l in
    let own = b.its_own (omega arith) in
    omega arith

-- the only one is found
only-found : (t : List ℕ) (start : ℕ) → 1 ≤ phasing_at t start → ((q : ℕ) → (q ≡ start → ⊥) → phasing_at t q ≡ 0) → Found t start
only-found t start h others =
    let f = some-found t start h in
    (go (which (eqb (start_in t) start)) f.0, f.1)
  where
    go : Either (eqb (start_in t) start) → phasing_at t start ≤ phasing_at t (start_in t) → start_in t ≡ start
    go (yes! p) l = eqb-true _ _ p
    go (no! p) l = absurd (omega (arith, others (start_in t) (eqb-false _ _ p)))

long-accepted : (s : List ℕ) → Accepted s → 1 ≤ length s
long-accepted s e = omega (arith, (long-enough s (ap is_done e)).0)

pub found-spoiled : FoundSpoiled
found-spoiled s t e shown place count few kept =
    only-found t most_lost (spoiled-starts s t most_lost place count (long-accepted s e) few kept)
    (λ q other. no-other-start s t 0 e shown q (λ p. other (omega arith)))

pub found-cut : FoundCut
found-cut s t e lost few shown kept =
    only-found t (most_lost - lost) (cut-starts s t (most_lost - lost) lost (long-accepted s e) few kept)
    (λ q other. no-other-start s t lost e shown q (λ p. other (omega arith)))

-- ── a whole phasing ──────────────────────────────────────────────────────────

-- found, or an earlier whole one is
pub whole-found : FoundWhole
whole-found t start whole = ((some-found t start (omega arith)).1, go (which (eqb (start_in t) start)) (which (ltb (start_in t) start)))
  where
    best-whole : phasing_at t (start_in t) ≡ 14
    best-whole =
        let f = some-found t start (omega arith) in
        let m = at-most-14 t (start_in t) in
        omega arith

    go : Either (eqb (start_in t) start) → Either (ltb (start_in t) start) → (start_in t ≡ start) ⊎ FoundEarlier t start
    go (yes! p) q = inl (eqb-true _ _ p)
    go (no! p) (yes! q) = inr (ltb-true _ _ q, best-whole)
    go (no! p) (no! q) =
        let n = eqb-false (start_in t) start p in
        let l = ltb-false (start_in t) start q in
        let w = best-whole in
        let b = before-best t start (omega arith) in
        absurd (omega arith)

-- a start at which nothing was heard is not whole
pub begins-whole : (t : List ℕ) (start : ℕ) → phasing_at t start ≡ 14 → heard_at t start ≡ none → ⊥
unfolding dx_good dx_phasing
begins-whole t start whole e =
    let m = phasing-most t start in
    let r = rx-most t start in
    let d : dx_good t start ≤ 5 = rw (e, zero-add) (in-place-most t (125 ∷ 125 ∷ 125 ∷ 125 ∷ 125 ∷ []) (start + 2)) in
    omega arith
