-- P1 is found in the bytes that it is, and nothing in no bytes.
use Prim.Native.Nat.{ℕ}
use mathlib.Core.Path.{◌≡◌, refl, ap}
use mathlib.Core.List.{List, []}
use native.Mathlib.Omega.{arith}
use lib.ListN.{length, get_or}
use Rattle.std.specs.Prelude.{None}
use Rattle.receivers.specs.declared.Receiver.TheVariants.{First}
use Rattle.receivers.specs.Finding.{first_in, found_in, bytes_of, stretch_found}
use Rattle.receivers.specs.Cases.{p1, at, finds_none}
use Rattle.receivers.proofs.Computed.{finding-computed}
use Rattle.coast.specs.Finding.{reach, in_reach, found_returned}
use Rattle.coast.proofs.FindLaws.{all-in-reach}
use Rattle.useless_versions.specs.Finding.{Heard, FindsBy, by-find-sequence, NoUselessFinder}
use Rattle.useless_versions.specs.Finding.{FindsInC, by-coast-find-sequence, NoUselessFindInC}
use Rattle.useless_versions.proofs.ShutOut.{no-fixed-reply}

abbrev request : Heard
request = record { first = p1; second = [] }

abbrev silence : Heard
silence = record { first = []; second = [] }

request-found : found_in p1 [] ≡ at First 0 24
request-found = ap (λ l. (get_or l 0 (finds_none [] [])).found) finding-computed

silence-found : found_in [] [] ≡ None
unfolding found_in first_in
silence-found = refl

-- ── for Rattle ───────────────────────────────────────────────────────────────

abbrev told : Heard → List ℕ
told x = stretch_found x.first x.second

stretches-differ : told request ≡ told silence → ⊥
unfolding stretch_found bytes_of
stretches-differ e = let l = ap length (rw (request-found, silence-found) at e) in omega (arith, l)

stretch-is : (x : Heard) (y : List ℕ) → FindsBy x y → y ≡ told x
stretch-is _ _ (by-find-sequence κs a r s p) = p.0

pub no-useless-finder : NoUselessFinder
unfolding NoUselessFinder
no-useless-finder = no-fixed-reply told request silence stretches-differ FindsBy stretch-is

-- ── for C ────────────────────────────────────────────────────────────────────

abbrev told_in_c : Heard → ℕ
told_in_c x = found_returned (found_in (in_reach x.first) (in_reach x.second))

-- 24 and 256
numbers-differ : told_in_c request ≡ told_in_c silence → ⊥
unfolding found_returned reach
numbers-differ e =
    let n = rw (all-in-reach p1 (omega arith), all-in-reach [] (omega arith), request-found, silence-found) at e in
    omega (arith, n)

number_is : (x : Heard) (y : ℕ) → FindsInC x y → y ≡ told_in_c x
number_is _ _ (by-coast-find-sequence κs a r s p) = p

pub no-useless-find-in-c : NoUselessFindInC
unfolding NoUselessFindInC
no-useless-find-in-c = no-fixed-reply told_in_c request silence numbers-differ FindsInC number_is
