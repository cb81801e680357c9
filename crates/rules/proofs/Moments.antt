-- The moment of an accepted event: not before the clock, not after the event's own time, and no wait is due before it.
use mathlib.Core.Path.{◌≡◌, refl}
use mathlib.Core.List.{List, [], ◌∷◌}
use mathlib.Core.Bool.{Bool, true, false, cond}
use mathlib.Core.Option.{Option, none, some}
use Prim.Native.Nat.{ℕ, ◌≤◌}
use native.Mathlib.Omega.{arith}
use lib.Dec.{leb}
use borrow.Author.Tests.{leb-true, leb-false, le-leb}
use Rattle.rules.specs.Rules.Places.{all}
use Rattle.rules.specs.Rules.Words.{Config, Event}
use Rattle.rules.specs.Rules.Waits.{Due, sooner, earliest, if_due}
use Rattle.rules.specs.Rules.Station.{Station, table, fires}
use Rattle.rules.specs.Rules.Verdict.{verdict}
use Rattle.rules.specs.ListAlone.Reading.{moment_of, moment}
use Rattle.sequence.proofs.Tests.{both_true}
use Rattle.rules.proofs.Base.{seen}
use Rattle.rules.proofs.Accepted.{accepted, Sound, sounds, due_all}
use Rattle.rules.proofs.Order.{due-is}
use Rattle.rules.proofs.Effect.{moment-is}

-- ── the earliest wait ────────────────────────────────────────────────────────

abbrev pub From : ℕ → Due → Bool
From t p = leb t p.at

earliest-all : (p : Due → Bool) (l : List Due) (d : Due) → all p l ≡ true → earliest l ≡ some d → p d ≡ true
earliest-all p [] d h e = cc
earliest-all p (q ∷ l) d h e = let w = both_true (p q) (all p l) h in go (earliest l) refl (λ z. earliest-all p l z w.1) w.0 e
  where
    pick : (b : Bool) (z : Due) → p q ≡ true → p z ≡ true → cond b (some q) (some z) ≡ some d → p d ≡ true
    pick true z hq hz k = let y : q ≡ d = cc in rw (← y) hq
    pick false z hq hz k = let y : z ≡ d = cc in rw (← y) hz

    go : (o : Option Due) → earliest l ≡ o → ((z : Due) → earliest l ≡ some z → p z ≡ true) → p q ≡ true → sooner q o ≡ some d → p d ≡ true
    go none eo ih hq k = let y : q ≡ d = cc in rw (← y) hq
    go (some z) eo ih hq k = pick (leb q.at z.at) z hq (ih z eo) k

-- no wait is due before the earliest
from_less : (t u : ℕ) → t ≤ u → (l : List Due) → all (From u) l ≡ true → all (From t) l ≡ true
from_less t u h [] e = refl
from_less t u h (p ∷ l) e = let a = both_true (leb u p.at) (all (From u) l) e in let b = leb-true u p.at a.0 in rw (le-leb t p.at (omega arith)) (from_less t u h l a.1)

data Least (l : List Due) : Option Due → Type 0 where
  empty : l ≡ [] → Least l none
  least : (d : Due) → all (From d.at) l ≡ true → Least l (some d)

earliest-least : (l : List Due) → Least l (earliest l)
earliest-least [] = empty refl
earliest-least (p ∷ l) = go (earliest l) (earliest-least l)
  where
    pick : (q : Due) → all (From q.at) l ≡ true → (b : Bool) → leb p.at q.at ≡ b → Least (p ∷ l) (cond b (some p) (some q))
    pick q a true e = least p (rw (le-leb p.at p.at (omega arith)) (from_less p.at q.at (leb-true p.at q.at e) l a))
    pick q a false e = let k = leb-false p.at q.at e in least q (rw (le-leb q.at p.at (omega arith)) a)

    go : (o : Option Due) → Least l o → Least (p ∷ l) (sooner p o)
    go none (empty e) = least p (rw (le-leb p.at p.at (omega arith), e) refl)
    go (some q) (least d a) = pick d a (leb p.at d.at) refl

fires-least : (t : ℕ) (l : List Due) (o : Option Due) → Least l o → (z : Option Due) → if_due t o ≡ z → all (From (moment_of t z)) l ≡ true
fires-least t l none (empty e) none h = rw e refl
fires-least t l none (empty e) (some p) h = cc
fires-least t l (some d) (least q a) z h = go (leb q.at t) refl z h
  where
    go : (b : Bool) → leb q.at t ≡ b → (z : Option Due) → cond b (some q) none ≡ z → all (From (moment_of t z)) l ≡ true
    go true e none k = cc
    go true e (some p) k = let y : q ≡ p = cc in rw (← y) a
    go false e none k = let n = leb-false q.at t e in from_less t q.at (omega arith) l a
    go false e (some p) k = cc

-- ── the moment ───────────────────────────────────────────────────────────────

fired-on : (cfg : Config) (st : Station) → Sound cfg st → (t : ℕ) → st.clock ≤ t → (o : Option Due) → fires t st ≡ o → st.clock ≤ moment_of t o
unfolding fires
fired-on cfg st s t h none e = h
fired-on cfg st s t h (some p) e = leb-true st.clock p.at (earliest-all (λ q. leb st.clock q.at) (table st) p (due_all cfg st s) (due-is t (earliest (table st)) p e).0)

fired-by : (t : ℕ) (st : Station) (o : Option Due) → fires t st ≡ o → moment_of t o ≤ t
unfolding fires
fired-by t st none e = omega arith
fired-by t st (some p) e = (due-is t (earliest (table st)) p e).1

module _ (cfg : Config) (st : Station) (e : Event) (v : verdict cfg st e ≡ none) where
  pub moment-on : st.clock ≤ moment (seen st) e
  moment-on = rw (moment-is cfg st e v) (fired-on cfg st (sounds cfg st (accepted cfg st e v).is-sound) e.time (leb-true st.clock e.time (accepted cfg st e v).in-time) (fires e.time st) refl)

  pub moment-by : moment (seen st) e ≤ e.time
  moment-by = rw (moment-is cfg st e v) (fired-by e.time st (fires e.time st) refl)

  pub moment-least : all (From (moment (seen st) e)) (table st) ≡ true
  unfolding fires
  moment-least = rw (moment-is cfg st e v) (fires-least e.time (table st) (earliest (table st)) (earliest-least (table st)) (fires e.time st) refl)
