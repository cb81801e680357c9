-- 01's order of waits, said without the function: the wait that a tick fires is due at or before it, no wait is due earlier, and of those due with it none stands before it in the table.
use mathlib.Core.Path.{◌≡◌, refl, ap}
use mathlib.Core.List.{List, [], ◌∷◌}
use mathlib.Core.Bool.{Bool, true, false, cond}
use mathlib.Core.Option.{Option, none, some}
use Prim.Native.Nat.{ℕ, zero, suc, ◌+◌, ◌≤◌, ◌<◌}
use native.Mathlib.Nat.{add-zero, add-suc, suc-add, zero-add}
use native.Mathlib.Omega.{arith}
use lib.ListN.{get_or, length}
use lib.Dec.{leb}
use borrow.Author.Tests.{leb-true, leb-false}
use Rattle.rules.specs.Rules.Places.{Each}
use Rattle.rules.specs.Rules.Waits.{of_queue, Due, sooner, earliest, if_due, queue_table}
use Rattle.rules.specs.ListAlone.Book.{waits_in, falls}
use Rattle.rules.specs.ListAlone.ReadingLaws.{First, FiredIsFirst, NoneFired, QueueNamed}
use Rattle.rules.proofs.PlaceLaws.{each_append, each_weaken}

earliest-none : (l : List Due) → earliest l ≡ none → l ≡ []
earliest-none [] h = refl
earliest-none (q ∷ l) h = go (earliest l) h
  where
    pick : (b : Bool) (z : Due) → cond b (some q) (some z) ≡ none → q ∷ l ≡ []
    pick true z k = cc
    pick false z k = cc

    go : (o : Option Due) → sooner q o ≡ none → q ∷ l ≡ []
    go none k = cc
    go (some z) k = pick (leb q.at z.at) z k

earliest-first : (l : List Due) (d : Due) → earliest l ≡ some d → First l d
earliest-first [] d h = let z : ◌≡◌ {A = ℕ} 0 1 = cc in absurd (omega arith)
earliest-first (q ∷ l) d h = go (earliest l) refl (λ z. earliest-first l z) h
  where
    here : (z : Due) → First l z → q.at ≤ z.at → First (q ∷ l) q
    here z f c = record {
      before = [];
      after = l;
      split = refl;
      later = tt;
      not_earlier = rw f.split (each_append (λ p. q.at ≤ p.at) f.before (z ∷ f.after)
          (each_weaken (λ p. z.at < p.at) (λ p. q.at ≤ p.at) (λ p k. omega arith) f.before f.later)
          (c, each_weaken (λ p. z.at ≤ p.at) (λ p. q.at ≤ p.at) (λ p k. omega arith) f.after f.not_earlier));
    }

    there : (z : Due) → First l z → z.at < q.at → First (q ∷ l) z
    there z f c = record { before = q ∷ f.before; after = f.after; split = ap (λ r. q ∷ r) f.split; later = (c, f.later); not_earlier = f.not_earlier }

    pick : (b : Bool) (z : Due) → leb q.at z.at ≡ b → First l z → cond b (some q) (some z) ≡ some d → First (q ∷ l) d
    pick true z e f k = let y : q ≡ d = cc in rw (← y) (here z f (leb-true q.at z.at e))
    pick false z e f k = let y : z ≡ d = cc in rw (← y) (there z f (leb-false q.at z.at e))

    go : (o : Option Due) → earliest l ≡ o → ((z : Due) → earliest l ≡ some z → First l z) → sooner q o ≡ some d → First (q ∷ l) d
    go none eo ih k = let y : q ≡ d = cc in rw (← y) (record { before = []; after = []; split = ap (λ r. q ∷ r) (earliest-none l eo); later = tt; not_earlier = tt })
    go (some z) eo ih k = pick (leb q.at z.at) z refl (ih z eo) k

-- what is due at or before t is the earliest itself
pub due-is : (t : ℕ) (o : Option Due) (d : Due) → if_due t o ≡ some d → (o ≡ some d) × (d.at ≤ t)
due-is t none d h = (cc, absurd (no_due h))
  where
    no_due : ◌≡◌ {A = Option Due} none (some d) → ⊥
    no_due e = let z : ◌≡◌ {A = ℕ} 0 1 = cc in omega arith
due-is t (some p) d h = pick (leb p.at t) refl h
  where
    pick : (b : Bool) → leb p.at t ≡ b → cond b (some p) none ≡ some d → (some p ≡ some d) × (d.at ≤ t)
    pick true e k = let y : p ≡ d = cc in (k, rw (← y) (leb-true p.at t e))
    pick false e k = (cc, let z : ◌≡◌ {A = ℕ} 0 1 = cc in absurd (omega arith))

pub fired-is-first : FiredIsFirst
unfolding FiredIsFirst falls
fired-is-first t b d h = let e = due-is t (earliest (waits_in b)) d h in (e.1, earliest-first (waits_in b) d e.0)

pub none-fired : NoneFired
unfolding NoneFired falls
none-fired t b h = go (earliest (waits_in b)) refl h
  where
    all-late : (d : Due) → First (waits_in b) d → t < d.at → Each (λ p. t < p.at) (waits_in b)
    all-late d f k = rw f.split (each_append (λ p. t < p.at) f.before (d ∷ f.after)
        (each_weaken (λ p. d.at < p.at) (λ p. t < p.at) (λ p q. omega arith) f.before f.later)
        (k, each_weaken (λ p. d.at ≤ p.at) (λ p. t < p.at) (λ p q. omega arith) f.after f.not_earlier))

    pick : (p : Due) (c : Bool) → leb p.at t ≡ c → First (waits_in b) p → cond c (some p) none ≡ none → Each (λ q. t < q.at) (waits_in b)
    pick p true e f k = absurd (let z : ◌≡◌ {A = ℕ} 0 1 = cc in omega arith)
    pick p false e f k = all-late p f (leb-false p.at t e)

    go : (o : Option Due) → earliest (waits_in b) ≡ o → if_due t o ≡ none → Each (λ p. t < p.at) (waits_in b)
    go none e k = rw (earliest-none (waits_in b) e) tt
    go (some p) e k = pick p (leb p.at t) refl (earliest-first (waits_in b) p e) k

queue-from : (j : ℕ) (ds : List ℕ) (slots : List Due) (k : ℕ) (z : Due) → k < length ds → get_or (queue_table j ds slots) k z ≡ record { what = of_queue (j + k); at = get_or ds k 0 }
queue-from j [] slots k z h = absurd (omega arith)
queue-from j (d ∷ ds) slots zero z h = rw (add-zero j) refl
queue-from j (d ∷ ds) slots (suc k) z h = rw (add-suc j k, ← (suc-add j k)) (queue-from (suc j) ds slots k z (omega arith))

pub queue-named : QueueNamed
unfolding QueueNamed
queue-named ds slots k z h = rw (zero-add k) at (queue-from 0 ds slots k z h)
