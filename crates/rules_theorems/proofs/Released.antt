-- `DroppedReleased`: the line of a call from ashore is released in the step that drops it.
use mathlib.Core.Path.{◌≡◌, refl, sym, ◌∙◌}
use mathlib.Core.Logic.{◌⊎◌, inl, inr}
use mathlib.Core.List.{List, []}
use mathlib.Core.Bool.{Bool, true, false, true≢false}
use Prim.Native.Nat.{ℕ}
use borrow.Author.Tests.{eq-eqb}
use Rattle.rules.specs.Rules.Words.{Deed}
use Rattle.rules.specs.Rules.Station.{Kind, is_called, rings, Dealing, Slot, pending, Station}
use Rattle.rules.specs.Rules.Calls.{drop_acts}
use Rattle.rules.specs.ListAlone.Reading.{moment}
use Rattle.rules.specs.ListAlone.Repeated.{Dials}
use Rattle.rules.specs.ListAlone.LineWords.{releases}
use Rattle.rules.specs.Statement.{deeds_of, GoesOn, IsFreed, ReleasedWhenDropped, DroppedReleased}
use Rattle.rules.proofs.Base.{by-kind, said_of, seen}
use Rattle.rules.proofs.Outcome.{to-dial, to-agree, to-ring, to_drop, to-call, to-rings, to-answer, to-let-go}
use Rattle.rules_theorems.proofs.Course.{releases-append, Course, spared, calls, turned, let_go, act-course}
use Rattle.rules.proofs.Tenths.{clock-is}

-- nobody dials while a ship is being called
undialled : (k : Kind) (r : Dealing) → is_called k ≡ true → Dials r.request.number (said_of k r) → ⊥
undialled k r = by-kind (λ z. is_called z ≡ true → Dials r.request.number (said_of z r) → ⊥) (λ h n. true≢false (sym h)) (λ h n. n) (λ h n. n) (λ h n. true≢false (sym h)) (λ h n. n) (λ h n. n) (λ h n. n) k

drop-releases : (i : ℕ) (rung tone : Bool) → releases i (deeds_of (drop_acts i rung tone)) ≡ 1
drop-releases i false false = rw (eq-eqb i i refl) refl
drop-releases i false true = rw (eq-eqb i i refl) refl
drop-releases i true false = rw (eq-eqb i i refl) refl
drop-releases i true true = rw (eq-eqb i i refl) refl

course-released : (i t : ℕ) (k : Kind) (r : Dealing) (d : ℕ) (ds : List Deed) (q : Slot) → is_called k ≡ true → Course i t (pending k r d) ds q
    → (GoesOn r t q × (releases i ds ≡ 0)) ⊎ (IsFreed q × (releases i ds ≡ 1))
course-released i t k r d ds q h (spared s) = let e = s.kept h in inl (rw e.0 (h, refl), e.1)
course-released i t k r d _ q h (calls o x y) = absurd (true≢false (sym h ∙ x))
course-released i t _ _ _ _ _ h (turned (to-dial k r d z)) = absurd (undialled k r h z)
course-released i t _ _ _ _ _ h (turned (to-agree k r d z)) = absurd (true≢false (sym h ∙ z))
course-released i t _ _ _ _ _ h (turned (to-ring r d)) = absurd (true≢false (sym h))
course-released i t _ _ _ _ _ h (turned (to-call r d)) = inl ((refl, refl), refl)
course-released i t _ _ _ _ _ h (turned (to-rings k r d z)) = inl ((refl, refl), refl)
course-released i t _ _ _ _ _ h (turned (to-answer r d)) = inl ((refl, refl), refl)
course-released i t _ _ _ _ q h (let_go ds (to_drop k r d z) f a) = absurd (true≢false (sym h ∙ z))
course-released i t _ _ _ _ q h (let_go ds (to-let-go k r d tone) f a) = inr (f, rw (releases-append i (deeds_of (drop_acts i (rings k) tone)) ds, drop-releases i (rings k) tone, a.1) refl)

-- where nothing changes
pub none_dropped : (st : Station) → ReleasedWhenDropped st st []
none_dropped st i k r d s h = rw s (inl ((h, refl), refl))

pub dropped-released : DroppedReleased
unfolding DroppedReleased
dropped-released cfg st e v i k r d s h = rw (clock-is cfg st e v) (course-released i (moment (seen st) e) k r d _ _ h (rw s at (act-course cfg st e.time e.what i)))
