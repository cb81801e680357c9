-- Two calls, neither of them the first, shut the useless versions out: one has to be done and to change something, one has to be refused.
use Prim.Native.Nat.{ℕ, ◌<◌}
use mathlib.Core.Path.{◌≡◌, sym, ap, ◌∙◌}
use mathlib.Core.List.{List, [], ◌∷◌}
use native.Mathlib.Omega.{arith}
use lib.ListN.{length}
use Rattle.useless_versions.specs.Versions.{Signs, refuses-everything, has-one-fixed-reply, does-nothing}
use Rattle.useless_versions.specs.Versions.{only-says-done-after-the-first, only-answers-after-the-first, invents-the-count}
use Rattle.useless_versions.specs.Versions.{NoUselessVersion, NoFixedReply}

pub record Tried {In Out : Type 0} (comes : List In → In → Type 0) (v : Signs In Out) (meets : In → Out → Type 0) : Type 0 where
  pub past : List In
  pub begun : past ≡ [] → ⊥
  pub doable : In
  pub doable-comes : comes past doable
  pub done : (y : Out) → meets doable y → v.answer y ≡ 0
  pub busy : (y : Out) → meets doable y → v.idle doable y → ⊥
  pub later : List In
  pub begun-later : later ≡ [] → ⊥
  pub bad : In
  pub bad-comes : comes later bad
  pub refused : (y : Out) → meets bad y → 1 < v.answer y
  pub counted : (x : In) (y : Out) → meets x y → v.miscounted x y → ⊥

pub one : {A : Type 0} {x : A} → x ∷ [] ≡ [] → ⊥
one e = let q : ◌≡◌ {A = ℕ} 1 0 = ap length e in omega (arith, q)

pub shut_out : {In Out : Type 0} (comes : List In → In → Type 0) (v : Signs In Out) (meets : In → Out → Type 0)
    → Tried comes v meets → NoUselessVersion comes v meets
shut_out comes v meets t f m (refuses-everything h) =
    let a = t.done _ (m t.past t.doable) in
    let b = h t.past t.doable t.doable-comes in
    omega (arith, a, b)
shut_out comes v meets t f m (has-one-fixed-reply n h) =
    let a = t.done _ (m t.past t.doable) in
    let b = h t.past t.doable t.doable-comes in
    let c = t.refused _ (m t.later t.bad) in
    let d = h t.later t.bad t.bad-comes in
    omega (arith, a, b, c, d)
shut_out comes v meets t f m (does-nothing h) = t.busy _ (m t.past t.doable) (h t.past t.doable t.doable-comes)
shut_out comes v meets t f m (only-says-done-after-the-first h) =
    let c = t.refused _ (m t.later t.bad) in
    let d = h t.later t.bad t.begun-later t.bad-comes in
    omega (arith, c, d)
shut_out comes v meets t f m (only-answers-after-the-first h) =
    t.busy _ (m t.past t.doable) (h t.past t.doable t.begun t.doable-comes)
shut_out comes v meets t f m (invents-the-count past x h) = t.counted x (f past x) (m past x) h

-- what names one reply for each, and not the same for two
module _ {In Out : Type 0} (told : In → Out) (x z : In) (differ : told x ≡ told z → ⊥)
    (meets : In → Out → Type 0) (names : (x : In) (y : Out) → meets x y → y ≡ told x) where
  pub no-fixed-reply : NoFixedReply meets
  no-fixed-reply f m n h =
      let past : List In = x ∷ [] in
      differ (sym (names x (f past x) (m past x)) ∙ h past x one tt ∙ sym (h past z one tt) ∙ names z (f past z) (m past z))
