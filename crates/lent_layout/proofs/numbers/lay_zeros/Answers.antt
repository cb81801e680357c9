use Prim.Native.Nat.{ℕ, ◌+◌, ◌-◌}
use mathlib.Core.Path.{◌≡◌, refl, ap, ◌∙◌}
use mathlib.Core.List.{List}
use native.Mathlib.Omega.{arith}
use lib.ListN.{length, replicate, take, drop, length-take, length-drop, length-replicate}
use Rattle.std.proofs.lemmas.Slice.{put_mid-paste}
use Rattle.layouts.specs.Fields.{laid}
use Rattle.lent_layout.proofs.numbers.lay_zeros.Goals as goal

pub returns : goal.returns
unfolding laid
returns c = let a = c.args in
    let zeros : List ℕ = replicate a.count 0 in
    let long : length zeros ≡ a.count = length-replicate {A = ℕ} a.count 0 in
    let part : length (take (a.place + a.count - a.place) (drop a.place a.room.now)) ≡ a.count = simp (length-take, length-drop) (omega arith) in
    put_mid-paste a.place _ a.room.now _ zeros _ (c.fill.ensures.after (λ y e. e) ∙ ap (λ n. replicate n 0) part) (omega arith) refl
