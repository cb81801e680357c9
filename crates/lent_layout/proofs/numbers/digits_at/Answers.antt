use Prim.Native.Nat.{◌+◌, ◌-◌}
use mathlib.Core.Path.{◌≡◌, sym, ◌∙◌}
use native.Mathlib.Omega.{arith}
use Rattle.lent_layout.proofs.LayLaws.{numbers-taken}
use Rattle.lent_layout.proofs.numbers.digits_at.Goals as goal

pub returns : goal.returns
returns c = let a = c.args in
    let n : a.place + 16 - a.place ≡ 16 = omega arith in
    (rw n at c.copy_from_slice.ensures.after) ∙ sym (numbers-taken 16 a.place a.bytes.now c.requires)
