use Prim.Native.Nat.{◌+◌, ◌-◌}
use mathlib.Core.Path.{◌≡◌, refl}
use native.Mathlib.Omega.{arith}
use Rattle.receivers.specs.Finding.{bytes_of, placed_at}
use Rattle.receivers.proofs.part.Goals as goal

pub returns : goal.returns
unfolding bytes_of placed_at
returns c = let w = c.args.stretch in
    let e : w.place + w.count - w.place ≡ w.count = omega arith in
    record { contents = rw e; location = refl }
