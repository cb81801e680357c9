use Prim.Native.Nat.{◌+◌, ◌<◌}
use mathlib.Core.Path.{sym, ◌∙◌}
use native.Mathlib.Omega.{arith}
use lib.ListN.{length}
use Rattle.receivers.proofs.FirstLaws.{from-the-first}
use Rattle.receivers.proofs.Search.{too-late}
use Rattle.receivers.proofs.first_in.Goals as goal

pub returns-then-bytes-lt-SHORTEST : goal.returns-then-bytes-lt-SHORTEST
returns-then-bytes-lt-SHORTEST c = let b = c.args.bytes.now in
    let few : length b < 0 + 21 = omega arith in
    sym (too-late b 0 few) ∙ from-the-first b
