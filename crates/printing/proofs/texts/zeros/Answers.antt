use Prim.Native.Nat.{◌-◌}
use lib.Dec.{eqb}
use lib.ListN.{length, take}
use mathlib.Core.Bool.{not}
use Rattle.std.proofs.Common.{rules, tests}
use Rattle.std.proofs.lemmas.Iterator.{YieldsList-from_slice}
use Rattle.std.proofs.lemmas.Iterator.Search.{position_from_yields_List}
use Rattle.printing.proofs.PutLaws.{zeros-lead}
use Rattle.printing.proofs.texts.zeros.Goals as goal

pub returns-clause-digits_value : goal.returns-clause-digits_value
returns-clause-digits_value c = let l = c.args.digits.now in
    zeros-lead l c.position.result _ c.requires
    (position_from_yields_List (λ d. not (eqb d 48)) _ _ _ c.position.ensures.ran (YieldsList-from_slice (take (length l - 1) l) cc) (λ x b q k. search (rules, tests)))
    c.unwrap_or.ensures
