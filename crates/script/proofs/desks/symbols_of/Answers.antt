use mathlib.Core.Path.{◌≡◌, sym, ◌∙◌}
use Prim.Native.Nat.{ℕ, ◌<◌}
use lib.ListN.{get_or, length-map, get_or-map}
use native.Mathlib.Omega.{arith}
use Rattle.std.proofs.Common.{rules, tests}
use Rattle.std.proofs.lemmas.Grind.{same_number_lists}
use Rattle.script.specs.Lining.{byte_of}
use Rattle.script.proofs.desks.symbols_of.Goals as goal

pub returns : goal.returns
returns c = let ns = c.args.numbers.now in
    let m = c.map.ensures.items in
    let at : (k : ℕ) → k < 100 → get_or c.map.result k 0 ≡ byte_of (get_or ns k 0) = λ k h. let r = m.at k 0 0 h in search (rules, tests) in
    same_number_lists c.map.result _ (m.long ∙ sym c.told-numbers ∙ sym (length-map ns byte_of)) (λ k h. at k (omega (arith, m.long)) ∙ sym (get_or-map byte_of ns k 0))
