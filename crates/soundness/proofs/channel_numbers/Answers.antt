use Prim.Native.Nat.{◌<◌}
use mathlib.Core.List.{map}
use mathlib.Core.Path.{◌≡◌, sym, ◌∙◌}
use native.Mathlib.Omega.{arith}
use lib.ListN.{length, get_or, length-map}
use Rattle.std.proofs.Common.{rules}
use Rattle.std.proofs.lemmas.List.{ext_get_or, get_or-map}
use Rattle.slots.specs.Views.{no_slot}
use Rattle.soundness.specs.Soundly.{number_of}
use Rattle.soundness.proofs.channel_numbers.Goals as goal

pub returns : goal.returns
returns c =
    let a = c.args.slots.now in
    let r = c.from_fn.result in
    let made = c.from_fn.ensures.items in
    let long : length a ≡ 16 = search rules in
    let wide : length (map number_of a) ≡ length a = simp length-map in
    ext_get_or 0 r (map number_of a) (omega (arith, made.long)) (λ i h.
    let k : i < 16 = omega (arith, made.long) in
    let j : i < length a = omega arith in
    let at : get_or r i 0 ≡ number_of (get_or a i no_slot) = search (rules, (made.at i 0 k).2) in
    at ∙ sym (get_or-map number_of a i no_slot 0 j))
