use Prim.Native.Nat.{◌+◌}
use mathlib.Core.Path.{sym, ◌∙◌}
use native.Mathlib.Omega.{arith}
use Rattle.phasing.specs.Characters.{dx_characters, rx_characters}
use Rattle.phasing.proofs.CharacterLaws.{standing-most, start-there, no_start}
use Rattle.phasing.proofs.start_at.Goals as goal

pub overflow_add-phasing : goal.overflow_add-phasing
overflow_add-phasing c = let s = c.args in
    let dx = c.standing_in-dx.ensures in
    let rx = c.standing_in-rx.ensures in
    let most = standing-most s.characters.now in
    omega (arith, dx, rx, most dx_characters s.place, most rx_characters (s.place + 1))

pub returns-then-is_phasing : goal.returns-then-is_phasing
returns-then-is_phasing c =
    start-there _ _ _ _ c.standing_in-dx.ensures c.standing_in-rx.ensures (sym c.is_phasing.ensures ∙ c.if-is_phasing.true)

pub returns : goal.returns
returns c = no_start _ _ _ _ c.standing_in-dx.ensures c.standing_in-rx.ensures (sym c.is_phasing.ensures ∙ c.if-is_phasing.false)
