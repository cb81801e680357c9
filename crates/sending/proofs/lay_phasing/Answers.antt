use mathlib.Core.Path.{sym, ap, ◌∙◌}
use native.Mathlib.Omega.{arith}
use Rattle.characters.specs.Code.{character_of}
use Rattle.transmission.proofs.LayoutLaws.{rx-phasing}
use Rattle.sending.proofs.LaidLaws.{no-places-laid, place-laid}
use Rattle.sending.proofs.lay_phasing.Goals as goal

pub loop-place-init : goal.loop-place-init
loop-place-init c = no-places-laid c.args.symbols.now c.args.room.now 0

pub loop-place-preserved : goal.loop-place-preserved
loop-place-preserved c = let l = c.loop-place in
    let s = c.args.symbols.now in
    c.lay_place.ensures
    ∙ rw l.invariant
    (place-laid s c.args.room.now c.requires 0 l.place _ _ (omega arith) (omega arith)
    (c.character_of-dx.ensures ∙ ap character_of c.first_dx.ensures)
    (c.character_of-rx.ensures ∙ ap character_of (sym (rx-phasing s l.place 0 (omega arith)))))
