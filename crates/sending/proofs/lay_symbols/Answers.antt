use Prim.Native.Nat.{◌+◌}
use mathlib.Core.Path.{◌≡◌, sym, ap, ◌∙◌}
use native.Mathlib.Omega.{arith}
use lib.ListN.{length, length-set}
use Rattle.characters.specs.Code.{character_of}
use Rattle.transmission.proofs.LayoutLaws.{dx-symbol, rx-format, rx-symbol}
use Rattle.sending.proofs.LaidLaws.{no-places-laid, place-laid, ends-laid, room-kept}
use Rattle.sending.proofs.lay_symbols.Goals as goal

pub loop-k-init : goal.loop-k-init
loop-k-init c = let s = c.args.symbols.now in (
  no-places-laid s c.args.room.now 8,
  c.character_of-before.ensures ∙ ap character_of (sym (rx-format s 0)),
  c.character_of-before.ensures ∙ ap character_of (sym (rx-symbol s 0 0)),
)

pub loop-k-preserved : goal.loop-k-preserved
loop-k-preserved c = let l = c.loop-k in
    let s = c.args.symbols.now in
    let character = c.character_of-character.ensures in
    let e : 7 + (l.k + 1) ≡ 7 + l.k + 1 = omega arith in
    let f : 7 + (l.k + 1) ≡ 8 + l.k = omega arith in
    let g : 8 + (l.k + 1) ≡ 9 + l.k = omega arith in (
      c.lay_place.ensures
          ∙ rw (l.invariant.0, e)
          (place-laid s c.args.room.now c.requires 8 (7 + l.k) _ _ (omega arith) (omega arith)
          (character ∙ ap character_of (sym (dx-symbol s l.k 0 (omega arith))))
          l.invariant.1),
      rw f l.invariant.2,
      rw g (character ∙ ap character_of (sym (rx-symbol s l.k 0))),
    )

pub lay_place-requires-3 : goal.lay_place-requires-3
lay_place-requires-3 c = let l = c.loop-k in
    let stored = c.lay_place-2 in
    let stores : length stored.new.room ≡ length l.room = ap length stored.ensures ∙ simp length-set in
    let same = room-kept c.args.symbols.now c.args.room.now c.requires 8 (7 + l.k) (omega arith) (omega arith) l.invariant.0 in
    omega arith

pub returns : goal.returns
returns c = let l = c.loop-k in
    let k : l.k ≡ length c.args.symbols.now = omega arith in
    c.lay_place-3.ensures
    ∙ rw (c.lay_place-2.ensures, l.invariant.0, k)
    (ends-laid c.args.symbols.now c.args.room.now c.requires _ _ (rw k at l.invariant.1) (rw k at l.invariant.2))
