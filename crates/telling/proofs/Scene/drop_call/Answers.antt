use mathlib.Core.Bool.{cond}
use mathlib.Core.List.{[], ◌∷◌}
use Rattle.rules.specs.Rules.Words.{carrier_off, release_line, ringing_off, busy_tone}
use Rattle.rules.specs.Rules.Actions.{does}
use Rattle.actions.specs.Sent.{sent_payload, sent_on}
use Rattle.telling.specs.Tells.{scene_view, Tells}
use Rattle.telling.proofs.TellLaws.{tells_none, tells-one, tells_more, tells-append}
use Rattle.telling.proofs.Scene.drop_call.Goals as goal
use Rattle.telling.proofs.Scene.drop_call.Goals.{then-rings, else-rings, then-tone, else-tone}

pub returns : goal.returns
unfolding scene_view sent_on sent_payload
returns c = let s = c.args.self.now in
    let i = s.slot.0 in
    let quiet : Tells s (cond c.args.rings (does (ringing_off i) ∷ []) []) c.args.told.now c.if-rings.told =
    elim c.if-rings.branch [
      | then-rings w ↦ rw (w.told-is, w.if-rings.true) (tells-one s (does (ringing_off i)) w.ringing_off.ensures.result_value w.lay.ensures)
      | else-rings w ↦ rw (w.told-is, w.if-rings.false) (tells_none s _)
    ] in
    let tone : Tells s (cond c.args.tone (does (busy_tone i) ∷ []) []) c.lay-2.new.self c.if-tone.told =
    elim c.if-tone.branch [
      | then-tone w ↦ rw (w.told-is, w.if-tone.true) (tells-one s (does (busy_tone i)) w.busy_tone.ensures.result_value w.lay-then-tone.ensures)
      | else-tone w ↦ rw (w.told-is, w.if-tone.false) (tells_none s _)
    ] in
    tells-append s (tells-append s quiet (tells_more s (does (carrier_off i)) c.carrier_off.ensures.result_value c.lay-2.ensures tone))
    (tells-one s (does (release_line i)) c.release_line.ensures.result_value c.lay-3.ensures)
