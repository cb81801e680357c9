use mathlib.Core.Path.{◌∙◌, ap}
use Prim.Native.Nat.{ℕ}
use mathlib.Core.List.{List}
use lib.ListN.{get_or}
use Rattle.std.specs.Prelude.{None}
use Rattle.station.specs.Step.{given, set_up_of}
use Rattle.script.specs.Answering.{unchanged, after_set_up}
use Rattle.script.proofs.LineLaws.{channels-as}
use Rattle.script.proofs.desks.setting.Goals as goal

pub returns-in-Ok : goal.returns-in-Ok
returns-in-Ok c = let first = get_or c.args.line.now.numbers 0 0 in
    let u = c.in-Ok.ensures ∙ channels-as first _ _ c.channels_of-channels.ensures ∙ ap (λ (l : List ℕ). set_up_of (given first l)) c.numbers_from-listed.ensures in
    c.kept.ensures ∙ ap after_set_up u

pub returns-in-Err : goal.returns-in-Err
returns-in-Err c = let first = get_or c.args.line.now.numbers 0 0 in
    let u = c.in-Err.ensures ∙ channels-as first _ _ c.channels_of-channels.ensures ∙ ap (λ (l : List ℕ). set_up_of (given first l)) c.numbers_from-listed.ensures in
    c.kept-in-Err.ensures ∙ ap (unchanged None) c.number.ensures ∙ ap after_set_up u
