use Prim.Native.Nat.{◌≤◌}
use mathlib.Core.Bool.{Bool, true, false}
use mathlib.Core.Path.{◌≡◌, refl, sym, ◌∙◌}
use lib.ListN.{length}
use Rattle.requests.specs.Views.{request_of}
use Rattle.outcomes.specs.Does.{goes_on}
use Rattle.station.specs.Model.{model_of}
use Rattle.station.specs.Pieces.{out_at, whole_at}
use Rattle.station.proofs.RedialLaws.{ended, half-clock, half-fits, half-model, half-config, half_count, whole-fits, goes_on_lem}
use Rattle.station.proofs.Station.enact_whole.Goals as goal
use Rattle.station.proofs.Station.enact_whole.Goals.{Else-not-goes_on}

-- d to g go on
on : (m : Else-not-goes_on) → goes_on m.args.choice.outcome ≡ true
on m = sym m.goes_on.ensures ∙ m.if-not-goes_on.false

left : (m : Else-not-goes_on)
    → model_of m.enact-ended.new.self ≡ (out_at m.args.self.now m.args.now.time m.args.choice.slot (request_of m.args.request) m.args.choice.outcome).next
left m =
    let x = m.args in
    half-model x.self.now x.now.time x.choice.slot (request_of x.request) x.choice.outcome (on m) m.requires.self_value _ _ m.enact-ended.ensures.value

pub enact-ended-requires : goal.enact-ended-requires
enact-ended-requires c = go (goes_on c.args.choice.outcome) refl
  where
    go : (b : Bool) → goes_on c.args.choice.outcome ≡ b → length (out_at c.args.self.now c.args.now.time c.args.choice.slot (request_of c.args.request) c.args.choice.outcome).next.queue ≤ 32
    go true e = let x = c.args in (half-fits x.self.now x.now.time x.choice.slot (request_of x.request) x.choice.outcome e c.requires.self_value).few_wait
    go false e = rw (ended _ _ _ _ _ e) at c.requires.request_len_bound

pub returns-then-not-goes_on : goal.returns-then-not-goes_on
returns-then-not-goes_on c =
    let alone : whole_at c.args.self.now c.args.now.time c.args.choice.slot (request_of c.args.request) c.args.choice.outcome
    ≡ out_at c.args.self.now c.args.now.time c.args.choice.slot (request_of c.args.request) c.args.choice.outcome = ended _ _ _ _ _ (sym c.goes_on.ensures ∙ c.if-not-goes_on.true) in
    record { value = rw alone c.enact-ended.ensures.value; room_written = rw alone c.enact-ended.ensures.room_written }

pub enact-requires : goal.enact-requires
enact-requires c = let m = (goal.at.enact-requires c).Else-not-goes_on in
    let x = c.args in
    let d = c.without_slot-further in
    whole-fits x.self.now x.now.time x.choice.slot (request_of x.request) x.choice.outcome (on m) c.enact-ended.new.self (left m) (half-clock x.self.now x.now.time x.choice.slot (request_of x.request) x.choice.outcome (on m)) d.result.slot d.result.outcome d.ensures c.requires.request_len_bound

pub returns : goal.returns
returns c = let m = (goal.at.returns c).Else-not-goes_on in
    let x = c.args in
    let d = c.without_slot-further in
    let kept = c.requires.self_value in
    let e = c.enact-ended.ensures in
    let r = goes_on_lem x.self.now x.now.time x.choice.slot (request_of x.request) x.choice.outcome (on m) c.enact-ended.new.self (left m) (half-clock x.self.now x.now.time x.choice.slot (request_of x.request) x.choice.outcome (on m)) d.result.slot d.result.outcome d.ensures
    (half-config x.self.now x.now.time x.choice.slot (request_of x.request) x.choice.outcome (on m) kept _ _ e.value) _ x.room.now _ _
    (half_count x.self.now x.now.time x.choice.slot (request_of x.request) x.choice.outcome (on m) kept _ _ e.value) e.room_written _ (c.enact.ensures.value, c.enact.ensures.room_written) in
    record { value = r.0; room_written = r.1 }
