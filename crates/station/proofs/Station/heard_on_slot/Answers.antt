use Prim.Native.Nat.{ℕ}
use mathlib.Core.Bool.{Bool}
use mathlib.Core.List.{List}
use mathlib.Core.Path.{◌≡◌, refl, ap, ◌∙◌}
use lib.ListN.{length}
use Rattle.units.specs.declared.SlotNumber.{SlotNumber}
use Rattle.units.specs.declared.Tenths.{Tenths}
use Rattle.rules.specs.Rules.Words.{Request, is, heard, on_slot, Event}
use Rattle.rules.specs.Rules.Heard.{meaning}
use Rattle.rules.specs.Rules.Station as R
use Rattle.rules.specs.Rules.Station.{set_clock}
use Rattle.rules.specs.Rules.Calls.{heard_on, happened_on, act}
use Rattle.requests.specs.Views.{request_of}
use Rattle.slots.specs.declared.Phase.{Phase}
use Rattle.slots.specs.declared.Slot.{Slot}
use Rattle.slots.specs.Phases.{phase_view}
use Rattle.slots.specs.Views.{dealing_of, slot_view}
use Rattle.hearing.specs.declared.Heard.{Heard}
use Rattle.hearing.specs.declared.HeardKind.{HeardKind}
use Rattle.hearing.specs.declared.HeardKind.TheVariants.{CallRequest, DataRequest, Bq, WorkingCall, EndOfCall, Declined, Nothing}
use Rattle.hearing.specs.Said.{heard_as, heard_of}
use Rattle.outcomes.specs.declared.Outcome.{Outcome}
use Rattle.outcomes.specs.Does.{out_of}
use Rattle.deciding.proofs.RuleLaws.{working-is, ship-end-is}
use Rattle.station.specs.declared.Station.{Station}
use Rattle.station.specs.Model.{model_of, config_of}
use Rattle.station.specs.Step.{slot_at}
use Rattle.station.specs.Pieces.{slot_of, own_of, out_at, by_kind}
use Rattle.station.proofs.PlaceLaws.{slot-view}
use Rattle.station.proofs.GateLaws.{passed}
use Rattle.station.proofs.StepLaws.{refused-is, queue-fits, accepted-is, slot-acts}
use Rattle.station.proofs.EventLaws.{heard-is}
use Rattle.station.proofs.Station.heard_on_slot.Goals as goal
use Rattle.station.proofs.Station.heard_on_slot.Goals.{After-by_kind-outcome}

-- ── by the kind of what was heard ────────────────────────────────────────────
kind-is : (r : R.Dealing) (q : Request) (i : ℕ) (st : R.Station) (k : HeardKind) (own : Bool) → is q.who r.request.who ≡ own → (p : Phase) → out_of i r q (by_kind k own p) st ≡ heard_on i st (phase_view p r) (heard_as k q)
unfolding out_of heard_on
kind-is r q i st CallRequest own e p = refl
kind-is r q i st DataRequest own e p = refl
kind-is r q i st (Bq j) own e p = refl
kind-is r q i st WorkingCall own e p = working-is i st r q q.who own e p
kind-is r q i st EndOfCall own e p = ship-end-is i st r q q.who own e p
kind-is r q i st Declined own e p = refl
kind-is r q i st Nothing own e p = refl

-- what is decided by it is what the rules do
acts : (s : Station) (t : Tenths) (n : ℕ) (i : SlotNumber) (x : Slot) → x ≡ slot_of s i.0 → (o : Outcome) (m : List ℕ) (h : Heard) → heard_of h ≡ meaning (config_of s) m
    → (own : Bool) → own ≡ is (request_of h.request).who (request_of x.request).who → o ≡ by_kind h.kind own x.phase
    → out_at s t i (request_of h.request) o ≡ act (config_of s) (model_of s) (record { time = t.0; room = n; what = on_slot i.0 (heard m) })
unfolding out_at own_of happened_on
acts s t n i x at o m h f own b e =
    let y = slot_of s i.0 in
    rw (e, b, at)
    (kind-is (dealing_of y) (request_of h.request) i.0 (set_clock t.0 (model_of s)) h.kind _ refl y.phase
    ∙ ap (heard_on i.0 (set_clock t.0 (model_of s)) (slot_view y)) f
    ∙ slot-acts s t.0 i.0 n (heard m) (slot_view y) (slot-view s i.0))

-- ── the needs ────────────────────────────────────────────────────────────────
abbrev event : After-by_kind-outcome → Event
event z = slot_at z.args.time.0 z.args.slot.0 (heard z.args.symbols.now) z.args.room.now

decided : (b : After-by_kind-outcome) → out_at b.args.self b.args.time b.args.slot (request_of b.in-Ok.heard.request) b.by_kind-outcome.result ≡ act (config_of b.args.self) (model_of b.args.self) (event b)
unfolding request_of
decided b =
    let x = b.args in
    acts x.self x.time (length x.room.now) x.slot _ b.slot_there-the_slot.ensures _ x.symbols.now b.in-Ok.heard
    (heard-is x.self x.symbols.now b.in-Ok.heard b.in-Ok.ensures.1.1) _ b.is_by-own.ensures b.by_kind-outcome.ensures

pub invariant_of-enact : goal.invariant_of-enact
invariant_of-enact c = let x = c.args in record { within = (passed x.self (slot_at x.time.0 x.slot.0 (heard x.symbols.now) x.room.now) c.in-Ok.ensures.0).time }

pub enact-told-requires : goal.enact-told-requires
enact-told-requires c = let b = (goal.at.enact-told-requires c).After-by_kind-outcome in
    let x = c.args in
    queue-fits x.self x.room.now (event b) refl c.in-Ok.ensures.0 _ (decided b)

pub returns-in-Err : goal.returns-in-Err
returns-in-Err c = let x = c.args in
    let r = refused-is _ _ c.looked-look.ensures _ (slot_at x.time.0 x.slot.0 (heard x.symbols.now) x.room.now) _ c.in-Err.ensures in
    record { value = c.refused.ensures ∙ r.0; room_written = r.1 }

pub returns-in-Ok : goal.returns-in-Ok
returns-in-Ok c = let b = (goal.at.returns-in-Ok c).After-by_kind-outcome in
    let x = c.args in
    let e = c.enact-told.ensures in
    let p = accepted-is x.self x.room.now (event b) refl c.in-Ok.ensures.0 _ (decided b) in
    record { value = c.beside.ensures ∙ (e.value ∙ p.0); room_written = e.room_written ∙ p.1 }
