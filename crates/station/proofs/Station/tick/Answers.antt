use Prim.Native.Nat.{ℕ, ◌≤◌}
use mathlib.Core.Bool.{Bool, true, false, cond}
use mathlib.Core.Option.{Option, none, some}
use Rattle.std.specs.Prelude.{Option as Optional, Some, None}
use mathlib.Core.Path.{◌≡◌, refl, ap, ◌∙◌}
use native.Mathlib.Omega.{arith}
use lib.Dec.{leb}
use lib.ListN.{length}
use borrow.Author.Tests.{leb-true}
use Rattle.units.specs.declared.SlotNumber.{SlotNumber}
use Rattle.units.specs.declared.Tenths.{Tenths}
use Rattle.rules.specs.Rules.Words.{Request, tick, Event}
use Rattle.rules.specs.Rules.Waits as T
use Rattle.rules.specs.Rules.Waits.{earliest, if_due}
use Rattle.rules.specs.Rules.Station as R
use Rattle.rules.specs.Rules.Station.{the_slot, set_clock, table, fires}
use Rattle.rules.specs.Rules.Calls.{fire, ticked, act_at, act}
use Rattle.requests.specs.Views.{request_of}
use Rattle.slots.specs.declared.Phase.{Phase}
use Rattle.slots.specs.declared.Slot.{Slot}
use Rattle.slots.specs.declared.Wait.{Wait}
use Rattle.slots.specs.declared.Wait.TheVariants.{Entry, Loss, Main}
use Rattle.slots.specs.declared.Due.{Due}
use Rattle.slots.specs.Phases.{phase_view}
use Rattle.slots.specs.Views.{dealing_of, wait_view, due_view}
use Rattle.outcomes.specs.declared.Outcome.{Outcome}
use Rattle.outcomes.specs.Does.{out_of}
use Rattle.deciding.proofs.RuleLaws.{coast-end-is, main-due-is, drops-is, passes-is}
use Rattle.station.specs.declared.Station.{Station}
use Rattle.station.specs.Model.{model_of, config_of}
use Rattle.station.specs.Step.{event_at, refusal}
use Rattle.station.specs.Pieces.{slot_of, own_of, out_at, wait_slot, due_slot, moment, by_wait, by_due}
use Rattle.station.proofs.PlaceLaws.{slot-view}
use Rattle.station.proofs.GateLaws.{passed, asked-always}
use Rattle.station.proofs.StepLaws.{refused-is, queue-fits, accepted-is}
use Rattle.station.proofs.Station.tick.Goals as goal
use Rattle.station.proofs.Station.tick.Goals.{After-by_due-outcome}

-- ── the wait that fires ──────────────────────────────────────────────────────
-- what fires is due
moment-due : (d : Optional Due) (t : Tenths) (e : Option T.Due) → due_view d ≡ if_due t.0 e → (moment d t).0 ≤ t.0
moment-due None t e h = omega arith
moment-due (Some d) t none h = let y : ◌≡◌ {A = ℕ} 0 1 = cc in absurd (omega arith)
moment-due (Some d) t (some p) h = go (leb p.at t.0) refl h
  where
    go : (b : Bool) → leb p.at t.0 ≡ b → due_view (Some d) ≡ cond b (some p) none → d.at.0 ≤ t.0
    go true e k =
        let y : ◌≡◌ {A = T.Due} (record { what = wait_view d.wait; at = d.at.0 }) p = cc in
        let z : d.at.0 ≡ p.at = ap (λ (x : T.Due). x.at) y in
        rw z (leb-true p.at t.0 e)
    go false e k = let y : ◌≡◌ {A = ℕ} 0 1 = cc in absurd (omega arith)

module _ (m : R.Station) (r : R.Dealing) (q : Request) where
  wait-is : (st : R.Station) (w : Wait) (p : Phase) → phase_view p r ≡ the_slot st (wait_slot w).0 → out_of (wait_slot w).0 r q (by_wait w p) st ≡ fire st (wait_view w)
  unfolding fire
  wait-is st (Entry k) p e = drops-is 0 st r q k
  wait-is st (Loss i) p e = coast-end-is i.0 st r q p ∙ rw e refl
  wait-is st (Main i) p e = main-due-is i.0 st r q p ∙ rw e refl

  due-is : (d : Optional Due) (t : Tenths) (p : Phase) → phase_view p r ≡ the_slot m (due_slot d).0 → out_of (due_slot d).0 r q (by_due d p) (set_clock (moment d t).0 m) ≡ ticked m t.0 (due_view d)
  unfolding set_clock ticked
  due-is None t p e = passes-is 0 m r q t.0
  due-is (Some d) t p e = wait-is (set_clock d.at.0 m) d.wait p e

-- what is decided by it is what the rules do
acts : (s : Station) (t : Tenths) (n : ℕ) (first d : Optional Due) → due_view first ≡ earliest (table (model_of s)) → due_view d ≡ if_due t.0 (due_view first)
    → (u : Tenths) → u ≡ moment d t → (i : SlotNumber) → i ≡ due_slot d → (x : Slot) → x ≡ slot_of s i.0 → (q : Request) (o : Outcome) → o ≡ by_due d x.phase
    → out_at s u i q o ≡ act (config_of s) (model_of s) (record { time = t.0; room = n; what = tick })
unfolding out_at own_of act_at fires
acts s t n first d f k u eu i ei x at q o e =
    let y = slot_of s (due_slot d).0 in
    rw (e, at, ei, eu)
    (due-is (model_of s) (dealing_of y) q d t y.phase (slot-view s (due_slot d).0) ∙ ap (ticked (model_of s) t.0) (k ∙ ap (if_due t.0) f))

-- ── the needs ────────────────────────────────────────────────────────────────
abbrev event : After-by_due-outcome → Event
event z = event_at z.args.time.0 tick z.args.room.now

accepted : (b : After-by_due-outcome) → none ≡ refusal b.args.self (event b)
accepted b = b.in-Ok.ensures ∙ asked-always _ _ b.looked-look.ensures _ _ tick refl

decided : (b : After-by_due-outcome) → out_at b.args.self b.moment.result b.due_slot-slot.result (request_of b.slot_there-the_slot.result.request) b.by_due-outcome.result ≡ act (config_of b.args.self) (model_of b.args.self) (event b)
decided b =
    let x = b.args in
    acts x.self x.time (length x.room.now) b.looked-look.result.due b.due_by-due.result b.looked-look.ensures.first b.due_by-due.ensures
    _ b.moment.ensures _ b.due_slot-slot.ensures _ b.slot_there-the_slot.ensures _ _ b.by_due-outcome.ensures

pub invariant_of-now : goal.invariant_of-now
invariant_of-now c = let x = c.args in
    let a = c.in-Ok.ensures ∙ asked-always _ _ c.looked-look.ensures _ _ tick refl in
    record { within = rw c.moment.ensures (omega (arith, moment-due c.due_by-due.result x.time (due_view c.looked-look.result.due) c.due_by-due.ensures, (passed x.self (event_at x.time.0 tick x.room.now) a).time)) }

pub enact-told-requires : goal.enact-told-requires
enact-told-requires c = let b = (goal.at.enact-told-requires c).After-by_due-outcome in
    let x = c.args in queue-fits x.self x.room.now (event b) refl (accepted b) _ (decided b)

pub returns-in-Err : goal.returns-in-Err
returns-in-Err c = let sees = c.looked-look.ensures in
    let r = refused-is _ _ sees _ (event_at c.args.time.0 tick c.args.room.now) _ (c.in-Err.ensures ∙ asked-always _ _ sees _ _ tick refl) in
    record { value = c.refused.ensures ∙ r.0; room_written = r.1 }

pub returns-in-Ok : goal.returns-in-Ok
returns-in-Ok c = let b = (goal.at.returns-in-Ok c).After-by_due-outcome in
    let x = c.args in
    let e = c.enact-told.ensures in
    let p = accepted-is x.self x.room.now (event b) refl (accepted b) _ (decided b) in
    record { value = c.beside.ensures ∙ (e.value ∙ p.0); room_written = e.room_written ∙ p.1 }
