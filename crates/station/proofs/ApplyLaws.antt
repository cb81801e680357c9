-- What an outcome leaves of the slots, of the queue and of the clock.
use Prim.Native.Nat.{ℕ}
use mathlib.Core.Path.{◌≡◌, refl, sym, ap, ◌∙◌}
use Rattle.units.specs.declared.CallNumber.{CallNumber}
use Rattle.rules.specs.Rules.Station as R
use Rattle.rules.specs.Rules.Station.{set_slot, number_after, new_call, set_queue, set_clock}
use Rattle.outcomes.specs.declared.Outcome.{Outcome}
use Rattle.outcomes.specs.declared.Turn.{Turn}
use Rattle.outcomes.specs.declared.Turn.TheVariants.{Stays, Own, Asked, Oldest}
use Rattle.outcomes.specs.declared.QueueChange.{QueueChange}
use Rattle.outcomes.specs.declared.QueueChange.TheVariants as L
use Rattle.outcomes.specs.Does.{Scene, time_of, turn_of, queue_change, turned, last_after, requeued, applied}

pub turned-queue : (sc : Scene) (w : Turn) (st : R.Station) → (turned sc w st).queue ≡ st.queue
unfolding turned set_slot new_call
turned-queue sc Stays st = refl
turned-queue sc (Own p) st = refl
turned-queue sc (Asked p) st = refl
turned-queue sc (Oldest p) st = refl

turned-clock : (sc : Scene) (w : Turn) (st : R.Station) → (turned sc w st).clock ≡ st.clock
unfolding turned set_slot new_call
turned-clock sc Stays st = refl
turned-clock sc (Own p) st = refl
turned-clock sc (Asked p) st = refl
turned-clock sc (Oldest p) st = refl

requeued-clock : (sc : Scene) (l : QueueChange) (st : R.Station) → (requeued sc l st).clock ≡ st.clock
unfolding requeued set_queue
requeued-clock sc L.Same st = refl
requeued-clock sc (L.Leaves k) st = refl
requeued-clock sc (L.Joins d) st = refl
requeued-clock sc (L.Replaces k) st = refl

pub requeued-last : (sc : Scene) (l : QueueChange) (st : R.Station) → (requeued sc l st).last_call ≡ st.last_call
unfolding requeued set_queue
requeued-last sc L.Same st = refl
requeued-last sc (L.Leaves k) st = refl
requeued-last sc (L.Joins d) st = refl
requeued-last sc (L.Replaces k) st = refl

pub requeued-slots : (sc : Scene) (l : QueueChange) (st : R.Station) → (requeued sc l st).slots ≡ st.slots
unfolding requeued set_queue
requeued-slots sc L.Same st = refl
requeued-slots sc (L.Leaves k) st = refl
requeued-slots sc (L.Joins d) st = refl
requeued-slots sc (L.Replaces k) st = refl

-- the last number given, where the station st is so turned
pub turned-last : (sc : Scene) (w : Turn) (st : R.Station) (last : CallNumber) → last.0 ≡ st.last_call → (last_after last w).0 ≡ (turned sc w st).last_call
unfolding turned set_slot new_call
turned-last sc Stays st last e = e
turned-last sc (Own p) st last e = e
turned-last sc (Asked p) st last e = ap number_after e
turned-last sc (Oldest p) st last e = ap number_after e

pub clock-set : (t : ℕ) (st : R.Station) → st.clock ≡ t → set_clock t st ≡ st
unfolding set_clock
clock-set t st e = rw (← e)

same-station : (a b : R.Station) → a.clock ≡ b.clock → a.slots ≡ b.slots → a.queue ≡ b.queue → a.last_call ≡ b.last_call → a ≡ b
same-station a b p q r l =
    ap (λ z. record { clock = z; slots = a.slots; queue = a.queue; last_call = a.last_call }) p
    ∙ ap (λ z. record { clock = b.clock; slots = z; queue = a.queue; last_call = a.last_call }) q
    ∙ ap (λ z. record { clock = b.clock; slots = b.slots; queue = z; last_call = a.last_call }) r
    ∙ ap (λ z. record { clock = b.clock; slots = b.slots; queue = b.queue; last_call = z }) l

-- a station whose slots and queue are so changed
pub moved-is : (sc : Scene) (o : Outcome) (st m : R.Station) → m.clock ≡ st.clock
    → m.slots ≡ (turned sc (turn_of (time_of st) sc.ringable o) (requeued sc (queue_change (time_of st) sc.ringable o) st)).slots → m.queue ≡ (requeued sc (queue_change (time_of st) sc.ringable o) st).queue
    → m.last_call ≡ (turned sc (turn_of (time_of st) sc.ringable o) (requeued sc (queue_change (time_of st) sc.ringable o) st)).last_call
    → m ≡ (applied sc o st).next
unfolding applied
moved-is sc o st m a b c d =
    same-station m _ (a ∙ sym (turned-clock sc _ (requeued sc _ st) ∙ requeued-clock sc _ st)) b (c ∙ sym (turned-queue sc _ (requeued sc _ st))) d
