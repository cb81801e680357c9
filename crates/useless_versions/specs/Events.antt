-- The events: the method of each has no useless version.
use Rattle.std.specs.Prelude.{ℕ, zero, suc, ◌≡◌, cond, List, map, eqb, take, drop, replicate}
use Rattle.rules.specs.Rules.Words.{Config, Signal, Hand, Happened, heard, signal, operator, What, tick, on_channel70, on_slot}
use Rattle.rules.specs.Rules.Words.{from_ashore, Event}
use Rattle.rules.specs.Rules.Bytes.{block_size}
use Rattle.station.specs.declared.Station.{Station}
use Rattle.station.specs.declared.Stepped.{Stepped}
use Rattle.station.specs.Step.{event_at}
use Rattle.station_theorems.specs.Rooms.{kind_in}
use Rattle.station_theorems.specs.Steps.{Step, step_of, Allowed, Trace, last_of}
use Rattle.useless_versions.specs.Versions.{Signs, NoUselessVersion}

-- ── the methods ──────────────────────────────────────────────────────────────

pub data Method : Type 0 where
  heard-on-channel-70 heard-on-slot call-from-ashore on-tick : Method
  signalled : Signal → Method  -- one for each signal
  handled : Hand → Method  -- and of the two

abbrev pub method_on : Happened → Method
method_on (heard m) = heard-on-slot
method_on (signal g) = signalled g
method_on (operator h) = handled h

abbrev pub method_of : What → Method
method_of tick = on-tick
method_of (on_channel70 m) = heard-on-channel-70
method_of (on_slot i h) = method_on h
method_of (from_ashore a) = call-from-ashore

-- ── a call, and what it hands back ───────────────────────────────────────────

pub record Call : Type 0 where
  pub time : ℕ
  pub what : What
  pub before : Station
  pub lent : List ℕ  -- the room for the actions

pub record Back : Type 0 where
  pub stepped : Stepped
  pub left : List ℕ  -- what the room then holds

abbrev pub event_of : Call → Event
event_of x = event_at x.time x.what x.lent

abbrev pub step_by : Call → Back → Step
step_by x y = step_of (event_of x) x.before x.lent y.stepped y.left

abbrev pub call_in : Step → Call
call_in s = record { time = s.event.time; what = s.event.what; before = s.before; lent = s.lent }

-- the method's own contract allows what is handed back; nothing is asked of the others
abbrev pub Meets : Method → Call → Back → Type 0
Meets k x y = method_of x.what ≡ k → Allowed (step_by x y)

-- a call of the method on the station that a trace from set-up handed back last
pub record Comes (k : Method) (past : List Call) (x : Call) : Type 0 where
  pub method : method_of x.what ≡ k
  pub config : Config
  pub steps : List Step
  pub trace : Trace config steps
  pub before : map call_in steps ≡ past
  pub handed : x.before ≡ last_of trace.first steps

-- ── the signs ────────────────────────────────────────────────────────────────

-- the blocks at the front of a room that have a kind, of n at most
unfoldable pub laid_in : ℕ → List ℕ → ℕ
laid_in zero room = 0
laid_in (suc n) room = cond (eqb (kind_in (take block_size room)) 0) 0 (suc (laid_in n (drop block_size room)))

-- lent a room of zeros, the method tells another count than that of the blocks it laid
pub record Miscounted (k : Method) (x : Call) (y : Back) : Type 0 where
  pub method : method_of x.what ≡ k
  pub size : ℕ
  pub zeros : x.lent ≡ replicate size 0
  pub other : y.stepped.count ≡ laid_in 8 y.left → ⊥

-- nothing done: no slot changed, whatever became of the clock
abbrev pub signs : Method → Signs Call Back
signs k = record {
  answer = λ y. y.stepped.answer;
  idle = λ x y. y.stepped.station.slots ≡ x.before.slots;
  miscounted = Miscounted k;
}

unfoldable pub NoUselessEvent : Type 0
NoUselessEvent = (k : Method) → NoUselessVersion (Comes k) (signs k) (Meets k)
