-- The entries that a host in C calls for the events: none of them has a useless version.
use Rattle.std.specs.Prelude.{ℕ, ◌/◌, ◌%◌, ◌≡◌, List, map, replicate}
use Rattle.rules.specs.Rules.Words.{Config, What, Event}
use Rattle.station.specs.Step.{event_at}
use Rattle.lent_layout.specs.Stations.{station_from}
use Rattle.host_theorems.specs.Calls as Host
use Rattle.host_theorems.specs.Calls.{call_of, Entered, HostRun, last_of}
use Rattle.useless_versions.specs.Versions.{Signs, NoUselessVersion}
use Rattle.useless_versions.specs.Events.{Method, method_of, laid_in}

-- what a host hands in, and what it gets
pub record Call : Type 0 where
  pub time : ℕ
  pub what : What
  pub station : List ℕ  -- the station's bytes
  pub lent : List ℕ  -- the room for the actions

pub record Back : Type 0 where
  pub number : ℕ
  pub kept : List ℕ  -- the station's bytes afterwards
  pub left : List ℕ  -- what the room then holds

abbrev pub event_of : Call → Event
event_of x = event_at x.time x.what x.lent

abbrev pub call_by : Call → Back → Host.Call
call_by x y = call_of (event_of x) x.station x.lent y.number y.kept y.left

abbrev pub call_in : Host.Call → Call
call_in s = record { time = s.event.time; what = s.event.what; station = s.station; lent = s.lent }

-- the entry's own contract allows what is returned and left
abbrev pub Meets : Method → Call → Back → Type 0
Meets k x y = method_of x.what ≡ k → Entered (call_by x y)

-- a call of the entry on the bytes that a host's run from set-up was left last
pub record Comes (k : Method) (past : List Call) (x : Call) : Type 0 where
  pub method : method_of x.what ≡ k
  pub config : Config
  pub calls : List Host.Call
  pub run : HostRun config calls
  pub before : map call_in calls ≡ past
  pub handed : x.station ≡ last_of run.first calls

-- lent a room of zeros, the entry tells another count than that of the blocks it laid
pub record Miscounted (k : Method) (x : Call) (y : Back) : Type 0 where
  pub method : method_of x.what ≡ k
  pub size : ℕ
  pub zeros : x.lent ≡ replicate size 0
  pub other : y.number / 256 % 256 ≡ laid_in 8 y.left → ⊥

-- answer and count as the header takes them; nothing done: the bytes stand for a station with the same slots
abbrev pub signs : Method → Signs Call Back
signs k = record {
  answer = λ y. y.number % 256;
  idle = λ x y. (station_from y.kept).slots ≡ (station_from x.station).slots;
  miscounted = Miscounted k;
}

unfoldable pub NoUselessEntry : Type 0
NoUselessEntry = (k : Method) → NoUselessVersion (Comes k) (signs k) (Meets k)
