-- What the station's entries for a host in C return and leave, over the definitions of `station`.
use Rattle.std.specs.Prelude.{ℕ, ◌+◌, ◌*◌, cond, ◌&&◌, Option as Optional, Some, None, Result, Ok, Err, List, leb}
use Rattle.units.specs.declared.Tenths.{Tenths}
use Rattle.rules.specs.Rules.Words.{Config, Event}
use Rattle.rules.specs.Rules.Sound.{sound}
use Rattle.gate.specs.declared.Refusal.{Refusal}
use Rattle.gate.specs.Asked.{refusal_number}
use Rattle.station.specs.declared.Station.{Station}
use Rattle.station.specs.declared.Stepped.{Stepped}
use Rattle.rules.specs.Rules.Station.{next_due}
use Rattle.station.specs.Model.{model_of, config_of}
use Rattle.station.specs.Step.{records_keep, due_image, stepped_by, room_after, set_up_of}
use Rattle.lent_layout.specs.Stations.{sized, station_from, station_laid}

-- ── what an event returns and leaves ─────────────────────────────────────────

-- one number: the answer, 256 times the count, 65536 where a wait runs, and 4294967296 times the time at which it falls due
abbrev pub due_number : Optional Tenths → ℕ
due_number None = 0
due_number (Some t) = 65536 + 4294967296 * t.0

unfoldable pub packed : Stepped → ℕ
packed r = r.answer + 256 * r.count + due_number r.due

-- an event answered 0 or 1 leaves the next station's bytes; with any other answer they stay
unfoldable pub kept : List ℕ → Stepped → List ℕ
kept b r = cond (leb r.answer 1) (station_laid r.station b) b

unfoldable pub returned : List ℕ → Event → ℕ
returned b e = packed (stepped_by (station_from b) e)

unfoldable pub station_after : List ℕ → Event → List ℕ
station_after b e = kept b (stepped_by (station_from b) e)

unfoldable pub room_left : List ℕ → List ℕ → Event → List ℕ
room_left b room e = room_after (station_from b) room e

-- ── set-up, the next due time and the clock ────────────────────────────────────────────

-- refused, 23, where the lent bytes have another size, which is tested first; then 36
abbrev pub set_up_answer : Result Station Refusal → ℕ
set_up_answer (Ok s) = 0
set_up_answer (Err r) = refusal_number r

abbrev pub set_up_leaves : Result Station Refusal → List ℕ → List ℕ
set_up_leaves (Ok s) b = station_laid s b
set_up_leaves (Err r) b = b

unfoldable pub set_up_returned : Config → List ℕ → ℕ
set_up_returned c b = cond (sized b) (set_up_answer (set_up_of c)) 23

unfoldable pub station_set_up : Config → List ℕ → List ℕ
station_set_up c b = set_up_leaves (set_up_of c) b

-- refused, 29, where the station is not sound
unfoldable pub due_returned : Station → ℕ
due_returned s = cond (records_keep s && sound (config_of s) (model_of s)) (due_number (due_image (next_due (model_of s)))) 29

-- the clock stands where an event's next due time does
unfoldable pub clock_returned : Station → ℕ
clock_returned s = cond (records_keep s && sound (config_of s) (model_of s)) (4294967296 * s.clock.0) 29
