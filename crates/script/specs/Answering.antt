-- "40, tested first. No station yet, or an S when one stands: 41. Without a station the rest is `0 0 -`."
use Rattle.std.specs.Prelude.{List, ℕ, replicate, Result, Ok, Err}
use Rattle.std.specs.Prelude.{Option as Optional, Some, None}
use Rattle.std.proofs.Math.Option.{Option, none, some}
use Rattle.rules.specs.Rules.Words.{Config, Event}
use Rattle.rules.specs.Rules.Station.{next_due}
use Rattle.rules.specs.Rules.Verdict.{room_needed}
use Rattle.slots.specs.Images.{tenths}
use Rattle.units.specs.declared.Tenths.{Tenths}
use Rattle.lines.specs.Lines.{Asked, Said, sets_up, happens}
use Rattle.gate.specs.declared.Refusal.{Refusal}
use Rattle.gate.specs.Asked.{refusal_number}
use Rattle.station.specs.declared.Stepped.{Stepped}
use Rattle.station.specs.declared.Station.{Station}
use Rattle.station.specs.Model.{model_of}
use Rattle.station.specs.Step.{event_at, due_image, stepped_by, room_after, given, set_up_of}
use Rattle.printing.specs.Replies.{reply_text}
use Rattle.script.specs.declared.Handled.{Handled}

-- "No station yet", or one that stands
abbrev pub Desk : Type 0
Desk = Optional Station

-- ── what becomes of the station ──────────────────────────────────────────────

abbrev pub unchanged : Desk → ℕ → Handled
unchanged d answer = record { answer = answer; count = 0; desk = d }

-- after a refused set-up no station stands
abbrev pub after_set_up : Result Station Refusal → Handled
after_set_up (Ok s) = record { answer = 0; count = 0; desk = Some s }
after_set_up (Err r) = unchanged None (refusal_number r)

abbrev pub after_event : Stepped → Handled
after_event stepped = record { answer = stepped.answer; count = stepped.count; desk = Some stepped.station }

-- what a set-up asks for, in the words of the rules
abbrev pub asked_for : Asked → Config
asked_for asked = given asked.identity asked.channels

abbrev pub set_up_on : Desk → Asked → Handled
set_up_on None asked = after_set_up (set_up_of (asked_for asked))
set_up_on (Some s) asked = unchanged (Some s) 41

abbrev pub event_on : Desk → Event → Handled
event_on None e = unchanged None 41
event_on (Some s) e = after_event (stepped_by s e)

abbrev pub handled_for : Desk → List ℕ → Option Said → Handled
handled_for d room none = unchanged d 40
handled_for d room (some (sets_up a)) = set_up_on d a
handled_for d room (some (happens time what)) = event_on d (event_at time what room)

-- ── the actions ──────────────────────────────────────────────────────────────

abbrev pub blocks_on : Desk → List ℕ → Event → List ℕ
blocks_on None room e = room
blocks_on (Some s) room e = room_after s room e

abbrev pub blocks_for : Desk → List ℕ → Option Said → List ℕ
blocks_for d room none = room
blocks_for d room (some (sets_up a)) = room
blocks_for d room (some (happens time what)) = blocks_on d room (event_at time what room)

-- ── what is printed ──────────────────────────────────────────────────────────

abbrev pub clock_of : Desk → Tenths
clock_of None = tenths 0
clock_of (Some s) = s.clock

abbrev pub due_of : Desk → Optional Tenths
due_of None = None
due_of (Some s) = due_image (next_due (model_of s))

abbrev pub shown_for : Handled → List ℕ → List ℕ
shown_for h blocks = reply_text h.answer (clock_of h.desk).0 h.count (due_of h.desk) blocks

-- the room that is needed, all zero, is lent to each event
abbrev pub no_blocks : List ℕ
no_blocks = replicate room_needed 0

unfoldable pub desk_after : Desk → Option Said → Desk
desk_after d said = (handled_for d no_blocks said).desk

unfoldable pub reply_to : Desk → Option Said → List ℕ
reply_to d said = shown_for (handled_for d no_blocks said) (blocks_for d no_blocks said)
