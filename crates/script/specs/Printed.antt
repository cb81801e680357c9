-- A transcript is the decimal text of what the rules print, line for line, whatever the script says.
use Rattle.std.specs.Prelude.{cond, ◌≡◌, ℕ, eqb}
use mathlib.Core.List.{List, [], ◌∷◌, ◌++◌, map, flat_map}
use Rattle.std.proofs.Math.Option.{Option, none, some}
use Rattle.rules.specs.Rules.Places.{Each}
use Rattle.rules.specs.Rules.Words.{Config, What, Event}
use Rattle.rules.specs.Rules.Station.{Station, fresh}
use Rattle.rules.specs.Rules.Requests.{Out, done}
use Rattle.rules.specs.Rules.Verdict.{set_up_verdict, room_needed, step}
use Rattle.rules.specs.Rules.Printed.{lines, printed}
use Rattle.lines.specs.Lines.{Asked, Said, sets_up, happens}
use Rattle.lines.specs.Readable.{reads_as}
use Rattle.printing.specs.Statement.{rows_text}
use Rattle.script.specs.Answering.{asked_for}
use Rattle.script.specs.Transcript.{transcript}

-- ── the lines of a script, and what each says ────────────────────────────────

-- a last line needs no line feed; nothing after the last line feed is no line
abbrev pub last_said : List ℕ → List (Option Said)
last_said [] = []
last_said (b ∷ line) = reads_as (b ∷ line) ∷ []

-- with a line so far
unfoldable pub said_in : List ℕ → List ℕ → List (Option Said)
said_in line [] = last_said line
said_in line (b ∷ script) = cond (eqb b 10) (reads_as line ∷ said_in [] script) (said_in (line ++ (b ∷ [])) script)

-- ── what the rules print of them ─────────────────────────────────────────────

-- a script lends the room that an event needs
abbrev pub event_of : ℕ → What → Event
event_of time what = record { time = time; room = room_needed; what = what }

abbrev pub nothing_but : ℕ → Station → Out
nothing_but answer st = record { answer = answer; next = st; acts = [] }

-- a line where a station stands: "40, tested first"; "an S when one stands: 41"; or an event
abbrev pub out_of : Config → Station → Option Said → Out
out_of c st none = nothing_but 40 st
out_of c st (some (sets_up a)) = nothing_but 41 st
out_of c st (some (happens time what)) = step c st (event_of time what)

unfoldable pub printed_on : Config → Station → List (Option Said) → List (List (List ℕ))
printed_on c st [] = []
printed_on c st (said ∷ more) = lines c (out_of c st said) ∷ printed_on c (out_of c st said).next more

-- "Without a station the rest is `0 0 -`"
abbrev pub no_station : ℕ → List (List ℕ)
no_station answer = (answer ∷ 0 ∷ 0 ∷ []) ∷ []

-- a set-up by its verdict: the fresh station and what follows, or the number and what follows without one
abbrev pub printed_after : Config → List (Option Said) → List (List (List ℕ)) → Option ℕ → List (List (List ℕ))
printed_after c more unset none = lines c (done (fresh c)) ∷ printed_on c (fresh c) more
printed_after c more unset (some n) = no_station n ∷ unset

-- up to a set-up that is not refused: 40; "No station yet": 41; 36
unfoldable pub printed_from : List (Option Said) → List (List (List ℕ))
printed_from [] = []
printed_from (none ∷ more) = no_station 40 ∷ printed_from more
printed_from (some (happens time what) ∷ more) = no_station 41 ∷ printed_from more
printed_from (some (sets_up a) ∷ more) = printed_after (asked_for a) more (printed_from more) (set_up_verdict (asked_for a))

-- ── what is claimed ──────────────────────────────────────────────────────────

-- of every script
unfoldable pub TranscriptIsPrinted : Type 0
TranscriptIsPrinted = (script : List ℕ) → transcript script ≡ flat_map rows_text (printed_from (said_in [] script))

-- so of a set-up that is not refused and then events: the very list that `printed` has of them
abbrev pub says_event : Event → Option Said
says_event e = some (happens e.time e.what)

abbrev pub RoomNeeded : Event → Type 0
RoomNeeded e = e.room ≡ room_needed

unfoldable pub EventsArePrinted : Type 0
EventsArePrinted = (script : List ℕ) (a : Asked) (es : List Event) → Each RoomNeeded es
    → set_up_verdict (asked_for a) ≡ none → said_in [] script ≡ some (sets_up a) ∷ map says_event es
    → transcript script
    ≡ rows_text (lines (asked_for a) (done (fresh (asked_for a)))) ++ flat_map rows_text (printed (asked_for a) es (fresh (asked_for a)))
