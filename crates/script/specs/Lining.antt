-- What a line says, out of the record that it was read into.
use Rattle.std.specs.Prelude.{List, [], ◌∷◌, map, ℕ, ◌-◌, ◌%◌, min, get_or, take, drop}
use Rattle.std.specs.Prelude.{Option as Optional, Some, None}
use Rattle.std.proofs.Math.Option.{Option, none, some}
use Rattle.rules.specs.Rules.Words.{Config, What, Event}
use Rattle.lines.specs.declared.Form.{Form}
use Rattle.lines.specs.declared.Form.TheVariants.{Symbols, SlotSymbols, Signalled, Operated, Called, Alone}
use Rattle.lines.specs.declared.Command.{Command}
use Rattle.lines.specs.declared.Command.TheVariants.{SetUp, Happens}
use Rattle.lines.specs.declared.line.Line.{Line}
use Rattle.lines.specs.Lines.{Said, happens, form_what, set_up_said}
use Rattle.station.specs.Step.{event_at, given}

abbrev pub byte_of : ℕ → ℕ
byte_of n = n % 256

-- the first count elements, from a place on
abbrev pub part : ℕ → ℕ → List ℕ → List ℕ
part from count l = take (count - min from count) (drop (min from count) l)

abbrev pub symbols_from : ℕ → ℕ → List ℕ → List ℕ
symbols_from from count l = part from count (map byte_of l)

-- what stands behind the time and the slot: symbols; of a call behind the ship its mode, and the digits as they are
abbrev pub behind : Form → ℕ → List ℕ → List ℕ
behind Symbols count l = symbols_from 1 count l
behind SlotSymbols count l = symbols_from 2 count l
behind (Signalled g) count l = []
behind (Operated h) count l = []
behind Called count l = get_or l 2 0 ∷ part 3 count l
behind Alone count l = []

abbrev pub what_of : Form → ℕ → List ℕ → What
what_of f count l = form_what f (get_or l 1 0) (behind f count l)

abbrev pub line_what : Form → Line → What
line_what f line = what_of f line.count line.numbers

abbrev pub line_event : Form → Line → List ℕ → Event
line_event f line room = event_at (get_or line.numbers 0 0) (line_what f line) room

-- what a set-up line asks for, in the words of the rules
abbrev pub line_asks : Line → Config
line_asks line = given (get_or line.numbers 0 0) (part 1 line.count line.numbers)

abbrev pub command_said : Command → Line → Option Said
command_said SetUp line = some (set_up_said (get_or line.numbers 0 0) (part 1 line.count line.numbers))
command_said (Happens f) line = some (happens (get_or line.numbers 0 0) (line_what f line))

unfoldable pub line_said : Optional Line → Option Said
line_said None = none
line_said (Some line) = command_said line.command line
