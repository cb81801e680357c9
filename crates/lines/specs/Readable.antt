-- What a line is read as, and the record that holds it.
use Rattle.std.specs.Prelude.{cond, List, [], ◌∷◌, ◌≡◌, ℕ, ◌+◌, ◌-◌, ◌*◌, leb, eqb, length}
use Rattle.std.specs.Prelude.{Option as Optional, Some, None}
use Rattle.std.proofs.Math.Option.{Option, none, some}
use Rattle.rules.specs.Rules.Places.{all}
use Rattle.rules.specs.Rules.Bytes.{padded}
use Rattle.lines.specs.declared.Form.{Form}
use Rattle.lines.specs.declared.Form.TheVariants.{Symbols, SlotSymbols, Signalled, Operated, Called, Alone}
use Rattle.lines.specs.declared.Command.{Command}
use Rattle.lines.specs.declared.Command.TheVariants.{SetUp, Happens}
use Rattle.lines.specs.declared.line.Line.{Line}
use Rattle.lines.specs.declared.Numbers.{Numbers}
use Rattle.lines.specs.Decimal.{is_digit}
use Rattle.lines.specs.Lines.{Said, happens, letter_of, form_what, command_of, numbers_of, set_up_said, is_symbol, is_number}

-- ── the fields, byte by byte ─────────────────────────────────────────────────

-- where a reader stands: before a field's space, before its first digit, or behind digits that say v
pub data Place : Type 0 where
  between opened : Place
  inside : ℕ → Place

abbrev pub with : ℕ → Option (List ℕ) → Option (List ℕ)
with v none = none
with v (some ns) = some (v ∷ ns)

unfoldable pub scan : Place → List ℕ → Option (List ℕ)
scan between [] = some []
scan opened [] = none
scan (inside v) [] = some (v ∷ [])
scan between (b ∷ t) = cond (eqb b 32) (scan opened t) none
scan opened (b ∷ t) = cond (is_digit b) (scan (inside (b - 48)) t) none
scan (inside v) (b ∷ t) =
    cond (is_digit b)
    (cond (is_number (v * 10 + (b - 48))) (scan (inside (v * 10 + (b - 48))) t) none)
    (cond (eqb b 32) (with v (scan opened t)) none)

-- ── the fields of a command ──────────────────────────────────────────────────

abbrev pub says_set_up : List ℕ → Option Said
says_set_up [] = none
says_set_up (n ∷ channels) = some (set_up_said n channels)

-- "a symbol over 255 .. : 40"
abbrev pub of_symbols : List ℕ → Said → Option Said
of_symbols symbols said = cond (all is_symbol symbols) (some said) none

-- a time with symbols, with a slot and symbols, with a slot, with a ship, mode and digits, and by itself
abbrev pub says_symbols : Form → List ℕ → Option Said
says_symbols f [] = none
says_symbols f (time ∷ symbols) = of_symbols symbols (happens time (form_what f 0 symbols))

abbrev pub says_slot_symbols : Form → List ℕ → Option Said
says_slot_symbols f [] = none
says_slot_symbols f (time ∷ []) = none
says_slot_symbols f (time ∷ slot ∷ symbols) = of_symbols symbols (happens time (form_what f slot symbols))

abbrev pub says_slot : Form → List ℕ → Option Said
says_slot f [] = none
says_slot f (time ∷ []) = none
says_slot f (time ∷ slot ∷ []) = some (happens time (form_what f slot []))
says_slot f (time ∷ slot ∷ more ∷ rest) = none

abbrev pub says_call : Form → List ℕ → Option Said
says_call f [] = none
says_call f (time ∷ []) = none
says_call f (time ∷ ship ∷ []) = none
says_call f (time ∷ ship ∷ mode ∷ digits) = some (happens time (form_what f ship (mode ∷ digits)))

abbrev pub says_time : Form → List ℕ → Option Said
says_time f [] = none
says_time f (time ∷ []) = some (happens time (form_what f 0 []))
says_time f (time ∷ more ∷ rest) = none

abbrev pub says_form : Form → List ℕ → Option Said
says_form Symbols ns = says_symbols Symbols ns
says_form SlotSymbols ns = says_slot_symbols SlotSymbols ns
says_form (Signalled g) ns = says_slot (Signalled g) ns
says_form (Operated h) ns = says_slot (Operated h) ns
says_form Called ns = says_call Called ns
says_form Alone ns = says_time Alone ns

abbrev pub says : Command → List ℕ → Option Said
says SetUp ns = says_set_up ns
says (Happens f) ns = says_form f ns

abbrev pub says_of : Optional Command → Option (List ℕ) → Option Said
says_of None ns = none
says_of (Some command) none = none
says_of (Some command) (some ns) = says command ns

abbrev pub line_says : List ℕ → Option Said
line_says [] = none
line_says (letter ∷ rest) = says_of (command_of letter) (scan between rest)

-- "one over 200 characters .. : 40"
abbrev pub longest_line : ℕ
longest_line = 200

unfoldable pub reads_as : List ℕ → Option Said
reads_as text = cond (leb (length text) longest_line) (line_says text) none

-- ── as records ───────────────────────────────────────────────────────────────

-- the numbers of a line, of which there are at most 99
abbrev pub numbers_image : Option (List ℕ) → Optional Numbers
numbers_image none = None
numbers_image (some ns) = Some (record { count = length ns; all = padded 0 100 ns })

pub record HoldsSaid (line : Line) (said : Said) : Type 0 where
  pub command : Some line.command ≡ command_of (letter_of said)
  pub count : line.count ≡ length (numbers_of said)
  pub numbers : line.numbers ≡ padded 0 100 (numbers_of said)

-- a line is handed back where a line says something, and it holds that
abbrev pub ReadAs : Optional Line → Option Said → Type 0
ReadAs None none = Unit {0}
ReadAs None (some said) = ⊥
ReadAs (Some line) none = ⊥
ReadAs (Some line) (some said) = HoldsSaid line said
