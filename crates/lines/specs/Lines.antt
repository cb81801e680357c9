-- The lines of an event: "S identity channels; Q time symbols; W time slot symbols; then time and slot: U up, D down, O off-hook,
-- H on-hook, M take, F give back; T time"; of document 02, no. 1: "letter P, time and slot", no. 2: "letter C: time, ship, mode, the
-- caller's digits one by one".
use Rattle.std.specs.Prelude.{Bool, true, cond, ◌&&◌, List, [], ◌∷◌, ◌++◌, map, ◌≡◌, ℕ, leb, eqb, get_or, drop}
use Rattle.std.specs.Prelude.{Option as Optional, Some, None}
use Rattle.rules.specs.Rules.Places.{all}
use Rattle.rules.specs.Rules.Words.{Happened, heard, signal, operator, What, tick, on_channel70, on_slot, from_ashore}
use Rattle.rules.specs.Rules.Words.{line_dialled_out, line_lifted, line_hung, carrier_heard, carrier_lost, hand_takes, hand_gives}
use Rattle.slots.specs.declared.Signal.TheVariants.{LineDialledOut, LineLifted, LineHung, CarrierHeard, CarrierLost}
use Rattle.slots.specs.declared.Hand.TheVariants.{Takes, GivesBack}
use Rattle.slots.specs.Views.{signal_view, hand_view}
use Rattle.lines.specs.declared.Form.{Form}
use Rattle.lines.specs.declared.Form.TheVariants.{Symbols, SlotSymbols, Signalled, Operated, Called, Alone}
use Rattle.lines.specs.declared.Command.{Command}
use Rattle.lines.specs.declared.Command.TheVariants.{SetUp, Happens}
use Rattle.lines.specs.Decimal.{is_decimal, value_of}

-- what a set-up asks for, its channels as numbers
pub record Asked : Type 0 where
  pub identity : ℕ
  pub channels : List ℕ

-- what a line says: a set-up, or what happens at a time
pub data Said : Type 0 where
  sets_up : Asked → Said
  happens : ℕ → What → Said

-- ── the letter ───────────────────────────────────────────────────────────────

abbrev pub slot_letter : Happened → ℕ
slot_letter (heard symbols) = 87
slot_letter (signal line_dialled_out) = 80
slot_letter (signal line_lifted) = 79
slot_letter (signal line_hung) = 72
slot_letter (signal carrier_heard) = 85
slot_letter (signal carrier_lost) = 68
slot_letter (operator hand_takes) = 77
slot_letter (operator hand_gives) = 70

abbrev pub what_letter : What → ℕ
what_letter tick = 84
what_letter (on_channel70 symbols) = 81
what_letter (on_slot i h) = slot_letter h
what_letter (from_ashore a) = 67

abbrev pub set_up_letter : ℕ
set_up_letter = 83

abbrev pub letter_of : Said → ℕ
letter_of (sets_up a) = set_up_letter
letter_of (happens time what) = what_letter what

-- ── the command that a letter names ──────────────────────────────────────────

-- what happens by a line of a form, with the slot and the symbols that it has; of a call the ship, and the mode with the digits behind it
abbrev pub form_what : Form → ℕ → List ℕ → What
form_what Symbols slot symbols = on_channel70 symbols
form_what SlotSymbols slot symbols = on_slot slot (heard symbols)
form_what (Signalled g) slot symbols = on_slot slot (signal (signal_view g))
form_what (Operated h) slot symbols = on_slot slot (operator (hand_view h))
form_what Called ship numbers = from_ashore (record { ship = ship; mode = get_or numbers 0 0; digits = drop 1 numbers })
form_what Alone slot symbols = tick

abbrev pub form_letter : Form → ℕ
form_letter form = what_letter (form_what form 0 [])

abbrev pub forms : List Form
forms =
    Symbols ∷ SlotSymbols
    ∷ Signalled CarrierHeard ∷ Signalled CarrierLost ∷ Signalled LineDialledOut ∷ Signalled LineLifted ∷ Signalled LineHung
    ∷ Operated Takes ∷ Operated GivesBack
    ∷ Called ∷ Alone ∷ []

abbrev pub command_among : ℕ → List Form → Optional Command
command_among letter [] = None
command_among letter (form ∷ more) = cond (eqb letter (form_letter form)) (Some (Happens form)) (command_among letter more)

unfoldable pub command_of : ℕ → Optional Command
command_of letter = cond (eqb letter set_up_letter) (Some SetUp) (command_among letter forms)

-- ── the fields ───────────────────────────────────────────────────────────────

-- only a sequence has symbols; "a list may be empty"
abbrev pub symbols_in : Happened → List ℕ
symbols_in (heard symbols) = symbols
symbols_in (signal g) = []
symbols_in (operator h) = []

abbrev pub what_numbers : What → List ℕ
what_numbers tick = []
what_numbers (on_channel70 symbols) = symbols
what_numbers (on_slot i h) = i ∷ symbols_in h
what_numbers (from_ashore a) = a.ship ∷ a.mode ∷ a.digits

abbrev pub numbers_of : Said → List ℕ
numbers_of (sets_up a) = a.identity ∷ a.channels
numbers_of (happens time what) = time ∷ what_numbers what

-- and back from the numbers of a set-up
abbrev pub set_up_said : ℕ → List ℕ → Said
set_up_said identity channels = sets_up (record { identity = identity; channels = channels })

-- "one space apart"
abbrev pub spaced : List (List ℕ) → List ℕ
spaced [] = []
spaced (field ∷ fields) = 32 ∷ (field ++ spaced fields)

pub record LineOf (said : Said) (text : List ℕ) : Type 0 where
  pub fields : List (List ℕ)
  pub decimals : all is_decimal fields ≡ true
  pub numbers : map value_of fields ≡ numbers_of said
  pub written : text ≡ letter_of said ∷ spaced fields

-- ── the ranges ───────────────────────────────────────────────────────────────

-- "a symbol over 255"
abbrev pub is_symbol : ℕ → Bool
is_symbol n = leb n 255

-- "another number over 4,294,967,295"
abbrev pub is_number : ℕ → Bool
is_number n = leb n 4294967295

abbrev pub what_in_range : What → Bool
what_in_range tick = true
what_in_range (on_channel70 symbols) = all is_symbol symbols
what_in_range (on_slot i h) = is_number i && all is_symbol (symbols_in h)
what_in_range (from_ashore a) = all is_number (what_numbers (from_ashore a))

unfoldable pub in_range : Said → Bool
in_range (sets_up a) = all is_number (numbers_of (sets_up a))
in_range (happens time what) = is_number time && what_in_range what
