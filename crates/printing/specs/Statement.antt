-- A reply is the decimal text of what the rules print of an event.
use Rattle.std.specs.Prelude.{true, cond, ◌≡◌, ℕ, ◌≤◌, eqb, length}
use mathlib.Core.List.{List, [], ◌∷◌, ◌++◌, flat_map}
use Rattle.rules.specs.Rules.Words.{Event}
use Rattle.rules.specs.Rules.Verdict.{step}
use Rattle.rules.specs.Rules.Printed.{lines}
use Rattle.lines.specs.Decimal.{is_decimal, value_of}
use Rattle.station.specs.declared.Station.{Station}
use Rattle.station.specs.declared.Stepped.{Stepped}
use Rattle.station.specs.Model.{config_of, model_of}
use Rattle.station.specs.Step.{records_keep, stepped_by, room_after}
use Rattle.printing.specs.Texts.{shortened, decimal, numbers_text}
use Rattle.printing.specs.Replies.{line_feed, reply_text}

-- ── the decimal text of numbers ──────────────────────────────────────────────

-- the text of a number is decimal as a script's own fields are, has no 0 before it, and says that number
abbrev pub DecimalSaysIt : Type 0
DecimalSaysIt =
    (n : ℕ) → n ≤ 4294967295
    → (is_decimal (decimal n) ≡ true) × (shortened (decimal n) ≡ decimal n) × (value_of (decimal n) ≡ n)

-- one space apart
abbrev pub fields_text : List ℕ → List ℕ
fields_text [] = []
fields_text (n ∷ ns) = decimal n ++ numbers_text ns

abbrev pub row_text : List ℕ → List ℕ
row_text row = fields_text row ++ line_feed

-- "next due time (`-` if none)": a first row of three numbers has none
abbrev pub dash : List ℕ → List ℕ
dash row = cond (eqb (length row) 3) (32 ∷ 45 ∷ []) []

abbrev pub first_text : List ℕ → List ℕ
first_text row = fields_text row ++ dash row ++ line_feed

-- the first row, and a row for each action
unfoldable pub rows_text : List (List ℕ) → List ℕ
rows_text [] = []
rows_text (first ∷ actions) = first_text first ++ flat_map row_text actions

-- ── one reply ────────────────────────────────────────────────────────────────

-- of what a station handed back, and the room that it left
abbrev pub reply_of : Stepped → List ℕ → List ℕ
reply_of r room = reply_text r.answer r.station.clock.0 r.count r.due room

-- any event, accepted or not, in any room
unfoldable pub ReplyIsPrinted : Type 0
ReplyIsPrinted = (s : Station) (e : Event) (room : List ℕ) → records_keep s ≡ true
    → reply_of (stepped_by s e) (room_after s room e) ≡ rows_text (lines (config_of s) (step (config_of s) (model_of s) e))
