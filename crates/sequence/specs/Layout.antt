-- "One sequence, 21 to 28 symbols": which meanings there are, and the one sequence of each.
use Rattle.std.specs.Prelude.{ℕ, Bool, ◌&&◌, ◌||◌, List, [], ◌∷◌, ◌++◌, eqb}
use Rattle.sequence.specs.declared.Meaning.{Meaning}
use Rattle.sequence.specs.Figures.{format, category, end_rq, end_bq, end_last}
use Rattle.sequence.specs.Symbols.{exclusive_or}
use Rattle.sequence.specs.Identity.{identities_ok, identity_symbols}
use Rattle.sequence.specs.Field.{telecommands_ok, field_ok, field_first, field_second, field_third}
use Rattle.sequence.specs.Number.{number_ok, parity, evened, pairs_of}

-- "117 RQ, 122 BQ or 127"
unfoldable pub end_ok : ℕ → Bool
end_ok e = eqb e end_rq || (eqb e end_bq || eqb e end_last)

-- a meaning within every range of document 01
unfoldable pub valid : Meaning → Bool
valid m =
    identities_ok m.address m.sender
    && (telecommands_ok m.first m.second
    && (field_ok m.first m.field && (number_ok m.number && end_ok m.end)))

-- the places before the digit pairs
unfoldable pub front : Meaning → List ℕ
front m =
    -- 0: format 123
    format
    -- 1-5: address; 6: category 100
    ∷ identity_symbols m.address (category
    -- 7-11: self-identification
    ∷ identity_symbols m.sender
    -- 12, 13: first and second telecommand
    (m.first ∷ m.second
    -- 14-16: channel field
    ∷ field_first m.field ∷ field_second m.field ∷ field_third m.field
    -- 17: 105 if the number has an odd count of digits, 106 if even
    ∷ parity m.number.count ∷ []))

-- 18 on: the digit pairs; then the end of sequence
unfoldable pub body : Meaning → List ℕ
body m = front m ++ (pairs_of (evened m.number) ++ (m.end ∷ []))

-- last: the check, "exclusive-or of all symbols before it"
unfoldable pub layout : Meaning → List ℕ
layout m = body m ++ (exclusive_or 0 (body m) ∷ [])
