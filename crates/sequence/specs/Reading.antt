-- What the reader answers to any symbols: the first refusal of document 01's order, or the meaning.
use Rattle.std.specs.Prelude.{ℕ, ◌+◌, ◌-◌, ◌*◌, ◌/◌, ◌%◌, Bool, true, cond, ◌&&◌, List, [], ◌∷◌, ◌++◌, leb, eqb, length, get_or, take, drop, replicate, Some, Result}
use Rattle.sequence.specs.declared.Refusal.TheVariants.{BadLength, BadSymbol, BadCheck, BadFormat, BadIdentities}
use Rattle.sequence.specs.declared.Refusal.TheVariants.{BadCategory, BadTelecommands, BadField, BadNumber, BadEnd}
use Rattle.sequence.specs.declared.Field.{Field}
use Rattle.sequence.specs.declared.Field.TheVariants.{Blank, Channel, Duration}
use Rattle.sequence.specs.declared.Number.{Number}
use Rattle.sequence.specs.declared.Meaning.{Meaning}
use Rattle.sequence.specs.declared.Refusal.{Refusal}
use Rattle.sequence.specs.Refusals.{Row, row, first_refusal}
use Rattle.sequence.specs.Answers.{Answer, done, is_done, answered}
use Rattle.sequence.specs.Figures.{shortest, longest, last_symbol, format, category, first_over}
use Rattle.sequence.specs.Figures.{untold, channel_told, odd_count, even_count, last_pair, most_digits}
use Rattle.sequence.specs.Symbols.{within, all_at_most, exclusive_or}
use Rattle.sequence.specs.Identity.{identity_pairs, identity_of, identities_ok}
use Rattle.sequence.specs.Field.{is_call, telecommands_ok, channel_ok, duration_ok}
use Rattle.sequence.specs.Layout.{end_ok}

-- 11: length outside 21 to 28
unfoldable pub length_in : List ℕ → Bool
length_in s = within shortest longest (length s)

-- 13: the last symbol is the exclusive-or of those before it
unfoldable pub check_in : List ℕ → Bool
check_in s = leb 1 (length s) && eqb (exclusive_or 0 (take (length s - 1) s)) (get_or s (length s - 1) 0)

-- 14: format
unfoldable pub format_in : List ℕ → Bool
format_in s = eqb (get_or s 0 0) format

-- the identity whose five pairs begin at a place, and whether they are pairs
unfoldable pub identity_at : List ℕ → ℕ → ℕ
identity_at s i = identity_of (get_or s i 0) (get_or s (i + 1) 0) (get_or s (i + 2) 0) (get_or s (i + 3) 0) (get_or s (i + 4) 0)

unfoldable pub identity_pairs_at : List ℕ → ℕ → Bool
identity_pairs_at s i = identity_pairs (get_or s i 0) (get_or s (i + 1) 0) (get_or s (i + 2) 0) (get_or s (i + 3) 0) (get_or s (i + 4) 0)

-- 15: identities
unfoldable pub identities_in : List ℕ → Bool
identities_in s = identity_pairs_at s 1 && (identity_pairs_at s 7 && identities_ok (identity_at s 1) (identity_at s 7))

-- 16: category
unfoldable pub category_in : List ℕ → Bool
category_in s = eqb (get_or s 6 0) category

-- 17: telecommands
unfoldable pub telecommands_in : List ℕ → Bool
telecommands_in s = telecommands_ok (get_or s 12 0) (get_or s 13 0)

-- 18: channel field. Three symbols are a field behind a first telecommand, and which
unfoldable pub blank_symbols : ℕ → ℕ → ℕ → Bool
blank_symbols x y z = eqb x untold && (eqb y untold && eqb z untold)

unfoldable pub channel_symbols : ℕ → ℕ → ℕ → Bool
channel_symbols x y z = eqb x channel_told && (eqb y 0 && channel_ok (record { 0 = z }))

unfoldable pub duration_symbols : ℕ → ℕ → ℕ → Bool
duration_symbols x y z = duration_ok (record { hours = x; minutes = y; seconds = z })

unfoldable pub field_symbols : ℕ → ℕ → ℕ → ℕ → Bool
field_symbols first x y z =
    cond (blank_symbols x y z) true (cond (is_call first) (channel_symbols x y z) (eqb first first_over && duration_symbols x y z))

unfoldable pub field_of : ℕ → ℕ → ℕ → ℕ → Field
field_of first x y z =
    cond (blank_symbols x y z) Blank
    (cond (is_call first) (Channel (record { 0 = z })) (Duration (record { hours = x; minutes = y; seconds = z })))

unfoldable pub field_in : List ℕ → Bool
field_in s = field_symbols (get_or s 12 0) (get_or s 14 0) (get_or s 15 0) (get_or s 16 0)

-- 19: number. The digit pairs stand from 18 on, up to the last two symbols
unfoldable pub pairs_in : List ℕ → List ℕ
pairs_in s = take (length s - 20) (drop 18 s)

-- 105, and the 0 put before an odd count; or 106
unfoldable pub parity_ok : ℕ → ℕ → Bool
parity_ok p pair = cond (eqb p odd_count) (leb pair 9) (eqb p even_count)

unfoldable pub pairs_ok : ℕ → List ℕ → Bool
pairs_ok p pairs = parity_ok p (get_or pairs 0 0) && all_at_most last_pair pairs

unfoldable pub number_in : List ℕ → Bool
number_in s = pairs_ok (get_or s 17 0) (pairs_in s)

-- the digits of pairs; 1 of them is the 0 put before an odd count; sixteen places, "unused digits to 0"
abbrev pub digits_of : List ℕ → List ℕ
digits_of [] = []
digits_of (p ∷ ps) = p / 10 ∷ p % 10 ∷ digits_of ps

unfoldable pub zero_before : ℕ → ℕ
zero_before p = cond (eqb p odd_count) 1 0

unfoldable pub sixteen : List ℕ → List ℕ
sixteen l = take most_digits (l ++ replicate most_digits 0)

unfoldable pub number_of : ℕ → List ℕ → Number
number_of p pairs =
    record { count = 2 * length pairs - zero_before p; digits = sixteen (drop (zero_before p) (digits_of pairs)) }

-- 20: end of sequence, last but one
unfoldable pub end_in : List ℕ → Bool
end_in s = end_ok (get_or s (length s - 2) 0)

-- the table of refusals, in its order
unfoldable pub refusals : List ℕ → List (Row Answer)
refusals s =
    row (length_in s) (Some BadLength)
    ∷ row (all_at_most last_symbol s) (Some BadSymbol)
    ∷ row (check_in s) (Some BadCheck)
    ∷ row (format_in s) (Some BadFormat)
    ∷ row (identities_in s) (Some BadIdentities)
    ∷ row (category_in s) (Some BadCategory)
    ∷ row (telecommands_in s) (Some BadTelecommands)
    ∷ row (field_in s) (Some BadField)
    ∷ row (number_in s) (Some BadNumber)
    ∷ row (end_in s) (Some BadEnd)
    ∷ []

unfoldable pub answer_of : List ℕ → Answer
answer_of s = first_refusal (refusals s) done

-- what symbols that pass every test mean
unfoldable pub meaning_of : List ℕ → Meaning
meaning_of s =
    record {
      address = identity_at s 1;
      sender = identity_at s 7;
      first = get_or s 12 0;
      second = get_or s 13 0;
      field = field_of (get_or s 12 0) (get_or s 14 0) (get_or s 15 0) (get_or s 16 0);
      number = number_of (get_or s 17 0) (pairs_in s);
      end = get_or s (length s - 2) 0;
    }

-- with a refusal, "no value": the blank meaning
unfoldable pub blank_meaning : Meaning
blank_meaning =
    record {
      address = 0;
      sender = 0;
      first = 0;
      second = 0;
      field = Blank;
      number = record { count = 0; digits = replicate most_digits 0 };
      end = 0;
    }

unfoldable pub meaning_read : List ℕ → Meaning
meaning_read s = cond (is_done (answer_of s)) (meaning_of s) blank_meaning

-- the first refusal, or with none the meaning
unfoldable pub reading_of : List ℕ → Result Meaning Refusal
reading_of s = answered (answer_of s) (meaning_of s)
