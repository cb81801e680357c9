-- Each test of a sequence's parts on both sides of its bounds, and the refusals of reader and writer in their order.
use Rattle.std.specs.Prelude.{ℕ, suc, ◌-◌, Bool, true, false, cond, List, [], ◌∷◌, ◌++◌, map, length, take, drop, replicate, Option as Optional, Some, None, Result, Ok, Err}
use Rattle.units.specs.declared.Channel.{Channel as ChannelNumber}
use Rattle.units.specs.Units.{whole_seconds, duration_of}
use Rattle.units.specs.declared.Duration.{Duration as Span}
use Rattle.sequence.specs.declared.Refusal.{Refusal}
use Rattle.sequence.specs.declared.Refusal.TheVariants.{BadLength}
use Rattle.sequence.specs.declared.Field.{Field}
use Rattle.sequence.specs.declared.Field.TheVariants.{Blank, Channel, Duration}
use Rattle.sequence.specs.declared.Number.{Number}
use Rattle.sequence.specs.declared.Meaning.{Meaning}
use Rattle.sequence.specs.Refusals.{row, all_hold}
use Rattle.sequence.specs.Answers.{done, answer_number, is_done}
use Rattle.sequence.specs.Symbols.{all_at_most, exclusive_or}
use Rattle.sequence.specs.Identity.{is_ship, is_coast, identities_ok, identity_symbols, identity_pairs, identity_of}
use Rattle.sequence.specs.Field.{is_call, telecommands_ok, channel_ok, duration_ok, field_ok}
use Rattle.sequence.specs.Number.{number_ok, parity}
use Rattle.sequence.specs.Layout.{end_ok, valid, layout}
use Rattle.sequence.specs.Reading.{length_in, check_in, blank_symbols, channel_symbols, field_symbols, parity_ok, pairs_ok, meaning_read, reading_of}
use Rattle.sequence.specs.Writing.{writing_answer, written_of, room_after}

-- ── how a bound is written ───────────────────────────────────────────────────

pub record Bound : Type 0 where
  pub computed : List ℕ
  pub expected : List ℕ

abbrev pub gives : List ℕ → List ℕ → Bound
gives c e = record { computed = c; expected = e }

-- 1 where a test holds, 0 where it fails
abbrev pub bit : Bool → ℕ
bit b = cond b 1 0

abbrev pub holds : List Bool → List ℕ → Bound
holds c e = gives (map bit c) e

abbrev pub channel : ℕ → ChannelNumber
channel n = record { 0 = n }

abbrev pub lasting : ℕ → ℕ → ℕ → Span
lasting h m s = record { hours = h; minutes = m; seconds = s }

abbrev pub number : ℕ → List ℕ → Number
number n l = record { count = n; digits = l }

-- the number 7, the number 42, and one of sixteen digits
abbrev pub one : Number
one = number 1 (7 ∷ replicate 15 0)

abbrev pub two : Number
two = number 2 (4 ∷ 2 ∷ replicate 14 0)

abbrev pub full : Number
full = number 16 (1 ∷ 2 ∷ 3 ∷ 4 ∷ 5 ∷ 6 ∷ 7 ∷ 8 ∷ 9 ∷ 0 ∷ 1 ∷ 2 ∷ 3 ∷ 4 ∷ 5 ∷ 6 ∷ [])

abbrev pub meaning : ℕ → ℕ → ℕ → ℕ → Field → Number → ℕ → Meaning
meaning address sender first second field n end =
    record { address = address; sender = sender; first = first; second = second; field = field; number = n; end = end }

-- a field and a meaning as numbers
abbrev pub field_told : Field → List ℕ
field_told Blank = 0 ∷ []
field_told (Channel c) = 1 ∷ c.0 ∷ []
field_told (Duration d) = 2 ∷ d.hours ∷ d.minutes ∷ d.seconds ∷ []

abbrev pub meant : Meaning → List ℕ
meant m = m.address ∷ m.sender ∷ m.first ∷ m.second ∷ (field_told m.field ++ m.number.count ∷ (m.number.digits ++ m.end ∷
    []))

-- a result as numbers: 0 and what the value is told by, or the refusal's number
abbrev pub result_told : {A : Type 0} → (A → List ℕ) → Result A Refusal → List ℕ
result_told f (Ok a) = 0 ∷ f a
result_told f (Err r) = answer_number (Some r) ∷ []

abbrev pub number_told : {A : Type 0} → Result A Refusal → ℕ
number_told (Ok a) = 0
number_told (Err r) = answer_number (Some r)

-- seconds as a duration; nothing where there is none
abbrev pub duration_told : Optional Span → List ℕ
duration_told None = []
duration_told (Some d) = d.hours ∷ d.minutes ∷ d.seconds ∷ []

abbrev pub lasts : ℕ → List ℕ
lasts n = duration_told (duration_of (record { 0 = n }))

-- ── the parts ────────────────────────────────────────────────────────────────

abbrev pub parts : List Bound
parts =
    -- "Ships: 200000000 to 799999999."
    holds (map is_ship (199999999 ∷ 200000000 ∷ 799999999 ∷ 800000000 ∷ [])) (0 ∷ 1 ∷ 1 ∷ 0 ∷ [])
    -- "Coast stations: 002000000 to 007999999."
    ∷ holds (map is_coast (1999999 ∷ 2000000 ∷ 7999999 ∷ 8000000 ∷ [])) (0 ∷ 1 ∷ 1 ∷ 0 ∷ [])
    -- "One of the two identities is a ship's, the other a coast station's."
    ∷ holds (map (identities_ok 200000000) (2000000 ∷ 200000001 ∷ 0 ∷ [])) (1 ∷ 0 ∷ 0 ∷ [])
    ∷ holds (map (identities_ok 2000000) (200000000 ∷ 2000001 ∷ 0 ∷ [])) (1 ∷ 0 ∷ 0 ∷ [])
    ∷ holds (map (identities_ok 0) (200000000 ∷ 2000000 ∷ [])) (0 ∷ 0 ∷ [])
    -- "An identity is nine digits and a final 0, in pairs."
    ∷ holds (identity_pairs 99 99 99 99 90 ∷ identity_pairs 0 0 0 0 0 ∷ []) (1 ∷ 1 ∷ [])
    ∷ holds (identity_pairs 100 99 99 99 90 ∷ identity_pairs 99 100 99 99 90 ∷ identity_pairs 99 99 100 99 90 ∷ []) (0 ∷ 0 ∷ 0 ∷ [])
    ∷ holds (identity_pairs 99 99 99 100 90 ∷ identity_pairs 99 99 99 99 100 ∷ identity_pairs 99 99 99 99 91 ∷ []) (0 ∷ 0 ∷ 0 ∷ [])
    ∷ gives (identity_of 99 99 99 99 90 ∷ identity_of 12 34 56 78 90 ∷ []) (999999999 ∷ 123456789 ∷ [])
    ∷ gives (identity_symbols 999999999 (identity_symbols 123456789 [])) (99 ∷ 99 ∷ 99 ∷ 99 ∷ 90 ∷ 12 ∷ 34 ∷ 56 ∷ 78 ∷ 90 ∷ [])
    ∷ gives (identity_symbols 10000000 (identity_symbols 100000 [])) (1 ∷ 0 ∷ 0 ∷ 0 ∷ 0 ∷ 0 ∷ 1 ∷ 0 ∷ 0 ∷ 0 ∷ [])
    ∷ gives (identity_symbols 1000 (identity_symbols 10 [])) (0 ∷ 0 ∷ 1 ∷ 0 ∷ 0 ∷ 0 ∷ 0 ∷ 0 ∷ 1 ∷ 0 ∷ [])
    -- "100 simplex, 101 duplex or 106 data"
    ∷ holds (map is_call (99 ∷ 100 ∷ 101 ∷ 102 ∷ 105 ∷ 106 ∷ 107 ∷ [])) (0 ∷ 1 ∷ 1 ∷ 0 ∷ 0 ∷ 1 ∷ 0 ∷ [])
    -- "second 100 to 126"
    ∷ holds (map (telecommands_ok 100) (99 ∷ 100 ∷ 126 ∷ 127 ∷ [])) (0 ∷ 1 ∷ 1 ∷ 0 ∷ [])
    ∷ holds (map (telecommands_ok 101) (99 ∷ 100 ∷ 126 ∷ 127 ∷ [])) (0 ∷ 1 ∷ 1 ∷ 0 ∷ [])
    ∷ holds (map (telecommands_ok 106) (99 ∷ 100 ∷ 126 ∷ 127 ∷ [])) (0 ∷ 1 ∷ 1 ∷ 0 ∷ [])
    -- "104 unable, second 100 to 109 or 126"
    ∷ holds (map (telecommands_ok 104) (99 ∷ 100 ∷ 109 ∷ 110 ∷ 125 ∷ 126 ∷ 127 ∷ [])) (0 ∷ 1 ∷ 1 ∷ 0 ∷ 0 ∷ 1 ∷ 0 ∷ [])
    -- "105 end of call, second 126"
    ∷ holds (map (telecommands_ok 105) (100 ∷ 125 ∷ 126 ∷ 127 ∷ [])) (0 ∷ 0 ∷ 1 ∷ 0 ∷ [])
    -- no other first telecommand
    ∷ holds (map (λ first. telecommands_ok first 126) (99 ∷ 102 ∷ 103 ∷ 107 ∷ [])) (0 ∷ 0 ∷ 0 ∷ 0 ∷ [])
    -- "the channel 1 to 28 or 60 to 88 but not 16 or 70"
    ∷ holds (map (λ n. channel_ok (channel n)) (0 ∷ 1 ∷ 15 ∷ 16 ∷ 17 ∷ 28 ∷ 29 ∷ [])) (0 ∷ 1 ∷ 1 ∷ 0 ∷ 1 ∷ 1 ∷ 0 ∷ [])
    ∷ holds (map (λ n. channel_ok (channel n)) (59 ∷ 60 ∷ 69 ∷ 70 ∷ 71 ∷ 88 ∷ 89 ∷ [])) (0 ∷ 1 ∷ 1 ∷ 0 ∷ 1 ∷ 1 ∷ 0 ∷ [])
    -- "hours 0 to 99, minutes and seconds 0 to 59"
    ∷ holds (map duration_ok (lasting 0 0 0 ∷ lasting 99 59 59 ∷ lasting 100 0 0 ∷ lasting 0 60 0 ∷ lasting 0 0 60 ∷ [])) (1 ∷ 1 ∷ 0 ∷
    0 ∷ 0 ∷ [])
    -- "The channel field may always be 126 126 126."
    ∷ holds (map (λ first. field_ok first Blank) (100 ∷ 101 ∷ 104 ∷ 105 ∷ 106 ∷ [])) (1 ∷ 1 ∷ 1 ∷ 1 ∷ 1 ∷ [])
    -- "Otherwise with 100, 101 and 106 it is 90, 0, channel"
    ∷ holds (map (λ first. field_ok first (Channel (channel 26))) (100 ∷ 101 ∷ 104 ∷ 105 ∷ 106 ∷ [])) (1 ∷ 1 ∷ 0 ∷ 0 ∷ 1 ∷ [])
    ∷ holds (field_ok 101 (Channel (channel 16)) ∷ []) (0 ∷ [])
    -- "with 105 it is hours .., minutes and seconds ..; with 104 nothing else"
    ∷ holds (map (λ first. field_ok first (Duration (lasting 0 0 0))) (100 ∷ 101 ∷ 104 ∷ 105 ∷ 106 ∷ [])) (0 ∷ 0 ∷ 0 ∷ 1 ∷ 0 ∷ [])
    ∷ holds (field_ok 105 (Duration (lasting 100 0 0)) ∷ []) (0 ∷ [])
    -- "A number has 1 to 16 digits", each 0 to 9
    ∷ holds (map number_ok (number 0 (replicate 16 0) ∷ one ∷ number 16 (replicate 16 9) ∷ number 17 (replicate 16 9) ∷ [])) (0 ∷ 1 ∷
    1 ∷ 0 ∷ [])
    ∷ holds (map number_ok (number 16 (10 ∷ replicate 15 9) ∷ number 16 (replicate 15 9 ++ 10 ∷ []) ∷ [])) (0 ∷ 0 ∷ [])
    -- in sixteen places
    ∷ holds (map number_ok (number 15 (replicate 15 9) ∷ number 16 (replicate 17 0) ∷ [])) (0 ∷ 0 ∷ [])
    -- "the writer wants them 0": the unused
    ∷ holds (map number_ok (number 1 (7 ∷ 1 ∷ replicate 14 0) ∷ number 1 (7 ∷ replicate 14 0 ++ 1 ∷ []) ∷
    number 15 (replicate 15 9 ++ 1 ∷ []) ∷ [])) (0 ∷ 0 ∷ 0 ∷ [])
    -- "105 if the number has an odd count of digits, 106 if even"
    ∷ gives (map parity (1 ∷ 2 ∷ 3 ∷ 4 ∷ 16 ∷ [])) (105 ∷ 106 ∷ 105 ∷ 106 ∷ 106 ∷ [])
    -- "117 RQ, 122 BQ or 127"
    ∷ holds (map end_ok (116 ∷ 117 ∷ 118 ∷ 121 ∷ 122 ∷ 123 ∷ 126 ∷ 127 ∷ 128 ∷ [])) (0 ∷ 1 ∷ 0 ∷ 0 ∷ 1 ∷ 0 ∷ 0 ∷ 1 ∷ 0 ∷ [])
    -- "whole seconds, rounded down"
    ∷ gives (map (λ n. (whole_seconds (record { 0 = n })).0) (9 ∷ 10 ∷ 19 ∷ 20 ∷ [])) (0 ∷ 1 ∷ 1 ∷ 2 ∷ [])
    -- hours, minutes and seconds; "100 hours and over: 126s"
    ∷ gives (lasts 0 ++ lasts 59 ++ lasts 60 ++ lasts 3599 ++ lasts 3600) (0 ∷ 0 ∷ 0 ∷ 0 ∷ 0 ∷ 59 ∷ 0 ∷ 1 ∷ 0 ∷ 0 ∷ 59 ∷ 59 ∷ 1 ∷ 0 ∷
    0 ∷ [])
    ∷ gives (lasts 359999 ++ lasts 360000) (99 ∷ 59 ∷ 59 ∷ [])
    -- only 0 is done
    ∷ holds (is_done done ∷ is_done (Some BadLength) ∷ []) (1 ∷ 0 ∷ [])
    -- a table of refusals holds where each row does
    ∷ holds (all_hold (row true done ∷ row true done ∷ []) ∷ all_hold (row true done ∷ row false done ∷ []) ∷ all_hold (row false done ∷
    row true done ∷ []) ∷ []) (1 ∷ 0 ∷ 0 ∷ [])
    ∷ []

-- ── the layout ───────────────────────────────────────────────────────────────

-- P1 of document 01
abbrev pub request : Meaning
request = meaning 2001234 200056789 101 126 Blank (number 7 (5 ∷ 5 ∷ 5 ∷ 1 ∷ 2 ∷ 3 ∷ 4 ∷ replicate 9 0)) 117

abbrev pub p1 : List ℕ
p1 = 123 ∷ 0 ∷ 20 ∷ 1 ∷ 23 ∷ 40 ∷ 100 ∷ 20 ∷ 0 ∷ 56 ∷ 78 ∷ 90 ∷ 101 ∷ 126 ∷ 126 ∷ 126 ∷ 126 ∷ 105 ∷ 5 ∷ 55 ∷ 12 ∷ 34 ∷ 117 ∷ 104 ∷ []

-- the longest, with a channel: 28 symbols
abbrev pub longest : Meaning
longest = meaning 799999999 7999999 100 100 (Channel (channel 88)) full 122

abbrev pub longest_symbols : List ℕ
longest_symbols = 123 ∷ 79 ∷ 99 ∷ 99 ∷ 99 ∷ 90 ∷ 100 ∷ 0 ∷ 79 ∷ 99 ∷ 99 ∷ 90 ∷ 100 ∷ 100 ∷ 90 ∷ 0 ∷ 88 ∷ 106 ∷ 12 ∷ 34 ∷ 56 ∷ 78 ∷
    90 ∷ 12 ∷ 34 ∷ 56 ∷ 122 ∷ 122 ∷ []

-- the shortest, with a duration: 21 symbols
abbrev pub shortest : Meaning
shortest = meaning 200000000 2000000 105 126 (Duration (lasting 1 2 3)) two 127

abbrev pub shortest_symbols : List ℕ
shortest_symbols = 123 ∷ 20 ∷ 0 ∷ 0 ∷ 0 ∷ 0 ∷ 100 ∷ 0 ∷ 20 ∷ 0 ∷ 0 ∷ 0 ∷ 105 ∷ 126 ∷ 1 ∷ 2 ∷ 3 ∷ 106 ∷ 42 ∷ 127 ∷ 55 ∷ []

abbrev pub layouts : List Bound
layouts =
    gives (layout request) p1
    ∷ gives (layout longest) longest_symbols
    ∷ gives (layout shortest) shortest_symbols
    -- and each of them is valid
    ∷ holds (valid request ∷ valid longest ∷ valid shortest ∷ []) (1 ∷ 1 ∷ 1 ∷ [])
    -- but not with one part out of its range: identities, telecommands, field, number, end
    ∷ holds (valid (meaning 2001234 2001235 101 126 Blank one 117) ∷ valid (meaning 2001234 200056789 101 127 Blank one 117) ∷
    []) (0 ∷ 0 ∷ [])
    ∷ holds (valid (meaning 2001234 200056789 104 103 (Channel (channel 26)) one 117) ∷
    valid (meaning 2001234 200056789 101 126 Blank (number 0 (replicate 16 0)) 117) ∷ []) (0 ∷ 0 ∷ [])
    ∷ holds (valid (meaning 2001234 200056789 101 126 Blank one 118) ∷ valid (meaning 2001234 200056789 105 100 Blank one 117) ∷
    []) (0 ∷ 0 ∷ [])
    ∷ []

-- ── the reader ───────────────────────────────────────────────────────────────

-- symbols with their check behind them
abbrev pub checked : List ℕ → List ℕ
checked s = s ++ exclusive_or 0 s ∷ []

-- symbols with another one at a place, and the check worked out again
abbrev pub with : ℕ → ℕ → List ℕ → List ℕ
with k x s = checked (take k s ++ x ∷ take (length s - suc (suc k)) (drop (suc k) s))

-- P1 with so many digit pairs
abbrev pub pairs : ℕ → List ℕ
pairs n = checked (take 17 p1 ++ 106 ∷ (replicate n 42 ++ 117 ∷ []))

abbrev pub answers : List (List ℕ) → List ℕ → Bound
answers c e = gives (map (λ s. number_told (reading_of s)) c) e

abbrev pub readings : List Bound
readings =
    -- 11: "length outside 21 to 28"
    answers ([] ∷ pairs 0 ∷ pairs 1 ∷ pairs 8 ∷ pairs 9 ∷ []) (11 ∷ 11 ∷ 0 ∷ 0 ∷ 11 ∷ [])
    ∷ holds (map (λ n. length_in (replicate n 0)) (20 ∷ 21 ∷ 28 ∷ 29 ∷ [])) (0 ∷ 1 ∷ 1 ∷ 0 ∷ [])
    -- 12: "symbol over 127"
    ∷ answers (with 22 127 p1 ∷ with 22 128 p1 ∷ []) (0 ∷ 12 ∷ [])
    ∷ holds (all_at_most 127 [] ∷ all_at_most 127 (127 ∷ 128 ∷ []) ∷ all_at_most 127 (128 ∷ 127 ∷ []) ∷ []) (1 ∷ 0 ∷ 0 ∷ [])
    -- 13: "check differs"
    ∷ answers (p1 ∷ (take 23 p1 ++ 103 ∷ []) ∷ (take 23 p1 ++ 105 ∷ []) ∷ []) (0 ∷ 13 ∷ 13 ∷ [])
    ∷ holds (check_in [] ∷ check_in (0 ∷ []) ∷ []) (0 ∷ 1 ∷ [])
    -- 14: "format"
    ∷ answers (with 0 122 p1 ∷ with 0 124 p1 ∷ []) (14 ∷ 14 ∷ [])
    -- 15: "identities", of the address and of the self-identification: out of range, no pair, no final 0
    ∷ answers (with 1 20 p1 ∷ with 2 19 p1 ∷ with 3 100 p1 ∷ with 4 100 p1 ∷ with 5 100 p1 ∷ with 5 41 p1 ∷ []) (15 ∷ 15 ∷ 15 ∷ 15 ∷
    15 ∷ 15 ∷ [])
    ∷ answers (with 7 19 p1 ∷ with 8 100 p1 ∷ with 9 100 p1 ∷ with 10 100 p1 ∷ with 11 100 p1 ∷ with 11 91 p1 ∷ []) (15 ∷ 15 ∷ 15 ∷
    15 ∷ 15 ∷ 15 ∷ [])
    ∷ answers (with 2 79 p1 ∷ with 2 80 p1 ∷ with 7 79 p1 ∷ with 7 80 p1 ∷ []) (0 ∷ 15 ∷ 0 ∷ 15 ∷ [])
    -- 16: "category"
    ∷ answers (with 6 99 p1 ∷ with 6 101 p1 ∷ []) (16 ∷ 16 ∷ [])
    -- 17: "telecommands"
    ∷ answers (with 12 103 p1 ∷ with 12 104 p1 ∷ with 13 99 p1 ∷ with 13 127 p1 ∷ []) (17 ∷ 0 ∷ 17 ∷ 17 ∷ [])
    -- 18: "channel field"
    ∷ holds (blank_symbols 126 126 126 ∷ blank_symbols 125 126 126 ∷ blank_symbols 127 126 126 ∷ blank_symbols 126 125 126 ∷ []) (1 ∷ 0 ∷
    0 ∷ 0 ∷ [])
    ∷ holds (blank_symbols 126 127 126 ∷ blank_symbols 126 126 125 ∷ blank_symbols 126 126 127 ∷ []) (0 ∷ 0 ∷ 0 ∷ [])
    ∷ holds (channel_symbols 90 0 26 ∷ channel_symbols 89 0 26 ∷ channel_symbols 91 0 26 ∷ channel_symbols 90 1 26 ∷
    channel_symbols 90 0 16 ∷ []) (1 ∷ 0 ∷ 0 ∷ 0 ∷ 0 ∷ [])
    ∷ holds (map (λ first. field_symbols first 126 126 126) (100 ∷ 101 ∷ 104 ∷ 105 ∷ 106 ∷ [])) (1 ∷ 1 ∷ 1 ∷ 1 ∷ 1 ∷ [])
    ∷ holds (map (λ first. field_symbols first 90 0 26) (100 ∷ 101 ∷ 104 ∷ 105 ∷ 106 ∷ [])) (1 ∷ 1 ∷ 0 ∷ 1 ∷ 1 ∷ [])
    ∷ holds (map (λ first. field_symbols first 99 59 59) (100 ∷ 101 ∷ 104 ∷ 105 ∷ 106 ∷ [])) (0 ∷ 0 ∷ 0 ∷ 1 ∷ 0 ∷ [])
    ∷ holds (field_symbols 105 100 0 0 ∷ field_symbols 105 0 60 0 ∷ field_symbols 105 0 0 60 ∷ []) (0 ∷ 0 ∷ 0 ∷ [])
    ∷ holds (field_symbols 101 90 1 26 ∷ field_symbols 107 0 0 0 ∷ []) (0 ∷ 0 ∷ [])
    ∷ answers (with 14 125 p1 ∷ with 15 125 p1 ∷ with 16 125 p1 ∷ with 16 89 longest_symbols ∷ with 14 100 shortest_symbols ∷ []) (18 ∷
    18 ∷ 18 ∷ 18 ∷ 18 ∷ [])
    -- 19: "number": neither odd nor even, a first digit before an odd count, no digit pair
    ∷ holds (parity_ok 105 9 ∷ parity_ok 105 10 ∷ parity_ok 106 99 ∷ parity_ok 104 0 ∷ parity_ok 107 0 ∷ []) (1 ∷ 0 ∷ 1 ∷ 0 ∷ 0 ∷ [])
    ∷ holds (pairs_ok 106 (99 ∷ 99 ∷ []) ∷ pairs_ok 106 (100 ∷ 99 ∷ []) ∷ pairs_ok 106 (99 ∷ 100 ∷ []) ∷ pairs_ok 105 (9 ∷ 99 ∷ []) ∷
    pairs_ok 105 (10 ∷ 0 ∷ []) ∷ []) (1 ∷ 0 ∷ 0 ∷ 1 ∷ 0 ∷ [])
    ∷ answers (with 17 104 p1 ∷ with 17 107 p1 ∷ with 18 10 p1 ∷ with 18 100 longest_symbols ∷ with 21 100 p1 ∷
    with 25 100 longest_symbols ∷ []) (19 ∷ 19 ∷ 19 ∷ 19 ∷ 19 ∷ 19 ∷ [])
    -- 20: "end of sequence"
    ∷ answers (with 22 116 p1 ∷ with 22 118 p1 ∷ with 22 122 p1 ∷ with 26 121 longest_symbols ∷ with 19 126 shortest_symbols ∷
    []) (20 ∷ 20 ∷ 0 ∷ 20 ∷ 20 ∷ [])
    -- "in this order": each with its neighbour
    ∷ answers (replicate 20 128 ∷ (take 22 p1 ++ 128 ∷ 0 ∷ []) ∷ (122 ∷ drop 1 p1) ∷ with 0 122 (with 1 20 p1) ∷
    with 1 20 (with 6 99 p1) ∷ []) (11 ∷ 12 ∷ 13 ∷ 14 ∷ 15 ∷ [])
    ∷ answers (with 6 99 (with 12 103 p1) ∷ with 12 103 (with 14 125 p1) ∷ with 14 125 (with 17 104 p1) ∷
    with 17 104 (with 22 116 p1) ∷ []) (16 ∷ 17 ∷ 18 ∷ 19 ∷ [])
    -- what is meant; with a refusal "no value"
    ∷ gives (result_told meant (reading_of p1)) (0 ∷ meant request)
    ∷ gives (meant (meaning_read p1)) (meant request)
    ∷ gives (meant (meaning_read longest_symbols)) (meant longest)
    ∷ gives (meant (meaning_read shortest_symbols)) (meant shortest)
    ∷ gives (meant (meaning_read (with 22 116 p1))) (0 ∷ 0 ∷ 0 ∷ 0 ∷ 0 ∷ 0 ∷ (replicate 16 0 ++ 0 ∷ []))
    ∷ []

-- ── the writer ───────────────────────────────────────────────────────────────

abbrev pub writes : List Meaning → List ℕ → Bound
writes c e = gives (map (λ m. answer_number (writing_answer m 28)) c) e

abbrev pub writings : List Bound
writings =
    -- 21: "writer's room under 28 bytes (tested first)"
    gives (map (λ n. answer_number (writing_answer request n)) (0 ∷ 27 ∷ 28 ∷ [])) (21 ∷ 21 ∷ 0 ∷ [])
    ∷ gives (answer_number (writing_answer (meaning 0 0 0 0 Blank one 0) 27) ∷ []) (21 ∷ [])
    -- 15, 17, 18, 19, 20
    ∷ writes (meaning 2001234 2001235 101 126 Blank one 117 ∷ meaning 2001234 200056789 101 127 Blank one 117 ∷ []) (15 ∷ 17 ∷ [])
    ∷ writes (meaning 2001234 200056789 104 103 (Channel (channel 26)) one 117 ∷
    meaning 2001234 200056789 101 126 Blank (number 0 (replicate 16 0)) 117 ∷ []) (18 ∷ 19 ∷ [])
    ∷ writes (meaning 2001234 200056789 101 126 Blank one 118 ∷ request ∷ []) (20 ∷ 0 ∷ [])
    -- in this order: each with its neighbour
    ∷ writes (meaning 2001234 2001235 101 127 Blank one 117 ∷ meaning 2001234 200056789 105 125 (Channel (channel 26)) one 117 ∷
    []) (15 ∷ 17 ∷ [])
    ∷ writes (meaning 2001234 200056789 104 103 (Channel (channel 26)) (number 0 (replicate 16 0)) 117 ∷
    meaning 2001234 200056789 101 126 Blank (number 0 (replicate 16 0)) 118 ∷ []) (18 ∷ 19 ∷ [])
    -- how much is written, and "it writes only the sequence's own bytes"
    ∷ gives (result_told (λ n. n ∷ []) (written_of request 28) ++ result_told (λ n. n ∷ []) (written_of longest 28)) (0 ∷ 24 ∷ 0 ∷ 28 ∷ [])
    ∷ gives (result_told (λ n. n ∷ []) (written_of request 27)) (21 ∷ [])
    ∷ gives (room_after request (replicate 30 7)) (p1 ++ replicate 6 7)
    ∷ gives (room_after request (replicate 27 7)) (replicate 27 7)
    ∷ []

-- ── all of them ──────────────────────────────────────────────────────────────

abbrev pub bounds : List Bound
bounds = parts ++ layouts ++ readings ++ writings
