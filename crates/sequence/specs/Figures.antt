-- The figures of a sequence, each with document 01's words.
use Rattle.std.specs.Prelude.{ℕ}

-- "One sequence, 21 to 28 symbols"
abbrev pub shortest : ℕ
shortest = 21

abbrev pub longest : ℕ
longest = 28

-- "Each symbol is one byte, 0 to 127."
abbrev pub last_symbol : ℕ
last_symbol = 127

-- "format 123"
abbrev pub format : ℕ
format = 123

-- "category 100"
abbrev pub category : ℕ
category = 100

-- the first telecommand: "100 simplex, 101 duplex or 106 data", "104 unable", "105 end of call"
abbrev pub first_simplex : ℕ
first_simplex = 100

abbrev pub first_duplex : ℕ
first_duplex = 101

abbrev pub first_data : ℕ
first_data = 106

abbrev pub first_unable : ℕ
first_unable = 104

abbrev pub first_over : ℕ
first_over = 105

-- behind a call "second 100 to 126"; behind an unable "second 100 to 109 or 126"
abbrev pub least_second : ℕ
least_second = 100

abbrev pub last_second : ℕ
last_second = 126

abbrev pub last_reason : ℕ
last_reason = 109

-- nothing is told: "second 126", "the field 126s"
abbrev pub untold : ℕ
untold = 126

-- a channel is told: "90, 0, channel"
abbrev pub channel_told : ℕ
channel_told = 90

-- "105 if the number has an odd count of digits, 106 if even"
abbrev pub odd_count : ℕ
odd_count = 105

abbrev pub even_count : ℕ
even_count = 106

-- "digit pairs, each 0 to 99"
abbrev pub last_pair : ℕ
last_pair = 99

-- "A number has 1 to 16 digits"
abbrev pub most_digits : ℕ
most_digits = 16

-- "end of sequence: 117 RQ, 122 BQ or 127"
abbrev pub end_rq : ℕ
end_rq = 117

abbrev pub end_bq : ℕ
end_bq = 122

abbrev pub end_last : ℕ
end_last = 127
