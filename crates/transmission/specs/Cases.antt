-- Transmissions written, started and read, worked out by hand: cases.
use Rattle.std.specs.Prelude.{ℕ, ◌-◌, Option as Optional, Some, None, Result, List, [], ◌∷◌, ◌++◌, map, length, take, drop, set, replicate}
use Rattle.characters.specs.Code.{character_of, none}
use Rattle.characters.specs.Cases.{Case, gives}
use Rattle.transmission.specs.declared.Refusal.{Refusal}
use Rattle.transmission.specs.declared.Start.{Start}
use Rattle.transmission.specs.Answers.{answer_number, answer_told, count_told}
use Rattle.transmission.specs.Layout.{sent, transmission, bytes_of}
use Rattle.transmission.specs.Writing.{transmission_written, room_after_writing}
use Rattle.transmission.specs.Phasing.{characters_of, heard, best_start, found_start}
use Rattle.transmission.specs.Reading.{transmission_read, room_after_reading}

-- ── symbols ──────────────────────────────────────────────────────────────────

-- 01's P1, and its DX and RX in turn
abbrev pub p1 : List ℕ
p1 =
    123 ∷ 0 ∷ 20 ∷ 1 ∷ 23 ∷ 40 ∷ 100 ∷ 20 ∷ 0 ∷ 56 ∷ 78 ∷ 90 ∷ 101 ∷ 126 ∷ 126 ∷ 126 ∷ 126 ∷ 105 ∷ 5 ∷ 55 ∷ 12 ∷ 34 ∷ 117 ∷ 104 ∷ []

abbrev pub p1_sent : List ℕ
p1_sent =
    125 ∷ 111 ∷ 125 ∷ 110 ∷ 125 ∷ 109 ∷ 125 ∷ 108 ∷ 125 ∷ 107 ∷ 125 ∷ 106 ∷ 123 ∷ 105 ∷ 123 ∷ 104
    ∷ 0 ∷ 123 ∷ 20 ∷ 123 ∷ 1 ∷ 0 ∷ 23 ∷ 20 ∷ 40 ∷ 1 ∷ 100 ∷ 23 ∷ 20 ∷ 40 ∷ 0 ∷ 100 ∷ 56 ∷ 20 ∷ 78 ∷ 0 ∷ 90 ∷ 56 ∷ 101 ∷ 78
    ∷ 126 ∷ 90 ∷ 126 ∷ 101 ∷ 126 ∷ 126 ∷ 126 ∷ 126 ∷ 105 ∷ 126 ∷ 5 ∷ 126 ∷ 55 ∷ 105 ∷ 12 ∷ 5 ∷ 34 ∷ 55
    ∷ 117 ∷ 12 ∷ 104 ∷ 34 ∷ 117 ∷ 117 ∷ 117 ∷ 104
    ∷ []

-- ── writing ──────────────────────────────────────────────────────────────────

abbrev pub counted : Result ℕ Refusal → List ℕ
counted c = answer_number (answer_told c) ∷ count_told c ∷ []

abbrev pub writes : List ℕ → ℕ → List ℕ → Case
writes s room expected = gives (counted (transmission_written s room)) expected

abbrev pub writing_cases : List Case
writing_cases =
    gives (sent p1) p1_sent
    -- 125, 111, 125, 110 as characters, and in bytes
    ∷ gives (take 4 (transmission p1)) (637 ∷ 623 ∷ 637 ∷ 366 ∷ [])
    ∷ gives (take 8 (bytes_of (transmission p1))) (125 ∷ 2 ∷ 111 ∷ 2 ∷ 125 ∷ 2 ∷ 110 ∷ 1 ∷ [])
    ∷ gives (bytes_of (255 ∷ 256 ∷ 1023 ∷ [])) (255 ∷ 0 ∷ 0 ∷ 1 ∷ 255 ∷ 3 ∷ [])
    -- 2 (n + 9) characters, for 21 symbols and for 28
    ∷ writes p1 148 (0 ∷ 66 ∷ [])
    ∷ writes (replicate 21 0) 148 (0 ∷ 60 ∷ [])
    ∷ writes (replicate 28 0) 148 (0 ∷ 74 ∷ [])
    -- 11, 12 and 21
    ∷ writes (replicate 20 0) 148 (11 ∷ 0 ∷ [])
    ∷ writes (replicate 29 0) 148 (11 ∷ 0 ∷ [])
    ∷ writes (127 ∷ replicate 20 0) 148 (0 ∷ 60 ∷ [])
    ∷ writes (128 ∷ replicate 20 0) 148 (12 ∷ 0 ∷ [])
    ∷ writes p1 147 (21 ∷ 0 ∷ [])
    -- 21 before 11 before 12
    ∷ writes (replicate 20 0) 147 (21 ∷ 0 ∷ [])
    ∷ writes (replicate 20 128) 148 (11 ∷ 0 ∷ [])
    -- the room behind the transmission stays, and all of it with a refusal
    ∷ gives (drop 130 (room_after_writing p1 (replicate 150 9))) (232 ∷ 0 ∷ replicate 18 9)
    ∷ gives (room_after_writing p1 (replicate 147 9)) (replicate 147 9)
    ∷ []

-- ── phasing ──────────────────────────────────────────────────────────────────

-- these symbols' characters, with none for what was lost
abbrev pub handed : List ℕ → List ℕ
handed symbols = map character_of symbols

-- a start, by its place and its count of phasing characters: place 11 is the first character handed in; 0 and 0 where there is none,
-- and then it is not found
abbrev pub numbers_of : Start → List ℕ
numbers_of s = s.place ∷ s.phasing ∷ []

abbrev pub found_numbers : Optional Start → List ℕ
found_numbers None = []
found_numbers (Some s) = numbers_of s

abbrev pub start_numbers : List ℕ → List ℕ
start_numbers symbols = numbers_of (best_start (heard (handed symbols))) ++ found_numbers (found_start (best_start (heard (handed symbols))))

abbrev pub starts : List ℕ → ℕ → ℕ → Case
starts symbols place phasing = gives (start_numbers symbols) (place ∷ phasing ∷ place ∷ phasing ∷ [])

abbrev pub starts_nowhere : List ℕ → Case
starts_nowhere symbols = gives (start_numbers symbols) (0 ∷ 0 ∷ [])

abbrev pub phasing_cases : List Case
phasing_cases =
    -- low byte first; half a character is none
    gives (characters_of (125 ∷ 2 ∷ 111 ∷ [])) (637 ∷ [])
    -- three RX, and two; two DX and one RX; one DX and two RX, and one; three DX, and six
    ∷ starts (111 ∷ none ∷ 110 ∷ none ∷ 109 ∷ []) 10 3
    ∷ starts_nowhere (111 ∷ none ∷ 110 ∷ none ∷ none ∷ [])
    ∷ starts (125 ∷ 111 ∷ 125 ∷ []) 11 3
    ∷ starts (125 ∷ 111 ∷ none ∷ 110 ∷ []) 11 3
    ∷ starts_nowhere (125 ∷ 111 ∷ [])
    ∷ starts_nowhere (125 ∷ none ∷ 125 ∷ none ∷ 125 ∷ [])
    ∷ starts_nowhere (125 ∷ none ∷ 125 ∷ none ∷ 125 ∷ none ∷ 125 ∷ none ∷ 125 ∷ none ∷ 125 ∷ [])
    -- not in their places: without a character between them, and 109 in the place of 110
    ∷ starts_nowhere (111 ∷ 110 ∷ 109 ∷ [])
    ∷ starts_nowhere (111 ∷ none ∷ 109 ∷ none ∷ 108 ∷ [])
    -- the last two DX and the last RX places
    ∷ starts (125 ∷ none ∷ 125 ∷ none ∷ none ∷ none ∷ none ∷ 104 ∷ []) 3 3
    -- eleven of the beginning lost, and twelve
    ∷ starts (106 ∷ 123 ∷ 105 ∷ 123 ∷ 104 ∷ []) 0 3
    ∷ starts_nowhere (123 ∷ 105 ∷ 123 ∷ 104 ∷ [])
    -- behind one of three characters a whole one, and one of four; of two equal ones the first
    ∷ starts (111 ∷ none ∷ 110 ∷ none ∷ 109 ∷ take 16 p1_sent) 16 14
    ∷ starts (125 ∷ 111 ∷ 125 ∷ 125 ∷ 111 ∷ 125 ∷ 110 ∷ []) 14 4
    ∷ starts (125 ∷ 111 ∷ 125 ∷ 125 ∷ 111 ∷ 125 ∷ []) 11 3
    ∷ []

-- ── reading ──────────────────────────────────────────────────────────────────

-- with some of its characters lost
abbrev pub without : List ℕ → List ℕ → List ℕ
without symbols [] = symbols
without symbols (place ∷ places) = set (without symbols places) place none

-- P1's transmission with another symbol in each of the format's four places
abbrev pub formats : List ℕ
formats = set (set (set (set p1_sent 12 1) 14 2) 17 3) 19 4

-- the symbols of the places before 18
abbrev pub eighteen : List ℕ
eighteen = 0 ∷ 1 ∷ 2 ∷ 3 ∷ 4 ∷ 5 ∷ 6 ∷ 7 ∷ 8 ∷ 9 ∷ 10 ∷ 11 ∷ 12 ∷ 13 ∷ 14 ∷ 15 ∷ 16 ∷ 17 ∷ []

abbrev pub nines : ℕ → List ℕ
nines n = replicate n 9

-- what was handed in with a room, the place of its start, the answer with its count, and what the room then holds
pub record ReadCase : Type 0 where
  pub symbols : List ℕ
  pub lent : List ℕ
  pub start : ℕ
  pub answer : ℕ
  pub count : ℕ
  pub room : List ℕ

abbrev pub expected_of : ReadCase → List ℕ
expected_of r = r.answer ∷ r.count ∷ r.room

abbrev pub computed_of : ReadCase → List ℕ
computed_of r =
    counted (transmission_read (bytes_of (handed r.symbols)) (length r.lent))
    ++ room_after_reading (bytes_of (handed r.symbols)) r.lent

abbrev pub reads : List ℕ → ℕ → ℕ → List ℕ → ReadCase
reads symbols start count s =
    record { symbols = symbols; lent = nines 30; start = start; answer = 0; count = count; room = s ++ nines (30 - count) }

abbrev pub refuses : List ℕ → ℕ → ℕ → ReadCase
refuses symbols start answer =
    record { symbols = symbols; lent = nines 28; start = start; answer = answer; count = 0; room = nines 28 }

abbrev pub reading_cases : List ReadCase
reading_cases =
    reads p1_sent 11 24 p1
    -- a first copy lost, and both; a good one counts, whatever its repeat is
    ∷ reads (without p1_sent (16 ∷ [])) 11 24 p1
    ∷ refuses (without p1_sent (16 ∷ 21 ∷ [])) 11 52
    ∷ reads (set p1_sent 16 99) 11 24 (123 ∷ 99 ∷ drop 2 p1)
    -- the format: "the first good one of its four places in the order sent", and bad only if all are
    ∷ reads formats 11 24 (1 ∷ drop 1 p1)
    ∷ reads (without formats (12 ∷ [])) 11 24 (2 ∷ drop 1 p1)
    ∷ reads (without formats (12 ∷ 14 ∷ [])) 11 24 (3 ∷ drop 1 p1)
    ∷ reads (without formats (12 ∷ 14 ∷ 17 ∷ [])) 11 24 (4 ∷ drop 1 p1)
    ∷ refuses (without formats (12 ∷ 14 ∷ 17 ∷ 19 ∷ [])) 11 52
    -- the check's first copy is the last there, it is not there, or spoiled; both spoiled
    ∷ reads (take 61 p1_sent) 11 24 p1
    ∷ refuses (take 60 p1_sent) 11 53
    ∷ refuses (take 65 (without p1_sent (60 ∷ []))) 11 53
    ∷ refuses (without p1_sent (60 ∷ 65 ∷ [])) 11 52
    -- 52 before 53
    ∷ refuses (take 60 (without p1_sent (16 ∷ 21 ∷ []))) 11 52
    -- both copies of the end lost: "an unreadable symbol is no end"
    ∷ refuses (without p1_sent (58 ∷ 63 ∷ [])) 11 52
    -- behind two others, with eleven lost, and with twelve
    ∷ reads (0 ∷ 1 ∷ p1_sent) 13 24 p1
    ∷ reads (drop 11 p1_sent) 0 24 p1
    ∷ refuses (drop 12 p1_sent) 0 51
    -- 51 before 53 and before 52
    ∷ refuses [] 0 51
    ∷ refuses (replicate 66 none) 0 51
    -- 117 at place 18 is no end, 122 at 19, 127 at 20 and 117 at 25 are, and none is needed at 26
    ∷ reads (sent (eighteen ++ (117 ∷ 122 ∷ 5 ∷ []))) 11 21 (eighteen ++ (117 ∷ 122 ∷ 5 ∷ []))
    ∷ reads (sent (eighteen ++ (18 ∷ 19 ∷ 127 ∷ 5 ∷ []))) 11 22 (eighteen ++ (18 ∷ 19 ∷ 127 ∷ 5 ∷ []))
    ∷ reads (sent (eighteen ++ replicate 7 6 ++ (117 ∷ 5 ∷ []))) 11 27 (eighteen ++ replicate 7 6 ++ (117 ∷ 5 ∷ []))
    ∷ reads (sent (eighteen ++ replicate 10 6)) 11 28 (eighteen ++ replicate 10 6)
    -- a room of 27, before all else
    ∷ record { symbols = []; lent = nines 27; start = 0; answer = 21; count = 0; room = nines 27 }
    ∷ []
