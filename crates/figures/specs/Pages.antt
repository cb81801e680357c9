-- What the list alone tells after each entry: its book, its line's words, its stops and its tenths.
use Rattle.std.specs.Prelude.{List, [], ◌∷◌, ◌++◌, map, Bool, true, false, cond, ℕ, ◌+◌, length, get_or, take, replicate, None}
use Rattle.std.proofs.Math.Option.{Option, none, some}
use Rattle.sequence.specs.declared.Field.TheVariants.{Blank}
use Rattle.rules.specs.Rules.Words.{Party, Mode, simplex, duplex, mode_number, Request, Config, Ashore, Event}
use Rattle.rules.specs.Rules.Words.{Deed, carrier_on, carrier_off, acknowledge, call_ship, unable, dial, release_line}
use Rattle.rules.specs.Rules.Words.{ringing_on, ringing_off, busy_tone}
use Rattle.rules.specs.Rules.Heard.{Heard, call_request, data_request, bq, working_call, end_of_call, declined, nothing}
use Rattle.rules.specs.Rules.Actions.{the_ship, Action, does, over, charge}
use Rattle.rules.specs.ListAlone.Book.{Note, Begun, begun_as, Said, silent, told_b_q, told_r_q, settled}
use Rattle.rules.specs.ListAlone.Book.{Call, quiet, called, dialled, talking, Column, Place, Book, blank_book, alike}
use Rattle.rules.specs.ListAlone.Reading.{turn, numbered, counted, counted_by_calls}
use Rattle.rules.specs.ListAlone.LineWords.{Line, idle, outward, inward, since, Word, worded, unused}
use Rattle.rules.specs.ListAlone.LineWords.{word_heard, words_done, word_after, word_of, ringings_done, ringing_after, ringing_switches, change}
use Rattle.rules.specs.ListAlone.LineWords.{release, releases}
use Rattle.rules.specs.ListAlone.BeingCalled.{is_for, columns_after}
use Rattle.rules.specs.Statement.{deeds_of, charges_of, charged, run_of, station_after, list_of, stops_of, call_numbers, tenths_in, begun_in}
use Rattle.rules.specs.Statement.{uncharged_tenths, events_of}
use Rattle.rules.specs.ListAlone.Repeated.{told_to_wait, last_asked, switched_on}
use Rattle.rules.specs.Tables.Runs.{station, seven, eight, nine, sends, usual, calls_for, calls, data_calls, accepts, accepts_in, declines}
use Rattle.rules.specs.Tables.Runs.{caller, shore_calls, works, ends, ticks, paid}
use Rattle.rules.specs.Tables.Runs.{Run, says, dials_out, picks_up, hangs, regains, loses, reserves, restores}
use Rattle.rules.specs.Tables.Cases.{Row}
use Rattle.rules.specs.Rules.Requests.{same}
use Rattle.rules.specs.Tables.SoundCases.{asking, from}
use Rattle.rules.specs.Tables.Phases.{phases}
use Rattle.figures.specs.BoundCases.{bit, calls_as, second_slot_dialled_script, second_slot_called_script}
use Rattle.figures.specs.BoundCases.{second_slot_called_again_script, both_called_script}

-- ── a book as numbers ────────────────────────────────────────────────────────

abbrev pub due : Option ℕ → List ℕ
due none = 0 ∷ []
due (some d) = 1 ∷ d ∷ []

-- ship, mode, second telecommand, how many digits
abbrev pub request : Request → List ℕ
request r = r.who.ship ∷ mode_number r.mode ∷ r.second ∷ length r.number ∷ []

-- and behind it its call number
abbrev pub begun : Begun → List ℕ
begun o = request o.request ++ o.call_number ∷ []

abbrev pub said : Said → List ℕ
said silent = 0 ∷ []
said (told_b_q o) = 1 ∷ begun o
said (told_r_q o) = 2 ∷ begun o
said (settled o) = 3 ∷ begun o

-- of a call that is dialled or answered: ship, mode, call number
abbrev pub shortly : Begun → List ℕ
shortly o = o.request.who.ship ∷ mode_number o.request.mode ∷ o.call_number ∷ []

-- a line that is dialled, and whether its dialling has ended; a call from ashore: what is asked, whether it rings
abbrev pub call : Call → List ℕ
call quiet = 0 ∷ []
call (called o rings) = 3 ∷ (begun o ++ bit rings ∷ [])
call (dialled o e) = 1 ∷ (shortly o ++ bit e ∷ [])
call (talking o b) = 2 ∷ (shortly o ++ b ∷ [])

abbrev pub column : Column → List ℕ
column l = said l.said ++ due l.wait ++ call l.call ++ due l.gone

-- a slot of which the list says nothing
abbrev pub still : List ℕ
still = 0 ∷ 0 ∷ 0 ∷ 0 ∷ []

abbrev pub places : List Place → List ℕ
places [] = []
places (p ∷ ps) = p.who.ship ∷ p.due ∷ places ps

-- the time and the last call number, a column for each slot, the queue
abbrev pub page : Book → List (List ℕ)
page b = (b.now ∷ b.given ∷ []) ∷ (map column b.columns ++ places b.places ∷ [])

abbrev pub pages_from : Config → List Note → Book → List (List ℕ)
pages_from c [] b = []
pages_from c (n ∷ ns) b = page (turn c b n) ++ pages_from c ns (turn c b n)

-- after each entry of a run
abbrev pub pages : ℕ → List Event → List (List ℕ)
pages n es = pages_from (station n) (list_of (station n) es) (blank_book (station n))

-- ── the line's words as numbers ──────────────────────────────────────────────

abbrev pub line : Line → List ℕ
line idle = 0 ∷ []
line outward = 1 ∷ []
line (since b) = 2 ∷ b ∷ []
line inward = 3 ∷ []

-- an 8 behind it where it rings at the caller's
abbrev pub word : Word → List ℕ
word v = line v.line ++ cond v.rings (8 ∷ []) []

abbrev pub words_from : ℕ → List Note → Word → List (List ℕ)
words_from i [] v = []
words_from i (n ∷ ns) v = word (word_after i (n ∷ []) v) ∷ words_from i ns (word_after i (n ∷ []) v)

-- of a slot after each entry of a run
abbrev pub words : ℕ → ℕ → List Event → List (List ℕ)
words n i es = words_from i (list_of (station n) es) unused

-- a line dialled, one taken from ashore, one taken from ashore that rings
abbrev pub dialled_word : Word
dialled_word = worded outward false

abbrev pub called_word : Word
called_word = worded inward false

abbrev pub ringing_word : Word
ringing_word = worded inward true

-- the answered tenths: charged and held, counted by time, counted by calls
abbrev pub tenths : ℕ → List Event → List ℕ
tenths n es =
    (tenths_in (charged 0 (run_of (station n) es)) + uncharged_tenths (station_after (station n) es))
    ∷ counted (station n) (list_of (station n) es) (blank_book (station n))
    ∷ counted_by_calls (station n) (list_of (station n) es) (blank_book (station n))
    ∷ []

-- ── the second slot ───────────────────────────────────────────────────────────

-- the second slot: offered, repeated, offered afresh, dialled, silent and heard again, answered, ended by its ship; a ring-back
-- answered and dialled, hung up; another one asked afresh
abbrev pub on_second : List Event
on_second =
    reserves 50 0 ∷ calls_as 100 usual 100 seven duplex ∷ calls_as 100 usual 110 seven duplex ∷
    calls_for (4 ∷ 2 ∷ []) 120 seven duplex ∷ regains 125 1 ∷ accepts 126 27 seven ∷ picks_up 127 1 ∷ works 130 1 seven ∷
    ends 135 1 eight ∷ loses 140 1 ∷ loses 145 1 ∷ regains 150 1 ∷ loses 155 1 ∷
    picks_up 160 1 ∷ picks_up 165 1 ∷ works 168 1 seven ∷ regains 170 1 ∷ loses 172 1 ∷
    loses 173 1 ∷ calls 180 eight duplex ∷ calls 190 nine simplex ∷ calls 195 eight simplex ∷ ends 196 1 eight ∷
    ends 200 1 seven ∷ ends 210 1 seven ∷ ticks 241 ∷ ticks 292 ∷ accepts 299 27 nine ∷ accepts 300 27 eight ∷
    accepts 301 27 eight ∷ works 310 1 eight ∷ hangs 320 1 ∷ calls 330 nine simplex ∷ ticks 491 ∷ []

abbrev pub on_second_pages : Row
on_second_pages = record {
  computed = pages 2 on_second;
  expected =
      (50 ∷ 0 ∷ []) ∷ still ∷ still ∷ [] ∷
      (100 ∷ 1 ∷ []) ∷ still ∷ (1 ∷ seven ∷ 101 ∷ 100 ∷ 7 ∷ 1 ∷ 1 ∷ 261 ∷ 0 ∷ 0 ∷ []) ∷ [] ∷
      (110 ∷ 1 ∷ []) ∷ still ∷ (1 ∷ seven ∷ 101 ∷ 100 ∷ 7 ∷ 1 ∷ 1 ∷ 261 ∷ 0 ∷ 0 ∷ []) ∷ [] ∷
      (120 ∷ 2 ∷ []) ∷ still ∷ (1 ∷ seven ∷ 101 ∷ 126 ∷ 2 ∷ 2 ∷ 1 ∷ 281 ∷ 0 ∷ 0 ∷ []) ∷ [] ∷
      (125 ∷ 2 ∷ []) ∷ still ∷ (1 ∷ seven ∷ 101 ∷ 126 ∷ 2 ∷ 2 ∷ 1 ∷ 281 ∷ 0 ∷ 0 ∷ []) ∷ [] ∷
      (126 ∷ 2 ∷ []) ∷ still ∷ (1 ∷ seven ∷ 101 ∷ 126 ∷ 2 ∷ 2 ∷ 1 ∷ 281 ∷ 0 ∷ 0 ∷ []) ∷ [] ∷
      (127 ∷ 2 ∷ []) ∷ still ∷ (1 ∷ seven ∷ 101 ∷ 126 ∷ 2 ∷ 2 ∷ 1 ∷ 281 ∷ 0 ∷ 0 ∷ []) ∷ [] ∷
      (130 ∷ 2 ∷ []) ∷ still ∷ (0 ∷ 1 ∷ 731 ∷ 1 ∷ seven ∷ 101 ∷ 2 ∷ 0 ∷ 0 ∷ []) ∷ [] ∷
      (135 ∷ 2 ∷ []) ∷ still ∷ (0 ∷ 1 ∷ 731 ∷ 1 ∷ seven ∷ 101 ∷ 2 ∷ 0 ∷ 0 ∷ []) ∷ [] ∷
      (140 ∷ 2 ∷ []) ∷ still ∷ (0 ∷ 1 ∷ 731 ∷ 1 ∷ seven ∷ 101 ∷ 2 ∷ 0 ∷ 1 ∷ 191 ∷ []) ∷ [] ∷
      (145 ∷ 2 ∷ []) ∷ still ∷ (0 ∷ 1 ∷ 731 ∷ 1 ∷ seven ∷ 101 ∷ 2 ∷ 0 ∷ 1 ∷ 191 ∷ []) ∷ [] ∷
      (150 ∷ 2 ∷ []) ∷ still ∷ (0 ∷ 1 ∷ 731 ∷ 1 ∷ seven ∷ 101 ∷ 2 ∷ 0 ∷ 0 ∷ []) ∷ [] ∷
      (155 ∷ 2 ∷ []) ∷ still ∷ (0 ∷ 1 ∷ 731 ∷ 1 ∷ seven ∷ 101 ∷ 2 ∷ 0 ∷ 1 ∷ 206 ∷ []) ∷ [] ∷
      (160 ∷ 2 ∷ []) ∷ still ∷ (0 ∷ 0 ∷ 2 ∷ seven ∷ 101 ∷ 2 ∷ 160 ∷ 1 ∷ 206 ∷ []) ∷ [] ∷
      (165 ∷ 2 ∷ []) ∷ still ∷ (0 ∷ 0 ∷ 2 ∷ seven ∷ 101 ∷ 2 ∷ 160 ∷ 1 ∷ 206 ∷ []) ∷ [] ∷
      (168 ∷ 2 ∷ []) ∷ still ∷ (0 ∷ 0 ∷ 2 ∷ seven ∷ 101 ∷ 2 ∷ 160 ∷ 1 ∷ 206 ∷ []) ∷ [] ∷
      (170 ∷ 2 ∷ []) ∷ still ∷ (0 ∷ 0 ∷ 2 ∷ seven ∷ 101 ∷ 2 ∷ 160 ∷ 0 ∷ []) ∷ [] ∷
      (172 ∷ 2 ∷ []) ∷ still ∷ (0 ∷ 0 ∷ 2 ∷ seven ∷ 101 ∷ 2 ∷ 160 ∷ 1 ∷ 223 ∷ []) ∷ [] ∷
      (173 ∷ 2 ∷ []) ∷ still ∷ (0 ∷ 0 ∷ 2 ∷ seven ∷ 101 ∷ 2 ∷ 160 ∷ 1 ∷ 223 ∷ []) ∷ [] ∷
      (180 ∷ 2 ∷ []) ∷ still ∷ (0 ∷ 0 ∷ 2 ∷ seven ∷ 101 ∷ 2 ∷ 160 ∷ 1 ∷ 223 ∷ []) ∷ (eight ∷ 9181 ∷ []) ∷
      (190 ∷ 2 ∷ []) ∷ still ∷ (0 ∷ 0 ∷ 2 ∷ seven ∷ 101 ∷ 2 ∷ 160 ∷ 1 ∷ 223 ∷ []) ∷ (eight ∷ 9181 ∷ nine ∷ 9191 ∷ []) ∷
      (195 ∷ 2 ∷ []) ∷ still ∷ (0 ∷ 0 ∷ 2 ∷ seven ∷ 101 ∷ 2 ∷ 160 ∷ 1 ∷ 223 ∷ []) ∷ (eight ∷ 9181 ∷ nine ∷ 9191 ∷ []) ∷
      (196 ∷ 2 ∷ []) ∷ still ∷ (0 ∷ 0 ∷ 2 ∷ seven ∷ 101 ∷ 2 ∷ 160 ∷ 1 ∷ 223 ∷ []) ∷ (eight ∷ 9181 ∷ nine ∷ 9191 ∷ []) ∷
      (200 ∷ 2 ∷ []) ∷ still ∷ (0 ∷ 1 ∷ 241 ∷ 0 ∷ 0 ∷ []) ∷ (eight ∷ 9181 ∷ nine ∷ 9191 ∷ []) ∷
      (210 ∷ 2 ∷ []) ∷ still ∷ (0 ∷ 1 ∷ 241 ∷ 0 ∷ 0 ∷ []) ∷ (eight ∷ 9181 ∷ nine ∷ 9191 ∷ []) ∷
      (241 ∷ 3 ∷ []) ∷ still ∷ (2 ∷ eight ∷ 100 ∷ 126 ∷ 7 ∷ 3 ∷ 1 ∷ 292 ∷ 0 ∷ 0 ∷ []) ∷ (nine ∷ 9191 ∷ []) ∷
      (292 ∷ 3 ∷ []) ∷ still ∷ (2 ∷ eight ∷ 100 ∷ 126 ∷ 7 ∷ 3 ∷ 1 ∷ 343 ∷ 0 ∷ 0 ∷ []) ∷ (nine ∷ 9191 ∷ []) ∷
      (299 ∷ 3 ∷ []) ∷ still ∷ (2 ∷ eight ∷ 100 ∷ 126 ∷ 7 ∷ 3 ∷ 1 ∷ 343 ∷ 0 ∷ 0 ∷ []) ∷ (nine ∷ 9191 ∷ []) ∷
      (300 ∷ 3 ∷ []) ∷ still ∷ (3 ∷ eight ∷ 100 ∷ 126 ∷ 7 ∷ 3 ∷ 1 ∷ 461 ∷ 0 ∷ 0 ∷ []) ∷ (nine ∷ 9191 ∷ []) ∷
      (301 ∷ 3 ∷ []) ∷ still ∷ (3 ∷ eight ∷ 100 ∷ 126 ∷ 7 ∷ 3 ∷ 1 ∷ 461 ∷ 0 ∷ 0 ∷ []) ∷ (nine ∷ 9191 ∷ []) ∷
      (310 ∷ 3 ∷ []) ∷ still ∷ (0 ∷ 1 ∷ 911 ∷ 1 ∷ eight ∷ 100 ∷ 3 ∷ 0 ∷ 0 ∷ []) ∷ (nine ∷ 9191 ∷ []) ∷
      (320 ∷ 4 ∷ []) ∷ still ∷ (2 ∷ nine ∷ 100 ∷ 126 ∷ 7 ∷ 4 ∷ 1 ∷ 371 ∷ 0 ∷ 0 ∷ []) ∷ [] ∷
      (330 ∷ 5 ∷ []) ∷ still ∷ (1 ∷ nine ∷ 100 ∷ 126 ∷ 7 ∷ 5 ∷ 1 ∷ 491 ∷ 0 ∷ 0 ∷ []) ∷ [] ∷
      (491 ∷ 5 ∷ []) ∷ still ∷ still ∷ [] ∷ [];
}

abbrev pub on_second_words : Row
on_second_words = record {
  computed = words 2 1 on_second;
  expected = (0 ∷ []) ∷ (0 ∷ []) ∷ (0 ∷ []) ∷ (0 ∷ []) ∷ (0 ∷ []) ∷ (0 ∷ []) ∷ (0 ∷ []) ∷ (1 ∷ []) ∷ (1 ∷ []) ∷ (1 ∷ []) ∷ (1 ∷ []) ∷
      (1 ∷ []) ∷ (1 ∷ []) ∷ (2 ∷ 160 ∷ []) ∷ (2 ∷ 160 ∷ []) ∷ (2 ∷ 160 ∷ []) ∷ (2 ∷ 160 ∷ []) ∷ (2 ∷ 160 ∷ []) ∷ (2 ∷ 160 ∷ []) ∷
      (2 ∷ 160 ∷ []) ∷ (2 ∷ 160 ∷ []) ∷ (2 ∷ 160 ∷ []) ∷ (2 ∷ 160 ∷ []) ∷ (0 ∷ []) ∷ (0 ∷ []) ∷ (0 ∷ []) ∷ (0 ∷ []) ∷ (0 ∷ []) ∷
      (0 ∷ []) ∷ (0 ∷ []) ∷ (1 ∷ []) ∷ (0 ∷ []) ∷ (0 ∷ []) ∷ (0 ∷ []) ∷ [];
}

abbrev pub on_second_tenths : Row
on_second_tenths = record {
  computed = tenths 2 on_second ∷ [];
  expected = (40 ∷ 40 ∷ 40 ∷ []) ∷ [];
}

abbrev pub on_second_run : Run
on_second_run = record {
  slots = 2;
  events = on_second;
  owing = paid 23 1 seven 160 200 4 2 ∷ [];
}

-- ── the second slot once more ─────────────────────────────────────────────────

-- the second slot: rule c answered and only dialled, no reply, carrier loss of a duplex and of a simplex call, the ship's end
-- while dialling
abbrev pub again : List Event
again =
    reserves 50 0 ∷ calls 100 seven simplex ∷ works 110 1 seven ∷ picks_up 120 1 ∷ loses 130 1 ∷
    calls 135 eight simplex ∷ calls 140 seven simplex ∷ ticks 191 ∷ accepts 200 27 eight ∷ works 210 1 eight ∷
    loses 220 1 ∷ calls 230 eight simplex ∷ accepts 240 27 seven ∷ works 245 1 seven ∷ ticks 846 ∷ ticks 897 ∷
    ticks 948 ∷ calls 960 eight duplex ∷ works 970 1 eight ∷ picks_up 980 1 ∷ loses 990 1 ∷
    calls 1000 eight duplex ∷ ticks 1100 ∷ calls 1110 seven simplex ∷ works 1120 1 seven ∷ regains 1125 1 ∷
    picks_up 1130 1 ∷ calls 1135 seven simplex ∷ loses 1140 1 ∷ ticks 1600 ∷ calls 1610 nine duplex ∷
    works 1620 1 nine ∷ loses 1630 1 ∷ ends 1640 1 nine ∷ ticks 1681 ∷ []

abbrev pub again_pages : Row
again_pages = record {
  computed = pages 2 again;
  expected =
      (50 ∷ 0 ∷ []) ∷ still ∷ still ∷ [] ∷
      (100 ∷ 1 ∷ []) ∷ still ∷ (1 ∷ seven ∷ 100 ∷ 126 ∷ 7 ∷ 1 ∷ 1 ∷ 261 ∷ 0 ∷ 0 ∷ []) ∷ [] ∷
      (110 ∷ 1 ∷ []) ∷ still ∷ (0 ∷ 1 ∷ 711 ∷ 1 ∷ seven ∷ 100 ∷ 1 ∷ 0 ∷ 0 ∷ []) ∷ [] ∷
      (120 ∷ 1 ∷ []) ∷ still ∷ (0 ∷ 0 ∷ 2 ∷ seven ∷ 100 ∷ 1 ∷ 120 ∷ 0 ∷ []) ∷ [] ∷
      (130 ∷ 1 ∷ []) ∷ still ∷ (0 ∷ 0 ∷ 2 ∷ seven ∷ 100 ∷ 1 ∷ 120 ∷ 1 ∷ 581 ∷ []) ∷ [] ∷
      (135 ∷ 1 ∷ []) ∷ still ∷ (0 ∷ 0 ∷ 2 ∷ seven ∷ 100 ∷ 1 ∷ 120 ∷ 1 ∷ 581 ∷ []) ∷ (eight ∷ 9136 ∷ []) ∷
      (140 ∷ 2 ∷ []) ∷ still ∷ (2 ∷ eight ∷ 100 ∷ 126 ∷ 7 ∷ 2 ∷ 1 ∷ 191 ∷ 0 ∷ 0 ∷ []) ∷ (seven ∷ 9141 ∷ []) ∷
      (191 ∷ 2 ∷ []) ∷ still ∷ (2 ∷ eight ∷ 100 ∷ 126 ∷ 7 ∷ 2 ∷ 1 ∷ 242 ∷ 0 ∷ 0 ∷ []) ∷ (seven ∷ 9141 ∷ []) ∷
      (200 ∷ 2 ∷ []) ∷ still ∷ (3 ∷ eight ∷ 100 ∷ 126 ∷ 7 ∷ 2 ∷ 1 ∷ 361 ∷ 0 ∷ 0 ∷ []) ∷ (seven ∷ 9141 ∷ []) ∷
      (210 ∷ 2 ∷ []) ∷ still ∷ (0 ∷ 1 ∷ 811 ∷ 1 ∷ eight ∷ 100 ∷ 2 ∷ 0 ∷ 0 ∷ []) ∷ (seven ∷ 9141 ∷ []) ∷
      (220 ∷ 2 ∷ []) ∷ still ∷ (0 ∷ 1 ∷ 811 ∷ 1 ∷ eight ∷ 100 ∷ 2 ∷ 0 ∷ 1 ∷ 671 ∷ []) ∷ (seven ∷ 9141 ∷ []) ∷
      (230 ∷ 3 ∷ []) ∷ still ∷ (2 ∷ seven ∷ 100 ∷ 126 ∷ 7 ∷ 3 ∷ 1 ∷ 281 ∷ 0 ∷ 0 ∷ []) ∷ (eight ∷ 9231 ∷ []) ∷
      (240 ∷ 3 ∷ []) ∷ still ∷ (3 ∷ seven ∷ 100 ∷ 126 ∷ 7 ∷ 3 ∷ 1 ∷ 401 ∷ 0 ∷ 0 ∷ []) ∷ (eight ∷ 9231 ∷ []) ∷
      (245 ∷ 3 ∷ []) ∷ still ∷ (0 ∷ 1 ∷ 846 ∷ 1 ∷ seven ∷ 100 ∷ 3 ∷ 0 ∷ 0 ∷ []) ∷ (eight ∷ 9231 ∷ []) ∷
      (846 ∷ 4 ∷ []) ∷ still ∷ (2 ∷ eight ∷ 100 ∷ 126 ∷ 7 ∷ 4 ∷ 1 ∷ 897 ∷ 0 ∷ 0 ∷ []) ∷ [] ∷
      (897 ∷ 4 ∷ []) ∷ still ∷ (2 ∷ eight ∷ 100 ∷ 126 ∷ 7 ∷ 4 ∷ 1 ∷ 948 ∷ 0 ∷ 0 ∷ []) ∷ [] ∷
      (948 ∷ 4 ∷ []) ∷ still ∷ still ∷ [] ∷
      (960 ∷ 5 ∷ []) ∷ still ∷ (1 ∷ eight ∷ 101 ∷ 126 ∷ 7 ∷ 5 ∷ 1 ∷ 1121 ∷ 0 ∷ 0 ∷ []) ∷ [] ∷
      (970 ∷ 5 ∷ []) ∷ still ∷ (0 ∷ 1 ∷ 1571 ∷ 1 ∷ eight ∷ 101 ∷ 5 ∷ 0 ∷ 0 ∷ []) ∷ [] ∷
      (980 ∷ 5 ∷ []) ∷ still ∷ (0 ∷ 0 ∷ 2 ∷ eight ∷ 101 ∷ 5 ∷ 980 ∷ 0 ∷ []) ∷ [] ∷
      (990 ∷ 5 ∷ []) ∷ still ∷ (0 ∷ 0 ∷ 2 ∷ eight ∷ 101 ∷ 5 ∷ 980 ∷ 1 ∷ 1041 ∷ []) ∷ [] ∷
      (1000 ∷ 5 ∷ []) ∷ still ∷ (0 ∷ 0 ∷ 2 ∷ eight ∷ 101 ∷ 5 ∷ 980 ∷ 1 ∷ 1041 ∷ []) ∷ [] ∷
      (1041 ∷ 5 ∷ []) ∷ still ∷ still ∷ [] ∷
      (1110 ∷ 6 ∷ []) ∷ still ∷ (1 ∷ seven ∷ 100 ∷ 126 ∷ 7 ∷ 6 ∷ 1 ∷ 1271 ∷ 0 ∷ 0 ∷ []) ∷ [] ∷
      (1120 ∷ 6 ∷ []) ∷ still ∷ (0 ∷ 1 ∷ 1721 ∷ 1 ∷ seven ∷ 100 ∷ 6 ∷ 0 ∷ 0 ∷ []) ∷ [] ∷
      (1125 ∷ 6 ∷ []) ∷ still ∷ (0 ∷ 1 ∷ 1721 ∷ 1 ∷ seven ∷ 100 ∷ 6 ∷ 0 ∷ 0 ∷ []) ∷ [] ∷
      (1130 ∷ 6 ∷ []) ∷ still ∷ (0 ∷ 0 ∷ 2 ∷ seven ∷ 100 ∷ 6 ∷ 1130 ∷ 0 ∷ []) ∷ [] ∷
      (1135 ∷ 6 ∷ []) ∷ still ∷ (0 ∷ 0 ∷ 2 ∷ seven ∷ 100 ∷ 6 ∷ 1130 ∷ 0 ∷ []) ∷ [] ∷
      (1140 ∷ 6 ∷ []) ∷ still ∷ (0 ∷ 0 ∷ 2 ∷ seven ∷ 100 ∷ 6 ∷ 1130 ∷ 1 ∷ 1591 ∷ []) ∷ [] ∷
      (1591 ∷ 6 ∷ []) ∷ still ∷ still ∷ [] ∷
      (1610 ∷ 7 ∷ []) ∷ still ∷ (1 ∷ nine ∷ 101 ∷ 126 ∷ 7 ∷ 7 ∷ 1 ∷ 1771 ∷ 0 ∷ 0 ∷ []) ∷ [] ∷
      (1620 ∷ 7 ∷ []) ∷ still ∷ (0 ∷ 1 ∷ 2221 ∷ 1 ∷ nine ∷ 101 ∷ 7 ∷ 0 ∷ 0 ∷ []) ∷ [] ∷
      (1630 ∷ 7 ∷ []) ∷ still ∷ (0 ∷ 1 ∷ 2221 ∷ 1 ∷ nine ∷ 101 ∷ 7 ∷ 0 ∷ 1 ∷ 1681 ∷ []) ∷ [] ∷
      (1640 ∷ 7 ∷ []) ∷ still ∷ (0 ∷ 1 ∷ 1681 ∷ 0 ∷ 0 ∷ []) ∷ [] ∷
      (1681 ∷ 7 ∷ []) ∷ still ∷ still ∷ [] ∷ [];
}

abbrev pub again_words : Row
again_words = record {
  computed = words 2 1 again;
  expected = (0 ∷ []) ∷ (0 ∷ []) ∷ (1 ∷ []) ∷ (2 ∷ 120 ∷ []) ∷ (2 ∷ 120 ∷ []) ∷ (2 ∷ 120 ∷ []) ∷ (0 ∷ []) ∷ (0 ∷ []) ∷ (0 ∷ []) ∷
      (1 ∷ []) ∷ (1 ∷ []) ∷ (0 ∷ []) ∷ (0 ∷ []) ∷ (1 ∷ []) ∷ (0 ∷ []) ∷ (0 ∷ []) ∷ (0 ∷ []) ∷ (0 ∷ []) ∷ (1 ∷ []) ∷
      (2 ∷ 980 ∷ []) ∷ (2 ∷ 980 ∷ []) ∷ (2 ∷ 980 ∷ []) ∷ (0 ∷ []) ∷ (0 ∷ []) ∷ (1 ∷ []) ∷ (1 ∷ []) ∷ (2 ∷ 1130 ∷ []) ∷
      (2 ∷ 1130 ∷ []) ∷ (2 ∷ 1130 ∷ []) ∷ (0 ∷ []) ∷ (0 ∷ []) ∷ (1 ∷ []) ∷ (1 ∷ []) ∷ (0 ∷ []) ∷ (0 ∷ []) ∷ [];
}

abbrev pub again_tenths : Row
again_tenths = record {
  computed = tenths 2 again ∷ [];
  expected = (542 ∷ 542 ∷ 542 ∷ []) ∷ [];
}

abbrev pub again_run : Run
again_run = record {
  slots = 2;
  events = again;
  owing = paid 6 1 seven 120 140 2 1 ∷ paid 22 1 eight 980 1041 6 5 ∷ paid 29 1 seven 1130 1591 46 6 ∷ [];
}

-- ── the second slot, its dialling ended ───────────────────────────────────────

abbrev pub dialled_pages : Row
dialled_pages = record {
  computed = pages 2 second_slot_dialled_script;
  expected =
      (50 ∷ 0 ∷ []) ∷ still ∷ still ∷ [] ∷
      (100 ∷ 1 ∷ []) ∷ still ∷ (1 ∷ seven ∷ 101 ∷ 126 ∷ 7 ∷ 1 ∷ 1 ∷ 261 ∷ 0 ∷ 0 ∷ []) ∷ [] ∷
      (105 ∷ 1 ∷ []) ∷ still ∷ (1 ∷ seven ∷ 101 ∷ 126 ∷ 7 ∷ 1 ∷ 1 ∷ 261 ∷ 0 ∷ 0 ∷ []) ∷ [] ∷
      (110 ∷ 1 ∷ []) ∷ still ∷ (0 ∷ 1 ∷ 711 ∷ 1 ∷ seven ∷ 101 ∷ 1 ∷ 0 ∷ 0 ∷ []) ∷ [] ∷
      (700 ∷ 1 ∷ []) ∷ still ∷ (0 ∷ 1 ∷ 1301 ∷ 1 ∷ seven ∷ 101 ∷ 1 ∷ 1 ∷ 0 ∷ []) ∷ [] ∷
      (705 ∷ 1 ∷ []) ∷ still ∷ (0 ∷ 1 ∷ 1301 ∷ 1 ∷ seven ∷ 101 ∷ 1 ∷ 1 ∷ 0 ∷ []) ∷ [] ∷
      (710 ∷ 1 ∷ []) ∷ still ∷ (0 ∷ 1 ∷ 1301 ∷ 1 ∷ seven ∷ 101 ∷ 1 ∷ 1 ∷ 1 ∷ 761 ∷ []) ∷ [] ∷
      (720 ∷ 1 ∷ []) ∷ still ∷ (0 ∷ 1 ∷ 1301 ∷ 1 ∷ seven ∷ 101 ∷ 1 ∷ 1 ∷ 0 ∷ []) ∷ [] ∷
      (1301 ∷ 1 ∷ []) ∷ still ∷ still ∷ [] ∷
      (1310 ∷ 2 ∷ []) ∷ still ∷ (1 ∷ seven ∷ 100 ∷ 126 ∷ 7 ∷ 2 ∷ 1 ∷ 1471 ∷ 0 ∷ 0 ∷ []) ∷ [] ∷
      (1320 ∷ 2 ∷ []) ∷ still ∷ (0 ∷ 1 ∷ 1921 ∷ 1 ∷ seven ∷ 100 ∷ 2 ∷ 0 ∷ 0 ∷ []) ∷ [] ∷
      (1325 ∷ 2 ∷ []) ∷ still ∷ (0 ∷ 1 ∷ 1921 ∷ 1 ∷ seven ∷ 100 ∷ 2 ∷ 0 ∷ 1 ∷ 1776 ∷ []) ∷ [] ∷
      (1330 ∷ 2 ∷ []) ∷ still ∷ (0 ∷ 1 ∷ 1931 ∷ 1 ∷ seven ∷ 100 ∷ 2 ∷ 1 ∷ 1 ∷ 1776 ∷ []) ∷ [] ∷
      (1335 ∷ 2 ∷ []) ∷ still ∷ (0 ∷ 1 ∷ 1931 ∷ 1 ∷ seven ∷ 100 ∷ 2 ∷ 1 ∷ 1 ∷ 1776 ∷ []) ∷ [] ∷
      (1340 ∷ 2 ∷ []) ∷ still ∷ (0 ∷ 0 ∷ 2 ∷ seven ∷ 100 ∷ 2 ∷ 1340 ∷ 1 ∷ 1776 ∷ []) ∷ [] ∷
      (1345 ∷ 2 ∷ []) ∷ still ∷ (0 ∷ 0 ∷ 2 ∷ seven ∷ 100 ∷ 2 ∷ 1340 ∷ 1 ∷ 1776 ∷ []) ∷ [] ∷
      (1360 ∷ 2 ∷ []) ∷ still ∷ (0 ∷ 1 ∷ 1401 ∷ 0 ∷ 0 ∷ []) ∷ [] ∷
      (1370 ∷ 2 ∷ []) ∷ still ∷ (0 ∷ 1 ∷ 1401 ∷ 0 ∷ 0 ∷ []) ∷ [] ∷
      (1401 ∷ 2 ∷ []) ∷ still ∷ still ∷ [] ∷
      (1410 ∷ 2 ∷ []) ∷ still ∷ still ∷ [] ∷ [];
}

abbrev pub dialled_words : Row
dialled_words = record {
  computed = words 2 1 second_slot_dialled_script;
  expected = (0 ∷ []) ∷ (0 ∷ []) ∷ (0 ∷ []) ∷ (1 ∷ []) ∷ (1 ∷ []) ∷ (1 ∷ []) ∷ (1 ∷ []) ∷ (1 ∷ []) ∷ (0 ∷ []) ∷ (0 ∷ []) ∷
      (1 ∷ []) ∷ (1 ∷ []) ∷ (1 ∷ []) ∷ (1 ∷ []) ∷ (2 ∷ 1340 ∷ []) ∷ (2 ∷ 1340 ∷ []) ∷ (0 ∷ []) ∷ (0 ∷ []) ∷ (0 ∷ []) ∷
      (0 ∷ []) ∷ [];
}

abbrev pub dialled_tenths : Row
dialled_tenths = record {
  computed = tenths 2 second_slot_dialled_script ∷ [];
  expected = (20 ∷ 20 ∷ 20 ∷ []) ∷ [];
}

abbrev pub dialled_run : Run
dialled_run = record {
  slots = 2;
  events = second_slot_dialled_script;
  owing = paid 16 1 seven 1340 1360 2 2 ∷ [];
}

-- ── the second slot, called from ashore ──────────────────────────────────────

abbrev pub called_pages : Row
called_pages = record {
  computed = pages 2 second_slot_called_script;
  expected =
      (50 ∷ 0 ∷ []) ∷ still ∷ still ∷ [] ∷
      (100 ∷ 1 ∷ []) ∷ still ∷ (0 ∷ 1 ∷ 151 ∷ 3 ∷ seven ∷ 101 ∷ 126 ∷ 6 ∷ 1 ∷ 0 ∷ 0 ∷ []) ∷ [] ∷
      (105 ∷ 1 ∷ []) ∷ still ∷ (0 ∷ 1 ∷ 151 ∷ 3 ∷ seven ∷ 101 ∷ 126 ∷ 6 ∷ 1 ∷ 0 ∷ 0 ∷ []) ∷ [] ∷
      (106 ∷ 1 ∷ []) ∷ still ∷ (0 ∷ 1 ∷ 151 ∷ 3 ∷ seven ∷ 101 ∷ 126 ∷ 6 ∷ 1 ∷ 0 ∷ 0 ∷ []) ∷ [] ∷
      (107 ∷ 1 ∷ []) ∷ still ∷ (0 ∷ 1 ∷ 151 ∷ 3 ∷ seven ∷ 101 ∷ 126 ∷ 6 ∷ 1 ∷ 0 ∷ 0 ∷ []) ∷ [] ∷
      (108 ∷ 1 ∷ []) ∷ still ∷ (0 ∷ 1 ∷ 151 ∷ 3 ∷ seven ∷ 101 ∷ 126 ∷ 6 ∷ 1 ∷ 0 ∷ 0 ∷ []) ∷ [] ∷
      (109 ∷ 1 ∷ []) ∷ still ∷ (0 ∷ 1 ∷ 151 ∷ 3 ∷ seven ∷ 101 ∷ 126 ∷ 6 ∷ 1 ∷ 0 ∷ 0 ∷ []) ∷ [] ∷
      (110 ∷ 1 ∷ []) ∷ still ∷ (0 ∷ 1 ∷ 151 ∷ 3 ∷ seven ∷ 101 ∷ 126 ∷ 6 ∷ 1 ∷ 0 ∷ 0 ∷ []) ∷ [] ∷
      (111 ∷ 1 ∷ []) ∷ still ∷ (0 ∷ 1 ∷ 151 ∷ 3 ∷ seven ∷ 101 ∷ 126 ∷ 6 ∷ 1 ∷ 0 ∷ 0 ∷ []) ∷ [] ∷
      (112 ∷ 1 ∷ []) ∷ still ∷ (0 ∷ 1 ∷ 151 ∷ 3 ∷ seven ∷ 101 ∷ 126 ∷ 6 ∷ 1 ∷ 0 ∷ 0 ∷ []) ∷ [] ∷
      (113 ∷ 1 ∷ []) ∷ still ∷ (0 ∷ 1 ∷ 151 ∷ 3 ∷ seven ∷ 101 ∷ 126 ∷ 6 ∷ 1 ∷ 0 ∷ 0 ∷ []) ∷ [] ∷
      (114 ∷ 1 ∷ []) ∷ still ∷ (0 ∷ 1 ∷ 151 ∷ 3 ∷ seven ∷ 101 ∷ 126 ∷ 6 ∷ 1 ∷ 0 ∷ 0 ∷ []) ∷ [] ∷
      (117 ∷ 1 ∷ []) ∷ still ∷ (0 ∷ 1 ∷ 151 ∷ 3 ∷ seven ∷ 101 ∷ 126 ∷ 6 ∷ 1 ∷ 0 ∷ 0 ∷ []) ∷ (eight ∷ 9118 ∷ []) ∷
      (151 ∷ 1 ∷ []) ∷ still ∷ (0 ∷ 1 ∷ 202 ∷ 3 ∷ seven ∷ 101 ∷ 126 ∷ 6 ∷ 1 ∷ 0 ∷ 0 ∷ []) ∷ (eight ∷ 9118 ∷ []) ∷
      (155 ∷ 1 ∷ []) ∷ still ∷ (0 ∷ 1 ∷ 202 ∷ 3 ∷ seven ∷ 101 ∷ 126 ∷ 6 ∷ 1 ∷ 0 ∷ 0 ∷ []) ∷ (eight ∷ 9118 ∷ []) ∷
      (160 ∷ 1 ∷ []) ∷ still ∷ (0 ∷ 1 ∷ 761 ∷ 3 ∷ seven ∷ 101 ∷ 126 ∷ 6 ∷ 1 ∷ 1 ∷ 0 ∷ []) ∷ (eight ∷ 9118 ∷ []) ∷
      (165 ∷ 1 ∷ []) ∷ still ∷ (0 ∷ 1 ∷ 761 ∷ 3 ∷ seven ∷ 101 ∷ 126 ∷ 6 ∷ 1 ∷ 1 ∷ 0 ∷ []) ∷ (eight ∷ 9118 ∷ []) ∷
      (166 ∷ 1 ∷ []) ∷ still ∷ (0 ∷ 1 ∷ 761 ∷ 3 ∷ seven ∷ 101 ∷ 126 ∷ 6 ∷ 1 ∷ 1 ∷ 0 ∷ []) ∷ (eight ∷ 9118 ∷ []) ∷
      (167 ∷ 1 ∷ []) ∷ still ∷ (0 ∷ 1 ∷ 761 ∷ 3 ∷ seven ∷ 101 ∷ 126 ∷ 6 ∷ 1 ∷ 1 ∷ 0 ∷ []) ∷ (eight ∷ 9118 ∷ []) ∷
      (168 ∷ 1 ∷ []) ∷ still ∷ (0 ∷ 1 ∷ 761 ∷ 3 ∷ seven ∷ 101 ∷ 126 ∷ 6 ∷ 1 ∷ 1 ∷ 0 ∷ []) ∷ (eight ∷ 9118 ∷ []) ∷
      (169 ∷ 1 ∷ []) ∷ still ∷ (0 ∷ 1 ∷ 761 ∷ 3 ∷ seven ∷ 101 ∷ 126 ∷ 6 ∷ 1 ∷ 1 ∷ 0 ∷ []) ∷ (eight ∷ 9118 ∷ []) ∷
      (170 ∷ 1 ∷ []) ∷ still ∷ (0 ∷ 1 ∷ 761 ∷ 3 ∷ seven ∷ 101 ∷ 126 ∷ 6 ∷ 1 ∷ 1 ∷ 0 ∷ []) ∷ (eight ∷ 9118 ∷ []) ∷
      (171 ∷ 1 ∷ []) ∷ still ∷ (0 ∷ 1 ∷ 761 ∷ 3 ∷ seven ∷ 101 ∷ 126 ∷ 6 ∷ 1 ∷ 1 ∷ 0 ∷ []) ∷ (eight ∷ 9118 ∷ []) ∷
      (172 ∷ 1 ∷ []) ∷ still ∷ (0 ∷ 1 ∷ 761 ∷ 3 ∷ seven ∷ 101 ∷ 126 ∷ 6 ∷ 1 ∷ 1 ∷ 0 ∷ []) ∷ (eight ∷ 9118 ∷ []) ∷
      (200 ∷ 1 ∷ []) ∷ still ∷ (0 ∷ 0 ∷ 2 ∷ seven ∷ 101 ∷ 1 ∷ 200 ∷ 0 ∷ []) ∷ (eight ∷ 9118 ∷ []) ∷
      (205 ∷ 1 ∷ []) ∷ still ∷ (0 ∷ 0 ∷ 2 ∷ seven ∷ 101 ∷ 1 ∷ 200 ∷ 0 ∷ []) ∷ (eight ∷ 9118 ∷ []) ∷
      (206 ∷ 1 ∷ []) ∷ still ∷ (0 ∷ 0 ∷ 2 ∷ seven ∷ 101 ∷ 1 ∷ 200 ∷ 0 ∷ []) ∷ (eight ∷ 9118 ∷ []) ∷
      (207 ∷ 1 ∷ []) ∷ still ∷ (0 ∷ 0 ∷ 2 ∷ seven ∷ 101 ∷ 1 ∷ 200 ∷ 0 ∷ []) ∷ (eight ∷ 9118 ∷ []) ∷
      (208 ∷ 1 ∷ []) ∷ still ∷ (0 ∷ 0 ∷ 2 ∷ seven ∷ 101 ∷ 1 ∷ 200 ∷ 0 ∷ []) ∷ (eight ∷ 9118 ∷ []) ∷
      (210 ∷ 1 ∷ []) ∷ still ∷ (0 ∷ 0 ∷ 2 ∷ seven ∷ 101 ∷ 1 ∷ 200 ∷ 1 ∷ 261 ∷ []) ∷ (eight ∷ 9118 ∷ []) ∷
      (215 ∷ 1 ∷ []) ∷ still ∷ (0 ∷ 0 ∷ 2 ∷ seven ∷ 101 ∷ 1 ∷ 200 ∷ 1 ∷ 261 ∷ []) ∷ (eight ∷ 9118 ∷ []) ∷
      (220 ∷ 1 ∷ []) ∷ still ∷ (0 ∷ 0 ∷ 2 ∷ seven ∷ 101 ∷ 1 ∷ 200 ∷ 0 ∷ []) ∷ (eight ∷ 9118 ∷ []) ∷
      (225 ∷ 1 ∷ []) ∷ still ∷ (0 ∷ 0 ∷ 2 ∷ seven ∷ 101 ∷ 1 ∷ 200 ∷ 0 ∷ []) ∷ (eight ∷ 9118 ∷ []) ∷
      (226 ∷ 1 ∷ []) ∷ still ∷ (0 ∷ 0 ∷ 2 ∷ seven ∷ 101 ∷ 1 ∷ 200 ∷ 0 ∷ []) ∷ (eight ∷ 9118 ∷ []) ∷
      (227 ∷ 1 ∷ []) ∷ still ∷ (0 ∷ 0 ∷ 2 ∷ seven ∷ 101 ∷ 1 ∷ 200 ∷ 0 ∷ []) ∷ (eight ∷ 9118 ∷ []) ∷
      (230 ∷ 1 ∷ []) ∷ still ∷ (0 ∷ 0 ∷ 2 ∷ seven ∷ 101 ∷ 1 ∷ 200 ∷ 0 ∷ []) ∷ (eight ∷ 9118 ∷ []) ∷
      (240 ∷ 1 ∷ []) ∷ still ∷ (0 ∷ 1 ∷ 281 ∷ 0 ∷ 0 ∷ []) ∷ (eight ∷ 9118 ∷ []) ∷
      (250 ∷ 1 ∷ []) ∷ still ∷ (0 ∷ 1 ∷ 281 ∷ 0 ∷ 0 ∷ []) ∷ (eight ∷ 9118 ∷ []) ∷
      (281 ∷ 2 ∷ []) ∷ still ∷ (2 ∷ eight ∷ 101 ∷ 126 ∷ 7 ∷ 2 ∷ 1 ∷ 332 ∷ 0 ∷ 0 ∷ []) ∷ [] ∷
      (290 ∷ 2 ∷ []) ∷ still ∷ (2 ∷ eight ∷ 101 ∷ 126 ∷ 7 ∷ 2 ∷ 1 ∷ 332 ∷ 0 ∷ 0 ∷ []) ∷ [] ∷
      (295 ∷ 2 ∷ []) ∷ still ∷ (2 ∷ eight ∷ 101 ∷ 126 ∷ 7 ∷ 2 ∷ 1 ∷ 332 ∷ 0 ∷ 0 ∷ []) ∷ [] ∷
      (296 ∷ 2 ∷ []) ∷ still ∷ (2 ∷ eight ∷ 101 ∷ 126 ∷ 7 ∷ 2 ∷ 1 ∷ 332 ∷ 0 ∷ 0 ∷ []) ∷ [] ∷
      (332 ∷ 2 ∷ []) ∷ still ∷ (2 ∷ eight ∷ 101 ∷ 126 ∷ 7 ∷ 2 ∷ 1 ∷ 383 ∷ 0 ∷ 0 ∷ []) ∷ [] ∷
      (383 ∷ 2 ∷ []) ∷ still ∷ still ∷ [] ∷ [];
}

abbrev pub called_words : Row
called_words = record {
  computed = words 2 1 second_slot_called_script;
  expected =
      (0 ∷ []) ∷ (3 ∷ []) ∷ (3 ∷ []) ∷ (3 ∷ []) ∷ (3 ∷ []) ∷ (3 ∷ []) ∷ (3 ∷ []) ∷ (3 ∷ []) ∷ (3 ∷ []) ∷ (3 ∷ []) ∷ (3 ∷ []) ∷
      (3 ∷ []) ∷ (3 ∷ []) ∷ (3 ∷ []) ∷ (3 ∷ []) ∷ (3 ∷ 8 ∷ []) ∷ (3 ∷ 8 ∷ []) ∷ (3 ∷ 8 ∷ []) ∷ (3 ∷ 8 ∷ []) ∷ (3 ∷ 8 ∷ []) ∷
      (3 ∷ 8 ∷ []) ∷ (3 ∷ 8 ∷ []) ∷ (3 ∷ 8 ∷ []) ∷ (3 ∷ 8 ∷ []) ∷ (2 ∷ 200 ∷ []) ∷ (2 ∷ 200 ∷ []) ∷ (2 ∷ 200 ∷ []) ∷
      (2 ∷ 200 ∷ []) ∷ (2 ∷ 200 ∷ []) ∷ (2 ∷ 200 ∷ []) ∷ (2 ∷ 200 ∷ []) ∷ (2 ∷ 200 ∷ []) ∷ (2 ∷ 200 ∷ []) ∷ (2 ∷ 200 ∷ []) ∷
      (2 ∷ 200 ∷ []) ∷ (2 ∷ 200 ∷ []) ∷ (0 ∷ []) ∷ (0 ∷ []) ∷ (0 ∷ []) ∷ (0 ∷ []) ∷ (0 ∷ []) ∷ (0 ∷ []) ∷ (0 ∷ []) ∷ (0 ∷ []) ∷ [];
}

abbrev pub called_tenths : Row
called_tenths = record {
  computed = tenths 2 second_slot_called_script ∷ [];
  expected = (40 ∷ 40 ∷ 40 ∷ []) ∷ [];
}

abbrev pub called_run : Run
called_run = record {
  slots = 2;
  events = second_slot_called_script;
  owing = paid 36 1 seven 200 240 4 1 ∷ [];
}

abbrev pub called_again_pages : Row
called_again_pages = record {
  computed = pages 2 second_slot_called_again_script;
  expected =
      (50 ∷ 0 ∷ []) ∷ still ∷ still ∷ [] ∷
      (100 ∷ 1 ∷ []) ∷ still ∷ (0 ∷ 1 ∷ 151 ∷ 3 ∷ nine ∷ 100 ∷ 126 ∷ 6 ∷ 1 ∷ 0 ∷ 0 ∷ []) ∷ [] ∷
      (110 ∷ 1 ∷ []) ∷ still ∷ still ∷ [] ∷
      (120 ∷ 2 ∷ []) ∷ still ∷ (0 ∷ 1 ∷ 171 ∷ 3 ∷ nine ∷ 100 ∷ 126 ∷ 6 ∷ 2 ∷ 0 ∷ 0 ∷ []) ∷ [] ∷
      (171 ∷ 2 ∷ []) ∷ still ∷ (0 ∷ 1 ∷ 222 ∷ 3 ∷ nine ∷ 100 ∷ 126 ∷ 6 ∷ 2 ∷ 0 ∷ 0 ∷ []) ∷ [] ∷
      (180 ∷ 2 ∷ []) ∷ still ∷ still ∷ [] ∷
      (200 ∷ 3 ∷ []) ∷ still ∷ (0 ∷ 1 ∷ 251 ∷ 3 ∷ nine ∷ 100 ∷ 126 ∷ 6 ∷ 3 ∷ 0 ∷ 0 ∷ []) ∷ [] ∷
      (210 ∷ 3 ∷ []) ∷ still ∷ (0 ∷ 1 ∷ 811 ∷ 3 ∷ nine ∷ 100 ∷ 126 ∷ 6 ∷ 3 ∷ 1 ∷ 0 ∷ []) ∷ [] ∷
      (220 ∷ 3 ∷ []) ∷ still ∷ (0 ∷ 1 ∷ 811 ∷ 3 ∷ nine ∷ 100 ∷ 126 ∷ 6 ∷ 3 ∷ 1 ∷ 0 ∷ []) ∷ (seven ∷ 9221 ∷ []) ∷
      (230 ∷ 4 ∷ []) ∷ still ∷ (2 ∷ seven ∷ 101 ∷ 126 ∷ 7 ∷ 4 ∷ 1 ∷ 281 ∷ 0 ∷ 0 ∷ []) ∷ [] ∷
      (240 ∷ 4 ∷ []) ∷ still ∷ (3 ∷ seven ∷ 101 ∷ 126 ∷ 7 ∷ 4 ∷ 1 ∷ 401 ∷ 0 ∷ 0 ∷ []) ∷ [] ∷
      (401 ∷ 4 ∷ []) ∷ still ∷ still ∷ [] ∷
      (410 ∷ 5 ∷ []) ∷ still ∷ (0 ∷ 1 ∷ 461 ∷ 3 ∷ nine ∷ 100 ∷ 126 ∷ 6 ∷ 5 ∷ 0 ∷ 0 ∷ []) ∷ [] ∷
      (420 ∷ 5 ∷ []) ∷ still ∷ (0 ∷ 1 ∷ 1021 ∷ 3 ∷ nine ∷ 100 ∷ 126 ∷ 6 ∷ 5 ∷ 1 ∷ 0 ∷ []) ∷ [] ∷
      (425 ∷ 5 ∷ []) ∷ still ∷ (0 ∷ 1 ∷ 1021 ∷ 3 ∷ nine ∷ 100 ∷ 126 ∷ 6 ∷ 5 ∷ 1 ∷ 0 ∷ []) ∷ (seven ∷ 9426 ∷ []) ∷
      (430 ∷ 6 ∷ []) ∷ still ∷ (2 ∷ seven ∷ 101 ∷ 126 ∷ 7 ∷ 6 ∷ 1 ∷ 481 ∷ 0 ∷ 0 ∷ []) ∷ [] ∷
      (435 ∷ 6 ∷ []) ∷ still ∷ (2 ∷ seven ∷ 101 ∷ 126 ∷ 7 ∷ 6 ∷ 1 ∷ 481 ∷ 0 ∷ 0 ∷ []) ∷ [] ∷
      (481 ∷ 6 ∷ []) ∷ still ∷ (2 ∷ seven ∷ 101 ∷ 126 ∷ 7 ∷ 6 ∷ 1 ∷ 532 ∷ 0 ∷ 0 ∷ []) ∷ [] ∷
      (532 ∷ 6 ∷ []) ∷ still ∷ still ∷ [] ∷
      (540 ∷ 7 ∷ []) ∷ still ∷ (0 ∷ 1 ∷ 591 ∷ 3 ∷ nine ∷ 100 ∷ 126 ∷ 6 ∷ 7 ∷ 0 ∷ 0 ∷ []) ∷ [] ∷
      (550 ∷ 7 ∷ []) ∷ still ∷ (0 ∷ 1 ∷ 1151 ∷ 3 ∷ nine ∷ 100 ∷ 126 ∷ 6 ∷ 7 ∷ 1 ∷ 0 ∷ []) ∷ [] ∷
      (560 ∷ 7 ∷ []) ∷ still ∷ (0 ∷ 0 ∷ 2 ∷ nine ∷ 100 ∷ 7 ∷ 560 ∷ 0 ∷ []) ∷ [] ∷
      (570 ∷ 7 ∷ []) ∷ still ∷ (0 ∷ 0 ∷ 2 ∷ nine ∷ 100 ∷ 7 ∷ 560 ∷ 1 ∷ 1021 ∷ []) ∷ [] ∷
      (580 ∷ 8 ∷ []) ∷ still ∷ (1 ∷ nine ∷ 100 ∷ 126 ∷ 7 ∷ 8 ∷ 1 ∷ 741 ∷ 0 ∷ 0 ∷ []) ∷ [] ∷
      (590 ∷ 8 ∷ []) ∷ still ∷ (0 ∷ 1 ∷ 1191 ∷ 1 ∷ nine ∷ 100 ∷ 8 ∷ 0 ∷ 0 ∷ []) ∷ [] ∷
      (600 ∷ 8 ∷ []) ∷ still ∷ still ∷ [] ∷
      (610 ∷ 9 ∷ []) ∷ still ∷ (0 ∷ 1 ∷ 661 ∷ 3 ∷ eight ∷ 101 ∷ 126 ∷ 6 ∷ 9 ∷ 0 ∷ 0 ∷ []) ∷ [] ∷
      (661 ∷ 9 ∷ []) ∷ still ∷ (0 ∷ 1 ∷ 712 ∷ 3 ∷ eight ∷ 101 ∷ 126 ∷ 6 ∷ 9 ∷ 0 ∷ 0 ∷ []) ∷ [] ∷
      (712 ∷ 9 ∷ []) ∷ still ∷ still ∷ [] ∷
      (720 ∷ 10 ∷ []) ∷ still ∷ (0 ∷ 1 ∷ 771 ∷ 3 ∷ eight ∷ 101 ∷ 126 ∷ 6 ∷ 10 ∷ 0 ∷ 0 ∷ []) ∷ [] ∷
      (730 ∷ 10 ∷ []) ∷ still ∷ (0 ∷ 1 ∷ 1331 ∷ 3 ∷ eight ∷ 101 ∷ 126 ∷ 6 ∷ 10 ∷ 1 ∷ 0 ∷ []) ∷ [] ∷
      (1331 ∷ 10 ∷ []) ∷ still ∷ still ∷ [] ∷
      (1340 ∷ 11 ∷ []) ∷ still ∷ (0 ∷ 1 ∷ 1391 ∷ 3 ∷ eight ∷ 101 ∷ 126 ∷ 6 ∷ 11 ∷ 0 ∷ 0 ∷ []) ∷ [] ∷
      (1350 ∷ 11 ∷ []) ∷ still ∷ (0 ∷ 1 ∷ 1951 ∷ 3 ∷ eight ∷ 101 ∷ 126 ∷ 6 ∷ 11 ∷ 1 ∷ 0 ∷ []) ∷ [] ∷
      (1360 ∷ 11 ∷ []) ∷ still ∷ (0 ∷ 0 ∷ 2 ∷ eight ∷ 101 ∷ 11 ∷ 1360 ∷ 0 ∷ []) ∷ [] ∷
      (1370 ∷ 11 ∷ []) ∷ still ∷ (0 ∷ 0 ∷ 2 ∷ eight ∷ 101 ∷ 11 ∷ 1360 ∷ 1 ∷ 1421 ∷ []) ∷ [] ∷
      (1421 ∷ 11 ∷ []) ∷ still ∷ still ∷ [] ∷
      (1430 ∷ 12 ∷ []) ∷ still ∷ (0 ∷ 1 ∷ 1481 ∷ 3 ∷ eight ∷ 101 ∷ 126 ∷ 6 ∷ 12 ∷ 0 ∷ 0 ∷ []) ∷ [] ∷
      (1440 ∷ 12 ∷ []) ∷ still ∷ (0 ∷ 1 ∷ 2041 ∷ 3 ∷ eight ∷ 101 ∷ 126 ∷ 6 ∷ 12 ∷ 1 ∷ 0 ∷ []) ∷ [] ∷
      (1450 ∷ 12 ∷ []) ∷ still ∷ (0 ∷ 0 ∷ 2 ∷ eight ∷ 101 ∷ 12 ∷ 1450 ∷ 0 ∷ []) ∷ [] ∷
      (1475 ∷ 12 ∷ []) ∷ still ∷ still ∷ [] ∷
      (1480 ∷ 13 ∷ []) ∷ still ∷ (0 ∷ 1 ∷ 1531 ∷ 3 ∷ seven ∷ 101 ∷ 126 ∷ 6 ∷ 13 ∷ 0 ∷ 0 ∷ []) ∷ [] ∷
      (1531 ∷ 13 ∷ []) ∷ still ∷ (0 ∷ 1 ∷ 1582 ∷ 3 ∷ seven ∷ 101 ∷ 126 ∷ 6 ∷ 13 ∷ 0 ∷ 0 ∷ []) ∷ [] ∷
      (1540 ∷ 13 ∷ []) ∷ still ∷ still ∷ [] ∷
      (1550 ∷ 14 ∷ []) ∷ still ∷ (0 ∷ 1 ∷ 1601 ∷ 3 ∷ seven ∷ 101 ∷ 126 ∷ 6 ∷ 14 ∷ 0 ∷ 0 ∷ []) ∷ [] ∷
      (1560 ∷ 14 ∷ []) ∷ still ∷ still ∷ [] ∷ [];
}

abbrev pub called_again_words : Row
called_again_words = record {
  computed = words 2 1 second_slot_called_again_script;
  expected =
      (0 ∷ []) ∷ (3 ∷ []) ∷ (0 ∷ []) ∷ (3 ∷ []) ∷ (3 ∷ []) ∷ (0 ∷ []) ∷ (3 ∷ []) ∷ (3 ∷ 8 ∷ []) ∷ (3 ∷ 8 ∷ []) ∷ (0 ∷ []) ∷
      (0 ∷ []) ∷ (0 ∷ []) ∷ (3 ∷ []) ∷ (3 ∷ 8 ∷ []) ∷ (3 ∷ 8 ∷ []) ∷ (0 ∷ []) ∷ (0 ∷ []) ∷ (0 ∷ []) ∷ (0 ∷ []) ∷ (3 ∷ []) ∷
      (3 ∷ 8 ∷ []) ∷ (2 ∷ 560 ∷ []) ∷ (2 ∷ 560 ∷ []) ∷ (0 ∷ []) ∷ (1 ∷ []) ∷ (0 ∷ []) ∷ (3 ∷ []) ∷ (3 ∷ []) ∷ (0 ∷ []) ∷
      (3 ∷ []) ∷ (3 ∷ 8 ∷ []) ∷ (0 ∷ []) ∷ (3 ∷ []) ∷ (3 ∷ 8 ∷ []) ∷ (2 ∷ 1360 ∷ []) ∷ (2 ∷ 1360 ∷ []) ∷ (0 ∷ []) ∷ (3 ∷ []) ∷
      (3 ∷ 8 ∷ []) ∷ (2 ∷ 1450 ∷ []) ∷ (0 ∷ []) ∷ (3 ∷ []) ∷ (3 ∷ []) ∷ (0 ∷ []) ∷ (3 ∷ []) ∷ (0 ∷ []) ∷ [];
}

abbrev pub called_again_tenths : Row
called_again_tenths = record {
  computed = tenths 2 second_slot_called_again_script ∷ [];
  expected = (106 ∷ 106 ∷ 106 ∷ []) ∷ [];
}

abbrev pub called_again_run : Run
called_again_run = record {
  slots = 2;
  events = second_slot_called_again_script;
  owing = paid 23 1 nine 560 580 2 7 ∷ paid 36 1 eight 1360 1421 6 11 ∷ paid 40 1 eight 1450 1475 2 12 ∷ [];
}

abbrev pub both_called_pages : Row
both_called_pages = record {
  computed = pages 2 both_called_script;
  expected =
      (100 ∷ 1 ∷ []) ∷ (0 ∷ 1 ∷ 151 ∷ 3 ∷ seven ∷ 100 ∷ 126 ∷ 6 ∷ 1 ∷ 0 ∷ 0 ∷ []) ∷ still ∷ [] ∷
      (110 ∷ 2 ∷ []) ∷ (0 ∷ 1 ∷ 151 ∷ 3 ∷ seven ∷ 100 ∷ 126 ∷ 6 ∷ 1 ∷ 0 ∷ 0 ∷ []) ∷ (0 ∷ 1 ∷ 161 ∷ 3 ∷ eight ∷ 101 ∷ 126 ∷ 6 ∷ 2 ∷ 0 ∷ 0 ∷ []) ∷ [] ∷
      (120 ∷ 2 ∷ []) ∷ (0 ∷ 1 ∷ 151 ∷ 3 ∷ seven ∷ 100 ∷ 126 ∷ 6 ∷ 1 ∷ 0 ∷ 0 ∷ []) ∷ (0 ∷ 1 ∷ 161 ∷ 3 ∷ eight ∷ 101 ∷ 126 ∷ 6 ∷ 2 ∷ 0 ∷ 0 ∷ []) ∷ [] ∷
      (121 ∷ 2 ∷ []) ∷ (0 ∷ 1 ∷ 151 ∷ 3 ∷ seven ∷ 100 ∷ 126 ∷ 6 ∷ 1 ∷ 0 ∷ 0 ∷ []) ∷ (0 ∷ 1 ∷ 161 ∷ 3 ∷ eight ∷ 101 ∷ 126 ∷ 6 ∷ 2 ∷ 0 ∷ 0 ∷ []) ∷ [] ∷
      (125 ∷ 2 ∷ []) ∷ (0 ∷ 1 ∷ 151 ∷ 3 ∷ seven ∷ 100 ∷ 126 ∷ 6 ∷ 1 ∷ 0 ∷ 0 ∷ []) ∷ (0 ∷ 1 ∷ 726 ∷ 3 ∷ eight ∷ 101 ∷ 126 ∷ 6 ∷ 2 ∷ 1 ∷ 0 ∷ []) ∷ [] ∷
      (151 ∷ 2 ∷ []) ∷ (0 ∷ 1 ∷ 202 ∷ 3 ∷ seven ∷ 100 ∷ 126 ∷ 6 ∷ 1 ∷ 0 ∷ 0 ∷ []) ∷ (0 ∷ 1 ∷ 726 ∷ 3 ∷ eight ∷ 101 ∷ 126 ∷ 6 ∷ 2 ∷ 1 ∷ 0 ∷ []) ∷ [] ∷
      (155 ∷ 2 ∷ []) ∷ (0 ∷ 1 ∷ 202 ∷ 3 ∷ seven ∷ 100 ∷ 126 ∷ 6 ∷ 1 ∷ 0 ∷ 0 ∷ []) ∷ (0 ∷ 1 ∷ 726 ∷ 3 ∷ eight ∷ 101 ∷ 126 ∷ 6 ∷ 2 ∷ 1 ∷ 0 ∷ []) ∷ [] ∷
      (160 ∷ 2 ∷ []) ∷ (0 ∷ 1 ∷ 761 ∷ 3 ∷ seven ∷ 100 ∷ 126 ∷ 6 ∷ 1 ∷ 1 ∷ 0 ∷ []) ∷ (0 ∷ 1 ∷ 726 ∷ 3 ∷ eight ∷ 101 ∷ 126 ∷ 6 ∷ 2 ∷ 1 ∷ 0 ∷ []) ∷ [] ∷
      (170 ∷ 2 ∷ []) ∷ (0 ∷ 1 ∷ 761 ∷ 3 ∷ seven ∷ 100 ∷ 126 ∷ 6 ∷ 1 ∷ 1 ∷ 0 ∷ []) ∷ (0 ∷ 0 ∷ 2 ∷ eight ∷ 101 ∷ 2 ∷ 170 ∷ 0 ∷ []) ∷ [] ∷
      (175 ∷ 2 ∷ []) ∷ still ∷ (0 ∷ 0 ∷ 2 ∷ eight ∷ 101 ∷ 2 ∷ 170 ∷ 0 ∷ []) ∷ [] ∷
      (180 ∷ 3 ∷ []) ∷ (0 ∷ 1 ∷ 231 ∷ 3 ∷ nine ∷ 100 ∷ 126 ∷ 6 ∷ 3 ∷ 0 ∷ 0 ∷ []) ∷ (0 ∷ 0 ∷ 2 ∷ eight ∷ 101 ∷ 2 ∷ 170 ∷ 0 ∷ []) ∷ [] ∷
      (185 ∷ 3 ∷ []) ∷ (0 ∷ 1 ∷ 231 ∷ 3 ∷ nine ∷ 100 ∷ 126 ∷ 6 ∷ 3 ∷ 0 ∷ 0 ∷ []) ∷ (0 ∷ 0 ∷ 2 ∷ eight ∷ 101 ∷ 2 ∷ 170 ∷ 0 ∷ []) ∷ [] ∷
      (190 ∷ 3 ∷ []) ∷ (0 ∷ 1 ∷ 791 ∷ 3 ∷ nine ∷ 100 ∷ 126 ∷ 6 ∷ 3 ∷ 1 ∷ 0 ∷ []) ∷ (0 ∷ 0 ∷ 2 ∷ eight ∷ 101 ∷ 2 ∷ 170 ∷ 0 ∷ []) ∷ [] ∷
      (191 ∷ 3 ∷ []) ∷ (0 ∷ 1 ∷ 791 ∷ 3 ∷ nine ∷ 100 ∷ 126 ∷ 6 ∷ 3 ∷ 1 ∷ 0 ∷ []) ∷ (0 ∷ 0 ∷ 2 ∷ eight ∷ 101 ∷ 2 ∷ 170 ∷ 0 ∷ []) ∷ [] ∷
      (200 ∷ 3 ∷ []) ∷ (0 ∷ 0 ∷ 2 ∷ nine ∷ 100 ∷ 3 ∷ 200 ∷ 0 ∷ []) ∷ (0 ∷ 0 ∷ 2 ∷ eight ∷ 101 ∷ 2 ∷ 170 ∷ 0 ∷ []) ∷ [] ∷
      (210 ∷ 3 ∷ []) ∷ (0 ∷ 0 ∷ 2 ∷ nine ∷ 100 ∷ 3 ∷ 200 ∷ 1 ∷ 661 ∷ []) ∷ (0 ∷ 0 ∷ 2 ∷ eight ∷ 101 ∷ 2 ∷ 170 ∷ 0 ∷ []) ∷ [] ∷
      (215 ∷ 3 ∷ []) ∷ (0 ∷ 0 ∷ 2 ∷ nine ∷ 100 ∷ 3 ∷ 200 ∷ 1 ∷ 661 ∷ []) ∷ (0 ∷ 0 ∷ 2 ∷ eight ∷ 101 ∷ 2 ∷ 170 ∷ 1 ∷ 266 ∷ []) ∷ [] ∷
      (220 ∷ 4 ∷ []) ∷ (1 ∷ nine ∷ 100 ∷ 126 ∷ 7 ∷ 4 ∷ 1 ∷ 381 ∷ 0 ∷ 0 ∷ []) ∷ (0 ∷ 0 ∷ 2 ∷ eight ∷ 101 ∷ 2 ∷ 170 ∷ 1 ∷ 266 ∷ []) ∷ [] ∷
      (266 ∷ 4 ∷ []) ∷ (1 ∷ nine ∷ 100 ∷ 126 ∷ 7 ∷ 4 ∷ 1 ∷ 381 ∷ 0 ∷ 0 ∷ []) ∷ still ∷ [] ∷
      (381 ∷ 4 ∷ []) ∷ still ∷ still ∷ [] ∷ [];
}

abbrev pub both_called_words : Row
both_called_words = record {
  computed = words 2 1 both_called_script;
  expected =
      (0 ∷ []) ∷ (3 ∷ []) ∷ (3 ∷ []) ∷ (3 ∷ []) ∷ (3 ∷ 8 ∷ []) ∷ (3 ∷ 8 ∷ []) ∷ (3 ∷ 8 ∷ []) ∷ (3 ∷ 8 ∷ []) ∷ (2 ∷ 170 ∷ []) ∷
      (2 ∷ 170 ∷ []) ∷ (2 ∷ 170 ∷ []) ∷ (2 ∷ 170 ∷ []) ∷ (2 ∷ 170 ∷ []) ∷ (2 ∷ 170 ∷ []) ∷ (2 ∷ 170 ∷ []) ∷ (2 ∷ 170 ∷ []) ∷
      (2 ∷ 170 ∷ []) ∷ (2 ∷ 170 ∷ []) ∷ (0 ∷ []) ∷ (0 ∷ []) ∷ [];
}

abbrev pub both_called_words_of_first : Row
both_called_words_of_first = record {
  computed = words 2 0 both_called_script;
  expected =
      (3 ∷ []) ∷ (3 ∷ []) ∷ (3 ∷ []) ∷ (3 ∷ []) ∷ (3 ∷ []) ∷ (3 ∷ []) ∷ (3 ∷ []) ∷ (3 ∷ 8 ∷ []) ∷ (3 ∷ 8 ∷ []) ∷ (0 ∷ []) ∷
      (3 ∷ []) ∷ (3 ∷ []) ∷ (3 ∷ 8 ∷ []) ∷ (3 ∷ 8 ∷ []) ∷ (2 ∷ 200 ∷ []) ∷ (2 ∷ 200 ∷ []) ∷ (2 ∷ 200 ∷ []) ∷ (0 ∷ []) ∷
      (0 ∷ []) ∷ (0 ∷ []) ∷ [];
}

abbrev pub both_called_tenths : Row
both_called_tenths = record {
  computed = tenths 2 both_called_script ∷ [];
  expected = (116 ∷ 116 ∷ 116 ∷ []) ∷ [];
}

abbrev pub both_called_run : Run
both_called_run = record {
  slots = 2;
  events = both_called_script;
  owing = paid 17 0 nine 200 220 2 3 ∷ paid 18 1 eight 170 266 9 2 ∷ [];
}

-- ── the queue ─────────────────────────────────────────────────────────────────

-- the queue: joined, asked again, due in its order, rung back and let go; data; a request to another station
abbrev pub in_queue : List Event
in_queue =
    reserves 50 0 ∷ calls 100 seven duplex ∷ calls 110 eight duplex ∷ says 115 (sends nine 106 117 Blank usual) ∷
    calls 120 nine duplex ∷ calls 130 eight simplex ∷ ticks 9101 ∷ restores 9105 0 ∷ ticks 9150 ∷ ticks 9160 ∷ ticks 9170 ∷
    ticks 9211 ∷ ticks 9300 ∷ []

abbrev pub in_queue_pages : Row
in_queue_pages = record {
  computed = pages 1 in_queue;
  expected =
      (50 ∷ 0 ∷ []) ∷ still ∷ [] ∷
      (100 ∷ 0 ∷ []) ∷ still ∷ (seven ∷ 9101 ∷ []) ∷
      (110 ∷ 0 ∷ []) ∷ still ∷ (seven ∷ 9101 ∷ eight ∷ 9111 ∷ []) ∷
      (115 ∷ 0 ∷ []) ∷ still ∷ (seven ∷ 9101 ∷ eight ∷ 9111 ∷ []) ∷
      (120 ∷ 0 ∷ []) ∷ still ∷ (seven ∷ 9101 ∷ eight ∷ 9111 ∷ nine ∷ 9121 ∷ []) ∷
      (130 ∷ 0 ∷ []) ∷ still ∷ (seven ∷ 9101 ∷ eight ∷ 9111 ∷ nine ∷ 9121 ∷ []) ∷
      (9101 ∷ 0 ∷ []) ∷ still ∷ (eight ∷ 9111 ∷ nine ∷ 9121 ∷ []) ∷
      (9105 ∷ 1 ∷ []) ∷ (2 ∷ eight ∷ 100 ∷ 126 ∷ 7 ∷ 1 ∷ 1 ∷ 9156 ∷ 0 ∷ 0 ∷ []) ∷ (nine ∷ 9121 ∷ []) ∷
      (9121 ∷ 1 ∷ []) ∷ (2 ∷ eight ∷ 100 ∷ 126 ∷ 7 ∷ 1 ∷ 1 ∷ 9156 ∷ 0 ∷ 0 ∷ []) ∷ [] ∷
      (9156 ∷ 1 ∷ []) ∷ (2 ∷ eight ∷ 100 ∷ 126 ∷ 7 ∷ 1 ∷ 1 ∷ 9207 ∷ 0 ∷ 0 ∷ []) ∷ [] ∷
      (9170 ∷ 1 ∷ []) ∷ (2 ∷ eight ∷ 100 ∷ 126 ∷ 7 ∷ 1 ∷ 1 ∷ 9207 ∷ 0 ∷ 0 ∷ []) ∷ [] ∷
      (9207 ∷ 1 ∷ []) ∷ still ∷ [] ∷
      (9300 ∷ 1 ∷ []) ∷ still ∷ [] ∷ [];
}

abbrev pub in_queue_words : Row
in_queue_words = record {
  computed = words 1 0 in_queue;
  expected = (0 ∷ []) ∷ (0 ∷ []) ∷ (0 ∷ []) ∷ (0 ∷ []) ∷ (0 ∷ []) ∷ (0 ∷ []) ∷ (0 ∷ []) ∷ (0 ∷ []) ∷ (0 ∷ []) ∷ (0 ∷ []) ∷ (0 ∷ []) ∷
      (0 ∷ []) ∷ (0 ∷ []) ∷ [];
}

abbrev pub in_queue_tenths : Row
in_queue_tenths = record {
  computed = tenths 1 in_queue ∷ [];
  expected = (0 ∷ 0 ∷ 0 ∷ []) ∷ [];
}

abbrev pub in_queue_run : Run
in_queue_run = record {
  slots = 1;
  events = in_queue;
  owing = [];
}

-- ── two calls at once ─────────────────────────────────────────────────────────

-- two calls at once, both answered; the later one lost, and begun again; then both hung up
abbrev pub two_calls : List Event
two_calls =
    calls 100 seven simplex ∷ calls 101 eight duplex ∷ works 110 0 seven ∷ works 120 1 eight ∷ picks_up 130 0 ∷
    picks_up 140 1 ∷ loses 150 0 ∷ loses 160 1 ∷ calls 165 eight duplex ∷ ticks 300 ∷
    calls 310 eight duplex ∷ works 320 1 eight ∷ picks_up 330 1 ∷ hangs 340 0 ∷ hangs 350 1 ∷ []

abbrev pub two_calls_pages : Row
two_calls_pages = record {
  computed = pages 2 two_calls;
  expected =
      (100 ∷ 1 ∷ []) ∷ (1 ∷ seven ∷ 100 ∷ 126 ∷ 7 ∷ 1 ∷ 1 ∷ 261 ∷ 0 ∷ 0 ∷ []) ∷ still ∷ [] ∷
      (101 ∷ 2 ∷ []) ∷ (1 ∷ seven ∷ 100 ∷ 126 ∷ 7 ∷ 1 ∷ 1 ∷ 261 ∷ 0 ∷ 0 ∷ []) ∷ (1 ∷ eight ∷ 101 ∷ 126 ∷ 7 ∷ 2 ∷ 1 ∷ 262 ∷ 0 ∷ 0 ∷ []) ∷ [] ∷
      (110 ∷ 2 ∷ []) ∷ (0 ∷ 1 ∷ 711 ∷ 1 ∷ seven ∷ 100 ∷ 1 ∷ 0 ∷ 0 ∷ []) ∷ (1 ∷ eight ∷ 101 ∷ 126 ∷ 7 ∷ 2 ∷ 1 ∷ 262 ∷ 0 ∷ 0 ∷ []) ∷ [] ∷
      (120 ∷ 2 ∷ []) ∷ (0 ∷ 1 ∷ 711 ∷ 1 ∷ seven ∷ 100 ∷ 1 ∷ 0 ∷ 0 ∷ []) ∷ (0 ∷ 1 ∷ 721 ∷ 1 ∷ eight ∷ 101 ∷ 2 ∷ 0 ∷ 0 ∷ []) ∷ [] ∷
      (130 ∷ 2 ∷ []) ∷ (0 ∷ 0 ∷ 2 ∷ seven ∷ 100 ∷ 1 ∷ 130 ∷ 0 ∷ []) ∷ (0 ∷ 1 ∷ 721 ∷ 1 ∷ eight ∷ 101 ∷ 2 ∷ 0 ∷ 0 ∷ []) ∷ [] ∷
      (140 ∷ 2 ∷ []) ∷ (0 ∷ 0 ∷ 2 ∷ seven ∷ 100 ∷ 1 ∷ 130 ∷ 0 ∷ []) ∷ (0 ∷ 0 ∷ 2 ∷ eight ∷ 101 ∷ 2 ∷ 140 ∷ 0 ∷ []) ∷ [] ∷
      (150 ∷ 2 ∷ []) ∷ (0 ∷ 0 ∷ 2 ∷ seven ∷ 100 ∷ 1 ∷ 130 ∷ 1 ∷ 601 ∷ []) ∷ (0 ∷ 0 ∷ 2 ∷ eight ∷ 101 ∷ 2 ∷ 140 ∷ 0 ∷ []) ∷ [] ∷
      (160 ∷ 2 ∷ []) ∷ (0 ∷ 0 ∷ 2 ∷ seven ∷ 100 ∷ 1 ∷ 130 ∷ 1 ∷ 601 ∷ []) ∷ (0 ∷ 0 ∷ 2 ∷ eight ∷ 101 ∷ 2 ∷ 140 ∷ 1 ∷ 211 ∷ []) ∷ [] ∷
      (165 ∷ 2 ∷ []) ∷ (0 ∷ 0 ∷ 2 ∷ seven ∷ 100 ∷ 1 ∷ 130 ∷ 1 ∷ 601 ∷ []) ∷ (0 ∷ 0 ∷ 2 ∷ eight ∷ 101 ∷ 2 ∷ 140 ∷ 1 ∷ 211 ∷ []) ∷ [] ∷
      (211 ∷ 2 ∷ []) ∷ (0 ∷ 0 ∷ 2 ∷ seven ∷ 100 ∷ 1 ∷ 130 ∷ 1 ∷ 601 ∷ []) ∷ still ∷ [] ∷
      (310 ∷ 3 ∷ []) ∷ (0 ∷ 0 ∷ 2 ∷ seven ∷ 100 ∷ 1 ∷ 130 ∷ 1 ∷ 601 ∷ []) ∷ (1 ∷ eight ∷ 101 ∷ 126 ∷ 7 ∷ 3 ∷ 1 ∷ 471 ∷ 0 ∷ 0 ∷ []) ∷ [] ∷
      (320 ∷ 3 ∷ []) ∷ (0 ∷ 0 ∷ 2 ∷ seven ∷ 100 ∷ 1 ∷ 130 ∷ 1 ∷ 601 ∷ []) ∷ (0 ∷ 1 ∷ 921 ∷ 1 ∷ eight ∷ 101 ∷ 3 ∷ 0 ∷ 0 ∷ []) ∷ [] ∷
      (330 ∷ 3 ∷ []) ∷ (0 ∷ 0 ∷ 2 ∷ seven ∷ 100 ∷ 1 ∷ 130 ∷ 1 ∷ 601 ∷ []) ∷ (0 ∷ 0 ∷ 2 ∷ eight ∷ 101 ∷ 3 ∷ 330 ∷ 0 ∷ []) ∷ [] ∷
      (340 ∷ 3 ∷ []) ∷ still ∷ (0 ∷ 0 ∷ 2 ∷ eight ∷ 101 ∷ 3 ∷ 330 ∷ 0 ∷ []) ∷ [] ∷
      (350 ∷ 3 ∷ []) ∷ still ∷ still ∷ [] ∷ [];
}

abbrev pub two_calls_words : Row
two_calls_words = record {
  computed = words 2 1 two_calls;
  expected = (0 ∷ []) ∷ (0 ∷ []) ∷ (0 ∷ []) ∷ (1 ∷ []) ∷ (1 ∷ []) ∷ (2 ∷ 140 ∷ []) ∷ (2 ∷ 140 ∷ []) ∷ (2 ∷ 140 ∷ []) ∷ (2 ∷ 140 ∷ []) ∷
      (0 ∷ []) ∷ (0 ∷ []) ∷ (1 ∷ []) ∷ (2 ∷ 330 ∷ []) ∷ (2 ∷ 330 ∷ []) ∷ (0 ∷ []) ∷ [];
}

abbrev pub two_calls_words_of_first : Row
two_calls_words_of_first = record {
  computed = words 2 0 two_calls;
  expected = (0 ∷ []) ∷ (0 ∷ []) ∷ (1 ∷ []) ∷ (1 ∷ []) ∷ (2 ∷ 130 ∷ []) ∷ (2 ∷ 130 ∷ []) ∷ (2 ∷ 130 ∷ []) ∷ (2 ∷ 130 ∷ []) ∷
      (2 ∷ 130 ∷ []) ∷ (2 ∷ 130 ∷ []) ∷ (2 ∷ 130 ∷ []) ∷ (2 ∷ 130 ∷ []) ∷ (2 ∷ 130 ∷ []) ∷ (0 ∷ []) ∷ (0 ∷ []) ∷ [];
}

abbrev pub two_calls_tenths : Row
two_calls_tenths = record {
  computed = tenths 2 two_calls ∷ [];
  expected = (301 ∷ 301 ∷ 301 ∷ []) ∷ [];
}

abbrev pub two_calls_run : Run
two_calls_run = record {
  slots = 2;
  events = two_calls;
  owing = paid 9 1 eight 140 211 7 2 ∷ paid 13 0 seven 130 340 21 1 ∷ paid 14 1 eight 330 350 2 3 ∷ [];
}

-- ── the third slot ────────────────────────────────────────────────────────────

-- the third slot: in simplex ended by its ship while dialling, by rule c, by on-hook; hung up, silent and without a reply while
-- dialling
abbrev pub on_third : List Event
on_third =
    reserves 50 0 ∷ reserves 51 1 ∷ calls 100 seven simplex ∷ works 110 2 seven ∷ ends 120 2 seven ∷ ticks 161 ∷
    calls 170 seven simplex ∷ works 180 2 seven ∷ picks_up 190 2 ∷ loses 200 2 ∷ calls 210 seven simplex ∷
    works 220 2 seven ∷ picks_up 230 2 ∷ hangs 250 2 ∷ calls 260 eight duplex ∷ works 270 2 eight ∷
    loses 275 2 ∷ hangs 280 2 ∷ calls 290 eight duplex ∷ works 300 2 eight ∷ loses 310 2 ∷ ticks 361 ∷
    calls 370 nine simplex ∷ works 380 2 nine ∷ loses 900 2 ∷ ticks 981 ∷ calls 990 nine simplex ∷ works 995 2 nine ∷
    hangs 1000 2 ∷ ticks 1010 ∷ []

abbrev pub on_third_pages : Row
on_third_pages = record {
  computed = pages 3 on_third;
  expected =
      (50 ∷ 0 ∷ []) ∷ still ∷ still ∷ still ∷ [] ∷
      (51 ∷ 0 ∷ []) ∷ still ∷ still ∷ still ∷ [] ∷
      (100 ∷ 1 ∷ []) ∷ still ∷ still ∷ (1 ∷ seven ∷ 100 ∷ 126 ∷ 7 ∷ 1 ∷ 1 ∷ 261 ∷ 0 ∷ 0 ∷ []) ∷ [] ∷
      (110 ∷ 1 ∷ []) ∷ still ∷ still ∷ (0 ∷ 1 ∷ 711 ∷ 1 ∷ seven ∷ 100 ∷ 1 ∷ 0 ∷ 0 ∷ []) ∷ [] ∷
      (120 ∷ 1 ∷ []) ∷ still ∷ still ∷ (0 ∷ 1 ∷ 161 ∷ 0 ∷ 0 ∷ []) ∷ [] ∷
      (161 ∷ 1 ∷ []) ∷ still ∷ still ∷ still ∷ [] ∷
      (170 ∷ 2 ∷ []) ∷ still ∷ still ∷ (1 ∷ seven ∷ 100 ∷ 126 ∷ 7 ∷ 2 ∷ 1 ∷ 331 ∷ 0 ∷ 0 ∷ []) ∷ [] ∷
      (180 ∷ 2 ∷ []) ∷ still ∷ still ∷ (0 ∷ 1 ∷ 781 ∷ 1 ∷ seven ∷ 100 ∷ 2 ∷ 0 ∷ 0 ∷ []) ∷ [] ∷
      (190 ∷ 2 ∷ []) ∷ still ∷ still ∷ (0 ∷ 0 ∷ 2 ∷ seven ∷ 100 ∷ 2 ∷ 190 ∷ 0 ∷ []) ∷ [] ∷
      (200 ∷ 2 ∷ []) ∷ still ∷ still ∷ (0 ∷ 0 ∷ 2 ∷ seven ∷ 100 ∷ 2 ∷ 190 ∷ 1 ∷ 651 ∷ []) ∷ [] ∷
      (210 ∷ 3 ∷ []) ∷ still ∷ still ∷ (1 ∷ seven ∷ 100 ∷ 126 ∷ 7 ∷ 3 ∷ 1 ∷ 371 ∷ 0 ∷ 0 ∷ []) ∷ [] ∷
      (220 ∷ 3 ∷ []) ∷ still ∷ still ∷ (0 ∷ 1 ∷ 821 ∷ 1 ∷ seven ∷ 100 ∷ 3 ∷ 0 ∷ 0 ∷ []) ∷ [] ∷
      (230 ∷ 3 ∷ []) ∷ still ∷ still ∷ (0 ∷ 0 ∷ 2 ∷ seven ∷ 100 ∷ 3 ∷ 230 ∷ 0 ∷ []) ∷ [] ∷
      (250 ∷ 3 ∷ []) ∷ still ∷ still ∷ still ∷ [] ∷
      (260 ∷ 4 ∷ []) ∷ still ∷ still ∷ (1 ∷ eight ∷ 101 ∷ 126 ∷ 7 ∷ 4 ∷ 1 ∷ 421 ∷ 0 ∷ 0 ∷ []) ∷ [] ∷
      (270 ∷ 4 ∷ []) ∷ still ∷ still ∷ (0 ∷ 1 ∷ 871 ∷ 1 ∷ eight ∷ 101 ∷ 4 ∷ 0 ∷ 0 ∷ []) ∷ [] ∷
      (275 ∷ 4 ∷ []) ∷ still ∷ still ∷ (0 ∷ 1 ∷ 871 ∷ 1 ∷ eight ∷ 101 ∷ 4 ∷ 0 ∷ 1 ∷ 326 ∷ []) ∷ [] ∷
      (280 ∷ 4 ∷ []) ∷ still ∷ still ∷ still ∷ [] ∷
      (290 ∷ 5 ∷ []) ∷ still ∷ still ∷ (1 ∷ eight ∷ 101 ∷ 126 ∷ 7 ∷ 5 ∷ 1 ∷ 451 ∷ 0 ∷ 0 ∷ []) ∷ [] ∷
      (300 ∷ 5 ∷ []) ∷ still ∷ still ∷ (0 ∷ 1 ∷ 901 ∷ 1 ∷ eight ∷ 101 ∷ 5 ∷ 0 ∷ 0 ∷ []) ∷ [] ∷
      (310 ∷ 5 ∷ []) ∷ still ∷ still ∷ (0 ∷ 1 ∷ 901 ∷ 1 ∷ eight ∷ 101 ∷ 5 ∷ 0 ∷ 1 ∷ 361 ∷ []) ∷ [] ∷
      (361 ∷ 5 ∷ []) ∷ still ∷ still ∷ still ∷ [] ∷
      (370 ∷ 6 ∷ []) ∷ still ∷ still ∷ (1 ∷ nine ∷ 100 ∷ 126 ∷ 7 ∷ 6 ∷ 1 ∷ 531 ∷ 0 ∷ 0 ∷ []) ∷ [] ∷
      (380 ∷ 6 ∷ []) ∷ still ∷ still ∷ (0 ∷ 1 ∷ 981 ∷ 1 ∷ nine ∷ 100 ∷ 6 ∷ 0 ∷ 0 ∷ []) ∷ [] ∷
      (900 ∷ 6 ∷ []) ∷ still ∷ still ∷ (0 ∷ 1 ∷ 981 ∷ 1 ∷ nine ∷ 100 ∷ 6 ∷ 0 ∷ 1 ∷ 1351 ∷ []) ∷ [] ∷
      (981 ∷ 6 ∷ []) ∷ still ∷ still ∷ still ∷ [] ∷
      (990 ∷ 7 ∷ []) ∷ still ∷ still ∷ (1 ∷ nine ∷ 100 ∷ 126 ∷ 7 ∷ 7 ∷ 1 ∷ 1151 ∷ 0 ∷ 0 ∷ []) ∷ [] ∷
      (995 ∷ 7 ∷ []) ∷ still ∷ still ∷ (0 ∷ 1 ∷ 1596 ∷ 1 ∷ nine ∷ 100 ∷ 7 ∷ 0 ∷ 0 ∷ []) ∷ [] ∷
      (1000 ∷ 7 ∷ []) ∷ still ∷ still ∷ still ∷ [] ∷
      (1010 ∷ 7 ∷ []) ∷ still ∷ still ∷ still ∷ [] ∷ [];
}

abbrev pub on_third_words : Row
on_third_words = record {
  computed = words 3 2 on_third;
  expected = (0 ∷ []) ∷ (0 ∷ []) ∷ (0 ∷ []) ∷ (1 ∷ []) ∷ (0 ∷ []) ∷ (0 ∷ []) ∷ (0 ∷ []) ∷ (1 ∷ []) ∷ (2 ∷ 190 ∷ []) ∷ (2 ∷ 190 ∷ []) ∷
      (0 ∷ []) ∷ (1 ∷ []) ∷ (2 ∷ 230 ∷ []) ∷ (0 ∷ []) ∷ (0 ∷ []) ∷ (1 ∷ []) ∷ (1 ∷ []) ∷ (0 ∷ []) ∷ (0 ∷ []) ∷ (1 ∷ []) ∷
      (1 ∷ []) ∷ (0 ∷ []) ∷ (0 ∷ []) ∷ (1 ∷ []) ∷ (1 ∷ []) ∷ (0 ∷ []) ∷ (0 ∷ []) ∷ (1 ∷ []) ∷ (0 ∷ []) ∷ (0 ∷ []) ∷ [];
}

abbrev pub on_third_tenths : Row
on_third_tenths = record {
  computed = tenths 3 on_third ∷ [];
  expected = (40 ∷ 40 ∷ 40 ∷ []) ∷ [];
}

abbrev pub on_third_run : Run
on_third_run = record {
  slots = 3;
  events = on_third;
  owing = paid 10 2 seven 190 210 2 2 ∷ paid 13 2 seven 230 250 2 3 ∷ [];
}

-- a duplex request of seven for a number
abbrev pub calling : List ℕ → Request
calling digits = asking seven 2001234 duplex 126 digits

abbrev pub party : Party
party = record { ship = seven; station = 2001234 }

-- the fourth call that has begun, said on channel 70, and the fifth, on a line
abbrev pub fourth : ℕ → Mode → Begun
fourth x m = begun_as 4 (from x m)

abbrev pub fifth : ℕ → Mode → Begun
fifth x m = begun_as 5 (from x m)

-- a call from ashore to seven, before it rings and while it rings
abbrev pub calls_seven : Call
calls_seven = called (fifth seven simplex) false

abbrev pub rings_seven : Call
rings_seven = called (fifth seven simplex) true

-- ── single things ────────────────────────────────────────────────────────────

-- two calls that still talk are held, and counted
abbrev pub talking_on : Row
talking_on = record {
  computed = tenths 2 (take 8 two_calls) ∷ [];
  expected = (50 ∷ 50 ∷ 50 ∷ []) ∷ [];
}

-- what the book says of a call, in the line's words
abbrev pub words_of : Row
words_of = record {
  computed = word (word_of quiet) ∷ word (word_of (dialled (fifth seven simplex) false)) ∷
      word (word_of (dialled (fifth seven duplex) false)) ∷ word (word_of (dialled (fifth seven simplex) true)) ∷
      word (word_of (dialled (fifth seven duplex) true)) ∷
      word (word_of (talking (fifth seven simplex) 300)) ∷ word (word_of (talking (fifth seven duplex) 300)) ∷
      word (word_of calls_seven) ∷ word (word_of rings_seven) ∷ [];
  expected = (0 ∷ []) ∷ (1 ∷ []) ∷ (1 ∷ []) ∷ (1 ∷ []) ∷ (1 ∷ []) ∷ (2 ∷ 300 ∷ []) ∷ (2 ∷ 300 ∷ []) ∷ (3 ∷ []) ∷ (3 ∷ 8 ∷ []) ∷ [];
}

-- before the first entry
abbrev pub blank_page : Row
blank_page = record {
  computed = page (blank_book (station 2));
  expected = (0 ∷ 0 ∷ []) ∷ still ∷ still ∷ [] ∷ [];
}

-- calls that are only dialled are neither held nor counted
abbrev pub dialled_only : Row
dialled_only = record {
  computed = tenths 2 (take 4 two_calls) ∷ [];
  expected = (0 ∷ 0 ∷ 0 ∷ []) ∷ [];
}

-- nor are calls from ashore before their answer: seven is called, eight rings
abbrev pub called_only : Row
called_only = record {
  computed = tenths 2 (take 2 both_called_script) ∷ tenths 2 (take 5 both_called_script) ∷ [];
  expected = (0 ∷ 0 ∷ 0 ∷ []) ∷ (0 ∷ 0 ∷ 0 ∷ []) ∷ [];
}

-- of a station with two slots in every phase the answered calls alone are still to be charged: six, since 900
abbrev pub uncharged_shown : Row
uncharged_shown = record {
  computed = (uncharged_tenths (record { clock = 1010; slots = map (λ p. p.slot) (phases ++ phases); queue = []; last_call = 1 }) ∷ []) ∷ [];
  expected = (660 ∷ []) ∷ [];
}

-- each stop with the number of its entry; two of one entry with the same
abbrev pub stops_numbered : Row
stops_numbered = record {
  computed = map (λ s. s.entry) (stops_of (station 2) two_calls) ∷ map (λ s. s.entry) (numbered 1 (seven ∷ eight ∷ []) []) ∷ [];
  expected = (9 ∷ 13 ∷ 14 ∷ []) ∷ (1 ∷ 1 ∷ []) ∷ [];
}

-- the call numbers charged in a run, in the order of its charges
abbrev pub numbers_charged : Row
numbers_charged = record {
  computed = call_numbers (charged 0 (run_of (station 2) two_calls)) ∷ [];
  expected = (2 ∷ 1 ∷ 3 ∷ []) ∷ [];
}

abbrev pub call_shown : Option Begun → List ℕ
call_shown none = 0 ∷ []
call_shown (some o) = 1 ∷ shortly o

-- the call that the list shows on a slot: that of its line, or while the line is quiet the one last told of on channel 70
abbrev pub calls_shown : Row
calls_shown = record {
  computed = map call_shown (begun_in silent quiet ∷ begun_in (told_b_q (fourth eight duplex)) quiet ∷
      begun_in (told_r_q (fourth eight duplex)) quiet ∷ begun_in (settled (fourth eight duplex)) quiet ∷
      begun_in (told_r_q (fourth eight duplex)) calls_seven ∷ begun_in silent rings_seven ∷
      begun_in (told_b_q (fourth eight duplex)) (dialled (fifth seven simplex) false) ∷
      begun_in silent (talking (fifth seven simplex) 300) ∷ []);
  expected = (0 ∷ []) ∷ (1 ∷ 200000008 ∷ 101 ∷ 4 ∷ []) ∷ (1 ∷ 200000008 ∷ 101 ∷ 4 ∷ []) ∷ (1 ∷ 200000008 ∷ 101 ∷ 4 ∷ []) ∷
      (1 ∷ 200000007 ∷ 100 ∷ 5 ∷ []) ∷ (1 ∷ 200000007 ∷ 100 ∷ 5 ∷ []) ∷ (1 ∷ 200000007 ∷ 100 ∷ 5 ∷ []) ∷
      (1 ∷ 200000007 ∷ 100 ∷ 5 ∷ []) ∷ [];
}

-- the events of a run
abbrev pub events_shown : Row
events_shown = record {
  computed = map (λ e. e.time) (events_of (run_of (station 1) (take 3 in_queue))) ∷ [];
  expected = (50 ∷ 100 ∷ 110 ∷ []) ∷ [];
}

-- every deed, on another slot than the second
abbrev pub deeds : List Deed
deeds = carrier_on 0 ∷ carrier_off 0 ∷ acknowledge 0 (from seven duplex) ∷ call_ship 0 (from seven duplex) ∷ dial 0 usual ∷
    release_line 0 ∷ ringing_on 0 ∷ ringing_off 0 ∷ ringing_on 0 ∷ busy_tone 0 ∷ unable 103 party usual ∷ []

-- somebody asks ashore
abbrev pub asked_ashore : Option Ashore
asked_ashore = some (record { ship = seven; mode = 101; digits = caller })

-- dial and release on the slot itself change its word, whatever is done before
abbrev pub words_by_deeds : Row
words_by_deeds = record {
  computed = word (words_done none 1 (deeds ++ dial 1 usual ∷ []) unused) ∷
      word (words_done none 1 (deeds ++ release_line 1 ∷ []) dialled_word) ∷ word (words_done none 1 (release_line 1 ∷ []) unused) ∷ [];
  expected = (1 ∷ []) ∷ (0 ∷ []) ∷ (0 ∷ []) ∷ [];
}

-- a call to the ship takes the line where somebody asks ashore, and not else; 8 and 9 tell whether it rings, and the tone nothing
abbrev pub words_by_calls : Row
words_by_calls = record {
  computed = word (words_done asked_ashore 1 (deeds ++ call_ship 1 (from seven duplex) ∷ []) unused) ∷
      word (words_done asked_ashore 1 deeds unused) ∷
      word (words_done none 1 (deeds ++ call_ship 1 (from seven duplex) ∷ []) unused) ∷
      word (words_done none 1 (call_ship 1 (from seven duplex) ∷ []) called_word) ∷
      word (words_done asked_ashore 1 (call_ship 1 (from seven duplex) ∷ []) ringing_word) ∷
      word (words_done none 1 (deeds ++ ringing_on 1 ∷ []) called_word) ∷ word (words_done none 1 (deeds ++ ringing_off 1 ∷ []) ringing_word) ∷
      word (words_done none 1 deeds ringing_word) ∷ word (words_done none 1 deeds called_word) ∷
      word (words_done none 1 (busy_tone 1 ∷ carrier_on 1 ∷ carrier_off 1 ∷ acknowledge 1 (from seven duplex) ∷ []) ringing_word) ∷
      word (words_done none 1 (busy_tone 1 ∷ carrier_on 1 ∷ carrier_off 1 ∷ acknowledge 1 (from seven duplex) ∷ []) called_word) ∷
      word (words_done none 1 (release_line 1 ∷ []) called_word) ∷ word (words_done none 1 (release_line 1 ∷ []) ringing_word) ∷
      word (words_done none 1 (dial 1 usual ∷ []) ringing_word) ∷ word (words_done none 1 (ringing_off 1 ∷ []) (worded (since 150) true)) ∷
      word (words_done none 1 (ringing_on 1 ∷ []) unused) ∷ [];
  expected = (3 ∷ []) ∷ (0 ∷ []) ∷ (0 ∷ []) ∷ (3 ∷ []) ∷ (3 ∷ 8 ∷ []) ∷ (3 ∷ 8 ∷ []) ∷ (3 ∷ []) ∷ (3 ∷ 8 ∷ []) ∷ (3 ∷ []) ∷
      (3 ∷ 8 ∷ []) ∷ (3 ∷ []) ∷ (0 ∷ []) ∷ (0 ∷ 8 ∷ []) ∷ (1 ∷ 8 ∷ []) ∷ (2 ∷ 150 ∷ []) ∷ (0 ∷ 8 ∷ []) ∷ [];
}

-- every deed on a slot
abbrev pub every_deed : ℕ → List Deed
every_deed i = carrier_on i ∷ carrier_off i ∷ acknowledge i (from seven duplex) ∷ call_ship i (from seven duplex) ∷ unable 103 party usual ∷
    dial i usual ∷ release_line i ∷ ringing_on i ∷ ringing_off i ∷ busy_tone i ∷ []

-- and what it makes of the word of slot 1, where somebody asks ashore or not
abbrev pub by_each : ℕ → Option Ashore → Word → List (List ℕ)
by_each i q v = map (λ d. word (words_done q 1 (d ∷ []) v)) (every_deed i)

abbrev pub words_by_each : Row
words_by_each = record {
  computed = by_each 1 asked_ashore unused ++ by_each 1 asked_ashore ringing_word ++
      by_each 1 none unused ++ by_each 1 none ringing_word ++
      by_each 0 asked_ashore unused ++ by_each 0 asked_ashore ringing_word ++
      by_each 2 asked_ashore unused ++ by_each 2 asked_ashore ringing_word;
  expected =
      ((0 ∷ []) ∷ (0 ∷ []) ∷ (0 ∷ []) ∷ (3 ∷ []) ∷ (0 ∷ []) ∷ (1 ∷ []) ∷ (0 ∷ []) ∷ (0 ∷ 8 ∷ []) ∷ (0 ∷ []) ∷ (0 ∷ []) ∷ []) ++
      ((3 ∷ 8 ∷ []) ∷ (3 ∷ 8 ∷ []) ∷ (3 ∷ 8 ∷ []) ∷ (3 ∷ 8 ∷ []) ∷ (3 ∷ 8 ∷ []) ∷ (1 ∷ 8 ∷ []) ∷ (0 ∷ 8 ∷ []) ∷ (3 ∷ 8 ∷ []) ∷ (3 ∷ []) ∷
      (3 ∷ 8 ∷ []) ∷ []) ++
      ((0 ∷ []) ∷ (0 ∷ []) ∷ (0 ∷ []) ∷ (0 ∷ []) ∷ (0 ∷ []) ∷ (1 ∷ []) ∷ (0 ∷ []) ∷ (0 ∷ 8 ∷ []) ∷ (0 ∷ []) ∷ (0 ∷ []) ∷ []) ++
      ((3 ∷ 8 ∷ []) ∷ (3 ∷ 8 ∷ []) ∷ (3 ∷ 8 ∷ []) ∷ (3 ∷ 8 ∷ []) ∷ (3 ∷ 8 ∷ []) ∷ (1 ∷ 8 ∷ []) ∷ (0 ∷ 8 ∷ []) ∷ (3 ∷ 8 ∷ []) ∷ (3 ∷ []) ∷
      (3 ∷ 8 ∷ []) ∷ []) ++
      replicate 10 (0 ∷ []) ++ replicate 10 (3 ∷ 8 ∷ []) ++ replicate 10 (0 ∷ []) ++ replicate 10 (3 ∷ 8 ∷ []);
}

-- the same of a line that is dialled, answered, or taken from ashore and silent
abbrev pub lines_by_each : Row
lines_by_each = record {
  computed = by_each 1 asked_ashore dialled_word ++ by_each 1 none dialled_word ++
      by_each 1 asked_ashore (worded (since 150) false) ++ by_each 1 none (worded (since 150) false) ++
      by_each 1 asked_ashore called_word ++ by_each 1 none called_word;
  expected =
      ((1 ∷ []) ∷ (1 ∷ []) ∷ (1 ∷ []) ∷ (3 ∷ []) ∷ (1 ∷ []) ∷ (1 ∷ []) ∷ (0 ∷ []) ∷ (1 ∷ 8 ∷ []) ∷ (1 ∷ []) ∷ (1 ∷ []) ∷ []) ++
      ((1 ∷ []) ∷ (1 ∷ []) ∷ (1 ∷ []) ∷ (1 ∷ []) ∷ (1 ∷ []) ∷ (1 ∷ []) ∷ (0 ∷ []) ∷ (1 ∷ 8 ∷ []) ∷ (1 ∷ []) ∷ (1 ∷ []) ∷ []) ++
      ((2 ∷ 150 ∷ []) ∷ (2 ∷ 150 ∷ []) ∷ (2 ∷ 150 ∷ []) ∷ (3 ∷ []) ∷ (2 ∷ 150 ∷ []) ∷ (1 ∷ []) ∷ (0 ∷ []) ∷ (2 ∷ 150 ∷ 8 ∷ []) ∷
      (2 ∷ 150 ∷ []) ∷ (2 ∷ 150 ∷ []) ∷ []) ++
      ((2 ∷ 150 ∷ []) ∷ (2 ∷ 150 ∷ []) ∷ (2 ∷ 150 ∷ []) ∷ (2 ∷ 150 ∷ []) ∷ (2 ∷ 150 ∷ []) ∷ (1 ∷ []) ∷ (0 ∷ []) ∷
      (2 ∷ 150 ∷ 8 ∷ []) ∷ (2 ∷ 150 ∷ []) ∷ (2 ∷ 150 ∷ []) ∷ []) ++
      ((3 ∷ []) ∷ (3 ∷ []) ∷ (3 ∷ []) ∷ (3 ∷ []) ∷ (3 ∷ []) ∷ (1 ∷ []) ∷ (0 ∷ []) ∷ (3 ∷ 8 ∷ []) ∷ (3 ∷ []) ∷ (3 ∷ []) ∷ []) ++
      ((3 ∷ []) ∷ (3 ∷ []) ∷ (3 ∷ []) ∷ (3 ∷ []) ∷ (3 ∷ []) ∷ (1 ∷ []) ∷ (0 ∷ []) ∷ (3 ∷ 8 ∷ []) ∷ (3 ∷ []) ∷ (3 ∷ []) ∷ []);
}

-- whether slot 1 rings by each deed alone, by each with a deed after it, and after the entries of a run
abbrev pub ringing_by_each : ℕ → List Deed → Bool → List ℕ
ringing_by_each i ds b = map (λ d. bit (ringings_done 1 (d ∷ ds) b)) (every_deed i)

abbrev pub ringing_shown : Row
ringing_shown = record {
  computed = ringing_by_each 1 [] false ∷ ringing_by_each 1 [] true ∷ ringing_by_each 0 [] false ∷ ringing_by_each 0 [] true ∷
      ringing_by_each 2 [] false ∷ ringing_by_each 2 [] true ∷
      ringing_by_each 1 (ringing_on 1 ∷ []) false ∷ ringing_by_each 1 (ringing_off 1 ∷ []) true ∷
      ringing_by_each 1 (ringing_on 0 ∷ []) false ∷ ringing_by_each 1 (ringing_off 0 ∷ []) true ∷
      map (λ n. bit (ringing_after 1 (list_of (station 2) (take n both_called_script)) false)) (0 ∷ 2 ∷ 5 ∷ 8 ∷ 9 ∷ []) ∷
      map (λ n. bit (ringing_after 0 (list_of (station 2) (take n both_called_script)) false)) (0 ∷ 2 ∷ 5 ∷ 8 ∷ 9 ∷ 10 ∷ []) ∷
      map (λ n. bit (ringing_after 1 (list_of (station 2) (take n both_called_script)) true)) (0 ∷ 2 ∷ 9 ∷ []) ∷ [];
  expected = (0 ∷ 0 ∷ 0 ∷ 0 ∷ 0 ∷ 0 ∷ 0 ∷ 1 ∷ 0 ∷ 0 ∷ []) ∷ (1 ∷ 1 ∷ 1 ∷ 1 ∷ 1 ∷ 1 ∷ 1 ∷ 1 ∷ 0 ∷ 1 ∷ []) ∷ replicate 10 0 ∷ replicate 10 1 ∷
      replicate 10 0 ∷ replicate 10 1 ∷ replicate 10 1 ∷ replicate 10 0 ∷
      (0 ∷ 0 ∷ 0 ∷ 0 ∷ 0 ∷ 0 ∷ 0 ∷ 1 ∷ 0 ∷ 0 ∷ []) ∷ (1 ∷ 1 ∷ 1 ∷ 1 ∷ 1 ∷ 1 ∷ 1 ∷ 1 ∷ 0 ∷ 1 ∷ []) ∷
      (0 ∷ 0 ∷ 1 ∷ 1 ∷ 0 ∷ []) ∷
      (0 ∷ 0 ∷ 0 ∷ 1 ∷ 1 ∷ 0 ∷ []) ∷
      (1 ∷ 1 ∷ 0 ∷ []) ∷ [];
}

-- the 8s and 9s on slot 1: of each deed with an 8 after it, of all, in their order; and what is to be given
abbrev pub switches_shown : Row
switches_shown = record {
  computed = map (λ d. map bit (ringing_switches 1 (d ∷ []))) (every_deed 1) ++
      map (λ d. map bit (ringing_switches 1 (d ∷ ringing_on 1 ∷ []))) (every_deed 1) ++
      map bit (ringing_switches 1 (every_deed 0 ++ every_deed 2)) ∷ map bit (ringing_switches 1 (every_deed 1 ++ every_deed 1)) ∷
      map bit (change false false) ∷ map bit (change false true) ∷ map bit (change true false) ∷ map bit (change true true) ∷ [];
  expected = replicate 7 [] ++ (1 ∷ []) ∷ (0 ∷ []) ∷ [] ∷ replicate 7 (1 ∷ []) ++ (1 ∷ 1 ∷ []) ∷ (0 ∷ 1 ∷ []) ∷ (1 ∷ []) ∷
      [] ∷ (1 ∷ 0 ∷ 1 ∷ 0 ∷ []) ∷ [] ∷ (1 ∷ []) ∷ (0 ∷ []) ∷ [] ∷ [];
}

-- how often the line of slot 1 is released: by each deed, by each with two releases after it
abbrev pub releases_shown : Row
releases_shown = record {
  computed = map (release 1) (every_deed 1) ∷ map (release 1) (every_deed 0) ∷ map (release 1) (every_deed 2) ∷
      map (λ d. releases 1 (d ∷ release_line 1 ∷ release_line 0 ∷ release_line 1 ∷ [])) (every_deed 1) ∷ (releases 1 [] ∷ []) ∷ [];
  expected = (0 ∷ 0 ∷ 0 ∷ 0 ∷ 0 ∷ 0 ∷ 1 ∷ 0 ∷ 0 ∷ 0 ∷ []) ∷ replicate 10 0 ∷ replicate 10 0 ∷
      (2 ∷ 2 ∷ 2 ∷ 2 ∷ 2 ∷ 2 ∷ 3 ∷ 2 ∷ 2 ∷ 2 ∷ []) ∷ (0 ∷ []) ∷ [];
}

-- for whom a call from ashore is, ringing or not; a dialled line and an answered one are for nobody; and the columns after some entries
abbrev pub is_for_shown : Row
is_for_shown = record {
  computed = map (λ k. bit (is_for party k)) (quiet ∷ called (fifth seven duplex) false ∷ rings_seven ∷
      called (fifth eight duplex) false ∷ called (fifth eight duplex) true ∷ dialled (fifth seven duplex) false ∷
      dialled (fifth seven simplex) true ∷ talking (fifth seven duplex) 300 ∷ talking (fifth seven simplex) 300 ∷ []) ∷
      map column (columns_after (station 2) (list_of (station 2) (take 2 both_called_script)));
  expected = (0 ∷ 1 ∷ 1 ∷ 0 ∷ 0 ∷ 0 ∷ 0 ∷ 0 ∷ 0 ∷ []) ∷
      (0 ∷ 1 ∷ 151 ∷ 3 ∷ seven ∷ 100 ∷ 126 ∷ 6 ∷ 1 ∷ 0 ∷ 0 ∷ []) ∷ (0 ∷ 1 ∷ 161 ∷ 3 ∷ eight ∷ 101 ∷ 126 ∷ 6 ∷ 2 ∷ 0 ∷ 0 ∷ []) ∷ [];
}

-- each word of a line, ringing and not, and as numbers
abbrev pub line_words : List Word
line_words = ringing_word ∷ called_word ∷ unused ∷ worded idle true ∷ dialled_word ∷ worded outward true ∷ worded (since 150) false ∷
    worded (since 150) true ∷ []

abbrev pub words_as_they_are : List (List ℕ)
words_as_they_are = (3 ∷ 8 ∷ []) ∷ (3 ∷ []) ∷ (0 ∷ []) ∷ (0 ∷ 8 ∷ []) ∷ (1 ∷ []) ∷ (1 ∷ 8 ∷ []) ∷ (2 ∷ 150 ∷ []) ∷ (2 ∷ 150 ∷ 8 ∷ []) ∷ []

-- an off-hook on the slot itself, and on those beside it
abbrev pub words_picked_up : Row
words_picked_up = record {
  computed = word (word_heard 1 300 (picks_up 300 1).what dialled_word) ∷ word (word_heard 1 300 (picks_up 300 0).what dialled_word) ∷
      word (word_heard 1 300 (picks_up 300 2).what dialled_word) ∷ [];
  expected = (2 ∷ 300 ∷ []) ∷ (1 ∷ []) ∷ (1 ∷ []) ∷ [];
}

-- a carrier up on a line from ashore that rings, on one that does not, on those beside it, on any other line; off-hook on each
abbrev pub words_transmitted : Row
words_transmitted = record {
  computed = map (λ v. word (word_heard 1 300 (regains 300 1).what v)) line_words ++
      map (λ v. word (word_heard 1 300 (regains 300 0).what v)) line_words ++
      map (λ v. word (word_heard 1 300 (regains 300 2).what v)) line_words ++
      map (λ v. word (word_heard 1 300 (picks_up 300 1).what v)) line_words ++
      map (λ v. word (word_heard 1 300 (loses 300 1).what v)) line_words ++
      map (λ v. word (word_heard 1 300 (hangs 300 1).what v)) line_words ++
      map (λ v. word (word_heard 1 300 (dials_out 300 1).what v)) line_words ++
      map (λ v. word (word_heard 1 300 (shore_calls 300 seven duplex).what v)) line_words;
  expected = ((2 ∷ 300 ∷ 8 ∷ []) ∷ (3 ∷ []) ∷ (0 ∷ []) ∷ (0 ∷ 8 ∷ []) ∷ (1 ∷ []) ∷ (1 ∷ 8 ∷ []) ∷ (2 ∷ 150 ∷ []) ∷
      (2 ∷ 150 ∷ 8 ∷ []) ∷ []) ++
      words_as_they_are ++ words_as_they_are ++
      ((3 ∷ 8 ∷ []) ∷ (3 ∷ []) ∷ (0 ∷ []) ∷ (0 ∷ 8 ∷ []) ∷ (2 ∷ 300 ∷ []) ∷ (2 ∷ 300 ∷ 8 ∷ []) ∷ (2 ∷ 150 ∷ []) ∷
      (2 ∷ 150 ∷ 8 ∷ []) ∷ []) ++
      words_as_they_are ++ words_as_they_are ++ words_as_they_are ++ words_as_they_are;
}

-- the words of both slots after a whole list
abbrev pub words_at_once : Row
words_at_once = record {
  computed = word (word_after 0 (list_of (station 2) (take 8 two_calls)) unused) ∷
      word (word_after 1 (list_of (station 2) (take 8 two_calls)) unused) ∷ [];
  expected = (2 ∷ 130 ∷ []) ∷ (2 ∷ 140 ∷ []) ∷ [];
}

-- a book of one column on which everything is set, nine calls begun, and that column after an event or a deed alone
abbrev pub filled : Said → Call → Book
filled s k = record { now = 100; columns = record { said = s; wait = some 5000; call = k; gone = some 6000 } ∷ []; places = []; given = 9 }

-- the same with its carrier present
abbrev pub heard_well : Said → Call → Book
heard_well s k = record { now = 100; columns = record { said = s; wait = some 5000; call = k; gone = none } ∷ []; places = []; given = 9 }

abbrev pub after_event : Event → Book → List ℕ
after_event e b = get_or (map column (turn (station 1) b (record { event = e; deeds = [] })).columns) 0 []

abbrev pub after_deed : Deed → Book → List ℕ
after_deed d b = get_or (map column (turn (station 1) b (record { event = ticks 200; deeds = d ∷ [] })).columns) 0 []

abbrev pub rings_eight : Call
rings_eight = dialled (fifth eight simplex) false

-- once its dialling has ended, in either mode
abbrev pub rings_out : Call
rings_out = dialled (fifth eight simplex) true

abbrev pub rings_out_duplex : Call
rings_out_duplex = dialled (fifth eight duplex) true

abbrev pub talks_eight : Call
talks_eight = talking (fifth eight duplex) 150

-- an event changes what it tells, and nothing else of the column
abbrev pub events_alone : Row
events_alone = record {
  computed =
      after_event (hangs 200 0) (filled (told_b_q (fourth seven duplex)) rings_eight) ∷
      after_event (hangs 200 0) (filled (told_b_q (fourth seven duplex)) (dialled (fifth eight duplex) false)) ∷
      after_event (hangs 200 0) (filled (told_b_q (fourth seven duplex)) talks_eight) ∷
      after_event (hangs 200 0) (filled (told_b_q (fourth seven duplex)) (talking (fifth eight simplex) 150)) ∷
      after_event (picks_up 200 0) (filled (told_b_q (fourth seven duplex)) rings_eight) ∷
      after_event (ends 200 0 eight) (filled (told_b_q (fourth seven duplex)) talks_eight) ∷
      after_event (reserves 200 0) (heard_well (told_b_q (fourth seven duplex)) rings_eight) ∷
      after_event (accepts 200 26 seven) (filled (told_r_q (fourth seven duplex)) talks_eight) ∷
      after_event (ticks 5000) (filled (told_b_q (fourth seven duplex)) rings_eight) ∷ [];
  expected =
      (1 ∷ seven ∷ 101 ∷ 126 ∷ 7 ∷ 4 ∷ 1 ∷ 5000 ∷ 1 ∷ eight ∷ 100 ∷ 5 ∷ 0 ∷ 1 ∷ 6000 ∷ []) ∷
      (1 ∷ seven ∷ 101 ∷ 126 ∷ 7 ∷ 4 ∷ 1 ∷ 5000 ∷ 1 ∷ eight ∷ 101 ∷ 5 ∷ 0 ∷ 1 ∷ 6000 ∷ []) ∷
      (1 ∷ seven ∷ 101 ∷ 126 ∷ 7 ∷ 4 ∷ 1 ∷ 5000 ∷ 0 ∷ 0 ∷ []) ∷
      (1 ∷ seven ∷ 101 ∷ 126 ∷ 7 ∷ 4 ∷ 1 ∷ 5000 ∷ 0 ∷ 0 ∷ []) ∷
      (1 ∷ seven ∷ 101 ∷ 126 ∷ 7 ∷ 4 ∷ 0 ∷ 2 ∷ eight ∷ 100 ∷ 5 ∷ 200 ∷ 1 ∷ 6000 ∷ []) ∷
      (1 ∷ seven ∷ 101 ∷ 126 ∷ 7 ∷ 4 ∷ 1 ∷ 241 ∷ 0 ∷ 0 ∷ []) ∷
      (1 ∷ seven ∷ 101 ∷ 126 ∷ 7 ∷ 4 ∷ 1 ∷ 5000 ∷ 1 ∷ eight ∷ 100 ∷ 5 ∷ 0 ∷ 0 ∷ []) ∷
      (3 ∷ seven ∷ 101 ∷ 126 ∷ 7 ∷ 4 ∷ 1 ∷ 361 ∷ 2 ∷ eight ∷ 101 ∷ 5 ∷ 150 ∷ 1 ∷ 6000 ∷ []) ∷
      (1 ∷ seven ∷ 101 ∷ 126 ∷ 7 ∷ 4 ∷ 0 ∷ 1 ∷ eight ∷ 100 ∷ 5 ∷ 0 ∷ 1 ∷ 6000 ∷ []) ∷ [];
}

-- an end of dialling begins the minute, the first time and on a line that rings; then what else happens on a line dialled out
abbrev pub dialling_alone : Row
dialling_alone = record {
  computed =
      after_event (dials_out 200 0) (filled (told_b_q (fourth seven duplex)) rings_eight) ∷
      after_event (dials_out 200 0) (filled (told_b_q (fourth seven duplex)) (dialled (fifth eight duplex) false)) ∷
      after_event (dials_out 200 0) (filled (told_b_q (fourth seven duplex)) rings_out) ∷
      after_event (dials_out 200 0) (filled (told_b_q (fourth seven duplex)) rings_out_duplex) ∷
      after_event (dials_out 200 0) (filled (told_b_q (fourth seven duplex)) talks_eight) ∷
      after_event (dials_out 200 0) (filled (told_b_q (fourth seven duplex)) (talking (fifth eight simplex) 150)) ∷
      after_event (dials_out 200 0) (filled (told_b_q (fourth seven duplex)) quiet) ∷
      after_event (picks_up 200 0) (filled (told_b_q (fourth seven duplex)) rings_out) ∷
      after_event (hangs 200 0) (filled (told_b_q (fourth seven duplex)) rings_out) ∷
      after_event (hangs 200 0) (filled (told_b_q (fourth seven duplex)) rings_out_duplex) ∷
      after_event (loses 200 0) (heard_well (told_b_q (fourth seven duplex)) rings_out) ∷
      after_event (loses 200 0) (heard_well (told_b_q (fourth seven duplex)) rings_out_duplex) ∷
      after_event (ends 200 0 eight) (filled (told_b_q (fourth seven duplex)) rings_out) ∷
      after_event (ticks 5000) (filled (told_b_q (fourth seven duplex)) rings_out) ∷
      after_deed (dial 0 usual) (filled (told_b_q (fourth seven duplex)) rings_out) ∷
      after_deed (release_line 0) (filled (told_b_q (fourth seven duplex)) rings_out) ∷ [];
  expected =
      (1 ∷ seven ∷ 101 ∷ 126 ∷ 7 ∷ 4 ∷ 1 ∷ 801 ∷ 1 ∷ eight ∷ 100 ∷ 5 ∷ 1 ∷ 1 ∷ 6000 ∷ []) ∷
      (1 ∷ seven ∷ 101 ∷ 126 ∷ 7 ∷ 4 ∷ 1 ∷ 801 ∷ 1 ∷ eight ∷ 101 ∷ 5 ∷ 1 ∷ 1 ∷ 6000 ∷ []) ∷
      (1 ∷ seven ∷ 101 ∷ 126 ∷ 7 ∷ 4 ∷ 1 ∷ 5000 ∷ 1 ∷ eight ∷ 100 ∷ 5 ∷ 1 ∷ 1 ∷ 6000 ∷ []) ∷
      (1 ∷ seven ∷ 101 ∷ 126 ∷ 7 ∷ 4 ∷ 1 ∷ 5000 ∷ 1 ∷ eight ∷ 101 ∷ 5 ∷ 1 ∷ 1 ∷ 6000 ∷ []) ∷
      (1 ∷ seven ∷ 101 ∷ 126 ∷ 7 ∷ 4 ∷ 1 ∷ 5000 ∷ 2 ∷ eight ∷ 101 ∷ 5 ∷ 150 ∷ 1 ∷ 6000 ∷ []) ∷
      (1 ∷ seven ∷ 101 ∷ 126 ∷ 7 ∷ 4 ∷ 1 ∷ 5000 ∷ 2 ∷ eight ∷ 100 ∷ 5 ∷ 150 ∷ 1 ∷ 6000 ∷ []) ∷
      (1 ∷ seven ∷ 101 ∷ 126 ∷ 7 ∷ 4 ∷ 1 ∷ 5000 ∷ 0 ∷ 1 ∷ 6000 ∷ []) ∷
      (1 ∷ seven ∷ 101 ∷ 126 ∷ 7 ∷ 4 ∷ 0 ∷ 2 ∷ eight ∷ 100 ∷ 5 ∷ 200 ∷ 1 ∷ 6000 ∷ []) ∷
      (1 ∷ seven ∷ 101 ∷ 126 ∷ 7 ∷ 4 ∷ 1 ∷ 5000 ∷ 1 ∷ eight ∷ 100 ∷ 5 ∷ 1 ∷ 1 ∷ 6000 ∷ []) ∷
      (1 ∷ seven ∷ 101 ∷ 126 ∷ 7 ∷ 4 ∷ 1 ∷ 5000 ∷ 1 ∷ eight ∷ 101 ∷ 5 ∷ 1 ∷ 1 ∷ 6000 ∷ []) ∷
      (1 ∷ seven ∷ 101 ∷ 126 ∷ 7 ∷ 4 ∷ 1 ∷ 5000 ∷ 1 ∷ eight ∷ 100 ∷ 5 ∷ 1 ∷ 1 ∷ 651 ∷ []) ∷
      (1 ∷ seven ∷ 101 ∷ 126 ∷ 7 ∷ 4 ∷ 1 ∷ 5000 ∷ 1 ∷ eight ∷ 101 ∷ 5 ∷ 1 ∷ 1 ∷ 251 ∷ []) ∷
      (1 ∷ seven ∷ 101 ∷ 126 ∷ 7 ∷ 4 ∷ 1 ∷ 241 ∷ 0 ∷ 0 ∷ []) ∷
      (1 ∷ seven ∷ 101 ∷ 126 ∷ 7 ∷ 4 ∷ 0 ∷ 1 ∷ eight ∷ 100 ∷ 5 ∷ 1 ∷ 1 ∷ 6000 ∷ []) ∷
      (0 ∷ 1 ∷ 801 ∷ 1 ∷ seven ∷ 101 ∷ 4 ∷ 0 ∷ 0 ∷ []) ∷
      (1 ∷ seven ∷ 101 ∷ 126 ∷ 7 ∷ 4 ∷ 0 ∷ 0 ∷ 0 ∷ []) ∷ [];
}

-- a line from ashore on which nothing has changed
abbrev pub calls_still : List ℕ
calls_still = 0 ∷ 1 ∷ 5000 ∷ 3 ∷ seven ∷ 100 ∷ 126 ∷ 7 ∷ 5 ∷ 0 ∷ 1 ∷ 6000 ∷ []

abbrev pub rings_still : List ℕ
rings_still = 0 ∷ 1 ∷ 5000 ∷ 3 ∷ seven ∷ 100 ∷ 126 ∷ 7 ∷ 5 ∷ 1 ∷ 1 ∷ 6000 ∷ []

-- the column after a deed of an entry in which somebody asks ashore
abbrev pub after_shore : Deed → Book → List ℕ
after_shore d b = get_or (map column (turn (station 1) b (record { event = shore_calls 200 seven duplex; deeds = d ∷ [] })).columns) 0 []

-- the column of a ringing line after a deed with the line's release after it
abbrev pub after_behind : Deed → List ℕ
after_behind d =
    get_or
    (map column
    (turn (station 1) (filled silent rings_seven) (record { event = ticks 200; deeds = d ∷ release_line 0 ∷ [] })).columns) 0 []

-- what happens on a line from ashore: the ship's first BQ rings, its first carrier up then answers; a carrier up is present, and nothing
-- else changes it
abbrev pub shore_alone : Row
shore_alone = record {
  computed =
      after_event (accepts 200 26 seven) (filled silent calls_seven) ∷
      after_event (accepts_in simplex 200 26 seven) (filled silent calls_seven) ∷
      after_event (accepts 200 26 eight) (filled silent calls_seven) ∷ after_event (accepts 200 26 seven) (filled silent rings_seven) ∷
      after_event (regains 200 0) (filled silent calls_seven) ∷ after_event (regains 200 0) (filled silent rings_seven) ∷
      after_event (regains 200 0) (filled (told_b_q (fourth eight duplex)) rings_seven) ∷
      after_event (loses 200 0) (heard_well silent calls_seven) ∷ after_event (loses 200 0) (heard_well silent rings_seven) ∷
      after_event (picks_up 200 0) (filled silent calls_seven) ∷ after_event (picks_up 200 0) (filled silent rings_seven) ∷
      after_event (dials_out 200 0) (filled silent calls_seven) ∷ after_event (dials_out 200 0) (filled silent rings_seven) ∷
      after_event (hangs 200 0) (filled silent calls_seven) ∷ after_event (hangs 200 0) (filled silent rings_seven) ∷
      after_event (ends 200 0 seven) (filled silent calls_seven) ∷ after_event (ends 200 0 seven) (filled silent rings_seven) ∷
      after_event (calls 200 seven simplex) (filled silent calls_seven) ∷ after_event (calls 200 seven simplex) (filled silent rings_seven) ∷
      after_event (declines 200 seven) (filled silent calls_seven) ∷ after_event (declines 200 seven) (filled silent rings_seven) ∷
      after_event (data_calls 200 seven) (filled silent rings_seven) ∷ after_event (shore_calls 200 seven duplex) (filled silent rings_seven) ∷
      after_event (ticks 5000) (filled silent calls_seven) ∷ after_event (ticks 5000) (filled silent rings_seven) ∷
      after_event (accepts 200 26 seven) (filled (told_b_q (fourth eight duplex)) calls_seven) ∷
      after_event (regains 200 0) (filled silent quiet) ∷ after_event (accepts 200 26 seven) (filled silent quiet) ∷ [];
  expected =
      (0 ∷ 1 ∷ 801 ∷ 3 ∷ seven ∷ 100 ∷ 126 ∷ 7 ∷ 5 ∷ 1 ∷ 1 ∷ 6000 ∷ []) ∷ (0 ∷ 1 ∷ 801 ∷ 3 ∷ seven ∷ 100 ∷ 126 ∷ 7 ∷ 5 ∷ 1 ∷ 1 ∷ 6000 ∷ []) ∷
      calls_still ∷ rings_still ∷
      (0 ∷ 1 ∷ 5000 ∷ 3 ∷ seven ∷ 100 ∷ 126 ∷ 7 ∷ 5 ∷ 0 ∷ 0 ∷ []) ∷ (0 ∷ 0 ∷ 2 ∷ seven ∷ 100 ∷ 5 ∷ 200 ∷ 0 ∷ []) ∷
      (1 ∷ eight ∷ 101 ∷ 126 ∷ 7 ∷ 4 ∷ 0 ∷ 2 ∷ seven ∷ 100 ∷ 5 ∷ 200 ∷ 0 ∷ []) ∷
      (0 ∷ 1 ∷ 5000 ∷ 3 ∷ seven ∷ 100 ∷ 126 ∷ 7 ∷ 5 ∷ 0 ∷ 0 ∷ []) ∷ (0 ∷ 1 ∷ 5000 ∷ 3 ∷ seven ∷ 100 ∷ 126 ∷ 7 ∷ 5 ∷ 1 ∷ 0 ∷ []) ∷
      calls_still ∷ rings_still ∷ calls_still ∷ rings_still ∷ calls_still ∷ rings_still ∷ calls_still ∷ rings_still ∷ calls_still ∷ rings_still ∷
      calls_still ∷ rings_still ∷ rings_still ∷ rings_still ∷
      (0 ∷ 0 ∷ 3 ∷ seven ∷ 100 ∷ 126 ∷ 7 ∷ 5 ∷ 0 ∷ 1 ∷ 6000 ∷ []) ∷ (0 ∷ 0 ∷ 3 ∷ seven ∷ 100 ∷ 126 ∷ 7 ∷ 5 ∷ 1 ∷ 1 ∷ 6000 ∷ []) ∷
      (1 ∷ eight ∷ 101 ∷ 126 ∷ 7 ∷ 4 ∷ 1 ∷ 801 ∷ 3 ∷ seven ∷ 100 ∷ 126 ∷ 7 ∷ 5 ∷ 1 ∷ 1 ∷ 6000 ∷ []) ∷
      (0 ∷ 1 ∷ 5000 ∷ 0 ∷ 0 ∷ []) ∷ (0 ∷ 1 ∷ 5000 ∷ 0 ∷ 1 ∷ 6000 ∷ []) ∷ [];
}

-- a call to the ship takes the line where somebody asks ashore; else it is the call once more, or a ring-back; release ends it; ringing
-- and tone say nothing
abbrev pub shore_deeds : Row
shore_deeds = record {
  computed =
      after_shore (call_ship 0 (from nine duplex)) (filled (told_b_q (fourth seven duplex)) quiet) ∷
      after_shore (call_ship 0 (from nine duplex)) (filled silent calls_seven) ∷
      after_shore (call_ship 0 (from nine duplex)) (filled silent rings_seven) ∷
      after_shore (call_ship 0 (from nine duplex)) (filled silent rings_eight) ∷
      after_shore (call_ship 0 (from nine duplex)) (filled silent (dialled (fifth eight duplex) false)) ∷
      after_shore (call_ship 0 (from nine duplex)) (filled silent rings_out) ∷
      after_shore (call_ship 0 (from nine duplex)) (filled silent rings_out_duplex) ∷
      after_shore (call_ship 0 (from nine duplex)) (filled silent talks_eight) ∷
      after_shore (call_ship 0 (from nine duplex)) (filled silent (talking (fifth eight simplex) 150)) ∷
      after_deed (call_ship 0 (from nine duplex)) (filled (told_b_q (fourth seven duplex)) quiet) ∷
      after_deed (call_ship 0 (from nine duplex)) (filled (told_b_q (fourth seven duplex)) calls_seven) ∷
      after_deed (call_ship 0 (from nine duplex)) (filled silent rings_seven) ∷
      after_deed (call_ship 0 (from nine duplex)) (filled silent (dialled (fifth eight duplex) false)) ∷
      after_deed (call_ship 0 (from nine duplex)) (filled silent rings_out) ∷
      after_deed (call_ship 0 (from nine duplex)) (filled silent rings_out_duplex) ∷
      after_deed (call_ship 0 (from nine duplex)) (filled silent talks_eight) ∷
      after_deed (call_ship 0 (from nine duplex)) (filled silent (talking (fifth eight simplex) 150)) ∷
      after_deed (release_line 0) (filled silent calls_seven) ∷ after_deed (release_line 0) (filled silent rings_seven) ∷
      after_deed (release_line 0) (filled (told_b_q (fourth eight duplex)) rings_seven) ∷
      after_deed (ringing_on 0) (filled silent calls_seven) ∷ after_deed (ringing_off 0) (filled silent rings_seven) ∷
      after_deed (busy_tone 0) (filled silent rings_seven) ∷ after_deed (carrier_off 0) (filled silent rings_seven) ∷
      after_deed (carrier_on 0) (filled silent calls_seven) ∷
      after_deed (dial 0 usual) (filled (told_b_q (fourth eight duplex)) calls_seven) ∷
      after_deed (dial 0 usual) (filled (told_b_q (fourth eight duplex)) rings_seven) ∷
      after_deed (acknowledge 0 (from eight duplex)) (filled silent rings_seven) ∷ [];
  expected =
      (0 ∷ 1 ∷ 251 ∷ 3 ∷ nine ∷ 101 ∷ 126 ∷ 7 ∷ 10 ∷ 0 ∷ 0 ∷ []) ∷ (0 ∷ 1 ∷ 251 ∷ 3 ∷ nine ∷ 101 ∷ 126 ∷ 7 ∷ 10 ∷ 0 ∷ 0 ∷ []) ∷
      (0 ∷ 1 ∷ 251 ∷ 3 ∷ nine ∷ 101 ∷ 126 ∷ 7 ∷ 10 ∷ 1 ∷ 0 ∷ []) ∷ (0 ∷ 1 ∷ 251 ∷ 3 ∷ nine ∷ 101 ∷ 126 ∷ 7 ∷ 10 ∷ 0 ∷ 0 ∷ []) ∷
      (0 ∷ 1 ∷ 251 ∷ 3 ∷ nine ∷ 101 ∷ 126 ∷ 7 ∷ 10 ∷ 0 ∷ 0 ∷ []) ∷ (0 ∷ 1 ∷ 251 ∷ 3 ∷ nine ∷ 101 ∷ 126 ∷ 7 ∷ 10 ∷ 0 ∷ 0 ∷ []) ∷
      (0 ∷ 1 ∷ 251 ∷ 3 ∷ nine ∷ 101 ∷ 126 ∷ 7 ∷ 10 ∷ 0 ∷ 0 ∷ []) ∷
      (0 ∷ 1 ∷ 251 ∷ 2 ∷ eight ∷ 101 ∷ 5 ∷ 150 ∷ 0 ∷ []) ∷ (0 ∷ 1 ∷ 251 ∷ 2 ∷ eight ∷ 100 ∷ 5 ∷ 150 ∷ 0 ∷ []) ∷
      (2 ∷ nine ∷ 101 ∷ 126 ∷ 7 ∷ 10 ∷ 1 ∷ 251 ∷ 0 ∷ 1 ∷ 6000 ∷ []) ∷
      (0 ∷ 1 ∷ 251 ∷ 3 ∷ nine ∷ 101 ∷ 126 ∷ 7 ∷ 5 ∷ 0 ∷ 0 ∷ []) ∷ (0 ∷ 1 ∷ 251 ∷ 3 ∷ nine ∷ 101 ∷ 126 ∷ 7 ∷ 5 ∷ 1 ∷ 0 ∷ []) ∷
      (2 ∷ nine ∷ 101 ∷ 126 ∷ 7 ∷ 10 ∷ 1 ∷ 251 ∷ 1 ∷ eight ∷ 101 ∷ 5 ∷ 0 ∷ 1 ∷ 6000 ∷ []) ∷
      (2 ∷ nine ∷ 101 ∷ 126 ∷ 7 ∷ 10 ∷ 1 ∷ 251 ∷ 1 ∷ eight ∷ 100 ∷ 5 ∷ 1 ∷ 1 ∷ 6000 ∷ []) ∷
      (2 ∷ nine ∷ 101 ∷ 126 ∷ 7 ∷ 10 ∷ 1 ∷ 251 ∷ 1 ∷ eight ∷ 101 ∷ 5 ∷ 1 ∷ 1 ∷ 6000 ∷ []) ∷
      (2 ∷ nine ∷ 101 ∷ 126 ∷ 7 ∷ 10 ∷ 1 ∷ 251 ∷ 2 ∷ eight ∷ 101 ∷ 5 ∷ 150 ∷ 1 ∷ 6000 ∷ []) ∷
      (2 ∷ nine ∷ 101 ∷ 126 ∷ 7 ∷ 10 ∷ 1 ∷ 251 ∷ 2 ∷ eight ∷ 100 ∷ 5 ∷ 150 ∷ 1 ∷ 6000 ∷ []) ∷
      still ∷ still ∷ (1 ∷ eight ∷ 101 ∷ 126 ∷ 7 ∷ 4 ∷ 0 ∷ 0 ∷ 0 ∷ []) ∷
      calls_still ∷ rings_still ∷ rings_still ∷ rings_still ∷ calls_still ∷
      (0 ∷ 1 ∷ 801 ∷ 1 ∷ eight ∷ 101 ∷ 4 ∷ 0 ∷ 0 ∷ []) ∷ (0 ∷ 1 ∷ 801 ∷ 1 ∷ eight ∷ 101 ∷ 4 ∷ 0 ∷ 0 ∷ []) ∷
      (1 ∷ eight ∷ 101 ∷ 126 ∷ 7 ∷ 10 ∷ 1 ∷ 361 ∷ 3 ∷ seven ∷ 100 ∷ 126 ∷ 7 ∷ 5 ∷ 1 ∷ 1 ∷ 6000 ∷ []) ∷ [];
}

-- every other deed of such an entry says what it says in any; what comes after a ringing deed is read
abbrev pub shore_others : Row
shore_others = record {
  computed =
      after_shore (carrier_on 0) (filled (told_b_q (fourth seven duplex)) rings_eight) ∷
      after_shore (carrier_off 0) (filled (told_b_q (fourth seven duplex)) rings_eight) ∷
      after_shore (acknowledge 0 (from nine duplex)) (filled (told_b_q (fourth seven duplex)) rings_eight) ∷
      after_shore (dial 0 usual) (filled (told_b_q (fourth seven duplex)) rings_eight) ∷
      after_shore (release_line 0) (filled (told_b_q (fourth seven duplex)) rings_eight) ∷
      after_shore (ringing_on 0) (filled (told_b_q (fourth seven duplex)) rings_eight) ∷
      after_shore (ringing_off 0) (filled (told_b_q (fourth seven duplex)) rings_eight) ∷
      after_shore (busy_tone 0) (filled (told_b_q (fourth seven duplex)) rings_eight) ∷
      after_behind (ringing_on 0) ∷ after_behind (ringing_off 0) ∷ after_behind (busy_tone 0) ∷ [];
  expected =
      (1 ∷ seven ∷ 101 ∷ 126 ∷ 7 ∷ 4 ∷ 1 ∷ 5000 ∷ 1 ∷ eight ∷ 100 ∷ 5 ∷ 0 ∷ 1 ∷ 6000 ∷ []) ∷
      (0 ∷ 1 ∷ 5000 ∷ 1 ∷ eight ∷ 100 ∷ 5 ∷ 0 ∷ 1 ∷ 6000 ∷ []) ∷
      (1 ∷ nine ∷ 101 ∷ 126 ∷ 7 ∷ 10 ∷ 1 ∷ 361 ∷ 1 ∷ eight ∷ 100 ∷ 5 ∷ 0 ∷ 1 ∷ 6000 ∷ []) ∷
      (0 ∷ 1 ∷ 801 ∷ 1 ∷ seven ∷ 101 ∷ 4 ∷ 0 ∷ 0 ∷ []) ∷
      (1 ∷ seven ∷ 101 ∷ 126 ∷ 7 ∷ 4 ∷ 0 ∷ 0 ∷ 0 ∷ []) ∷
      (1 ∷ seven ∷ 101 ∷ 126 ∷ 7 ∷ 4 ∷ 1 ∷ 5000 ∷ 1 ∷ eight ∷ 100 ∷ 5 ∷ 0 ∷ 1 ∷ 6000 ∷ []) ∷
      (1 ∷ seven ∷ 101 ∷ 126 ∷ 7 ∷ 4 ∷ 1 ∷ 5000 ∷ 1 ∷ eight ∷ 100 ∷ 5 ∷ 0 ∷ 1 ∷ 6000 ∷ []) ∷
      (1 ∷ seven ∷ 101 ∷ 126 ∷ 7 ∷ 4 ∷ 1 ∷ 5000 ∷ 1 ∷ eight ∷ 100 ∷ 5 ∷ 0 ∷ 1 ∷ 6000 ∷ []) ∷
      still ∷ still ∷ still ∷ [];
}

-- so does a deed
abbrev pub deeds_alone : Row
deeds_alone = record {
  computed =
      after_deed (acknowledge 0 (from nine duplex)) (filled (told_b_q (fourth seven duplex)) rings_eight) ∷
      after_deed (call_ship 0 (from nine duplex)) (filled (told_b_q (fourth seven duplex)) rings_eight) ∷
      after_deed (carrier_off 0) (filled (told_b_q (fourth seven duplex)) rings_eight) ∷
      after_deed (carrier_on 0) (filled (told_b_q (fourth seven duplex)) rings_eight) ∷
      after_deed (dial 0 usual) (filled (told_b_q (fourth seven duplex)) rings_eight) ∷
      after_deed (dial 0 usual) (filled (settled (fourth seven simplex)) rings_eight) ∷
      after_deed (dial 0 usual) (filled (told_b_q (fourth seven duplex)) talks_eight) ∷
      after_deed (dial 0 usual) (filled (told_b_q (fourth seven duplex)) (talking (fifth eight simplex) 150)) ∷
      after_deed (release_line 0) (filled (told_b_q (fourth seven duplex)) rings_eight) ∷
      after_deed (release_line 0) (filled (told_b_q (fourth seven duplex)) talks_eight) ∷
      after_deed (release_line 0) (filled (told_b_q (fourth seven duplex)) (talking (fifth eight simplex) 150)) ∷ [];
  expected =
      (1 ∷ nine ∷ 101 ∷ 126 ∷ 7 ∷ 10 ∷ 1 ∷ 361 ∷ 1 ∷ eight ∷ 100 ∷ 5 ∷ 0 ∷ 1 ∷ 6000 ∷ []) ∷
      (2 ∷ nine ∷ 101 ∷ 126 ∷ 7 ∷ 10 ∷ 1 ∷ 251 ∷ 1 ∷ eight ∷ 100 ∷ 5 ∷ 0 ∷ 1 ∷ 6000 ∷ []) ∷
      (0 ∷ 1 ∷ 5000 ∷ 1 ∷ eight ∷ 100 ∷ 5 ∷ 0 ∷ 1 ∷ 6000 ∷ []) ∷
      (1 ∷ seven ∷ 101 ∷ 126 ∷ 7 ∷ 4 ∷ 1 ∷ 5000 ∷ 1 ∷ eight ∷ 100 ∷ 5 ∷ 0 ∷ 1 ∷ 6000 ∷ []) ∷
      (0 ∷ 1 ∷ 801 ∷ 1 ∷ seven ∷ 101 ∷ 4 ∷ 0 ∷ 0 ∷ []) ∷
      (0 ∷ 1 ∷ 801 ∷ 1 ∷ seven ∷ 100 ∷ 4 ∷ 0 ∷ 0 ∷ []) ∷
      (0 ∷ 1 ∷ 801 ∷ 2 ∷ eight ∷ 101 ∷ 5 ∷ 150 ∷ 0 ∷ []) ∷
      (0 ∷ 1 ∷ 801 ∷ 2 ∷ eight ∷ 100 ∷ 5 ∷ 150 ∷ 0 ∷ []) ∷
      (1 ∷ seven ∷ 101 ∷ 126 ∷ 7 ∷ 4 ∷ 0 ∷ 0 ∷ 0 ∷ []) ∷
      (1 ∷ seven ∷ 101 ∷ 126 ∷ 7 ∷ 4 ∷ 1 ∷ 5000 ∷ 2 ∷ eight ∷ 101 ∷ 5 ∷ 150 ∷ 1 ∷ 6000 ∷ []) ∷
      (1 ∷ seven ∷ 101 ∷ 126 ∷ 7 ∷ 4 ∷ 1 ∷ 5000 ∷ 2 ∷ eight ∷ 100 ∷ 5 ∷ 150 ∷ 1 ∷ 6000 ∷ []) ∷ [];
}

-- a ring-back begins a call, unless channel 70 was told of it before
abbrev pub ring_back_alone : Row
ring_back_alone = record {
  computed =
      after_deed (call_ship 0 (from nine duplex)) (filled (settled (fourth seven duplex)) quiet) ∷
      after_deed (call_ship 0 (from nine duplex)) (filled (told_r_q (fourth seven duplex)) quiet) ∷
      after_deed (call_ship 0 (from nine duplex)) (filled (told_r_q (fourth seven duplex)) rings_eight) ∷
      after_deed (call_ship 0 (from nine duplex)) (filled (told_r_q (fourth seven duplex)) talks_eight) ∷ [];
  expected =
      (2 ∷ nine ∷ 101 ∷ 126 ∷ 7 ∷ 10 ∷ 1 ∷ 251 ∷ 0 ∷ 1 ∷ 6000 ∷ []) ∷
      (2 ∷ nine ∷ 101 ∷ 126 ∷ 7 ∷ 4 ∷ 1 ∷ 251 ∷ 0 ∷ 1 ∷ 6000 ∷ []) ∷
      (2 ∷ nine ∷ 101 ∷ 126 ∷ 7 ∷ 4 ∷ 1 ∷ 251 ∷ 1 ∷ eight ∷ 100 ∷ 5 ∷ 0 ∷ 1 ∷ 6000 ∷ []) ∷
      (2 ∷ nine ∷ 101 ∷ 126 ∷ 7 ∷ 4 ∷ 1 ∷ 251 ∷ 2 ∷ eight ∷ 101 ∷ 5 ∷ 150 ∷ 1 ∷ 6000 ∷ []) ∷ [];
}

-- of the line's words too: dial on a slot that is dialled or talks, on-hook on one that is dialled
abbrev pub words_alone : Row
words_alone = record {
  computed = word (words_done none 1 (dial 1 usual ∷ []) dialled_word) ∷
      word (words_done none 1 (dial 1 usual ∷ []) (worded (since 150) false)) ∷
      word (word_heard 1 300 (hangs 300 1).what dialled_word) ∷ [];
  expected = (1 ∷ []) ∷ (1 ∷ []) ∷ (1 ∷ []) ∷ [];
}

-- told to wait: 104/103 to the ship itself, whatever is done before, and neither 102 nor 109
abbrev pub told_to_wait_shown : Row
told_to_wait_shown = record {
  computed = (bit (told_to_wait party deeds) ∷ bit (told_to_wait party (unable 102 party usual ∷ [])) ∷
      bit (told_to_wait party (unable 109 party usual ∷ [])) ∷ bit (told_to_wait party (unable 103 (from eight duplex).who usual ∷
      [])) ∷ bit (told_to_wait party (unable 102 party usual ∷ unable 103 party usual ∷ [])) ∷ []) ∷ [];
  expected = (1 ∷ 0 ∷ 0 ∷ 0 ∷ 1 ∷ []) ∷ [];
}

-- a carrier is switched on by its own deed alone, on the slot that it names
abbrev pub switched_on_shown : Row
switched_on_shown = record {
  computed = map (λ d. due (switched_on d)) (carrier_on 1 ∷ carrier_off 1 ∷ acknowledge 1 (from seven duplex) ∷
      call_ship 1 (from seven duplex) ∷ unable 103 party usual ∷ dial 1 usual ∷ release_line 1 ∷ ringing_on 1 ∷ ringing_off 1 ∷
      busy_tone 1 ∷ []);
  expected = (1 ∷ 1 ∷ []) ∷ (0 ∷ []) ∷ (0 ∷ []) ∷ (0 ∷ []) ∷ (0 ∷ []) ∷ (0 ∷ []) ∷ (0 ∷ []) ∷ (0 ∷ []) ∷ (0 ∷ []) ∷ (0 ∷ []) ∷ [];
}

-- what is heard, as numbers
abbrev pub heard_shown : Heard → List ℕ
heard_shown (call_request r) = 1 ∷ request r
heard_shown (data_request x n) = 2 ∷ x.ship ∷ []
heard_shown (bq i x) = 3 ∷ i ∷ x.ship ∷ []
heard_shown (working_call x) = 4 ∷ x.ship ∷ []
heard_shown (end_of_call x) = 5 ∷ x.ship ∷ []
heard_shown (declined x) = 6 ∷ x.ship ∷ []
heard_shown nothing = 0 ∷ []

-- what a ship was last told to wait with, whatever was heard before
abbrev pub last_asked_shown : Row
last_asked_shown = record {
  computed = map (λ o. heard_shown (last_asked (station 1) party o (list_of (station 1) (take 2 in_queue)))) (nothing ∷
      call_request (from eight duplex) ∷ data_request party usual ∷ bq 0 party ∷ working_call party ∷ end_of_call party ∷ declined party ∷ []);
  expected = replicate 7 (1 ∷ seven ∷ 101 ∷ 126 ∷ 7 ∷ []);
}

-- a ship that was not told to wait
abbrev pub last_asked_never : Row
last_asked_never = record {
  computed = map (λ o. heard_shown (last_asked (station 1) (from nine duplex).who o (list_of (station 1) (take 2 in_queue)))) (nothing ∷
      bq 0 party ∷ []);
  expected = (0 ∷ []) ∷ (3 ∷ 0 ∷ seven ∷ []) ∷ [];
}

-- a charge behind every other action is found, and the deeds alone are
abbrev pub given : List Action
given = does (carrier_on 0) ∷ does (carrier_off 0) ∷ does (acknowledge 0 (from seven duplex)) ∷ does (call_ship 0 (from seven duplex)) ∷
    does (unable 103 party usual) ∷ does (dial 0 usual) ∷ does (release_line 0) ∷ does (ringing_on 0) ∷ does (ringing_off 0) ∷
    does (busy_tone 0) ∷ over 0 the_ship party usual None ∷
    charge (paid 0 0 seven 1 2 3 4).it ∷
    does (dial 1 usual) ∷ []

-- one charge, eleven deeds
abbrev pub charges_found : Row
charges_found = record {
  computed = (length (charges_of given) ∷ length (deeds_of given) ∷ []) ∷ [];
  expected = (1 ∷ 11 ∷ []) ∷ [];
}

-- a ship that is told 104/102 does not wait
abbrev pub told102 : Row
told102 = record {
  computed = pages_from (station 1) (record {
    event = calls 100 seven duplex;
    deeds = unable 102 (from seven duplex).who usual ∷
        [];
  } ∷ []) (blank_book (station 1));
  expected = (100 ∷ 0 ∷ []) ∷ still ∷ [] ∷ [];
}

-- which requests are alike, to the rules and to the reader of the list: one ship, mode, second telecommand and number
abbrev pub compared : (Request → Request → Bool) → List ℕ
compared t =
    bit (t (from seven duplex) (from seven duplex)) ∷ bit (t (from seven simplex) (from seven simplex)) ∷
    bit (t (from seven simplex) (from seven duplex))
    ∷ bit (t (from seven duplex) (from seven simplex)) ∷ bit (t (from seven duplex) (from eight duplex))
    ∷ bit (t (asking seven 2001234 duplex 100 usual) (asking seven 2001234 duplex 101 usual)) ∷
    bit (t (asking seven 2001234 duplex 101 usual) (asking seven 2001234 duplex 100 usual))
    ∷ bit (t (calling (4 ∷ 2 ∷ [])) (calling (4 ∷ 2 ∷ []))) ∷ bit (t (calling (4 ∷ 2 ∷ [])) (calling (4 ∷ 2 ∷ 1 ∷ []))) ∷
    bit (t (calling (4 ∷ 2 ∷ 1 ∷ [])) (calling (4 ∷ 2 ∷ [])))
    ∷ bit (t (calling (4 ∷ 2 ∷ [])) (calling (5 ∷ 2 ∷ []))) ∷ bit (t (calling (5 ∷ 2 ∷ [])) (calling (4 ∷ 2 ∷ []))) ∷
    bit (t (calling (4 ∷ 2 ∷ [])) (calling (4 ∷ 1 ∷ []))) ∷ bit (t (calling (4 ∷ 1 ∷ [])) (calling (4 ∷ 2 ∷ [])))
    ∷ []

abbrev pub same_shown : Row
same_shown = record {
  computed = compared same ∷ [];
  expected = (1 ∷ 1 ∷ 0 ∷ 0 ∷ 0 ∷ 0 ∷ 0 ∷ 1 ∷ 0 ∷ 0 ∷ 0 ∷ 0 ∷ 0 ∷ 0 ∷ []) ∷ [];
}

abbrev pub alike_shown : Row
alike_shown = record {
  computed = compared alike ∷ [];
  expected = (1 ∷ 1 ∷ 0 ∷ 0 ∷ 0 ∷ 0 ∷ 0 ∷ 1 ∷ 0 ∷ 0 ∷ 0 ∷ 0 ∷ 0 ∷ 0 ∷ []) ∷ [];
}

-- ── all of them ──────────────────────────────────────────────────────────────

abbrev pub page_cases : List Row
page_cases =
    on_second_pages ∷ on_second_words ∷ on_second_tenths ∷ again_pages ∷ again_words ∷ again_tenths ∷ dialled_pages ∷ dialled_words ∷
    dialled_tenths ∷ called_pages ∷ called_words ∷ called_tenths ∷ called_again_pages ∷ called_again_words ∷ called_again_tenths ∷
    both_called_pages ∷ both_called_words ∷ both_called_words_of_first ∷ both_called_tenths ∷ words_by_calls ∷ words_transmitted ∷ shore_alone ∷
    shore_deeds ∷ shore_others ∷ words_by_each ∷ lines_by_each ∷ called_only ∷ ringing_shown ∷ switches_shown ∷ releases_shown ∷ is_for_shown ∷
    in_queue_pages ∷ in_queue_words ∷ in_queue_tenths ∷ two_calls_pages ∷ two_calls_words ∷ two_calls_words_of_first ∷
    two_calls_tenths ∷ on_third_pages ∷ on_third_words ∷ on_third_tenths ∷ dialled_only ∷ uncharged_shown ∷ stops_numbered ∷ numbers_charged ∷
    calls_shown ∷ events_shown ∷ words_by_deeds ∷ words_picked_up ∷ words_at_once ∷ events_alone ∷ dialling_alone ∷ deeds_alone ∷ ring_back_alone ∷
    words_alone ∷ told_to_wait_shown ∷ switched_on_shown ∷ last_asked_shown ∷ last_asked_never ∷ charges_found ∷ talking_on ∷ words_of ∷ blank_page ∷
    told102 ∷ same_shown ∷ alike_shown ∷ []

abbrev pub page_runs : List Run
page_runs = on_second_run ∷ again_run ∷ dialled_run ∷ called_run ∷ called_again_run ∷ both_called_run ∷ in_queue_run ∷ two_calls_run ∷ on_third_run ∷ []
