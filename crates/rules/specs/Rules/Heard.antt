-- What the symbols of a sequence say to this station.
use Rattle.std.specs.Prelude.{List, Bool, true, false, cond, ◌&&◌, ◌||◌, ℕ, eqb, take}
use Rattle.std.proofs.Math.Option.{Option, none, some}
use Rattle.units.specs.declared.Channel.{Channel as ChannelNumber}
use Rattle.sequence.specs.declared.Field.{Field}
use Rattle.sequence.specs.declared.Field.TheVariants.{Blank, Channel, Duration}
use Rattle.sequence.specs.declared.Number.{Number}
use Rattle.sequence.specs.declared.Meaning.{Meaning}
use Rattle.sequence.specs.Figures.{first_simplex, first_duplex, first_data, first_unable, first_over, end_rq, end_bq, end_last}
use Rattle.sequence.specs.Reading.{meaning_read}
use Rattle.rules.specs.Rules.Places.{lowest}
use Rattle.rules.specs.Rules.Words.{Party, Mode, simplex, duplex, Request, Config, ours}

pub data Heard : Type 0 where
  call_request : Request → Heard  -- simplex or duplex
  data_request : Party → List ℕ → Heard  -- who asks, and the number
  bq : ℕ → Party → Heard  -- an answer to a ring-back or to a call from ashore, naming a slot's channel
  declined : Party → Heard  -- the same, but unable to: 104
  working_call : Party → Heard
  end_of_call : Party → Heard
  nothing : Heard  -- nothing that 01 names, or not addressed to this station

-- the digits in use
abbrev pub digits_in : Number → List ℕ
digits_in n = take n.count n.digits

-- the ship that sends, with the station that it addresses
abbrev pub sent_by : Meaning → Party
sent_by m = record { ship = m.sender; station = m.address }

abbrev pub request_in : Mode → Meaning → Request
request_in w m = record { who = sent_by m; mode = w; second = m.second; number = digits_in m.number }

abbrev pub is_blank : Field → Bool
is_blank Blank = true
is_blank (Channel n) = false
is_blank (Duration d) = false

-- an end of sequence and a first telecommand, with the field 126s
abbrev pub says : ℕ → ℕ → Meaning → Bool
says end first m = (eqb m.end end && eqb m.first first) && is_blank m.field

abbrev pub same_channel : ChannelNumber → ChannelNumber → Bool
same_channel a b = eqb a.0 b.0

-- the slot whose channel is named
abbrev pub slot_named : Config → Field → Option ℕ
slot_named c Blank = none
slot_named c (Channel n) = lowest (same_channel n) c.channels
slot_named c (Duration d) = none

abbrev pub bq_on : Party → Option ℕ → Heard
bq_on x none = nothing
bq_on x (some i) = bq i x

-- BQ, with the telecommand of a mode
abbrev pub agrees : Meaning → Bool
agrees m = eqb m.end end_bq && (eqb m.first first_simplex || eqb m.first first_duplex)

-- the kinds that 01 names; no sequence is of two
unfoldable pub kind_of : Config → Meaning → Heard
kind_of c m =
    -- "Call request (117; 100, 101 or 106; field 126s)"
    cond (says end_rq first_simplex m) (call_request (request_in simplex m))
    (cond (says end_rq first_duplex m) (call_request (request_in duplex m))
    (cond (says end_rq first_data m) (data_request (sent_by m) (digits_in m.number))
    -- "Working call (127; 100 or 101; field 126s)"
    (cond (says end_last first_simplex m || says end_last first_duplex m) (working_call (sent_by m))
    -- "Ship's end of call (117, 105, field 126s)"
    (cond (says end_rq first_over m) (end_of_call (sent_by m))
    -- "BQ .. telecommand 100 or 101, naming that channel"
    (cond (agrees m) (bq_on (sent_by m) (slot_named c m.field))
    -- 02, no. 2: "its BQ with 104"
    (cond (says end_bq first_unable m) (declined (sent_by m)) nothing))))))

-- "a sequence not addressed to this station" is nothing
unfoldable pub addressed : Config → Meaning → Heard
addressed c m = cond (ours c m.address) (kind_of c m) nothing

-- what symbols say that the reader accepts
unfoldable pub meaning : Config → List ℕ → Heard
meaning c s = addressed c (meaning_read s)
