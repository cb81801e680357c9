-- Actions handed out: the sequences that are sent, and the 40 bytes of an action.
use Rattle.std.specs.Prelude.{List, [], ◌∷◌, ◌++◌, ℕ, zero, suc, ◌/◌, ◌%◌, length, get_or, Option as Optional, Some, None}
use Rattle.units.specs.declared.Channel.{Channel as ChannelNumber}
use Rattle.units.specs.declared.Duration.{Duration as DurationTold}
use Rattle.sequence.specs.declared.Field.{Field}
use Rattle.sequence.specs.declared.Field.TheVariants.{Blank, Channel, Duration}
use Rattle.sequence.specs.declared.Number.{Number}
use Rattle.sequence.specs.declared.Meaning.{Meaning}
use Rattle.sequence.specs.Figures.{first_unable, first_over, untold, most_digits, end_rq, end_bq, end_last}
use Rattle.sequence.specs.Layout.{layout}
use Rattle.rules.specs.Rules.Words.{Party, Request, mode_number, Config}
use Rattle.rules.specs.Rules.Words.{carrier_on, carrier_off, acknowledge, call_ship, unable, dial, release_line, ringing_on}
use Rattle.rules.specs.Rules.Words.{ringing_off, busy_tone}
use Rattle.rules.specs.Rules.Actions.{Ender, the_ship, the_coast, Action, does, over, charge, charge_numbers}

-- ── the sequences ────────────────────────────────────────────────────────────

-- n elements: those of a list, and b for each that is not there
unfoldable pub padded : {A : Type 0} → A → ℕ → List A → List A
padded b zero l = []
padded b (suc n) [] = b ∷ padded b n []
padded b (suc n) (x ∷ l) = x ∷ padded b n l

abbrev pub number_of : List ℕ → Number
number_of l = record { count = length l; digits = padded 0 most_digits l }

-- "with identities exchanged": to the ship, from the station that it called
unfoldable pub answer_to : Party → ℕ → ℕ → Field → List ℕ → ℕ → Meaning
answer_to x first second field digits end =
    record { address = x.ship; sender = x.station; first = first; second = second; field = field; number = number_of digits; end = end }

-- "acknowledgement with the channel": the request repeated
unfoldable pub able_said : ChannelNumber → ℕ → Request → Meaning
able_said channel end r = answer_to r.who (mode_number r.mode) r.second (Channel channel) r.number end

-- "for 104 the field 126s"
unfoldable pub unable_said : ℕ → Party → List ℕ → Meaning
unable_said second x digits = answer_to x first_unable second Blank digits end_bq

abbrev pub lasted_field : Optional DurationTold → Field
lasted_field None = Blank
lasted_field (Some d) = Duration d

-- "with BQ" at the ship's end, "with 127" at the coast's
abbrev pub end_symbol : Ender → ℕ
end_symbol the_ship = end_bq
end_symbol the_coast = end_last

-- "send 105/126 .. and the duration"; "the number sent is the stored request's"
unfoldable pub over_said : Ender → Party → List ℕ → Optional DurationTold → Meaning
over_said e x digits n = answer_to x first_over untold (lasted_field n) digits (end_symbol e)

-- ── the bytes ────────────────────────────────────────────────────────────────

-- "At most 8 a step, 40 bytes each"
abbrev pub most_actions : ℕ
most_actions = 8

abbrev pub block_size : ℕ
block_size = 40

-- behind the four bytes of "kind, slot .., payload length, 0"
abbrev pub payload_room : ℕ
payload_room = 36

-- "kind, slot, payload length, 0, payload, zeros"
unfoldable pub block : ℕ → ℕ → List ℕ → List ℕ
block kind slot payload = kind ∷ slot ∷ length payload ∷ 0 ∷ padded 0 payload_room payload

-- "four bytes each, low first"
abbrev pub four : ℕ → List ℕ → List ℕ
four n l = n % 256 ∷ n / 256 % 256 ∷ n / 65536 % 256 ∷ n / 16777216 % 256 ∷ l

abbrev pub fours : List ℕ → List ℕ
fours [] = []
fours (n ∷ l) = four n (fours l)

-- the channel of a slot
abbrev pub channel_at : Config → ℕ → ChannelNumber
channel_at c i = get_or c.channels i (record { 0 = 0 })

-- "1 carrier on, 2 carrier off, 3 send on channel 70, 4 send on the working channel, 5 dial, 6 release line, 7 charge";
-- 02, no. 2: "8 ringing on, 9 ringing off, 10 five seconds of busy tone"
abbrev pub kind_number : Action → ℕ
kind_number (does (carrier_on i)) = 1
kind_number (does (carrier_off i)) = 2
kind_number (does (acknowledge i r)) = 3
kind_number (does (call_ship i r)) = 3
kind_number (does (unable n x digits)) = 3
kind_number (does (dial i digits)) = 5
kind_number (does (release_line i)) = 6
kind_number (does (ringing_on i)) = 8
kind_number (does (ringing_off i)) = 9
kind_number (does (busy_tone i)) = 10
kind_number (over i e x digits n) = 4
kind_number (charge h) = 7

-- "slot (255 for the 104 answers)"
abbrev pub unable_slot : ℕ
unable_slot = 255

abbrev pub slot_number : Action → ℕ
slot_number (does (carrier_on i)) = i
slot_number (does (carrier_off i)) = i
slot_number (does (acknowledge i r)) = i
slot_number (does (call_ship i r)) = i
slot_number (does (unable n x digits)) = unable_slot
slot_number (does (dial i digits)) = i
slot_number (does (release_line i)) = i
slot_number (does (ringing_on i)) = i
slot_number (does (ringing_off i)) = i
slot_number (does (busy_tone i)) = i
slot_number (over i e x digits n) = i
slot_number (charge h) = h.slot

-- sequences; "digits, one a byte"; the numbers of a charge
unfoldable pub payload_of : Config → Action → List ℕ
payload_of c (does (carrier_on i)) = []
payload_of c (does (carrier_off i)) = []
payload_of c (does (acknowledge i r)) = layout (able_said (channel_at c i) end_bq r)
payload_of c (does (call_ship i r)) = layout (able_said (channel_at c i) end_rq r)
payload_of c (does (unable n x digits)) = layout (unable_said n x digits)
payload_of c (does (dial i digits)) = digits
payload_of c (does (release_line i)) = []
payload_of c (does (ringing_on i)) = []
payload_of c (does (ringing_off i)) = []
payload_of c (does (busy_tone i)) = []
payload_of c (over i e x digits n) = layout (over_said e x digits n)
payload_of c (charge h) = fours (charge_numbers h)

unfoldable pub block_of : Config → Action → List ℕ
block_of c a = block (kind_number a) (slot_number a) (payload_of c a)

-- one block after the other
abbrev pub blocks : Config → List Action → List ℕ
blocks c [] = []
blocks c (a ∷ more) = block_of c a ++ blocks c more
