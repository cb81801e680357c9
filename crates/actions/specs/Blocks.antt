-- An action of the rack, its block, and what a room holds once the blocks are laid.
use Rattle.std.specs.Prelude.{ℕ, ◌-◌, ◌*◌, min, Bool, cond, List, [], ◌++◌, ◌∷◌, leb, length, take, drop}
use Rattle.units.specs.declared.CallNumber.{CallNumber}
use Rattle.units.specs.declared.Tenths.{Tenths}
use Rattle.units.specs.Units.{whole_seconds}
use Rattle.rules.specs.Rules.Bytes.{padded, block, four, block_size, payload_room}
use Rattle.actions.specs.declared.Kind.{Kind}
use Rattle.actions.specs.declared.Kind.TheVariants.{CarrierOn, CarrierOff, SendOnChannel70, SendOnWorking, Dial, ReleaseLine, Charge}
use Rattle.actions.specs.declared.Kind.TheVariants.{RingingOn, RingingOff, BusyTone}
use Rattle.actions.specs.declared.Action.{Action}

-- "1 carrier on, 2 carrier off, 3 send on channel 70, 4 send on the working channel, 5 dial, 6 release line, 7 charge";
-- 02, no. 2: "8 ringing on, 9 ringing off, 10 five seconds of busy tone"
abbrev pub number_of_kind : Kind → ℕ
number_of_kind CarrierOn = 1
number_of_kind CarrierOff = 2
number_of_kind SendOnChannel70 = 3
number_of_kind SendOnWorking = 4
number_of_kind Dial = 5
number_of_kind ReleaseLine = 6
number_of_kind Charge = 7
number_of_kind RingingOn = 8
number_of_kind RingingOff = 9
number_of_kind BusyTone = 10

-- an action as it is laid out: its payload, and zeros
unfoldable pub action_of : ℕ → ℕ → List ℕ → Action
action_of kind slot payload =
    record {
      kind = kind;
      slot = record { 0 = slot };
      length = length payload;
      payload = padded 0 payload_room payload;
    }

unfoldable pub action_block : Action → List ℕ
action_block a = block a.kind a.slot.0 (take a.length a.payload)

-- from a start to a stop, in tenths
abbrev pub span : Tenths → Tenths → Tenths
span start stop = record { 0 = stop.0 - start.0 }

-- "ship, start, stop, seconds; four bytes each, low first"; 02, no. 4: the call number, "as a fifth field"
abbrev pub four_each : ℕ → ℕ → ℕ → ℕ → ℕ → List ℕ
four_each ship start stop seconds call = four ship (four start (four stop (four seconds (four call []))))

abbrev pub charge_bytes : ℕ → Tenths → Tenths → CallNumber → List ℕ
charge_bytes ship start stop call = four_each ship start.0 stop.0 (whole_seconds (span start stop)).0 call.0

-- a block in bytes: a slot's number past a byte is 255, which no slot has
abbrev pub in_bytes : List ℕ → List ℕ
in_bytes [] = []
in_bytes (kind ∷ []) = kind ∷ []
in_bytes (kind ∷ slot ∷ more) = kind ∷ min slot 255 ∷ more

-- one block after the other
abbrev pub joined : List (List ℕ) → List ℕ
joined [] = []
joined (b ∷ bs) = in_bytes b ++ joined bs

-- a room holds the blocks
unfoldable pub holds : List (List ℕ) → ℕ → Bool
holds bs room = leb (block_size * length bs) room

unfoldable pub put_count : List (List ℕ) → ℕ → ℕ
put_count bs room = cond (holds bs room) (length bs) 0

-- "Bytes after the last action stay."
unfoldable pub put_room : List (List ℕ) → List ℕ → List ℕ
put_room bs room = cond (holds bs (length room)) (joined bs ++ drop (block_size * length bs) room) room
