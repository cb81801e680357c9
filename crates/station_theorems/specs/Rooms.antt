-- The actions that the bytes of a room tell: "Actions handed out" of document 01, from the bytes back to the words.
use Rattle.std.specs.Prelude.{ℕ, zero, suc, ◌+◌, ◌*◌, cond, List, [], ◌∷◌, ◌++◌, eqb, get_or, take, drop, Option as Optional, Some, None}
use Rattle.units.specs.declared.Duration.{Duration as LastedFor}
use Rattle.sequence.specs.declared.Field.{Field}
use Rattle.sequence.specs.declared.Field.TheVariants.{Blank, Channel, Duration}
use Rattle.sequence.specs.declared.Meaning.{Meaning}
use Rattle.sequence.specs.Figures.{first_simplex, first_unable, end_rq, end_bq}
use Rattle.sequence.specs.Reading.{meaning_read}
use Rattle.rules.specs.Rules.Words.{Party, Mode, simplex, duplex, Request}
use Rattle.rules.specs.Rules.Words.{Deed, carrier_on, carrier_off, acknowledge, call_ship, unable, dial, release_line}
use Rattle.rules.specs.Rules.Words.{ringing_on, ringing_off, busy_tone}
use Rattle.rules.specs.Rules.Heard.{digits_in}
use Rattle.rules.specs.Rules.Actions.{Charge, Ender, the_ship, the_coast, Action, does, over, charge, charge_of}
use Rattle.rules.specs.Rules.Bytes.{block_size}

-- ── what a sequence says that the station sent ───────────────────────────────

-- "with identities exchanged": the ship is addressed, the station sends
abbrev pub party_in : Meaning → Party
party_in m = record { ship = m.address; station = m.sender }

-- "100 simplex, 101 duplex"
abbrev pub mode_in : ℕ → Mode
mode_in first = cond (eqb first first_simplex) simplex duplex

unfoldable pub request_in : Meaning → Request
request_in m = record { who = party_in m; mode = mode_in m.first; second = m.second; number = digits_in m.number }

-- on channel 70: 104; else the "able" answer with RQ or with BQ
unfoldable pub answer_in : ℕ → Meaning → Deed
answer_in slot m =
    cond (eqb m.first first_unable) (unable m.second (party_in m) (digits_in m.number))
    (cond (eqb m.end end_rq) (call_ship slot (request_in m)) (acknowledge slot (request_in m)))

-- on the working channel: BQ at the ship's end, 127 at the coast's
abbrev pub ender_in : ℕ → Ender
ender_in end = cond (eqb end end_bq) the_ship the_coast

abbrev pub lasted_in : Field → Optional LastedFor
lasted_in Blank = None
lasted_in (Channel n) = None
lasted_in (Duration d) = Some d

unfoldable pub over_in : ℕ → Meaning → Action
over_in slot m = over slot (ender_in m.end) (party_in m) (digits_in m.number) (lasted_in m.field)

-- ── a block, and the blocks of a room ────────────────────────────────────────

-- "four bytes each, low first"
unfoldable pub four_at : ℕ → List ℕ → ℕ
four_at i p = get_or p i 0 + get_or p (i + 1) 0 * 256 + get_or p (i + 2) 0 * 65536 + get_or p (i + 3) 0 * 16777216

-- "ship, start, stop, seconds"; 02, no. 4: the call number
unfoldable pub charge_in : ℕ → List ℕ → Charge
charge_in slot p = charge_of slot (four_at 0 p) (four_at 4 p) (four_at 8 p) (four_at 12 p) (four_at 16 p)

-- "kind, slot, payload length, 0, payload"
abbrev pub kind_in : List ℕ → ℕ
kind_in b = get_or b 0 0

abbrev pub slot_in : List ℕ → ℕ
slot_in b = get_or b 1 0

abbrev pub payload_in : List ℕ → List ℕ
payload_in b = take (get_or b 2 0) (drop 4 b)

-- "1 carrier on, 2 carrier off, 3 send on channel 70, 4 send on the working channel, 5 dial, 6 release line, 7 charge"; 02, no. 2:
-- "8 ringing on, 9 ringing off, 10 five seconds of busy tone"; no other kind tells an action
unfoldable pub action_as : ℕ → ℕ → List ℕ → List Action
action_as kind slot p =
    cond (eqb kind 1) (does (carrier_on slot) ∷ [])
    (cond (eqb kind 2) (does (carrier_off slot) ∷ [])
    (cond (eqb kind 3) (does (answer_in slot (meaning_read p)) ∷ [])
    (cond (eqb kind 4) (over_in slot (meaning_read p) ∷ [])
    (cond (eqb kind 5) (does (dial slot p) ∷ [])
    (cond (eqb kind 6) (does (release_line slot) ∷ [])
    (cond (eqb kind 7) (charge (charge_in slot p) ∷ [])
    (cond (eqb kind 8) (does (ringing_on slot) ∷ [])
    (cond (eqb kind 9) (does (ringing_off slot) ∷ [])
    (cond (eqb kind 10) (does (busy_tone slot) ∷ []) [])))))))))

abbrev pub action_in : List ℕ → List Action
action_in b = action_as (kind_in b) (slot_in b) (payload_in b)

-- "40 bytes each": the first n blocks of a room
unfoldable pub actions_in : ℕ → List ℕ → List Action
actions_in zero room = []
actions_in (suc n) room = action_in (take block_size room) ++ actions_in n (drop block_size room)

-- what a script prints of them: kind, slot, payload bytes
unfoldable pub shown_in : ℕ → List ℕ → List (List ℕ)
shown_in zero room = []
shown_in (suc n) room = (kind_in (take block_size room) ∷ slot_in (take block_size room) ∷ payload_in (take block_size room))
    ∷ shown_in n (drop block_size room)
