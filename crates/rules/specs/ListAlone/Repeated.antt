-- What an answer on channel 70 and a number dialled repeat, by the list alone: neither the station nor a rule is used here.
use Rattle.std.specs.Prelude.{◌≡◌, List, [], ◌∷◌, Bool, false, cond, ◌&&◌, ◌||◌, ℕ, eqb}
use Rattle.std.proofs.Math.Option.{Option, none, some}
use Rattle.rules.specs.Rules.Words.{Party, is, mode_number, Request, Config, Ashore, ashore_in}
use Rattle.rules.specs.Rules.Words.{Deed, carrier_on, carrier_off, acknowledge, call_ship, unable, dial, release_line}
use Rattle.rules.specs.Rules.Words.{ringing_on, ringing_off, busy_tone}
use Rattle.rules.specs.Rules.Heard.{Heard, call_request, data_request, bq, working_call, end_of_call, declined, nothing}
use Rattle.rules.specs.ListAlone.Book.{Note, Said, silent, told_b_q, told_r_q, settled, Call, quiet, called, dialled, talking}
use Rattle.rules.specs.ListAlone.Book.{Book, blank_book, column}
use Rattle.rules.specs.ListAlone.Reading.{moment, heard_at, read, read_all}

-- what channel 70 says in the entry itself, and what a caller ashore asks in it
abbrev pub heard_in : Config → Note → Heard
heard_in c n = heard_at c n.event.what

abbrev pub asked_in : Note → Option Ashore
asked_in n = ashore_in n.event.what

-- the answer 104/103 to the ship x
abbrev pub puts_off : Party → Deed → Bool
puts_off x (carrier_on i) = false
puts_off x (carrier_off i) = false
puts_off x (acknowledge i r) = false
puts_off x (call_ship i r) = false
puts_off x (unable n y digits) = eqb n 103 && is y x
puts_off x (dial i digits) = false
puts_off x (release_line i) = false
puts_off x (ringing_on i) = false
puts_off x (ringing_off i) = false
puts_off x (busy_tone i) = false

abbrev pub told_to_wait : Party → List Deed → Bool
told_to_wait x [] = false
told_to_wait x (d ∷ ds) = puts_off x d || told_to_wait x ds

-- what was heard in the last of the entries that told x to wait; o if none did
unfoldable pub last_asked : Config → Party → Heard → List Note → Heard
last_asked c x o [] = o
last_asked c x o (n ∷ ns) = last_asked c x (cond (told_to_wait x n.deeds) (heard_in c n) o) ns

-- ── of each deed: what was heard ─────────────────────────────────────────────

-- who asks, and for which number
abbrev pub Asks : Party → List ℕ → Heard → Type 0
Asks x digits (call_request r) = (r.who ≡ x) × (r.number ≡ digits)
Asks x digits (data_request y n) = (y ≡ x) × (n ≡ digits)
Asks x digits (bq i y) = ⊥
Asks x digits (working_call y) = ⊥
Asks x digits (end_of_call y) = ⊥
Asks x digits (declined y) = ⊥
Asks x digits nothing = ⊥

-- the ship, the mode and the digits that a caller ashore asks for, with 126, from this station
abbrev pub AsksFor : Config → Ashore → Request → Type 0
AsksFor c a r =
    (r.who.ship ≡ a.ship)
    × ((r.who.station ≡ c.identity) × ((mode_number r.mode ≡ a.mode) × ((r.second ≡ 126) × (r.number ≡ a.digits))))

-- a call to a ship, where k is the call on its slot just before: in the entry of a caller ashore, what its event says; once more, what
-- the ship was called with; else it is a ring-back, with what its ship last asked for
abbrev pub CallsAsked : Config → Option Ashore → Heard → Request → Call → Type 0
CallsAsked c (some a) h r k = AsksFor c a r
CallsAsked c none h r quiet = h ≡ call_request r
CallsAsked c none h r (called o rings) = o.request ≡ r
CallsAsked c none h r (dialled o ended) = h ≡ call_request r
CallsAsked c none h r (talking o b) = h ≡ call_request r

-- an acknowledgement and a 104 repeat the request h of their own entry, in which q, if anything, was asked ashore
abbrev pub Repeats : Config → Heard → (Party → Heard) → Option Ashore → Book → Deed → Type 0
Repeats c h asked q b (carrier_on i) = Unit {0}
Repeats c h asked q b (carrier_off i) = Unit {0}
Repeats c h asked q b (acknowledge i r) = h ≡ call_request r
Repeats c h asked q b (call_ship i r) = CallsAsked c q (asked r.who) r (column b i).call
Repeats c h asked q b (unable n x digits) = Asks x digits h
Repeats c h asked q b (dial i digits) = Unit {0}
Repeats c h asked q b (release_line i) = Unit {0}
Repeats c h asked q b (ringing_on i) = Unit {0}
Repeats c h asked q b (ringing_off i) = Unit {0}
Repeats c h asked q b (busy_tone i) = Unit {0}

-- ── and what channel 70 last carried about its slot ──────────────────────────

-- the slot whose carrier a deed switches on
abbrev pub switched_on : Deed → Option ℕ
switched_on (carrier_on i) = some i
switched_on (carrier_off i) = none
switched_on (acknowledge i r) = none
switched_on (call_ship i r) = none
switched_on (unable n x digits) = none
switched_on (dial i digits) = none
switched_on (release_line i) = none
switched_on (ringing_on i) = none
switched_on (ringing_off i) = none
switched_on (busy_tone i) = none

-- a first ring-back of slot i comes just behind its carrier, a second is the first once more
abbrev pub RingsBack : ℕ → Request → Option ℕ → Said → Type 0
RingsBack i r on silent = on ≡ some i
RingsBack i r on (told_b_q o) = ⊥
RingsBack i r on (told_r_q o) = o.request ≡ r
RingsBack i r on (settled o) = ⊥

-- in the entry of a caller ashore a call to a ship comes just behind its slot's carrier, nothing said of that slot and no call on it; in
-- any other it is the second sending of a call from ashore, the first once more, while it does not ring; or a ring-back, with none dialled
abbrev pub Sends : Option Ashore → ℕ → Request → Option ℕ → Said → Call → Type 0
Sends (some a) i r on s k = (s ≡ silent) × ((k ≡ quiet) × (on ≡ some i))
Sends none i r on s quiet = RingsBack i r on s
Sends none i r on s (called o rings) = (o.request ≡ r) × (rings ≡ false)
Sends none i r on s (dialled o ended) = ⊥
Sends none i r on s (talking o b) = RingsBack i r on s

-- the digits are those of the request acknowledged, or rung back and agreed to
abbrev pub Dials : List ℕ → Said → Type 0
Dials digits silent = ⊥
Dials digits (told_b_q o) = o.request.number ≡ digits
Dials digits (told_r_q o) = ⊥
Dials digits (settled o) = o.request.number ≡ digits

-- where q is asked ashore in the entry, b is the book just before the deed, and on the slot whose carrier the deed before it switched on
abbrev pub SendsSame : Option Ashore → Option ℕ → Book → Deed → Type 0
SendsSame q on b (carrier_on i) = Unit {0}
SendsSame q on b (carrier_off i) = Unit {0}
SendsSame q on b (acknowledge i r) = Unit {0}
SendsSame q on b (call_ship i r) = Sends q i r on (column b i).said (column b i).call
SendsSame q on b (unable n x digits) = Unit {0}
SendsSame q on b (dial i digits) = Unit {0}
SendsSame q on b (release_line i) = Unit {0}
SendsSame q on b (ringing_on i) = Unit {0}
SendsSame q on b (ringing_off i) = Unit {0}
SendsSame q on b (busy_tone i) = Unit {0}

abbrev pub DialsNamed : Option Ashore → Option ℕ → Book → Deed → Type 0
DialsNamed q on b (carrier_on i) = Unit {0}
DialsNamed q on b (carrier_off i) = Unit {0}
DialsNamed q on b (acknowledge i r) = Unit {0}
DialsNamed q on b (call_ship i r) = Unit {0}
DialsNamed q on b (unable n x digits) = Unit {0}
DialsNamed q on b (dial i digits) = Dials digits (column b i).said
DialsNamed q on b (release_line i) = Unit {0}
DialsNamed q on b (ringing_on i) = Unit {0}
DialsNamed q on b (ringing_off i) = Unit {0}
DialsNamed q on b (busy_tone i) = Unit {0}

-- each deed with the book just before it: b with the entry's earlier deeds read, at the time t. The entry's own event is not heard in it:
-- a call that this event stops still talks there, and a ring-back may come on its slot
abbrev pub EachRead : (Option Ashore → Option ℕ → Book → Deed → Type 0) → Option Ashore → ℕ → Option ℕ → Book → List Deed → Type 0
EachRead P q t on b [] = Unit {0}
EachRead P q t on b (d ∷ ds) = P q on b d × EachRead P q t (switched_on d) (read q t d b) ds

-- ── of an entry, with the entries before it ──────────────────────────────────

-- from the book before the entry on
abbrev pub DeedByDeed : (Option Ashore → Option ℕ → Book → Deed → Type 0) → Config → List Note → Note → Type 0
DeedByDeed P c before n =
    EachRead P (asked_in n) (moment (read_all c before (blank_book c)) n.event) none (read_all c before (blank_book c)) n.deeds

abbrev pub Answers : Config → List Note → Note → Type 0
Answers c before n = DeedByDeed (λ q on. Repeats c (heard_in c n) (λ x. last_asked c x nothing before) q) c before n
