-- A ship that is being called from ashore, by the list alone: it is offered no slot, sent no 104 and called on no second slot;
-- and it asks in vain.
use Rattle.std.specs.Prelude.{◌≡◌, ◌⊎◌, List, [], Bool, false}
use Rattle.rules.specs.Rules.Places.{drop_at, Each}
use Rattle.rules.specs.Rules.Words.{Party, is, Config}
use Rattle.rules.specs.Rules.Words.{Deed, carrier_on, carrier_off, acknowledge, call_ship, unable, dial, release_line}
use Rattle.rules.specs.Rules.Words.{ringing_on, ringing_off, busy_tone}
use Rattle.rules.specs.Rules.Heard.{Heard, call_request, data_request, bq, working_call, end_of_call, declined, nothing}
use Rattle.rules.specs.ListAlone.Book.{Note, Call, quiet, called, dialled, talking, Column, blank_book}
use Rattle.rules.specs.ListAlone.Reading.{heard_at, read_all}

-- the call is one from ashore to x
abbrev pub is_for : Party → Call → Bool
is_for x quiet = false
is_for x (called o rings) = is x o.request.who
is_for x (dialled o ended) = false
is_for x (talking o b) = false

-- no slot calls x
abbrev pub Uncalled : Party → List Column → Type 0
Uncalled x ls = Each (λ l. is_for x l.call ≡ false) ls

-- no ship that is being called is offered a slot, put off or refused; and none is called, or rung back, on a second slot
abbrev pub SaidToOthers : List Column → Deed → Type 0
SaidToOthers ls (carrier_on i) = Unit {0}
SaidToOthers ls (carrier_off i) = Unit {0}
SaidToOthers ls (acknowledge i r) = Uncalled r.who ls
SaidToOthers ls (call_ship i r) = Uncalled r.who (drop_at i ls)
SaidToOthers ls (unable n x digits) = Uncalled x ls
SaidToOthers ls (dial i digits) = Unit {0}
SaidToOthers ls (release_line i) = Unit {0}
SaidToOthers ls (ringing_on i) = Unit {0}
SaidToOthers ls (ringing_off i) = Unit {0}
SaidToOthers ls (busy_tone i) = Unit {0}

-- 02, no. 2: "A request from a ship being called .. is ignored": no deed is given
abbrev pub InVain : Heard → List Column → List Deed → Type 0
InVain (call_request r) ls ds = Uncalled r.who ls ⊎ (ds ≡ [])
InVain (data_request x n) ls ds = Uncalled x ls ⊎ (ds ≡ [])
InVain (bq i x) ls ds = Unit {0}
InVain (declined x) ls ds = Unit {0}
InVain (working_call x) ls ds = Unit {0}
InVain (end_of_call x) ls ds = Unit {0}
InVain nothing ls ds = Unit {0}

-- ── of an entry, with the entries before it ──────────────────────────────────

abbrev pub columns_after : Config → List Note → List Column
columns_after c before = (read_all c before (blank_book c)).columns

abbrev pub OffersOthers : Config → List Note → Note → Type 0
OffersOthers c before n = Each (SaidToOthers (columns_after c before)) n.deeds

abbrev pub AsksInVain : Config → List Note → Note → Type 0
AsksInVain c before n = InVain (heard_at c n.event.what) (columns_after c before) n.deeds
