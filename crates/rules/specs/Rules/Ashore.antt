-- 02, no. 2: a call from ashore: what it asks for, whether it may, and how it begins. What follows stands with the other events.
use Rattle.std.specs.Prelude.{[], ◌∷◌, Bool, cond, ◌||◌, ℕ, eqb}
use Rattle.std.proofs.Math.Option.{Option, none, some}
use Rattle.sequence.specs.Figures.{first_simplex, first_duplex, untold}
use Rattle.rules.specs.Rules.Places.{lowest, is_some}
use Rattle.rules.specs.Rules.Words.{Party, Mode, simplex, duplex, Request, Config, Ashore, carrier_on, call_ship}
use Rattle.rules.specs.Rules.Actions.{does}
use Rattle.rules.specs.Rules.Station.{Slot, kept_for, is_free, Station, used_up, new_call, called_of}
use Rattle.rules.specs.Rules.Requests.{Out, ignored, is_of, place_of}

-- "The mode is 100 or 101"
abbrev pub is_mode : ℕ → Bool
is_mode n = eqb n first_simplex || eqb n first_duplex

abbrev pub mode_of : ℕ → Mode
mode_of n = cond (eqb n first_duplex) duplex simplex

-- "(mode, 126)", and the caller's digits as its number
unfoldable pub ashore_request : Config → Ashore → Request
ashore_request c a = record {
  who = record { ship = a.ship; station = c.identity };
  mode = mode_of a.mode;
  second = untold;
  number = a.digits;
}

-- 38: "that ship already has a slot (a hold included) or waits"
abbrev pub keeps_for : Party → Slot → Bool
keeps_for x s = is_of x (kept_for s)

unfoldable pub engaged : Station → Party → Bool
engaged st x = is_some (lowest (keeps_for x) st.slots) || is_some (place_of x st)

-- the slot that a call from ashore takes, if one is to be had; 02, no. 4: none once the last number has been given
abbrev pub slot_to_take : Station → Option ℕ
slot_to_take st = cond (used_up st) none (lowest is_free st.slots)

-- "takes the lowest free slot: carrier on, a 123 call .. with the channel and RQ"; where none is to be had: 37
unfoldable pub called_from : Station → Request → Option ℕ → Out
called_from st r none = ignored st
called_from st r (some i) =
    record {
      answer = 0;
      next = new_call i (called_of r st) st;
      acts = does (carrier_on i) ∷ does (call_ship i r) ∷ [];
    }
