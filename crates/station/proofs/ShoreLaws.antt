-- The slot that was found; a call from ashore on it.
use Prim.Native.Nat.{ℕ}
use mathlib.Core.Bool.{true, cond}
use mathlib.Core.List.{List}
use mathlib.Core.Option.{Option, none, some}
use Rattle.std.specs.Prelude.{Option as Optional, Some, None}
use Rattle.std.specs.Prelude as O
use mathlib.Core.Path.{◌≡◌, refl, sym}
use Rattle.units.specs.declared.SlotNumber.{SlotNumber}
use Rattle.units.specs.declared.Tenths.{Tenths}
use Rattle.std.specs.Option.{ok_or}
use Rattle.gate.specs.declared.Refusal.TheVariants.{NoFreeSlot}
use Rattle.rules.specs.Rules.Station as R
use Rattle.rules.specs.Rules.Places.{is_some}
use Rattle.rules.specs.Rules.Ashore.{ashore_request, slot_to_take}
use Rattle.rules.specs.Rules.Sound.{number_keeps}
use Rattle.rules.specs.Rules.Calls.{act_at, act}
use Rattle.requests.specs.declared.Request.{Request}
use Rattle.requests.specs.Views.{request_of}
use Rattle.slots.specs.declared.QueuePlace.{QueuePlace}
use Rattle.slots.specs.Views.{found_view, place_view}
use Rattle.ashore.specs.Stored.{request_from}
use Rattle.ashore.proofs.StoredLaws.{request-asked}
use Rattle.outcomes.specs.declared.Outcome.TheVariants.{Calls}
use Rattle.outcomes.specs.Does.{out_of}
use Rattle.station.specs.declared.Station.{Station}
use Rattle.station.specs.Model.{model_of, config_of}
use Rattle.station.specs.Step.{ashore_of}
use Rattle.station.specs.Pieces.{Judged, slot_found, out_at}

pub slot-told : (f : Optional SlotNumber) → O.is_some f ≡ is_some (found_view f)
slot-told (Some i) = refl
slot-told None = refl

pub place-told : (p : Optional QueuePlace) → O.is_some p ≡ is_some (place_view p)
place-told (Some k) = refl
place-told None = refl

pub found-is : (f : Optional SlotNumber) → is_some (found_view f) ≡ true → found_view f ≡ some (slot_found f).0
found-is (Some i) h = refl
found-is None h = cc

-- the slot that is to be taken, or 37
pub to-take : (m : R.Station) (f : Optional SlotNumber) → found_view f ≡ slot_to_take m → (o : Option ℕ) → cond (is_some (slot_to_take m)) none (some 37) ≡ o
    → Judged o (λ i. slot_to_take m ≡ some i.0) (ok_or f NoFreeSlot)
to-take m (Some i) e o h = (rw (← e) at h, sym e)
to-take m None e o h = rw (← e) at h

-- the slot i is to be taken, and the number keeps the rules
module _ (s : Station) (t : Tenths) (n ship mode : ℕ) (digits : List ℕ) (i : SlotNumber) (e : slot_to_take (model_of s) ≡ some i.0) (h : number_keeps digits ≡ true) where
  pub shore-acts : (r : Request) → r ≡ request_from s.mast ship mode digits
      → out_at s t i (request_of r) Calls ≡ act (config_of s) (model_of s) (record { time = t.0; room = n; what = ashore_of ship mode digits })
  unfolding out_at out_of act_at config_of ashore_request
  shore-acts r asked = rw (asked, request-asked s.mast ship mode digits h, e) refl
