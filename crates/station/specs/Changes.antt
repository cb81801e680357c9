-- What an outcome makes of a slot's record, and of the queue's.
use Rattle.std.specs.Prelude.{List, [], ◌∷◌, ◌++◌}
use Rattle.units.specs.declared.CallNumber.{CallNumber}
use Rattle.rules.specs.Rules.Places.{drop_at, mod_at}
use Rattle.rules.specs.Rules.Words.{Request}
use Rattle.rules.specs.Rules.Station.{Waiting}
use Rattle.slots.specs.declared.Slot.{Slot}
use Rattle.outcomes.specs.declared.Turn.{Turn}
use Rattle.outcomes.specs.declared.Turn.TheVariants.{Stays, Own, Asked, Oldest}
use Rattle.outcomes.specs.declared.QueueChange.{QueueChange}
use Rattle.outcomes.specs.declared.QueueChange.TheVariants.{Same, Leaves, Joins, Replaces}
use Rattle.telling.specs.declared.Scene.{Scene}

-- a new call has the last number then given
abbrev pub slot_turned : Scene → CallNumber → Slot → Turn → Slot
slot_turned sc last x Stays = x
slot_turned sc last x (Own p) = record { phase = p; channel = x.channel; call = sc.call; request = sc.own }
slot_turned sc last x (Asked p) = record { phase = p; channel = x.channel; call = last; request = sc.asked }
slot_turned sc last x (Oldest p) = record { phase = p; channel = x.channel; call = last; request = sc.oldest }

-- who waits then, where q is asked for
abbrev pub queue_after : Request → QueueChange → List Waiting → List Waiting
queue_after q Same l = l
queue_after q (Leaves k) l = drop_at k.0 l
queue_after q (Joins d) l = l ++ record { request = q; due = d.0 } ∷ []
queue_after q (Replaces k) l = mod_at (λ w. record { request = q; due = w.due }) k.0 l
