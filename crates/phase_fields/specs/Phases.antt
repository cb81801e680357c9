-- The numbers of a phase, one for each field of a lent slot that tells of it, and the phase that such numbers stand for.
use Rattle.std.specs.Prelude.{ℕ, cond, eqb, Option as Optional, Some, None}
use Rattle.units.specs.declared.Tenths.{Tenths}
use Rattle.units.specs.declared.Duration.{Duration}
use Rattle.units.specs.Units.{greatest}
use Rattle.slots.specs.declared.Carrier.{Carrier}
use Rattle.slots.specs.declared.Carrier.TheVariants.{Present, Lost}
use Rattle.slots.specs.declared.Phase.{Phase}
use Rattle.slots.specs.declared.Phase.TheVariants.{Free, Offered, RingBack, RingBackAgain, Acknowledged}
use Rattle.slots.specs.declared.Phase.TheVariants.{Dialling, Answered, Hold, Taken, DialledOut, Called, CalledAgain, Ringing}
use Rattle.slots.specs.Images.{tenths}
use Rattle.phase_fields.specs.declared.CarrierFields.{CarrierFields}
use Rattle.phase_fields.specs.declared.LastedFields.{LastedFields}
use Rattle.phase_fields.specs.declared.PhaseFields.{PhaseFields}

abbrev pub carrier_fields : Carrier → CarrierFields
carrier_fields Present = record { mark = 0; due = 0 }
carrier_fields (Lost t) = record { mark = 1; due = t.0 }

abbrev pub lasted_fields : Optional Duration → LastedFields
lasted_fields None = record { mark = 0; hours = 0; minutes = 0; seconds = 0 }
lasted_fields (Some d) = record { mark = 1; hours = d.hours; minutes = d.minutes; seconds = d.seconds }

abbrev pub fields_of : ℕ → ℕ → Carrier → Optional Duration → PhaseFields
fields_of kind time c n = record { kind = kind; time = time; carrier = carrier_fields c; lasted = lasted_fields n }

-- every part that the phase does not use is 0
abbrev pub phase_fields : Phase → PhaseFields
phase_fields Free = fields_of 0 0 Present None
phase_fields (Offered t) = fields_of 1 t.0 Present None
phase_fields (RingBack t) = fields_of 2 t.0 Present None
phase_fields (RingBackAgain t) = fields_of 3 t.0 Present None
phase_fields (Acknowledged t) = fields_of 4 t.0 Present None
phase_fields (Dialling t c) = fields_of 5 t.0 c None
phase_fields (Answered t c) = fields_of 6 t.0 c None
phase_fields (Hold t n) = fields_of 7 t.0 Present n
phase_fields Taken = fields_of 8 0 Present None
phase_fields (DialledOut t c) = fields_of 9 t.0 c None
phase_fields (Called t) = fields_of 10 t.0 Present None
phase_fields (CalledAgain t) = fields_of 11 t.0 Present None
phase_fields (Ringing t) = fields_of 12 t.0 Present None

-- an invalid mark gives a time and a duration that no station may have, so that it is refused, 29
unfoldable pub carrier_from : CarrierFields → Carrier
carrier_from f = cond (eqb f.mark 0) Present (cond (eqb f.mark 1) (Lost (tenths f.due)) (Lost (tenths greatest)))

unfoldable pub lasted_from : LastedFields → Optional Duration
lasted_from f =
    cond (eqb f.mark 0) None
    (cond (eqb f.mark 1) (Some (record { hours = f.hours; minutes = f.minutes; seconds = f.seconds }))
    (Some (record { hours = 255; minutes = 255; seconds = 255 })))

-- 02, no. 2: the phases of a call from ashore; a number over 12 gives a time that no station may have: 29
unfoldable pub ashore_from : ℕ → Tenths → Phase
ashore_from kind t =
    cond (eqb kind 10) (Called t)
    (cond (eqb kind 11) (CalledAgain t)
    (cond (eqb kind 12) (Ringing t) (Offered (tenths greatest))))

unfoldable pub phase_from : PhaseFields → Phase
phase_from f =
    cond (eqb f.kind 0) Free
    (cond (eqb f.kind 1) (Offered (tenths f.time))
    (cond (eqb f.kind 2) (RingBack (tenths f.time))
    (cond (eqb f.kind 3) (RingBackAgain (tenths f.time))
    (cond (eqb f.kind 4) (Acknowledged (tenths f.time))
    (cond (eqb f.kind 5) (Dialling (tenths f.time) (carrier_from f.carrier))
    (cond (eqb f.kind 6) (Answered (tenths f.time) (carrier_from f.carrier))
    (cond (eqb f.kind 7) (Hold (tenths f.time) (lasted_from f.lasted))
    (cond (eqb f.kind 8) Taken
    (cond (eqb f.kind 9) (DialledOut (tenths f.time) (carrier_from f.carrier))
    (ashore_from f.kind (tenths f.time)))))))))))
