-- A phase: what it stands for, how it is laid out, and what of it decides.
use Rattle.std.specs.Prelude.{ℕ, Bool, true, false, leb, Option as Optional, None}
use Rattle.std.proofs.Math.Option.{Option, none, some}
use Rattle.units.specs.declared.Duration.{Duration}
use Rattle.rules.specs.Rules.Station as R
use Rattle.rules.specs.Rules.Station.{free, taken, pending, busy, held, offered, first_ring_back, second_ring_back, acknowledged}
use Rattle.rules.specs.Rules.Station.{first_call, second_call, ringing}
use Rattle.rules.specs.Rules.Station.{dialling, dialled_out, answered, kind_wait, dialling_wait, reply_wait, hold_wait}
use Rattle.rules.specs.Rules.Sound.{fits}
use Rattle.slots.specs.declared.Carrier.{Carrier}
use Rattle.slots.specs.declared.Carrier.TheVariants.{Present, Lost}
use Rattle.slots.specs.declared.Span.{Span}
use Rattle.slots.specs.declared.Span.TheVariants.{Untimed, Until, Since}
use Rattle.slots.specs.declared.Phase.{Phase}
use Rattle.slots.specs.declared.Phase.TheVariants.{Free, Offered, RingBack, RingBackAgain, Acknowledged}
use Rattle.slots.specs.declared.Phase.TheVariants.{Dialling, DialledOut, Answered, Hold, Taken, Called, CalledAgain, Ringing}

-- ── what it stands for, beside what its slot stores of its call ───────────────

abbrev pub carrier_of : Carrier → Option ℕ
carrier_of Present = none
carrier_of (Lost t) = some t.0

abbrev pub phase_view : Phase → R.Dealing → R.Slot
phase_view Free r = free
phase_view (Offered t) r = pending offered r t.0
phase_view (RingBack t) r = pending first_ring_back r t.0
phase_view (RingBackAgain t) r = pending second_ring_back r t.0
phase_view (Acknowledged t) r = pending acknowledged r t.0
phase_view (Dialling t c) r = busy r (dialling t.0) (carrier_of c)
phase_view (DialledOut t c) r = busy r (dialled_out t.0) (carrier_of c)
phase_view (Answered t c) r = busy r (answered t.0) (carrier_of c)
phase_view (Hold t n) r = held r n t.0
phase_view Taken r = taken
phase_view (Called t) r = pending first_call r t.0
phase_view (CalledAgain t) r = pending second_call r t.0
phase_view (Ringing t) r = pending ringing r t.0

-- ── how it is laid out ───────────────────────────────────────────────────────

abbrev pub carrier_image : Option ℕ → Carrier
carrier_image none = Present
carrier_image (some t) = Lost (record { 0 = t })

abbrev pub pending_image : R.Kind → ℕ → Phase
pending_image offered t = Offered (record { 0 = t })
pending_image first_ring_back t = RingBack (record { 0 = t })
pending_image second_ring_back t = RingBackAgain (record { 0 = t })
pending_image acknowledged t = Acknowledged (record { 0 = t })
pending_image first_call t = Called (record { 0 = t })
pending_image second_call t = CalledAgain (record { 0 = t })
pending_image ringing t = Ringing (record { 0 = t })

abbrev pub stage_image : R.Stage → Carrier → Phase
stage_image (dialling t) c = Dialling (record { 0 = t }) c
stage_image (dialled_out t) c = DialledOut (record { 0 = t }) c
stage_image (answered t) c = Answered (record { 0 = t }) c

abbrev pub phase_image : R.Slot → Phase
phase_image free = Free
phase_image taken = Taken
phase_image (pending k r t) = pending_image k t
phase_image (busy r g c) = stage_image g (carrier_image c)
phase_image (held r n t) = Hold (record { 0 = t }) n

-- what a slot keeps of a call, if it keeps one
abbrev pub kept_in : R.Slot → Option R.Dealing
kept_in free = none
kept_in taken = none
kept_in (pending k r t) = some r
kept_in (busy r g c) = some r
kept_in (held r n t) = some r

-- ── what of it decides ───────────────────────────────────────────────────────

-- a phase that stores a request
abbrev pub stored : Phase → Bool
stored Free = false
stored (Offered t) = true
stored (RingBack t) = true
stored (RingBackAgain t) = true
stored (Acknowledged t) = true
stored (Dialling t c) = true
stored (DialledOut t c) = true
stored (Answered t c) = true
stored (Hold t n) = true
stored Taken = false
stored (Called t) = true
stored (CalledAgain t) = true
stored (Ringing t) = true

-- a phase in which the slot is its ship's
abbrev pub owned : Phase → Bool
owned Free = false
owned (Offered t) = true
owned (RingBack t) = true
owned (RingBackAgain t) = true
owned (Acknowledged t) = true
owned (Dialling t c) = true
owned (DialledOut t c) = true
owned (Answered t c) = true
owned (Hold t n) = false
owned Taken = false
owned (Called t) = true
owned (CalledAgain t) = true
owned (Ringing t) = true

-- 02, no. 2: a phase in which its ship is being called
abbrev pub called_in : Phase → Bool
called_in Free = false
called_in (Offered t) = false
called_in (RingBack t) = false
called_in (RingBackAgain t) = false
called_in (Acknowledged t) = false
called_in (Dialling t c) = false
called_in (DialledOut t c) = false
called_in (Answered t c) = false
called_in (Hold t n) = false
called_in Taken = false
called_in (Called t) = true
called_in (CalledAgain t) = true
called_in (Ringing t) = true

-- since when its call is answered, if it is
abbrev pub answered_since : Phase → Option ℕ
answered_since Free = none
answered_since (Offered t) = none
answered_since (RingBack t) = none
answered_since (RingBackAgain t) = none
answered_since (Acknowledged t) = none
answered_since (Dialling t c) = none
answered_since (DialledOut t c) = none
answered_since (Answered t c) = some t.0
answered_since (Hold t n) = none
answered_since Taken = none
answered_since (Called t) = none
answered_since (CalledAgain t) = none
answered_since (Ringing t) = none

-- the duration that a hold tells
abbrev pub lasted_in : Phase → Optional Duration
lasted_in Free = None
lasted_in (Offered t) = None
lasted_in (RingBack t) = None
lasted_in (RingBackAgain t) = None
lasted_in (Acknowledged t) = None
lasted_in (Dialling t c) = None
lasted_in (DialledOut t c) = None
lasted_in (Answered t c) = None
lasted_in (Hold t n) = n
lasted_in Taken = None
lasted_in (Called t) = None
lasted_in (CalledAgain t) = None
lasted_in (Ringing t) = None

-- its time, and how long its wait is
abbrev pub span_of : Phase → Span
span_of Free = Untimed
span_of (Offered t) = Until t (record { 0 = kind_wait offered })
span_of (RingBack t) = Until t (record { 0 = kind_wait first_ring_back })
span_of (RingBackAgain t) = Until t (record { 0 = kind_wait second_ring_back })
span_of (Acknowledged t) = Until t (record { 0 = kind_wait acknowledged })
span_of (Dialling t c) = Until t (record { 0 = dialling_wait })
span_of (DialledOut t c) = Until t (record { 0 = reply_wait })
span_of (Answered t c) = Since t
span_of (Hold t n) = Until t (record { 0 = hold_wait })
span_of Taken = Untimed
span_of (Called t) = Until t (record { 0 = kind_wait first_call })
span_of (CalledAgain t) = Until t (record { 0 = kind_wait second_call })
span_of (Ringing t) = Until t (record { 0 = kind_wait ringing })

-- when a wait falls due in it
abbrev pub due_in : Span → Option ℕ
due_in Untimed = none
due_in (Until t w) = some t.0
due_in (Since t) = none

abbrev pub span_fits : ℕ → Span → Bool
span_fits c Untimed = true
span_fits c (Until t w) = fits c w.0 t.0
span_fits c (Since t) = leb t.0 c

-- the carrier of its call, present where there is none
abbrev pub carrier_in : Phase → Carrier
carrier_in Free = Present
carrier_in (Offered t) = Present
carrier_in (RingBack t) = Present
carrier_in (RingBackAgain t) = Present
carrier_in (Acknowledged t) = Present
carrier_in (Dialling t c) = c
carrier_in (DialledOut t c) = c
carrier_in (Answered t c) = c
carrier_in (Hold t n) = Present
carrier_in Taken = Present
carrier_in (Called t) = Present
carrier_in (CalledAgain t) = Present
carrier_in (Ringing t) = Present
