-- What is so of every phase: the one walk over them, and what the other crates ask of each.
use Rattle.std.specs.Prelude.{Option as Optional}
use Prim.Native.Nat.{ℕ}
use mathlib.Core.Bool.{Bool, true, false, cond, ◌&&◌}
use mathlib.Core.List.{List, ◌∷◌}
use mathlib.Core.Option.{Option, none, some}
use mathlib.Core.Path.{◌≡◌, refl, ap}
use mir.Val.{has_key}
use types.Run.{OneOf, miss}
use denote.Enum.Declared.{tag_of}
use Rattle.std.proofs.Math.Bool.{and_comm}
use Rattle.units.specs.declared.Tenths.{Tenths}
use Rattle.units.specs.declared.Duration.{Duration}
use Rattle.rules.specs.Rules.Words as W
use Rattle.rules.specs.Rules.Words.{is, Party, Config}
use Rattle.rules.specs.Rules.Places.{is_some}
use Rattle.rules.specs.Rules.Station as R
use Rattle.rules.specs.Rules.Station.{free, taken, pending, busy, held, offered, first_ring_back, second_ring_back, acknowledged, first_call, second_call, ringing, dialling, dialled_out, answered, ship_of, kept_for, call_number_in, is_called_in, answered_in, loss_due, main_due}
use Rattle.sequence.proofs.Tests.{both_true}
use Rattle.rules.specs.Rules.Sound.{listed, owner, request_keeps, duration_keeps, slot_keeps, loss_fits, slot_fits}
use Rattle.requests.specs.Images.{request_image, blank_request}
use Rattle.slots.specs.declared.Carrier.{Carrier}
use Rattle.slots.specs.declared.Carrier.TheVariants.{Present, Lost}
use Rattle.slots.specs.declared.Phase.{Phase}
use Rattle.slots.specs.declared.Phase.TheVariants.{Free, Offered, RingBack, RingBackAgain, Acknowledged, Dialling, Answered, Hold, Taken, DialledOut, Called, CalledAgain, Ringing}
use Rattle.slots.specs.Phases.{carrier_of, phase_view, carrier_image, phase_image, kept_in, stored, owned, called_in, answered_since, lasted_in, span_of, span_fits, carrier_in}
use Rattle.slots.specs.Images.{image_or, stored_image, Short, ShortSlot}
use Rattle.slots.specs.contracts.Phase as phase

-- what is so in each phase is so
pub by-phase : (P : Phase → Type 0)
    → P Free
    → ((t : Tenths) → P (Offered t))
    → ((t : Tenths) → P (RingBack t))
    → ((t : Tenths) → P (RingBackAgain t))
    → ((t : Tenths) → P (Acknowledged t))
    → ((t : Tenths) (c : Carrier) → P (Dialling t c))
    → ((t : Tenths) (c : Carrier) → P (Answered t c))
    → ((t : Tenths) (n : Optional Duration) → P (Hold t n))
    → P Taken
    → ((t : Tenths) (c : Carrier) → P (DialledOut t c))
    → ((t : Tenths) → P (Called t))
    → ((t : Tenths) → P (CalledAgain t))
    → ((t : Tenths) → P (Ringing t))
    → (p : Phase) → P p
by-phase P a b c d e x y z w v f g h Free = a
by-phase P a b c d e x y z w v f g h (Offered t) = b t
by-phase P a b c d e x y z w v f g h (RingBack t) = c t
by-phase P a b c d e x y z w v f g h (RingBackAgain t) = d t
by-phase P a b c d e x y z w v f g h (Acknowledged t) = e t
by-phase P a b c d e x y z w v f g h (Dialling t l) = x t l
by-phase P a b c d e x y z w v f g h (Answered t l) = y t l
by-phase P a b c d e x y z w v f g h (Hold t n) = z t n
by-phase P a b c d e x y z w v f g h Taken = w
by-phase P a b c d e x y z w v f g h (DialledOut t l) = v t l
by-phase P a b c d e x y z w v f g h (Called t) = f t
by-phase P a b c d e x y z w v f g h (CalledAgain t) = g t
by-phase P a b c d e x y z w v f g h (Ringing t) = h t

-- ── an arm for several variants, or for all that are left: it is right where it is right for each of them ──

-- a claim, made where the test holds
abbrev pub Where : Bool → Type 0 → Type 0
Where true C = C
Where false C = Unit {0}

pub where-held : (ks : List ℕ) (n : ℕ) {C : Type 0} → OneOf ks n → Where (has_key ks n) C → C
where-held ks n {C} h = go (has_key ks n) refl
  where
    go : (b : Bool) → has_key ks n ≡ b → Where b C → C
    go true e c = c
    go false e c = absurd (miss ks n (rw e tt) h)

-- the thirteen phases by their numbers
abbrev pub EachPhase : {A : Type 0} → List ℕ → A → (Phase → A) → Type 0
EachPhase ks a f =
    Where (has_key ks 0) (a ≡ f Free)
    × ((t : Tenths) → Where (has_key ks 1) (a ≡ f (Offered t)))
    × ((t : Tenths) → Where (has_key ks 2) (a ≡ f (RingBack t)))
    × ((t : Tenths) → Where (has_key ks 3) (a ≡ f (RingBackAgain t)))
    × ((t : Tenths) → Where (has_key ks 4) (a ≡ f (Acknowledged t)))
    × ((t : Tenths) (c : Carrier) → Where (has_key ks 5) (a ≡ f (Dialling t c)))
    × ((t : Tenths) (c : Carrier) → Where (has_key ks 6) (a ≡ f (Answered t c)))
    × ((t : Tenths) (n : Optional Duration) → Where (has_key ks 7) (a ≡ f (Hold t n)))
    × Where (has_key ks 8) (a ≡ f Taken)
    × ((t : Tenths) (c : Carrier) → Where (has_key ks 9) (a ≡ f (DialledOut t c)))
    × ((t : Tenths) → Where (has_key ks 10) (a ≡ f (Called t)))
    × ((t : Tenths) → Where (has_key ks 11) (a ≡ f (CalledAgain t)))
    × ((t : Tenths) → Where (has_key ks 12) (a ≡ f (Ringing t)))

pub phase-arm : {A : Type 0} (ks : List ℕ) (a : A) (f : Phase → A) → EachPhase ks a f → (p : Phase) → OneOf ks (tag_of phase.the_type p) → a ≡ f p
phase-arm ks a f e Free h = where-held ks 0 h e.0
phase-arm ks a f e (Offered t) h = where-held ks 1 h (e.1 t)
phase-arm ks a f e (RingBack t) h = where-held ks 2 h (e.2 t)
phase-arm ks a f e (RingBackAgain t) h = where-held ks 3 h (e.3 t)
phase-arm ks a f e (Acknowledged t) h = where-held ks 4 h (e.4 t)
phase-arm ks a f e (Dialling t c) h = where-held ks 5 h (e.5 t c)
phase-arm ks a f e (Answered t c) h = where-held ks 6 h (e.6 t c)
phase-arm ks a f e (Hold t n) h = where-held ks 7 h (e.7 t n)
phase-arm ks a f e Taken h = where-held ks 8 h e.8
phase-arm ks a f e (DialledOut t c) h = where-held ks 9 h (e.9 t c)
phase-arm ks a f e (Called t) h = where-held ks 10 h (e.10 t)
phase-arm ks a f e (CalledAgain t) h = where-held ks 11 h (e.11 t)
phase-arm ks a f e (Ringing t) h = where-held ks 12 h (e.12 t)

-- ── laid out again it is the phase, and what was laid out is found again ──

carrier-back : (c : Carrier) → carrier_image (carrier_of c) ≡ c
carrier-back Present = refl
carrier-back (Lost t) = refl

pub phase-back : (p : Phase) (r : R.Dealing) → phase_image (phase_view p r) ≡ p
phase-back p r = by-phase (λ p. phase_image (phase_view p r) ≡ p) refl (λ t. refl) (λ t. refl) (λ t. refl) (λ t. refl) (λ t c. rw (carrier-back c)) (λ t c. rw (carrier-back c)) (λ t n. refl) refl (λ t c. rw (carrier-back c)) (λ t. refl) (λ t. refl) (λ t. refl) p

carrier-there : (c : Option ℕ) → carrier_of (carrier_image c) ≡ c
carrier-there none = refl
carrier-there (some t) = refl

-- a call beside a slot: the one that it keeps, if it keeps one
abbrev pub Keeps : R.Dealing → Option R.Dealing → Type 0
Keeps q none = Unit {0}
Keeps q (some r) = q ≡ r

pub phase-there : (s : R.Slot) (q : R.Dealing) → Keeps q (kept_in s) → phase_view (phase_image s) q ≡ s
phase-there free q h = refl
phase-there taken q h = refl
phase-there (pending offered r t) q h = ap (λ x. pending offered x t) h
phase-there (pending first_ring_back r t) q h = ap (λ x. pending first_ring_back x t) h
phase-there (pending second_ring_back r t) q h = ap (λ x. pending second_ring_back x t) h
phase-there (pending acknowledged r t) q h = ap (λ x. pending acknowledged x t) h
phase-there (pending first_call r t) q h = ap (λ x. pending first_call x t) h
phase-there (pending second_call r t) q h = ap (λ x. pending second_call x t) h
phase-there (pending ringing r t) q h = ap (λ x. pending ringing x t) h
phase-there (busy r (dialling d) l) q h = rw (h, carrier-there l)
phase-there (busy r (dialled_out d) l) q h = rw (h, carrier-there l)
phase-there (busy r (answered d) l) q h = rw (h, carrier-there l)
phase-there (held r n t) q h = ap (λ x. held x n t) h

-- ── a call is kept where the phase stores one ──

kept-view : (p : Phase) (r : R.Dealing) → kept_in (phase_view p r) ≡ cond (stored p) (some r) none
kept-view p r = by-phase (λ p. kept_in (phase_view p r) ≡ cond (stored p) (some r) none) refl (λ t. refl) (λ t. refl) (λ t. refl) (λ t. refl) (λ t c. refl) (λ t c. refl) (λ t n. refl) refl (λ t c. refl) (λ t. refl) (λ t. refl) (λ t. refl) p

pub stored-image : (p : Phase) (r : R.Dealing) → stored_image (phase_view p r) ≡ cond (stored p) (request_image r.request) blank_request
stored-image p r = rw (kept-view p r) (go (stored p))
  where
    go : (b : Bool) → image_or (cond b (some r) none) ≡ cond b (request_image r.request) blank_request
    go true = refl
    go false = refl

-- the number that is laid for a slot: its call's, 0 where it keeps none
pub number-view : (p : Phase) (r : R.Dealing) → call_number_in (phase_view p r) ≡ cond (stored p) r.call_number 0
number-view p r = by-phase (λ p. call_number_in (phase_view p r) ≡ cond (stored p) r.call_number 0) refl (λ t. refl) (λ t. refl) (λ t. refl) (λ t. refl) (λ t c. refl) (λ t c. refl) (λ t n. refl) refl (λ t c. refl) (λ t. refl) (λ t. refl) (λ t. refl) p

pub stored-kept : (s : R.Slot) → stored (phase_image s) ≡ is_some (kept_in s)
stored-kept free = refl
stored-kept taken = refl
stored-kept (pending offered r t) = refl
stored-kept (pending first_ring_back r t) = refl
stored-kept (pending second_ring_back r t) = refl
stored-kept (pending acknowledged r t) = refl
stored-kept (pending first_call r t) = refl
stored-kept (pending second_call r t) = refl
stored-kept (pending ringing r t) = refl
stored-kept (busy r (dialling d) l) = refl
stored-kept (busy r (dialled_out d) l) = refl
stored-kept (busy r (answered d) l) = refl
stored-kept (held r n t) = refl

-- ── whose a slot is, whether its ship is being called, and since when its call is answered ──

ship-view : (p : Phase) (r : R.Dealing) → ship_of (phase_view p r) ≡ cond (owned p) (some r.request.who) none
ship-view p r = by-phase (λ p. ship_of (phase_view p r) ≡ cond (owned p) (some r.request.who) none) refl (λ t. refl) (λ t. refl) (λ t. refl) (λ t. refl) (λ t c. refl) (λ t c. refl) (λ t n. refl) refl (λ t c. refl) (λ t. refl) (λ t. refl) (λ t. refl) p

pub owner-view : (p : Phase) (r : R.Dealing) (l : List Party) → owner (phase_view p r) l ≡ cond (owned p) (r.request.who ∷ l) l
owner-view p r l = rw (ship-view p r) (go (owned p))
  where
    go : (b : Bool) → listed (cond b (some r.request.who) none) l ≡ cond b (r.request.who ∷ l) l
    go true = refl
    go false = refl

pub since-view : (p : Phase) (r : R.Dealing) → answered_since p ≡ answered_in (phase_view p r)
since-view p r = by-phase (λ p. answered_since p ≡ answered_in (phase_view p r)) refl (λ t. refl) (λ t. refl) (λ t. refl) (λ t. refl) (λ t c. refl) (λ t c. refl) (λ t n. refl) refl (λ t c. refl) (λ t. refl) (λ t. refl) (λ t. refl) p

pub called-view : (p : Phase) (r : R.Dealing) → called_in p ≡ is_called_in (phase_view p r)
called-view p r = by-phase (λ p. called_in p ≡ is_called_in (phase_view p r)) refl (λ t. refl) (λ t. refl) (λ t. refl) (λ t. refl) (λ t c. refl) (λ t c. refl) (λ t n. refl) refl (λ t c. refl) (λ t. refl) (λ t. refl) (λ t. refl) p

-- ── it keeps the rules, and its times fit, where what it stores and tells and its times do ──

pub keeps-view : (c : Config) (p : Phase) (r : R.Dealing) → slot_keeps c (phase_view p r) ≡ cond (stored p) (duration_keeps (lasted_in p) && request_keeps c r.request) true
unfolding duration_keeps
keeps-view c p r = by-phase (λ p. slot_keeps c (phase_view p r) ≡ cond (stored p) (duration_keeps (lasted_in p) && request_keeps c r.request) true) refl (λ t. refl) (λ t. refl) (λ t. refl) (λ t. refl) (λ t l. refl) (λ t l. refl) (λ t n. and_comm (request_keeps c r.request) (duration_keeps n)) refl (λ t l. refl) (λ t. refl) (λ t. refl) (λ t. refl) p

pub owned-stored : (p : Phase) → owned p ≡ true → stored p ≡ true
owned-stored = by-phase (λ p. owned p ≡ true → stored p ≡ true) (λ h. h) (λ t h. refl) (λ t h. refl) (λ t h. refl) (λ t h. refl) (λ t c h. refl) (λ t c h. refl) (λ t n h. refl) (λ h. h) (λ t c h. refl) (λ t h. refl) (λ t h. refl) (λ t h. refl)

pub fits-view : (c : ℕ) (p : Phase) (r : R.Dealing) → slot_fits c (phase_view p r) ≡ (loss_fits c r.request.mode (carrier_of (carrier_in p)) && span_fits c (span_of p))
fits-view c p r =
    by-phase (λ p. slot_fits c (phase_view p r) ≡ (loss_fits c r.request.mode (carrier_of (carrier_in p)) && span_fits c (span_of p)))
    refl (λ t. refl) (λ t. refl) (λ t. refl) (λ t. refl)
    (λ t l. and_comm (span_fits c (span_of (Dialling t l))) (loss_fits c r.request.mode (carrier_of l)))
    (λ t l. and_comm (span_fits c (span_of (Answered t l))) (loss_fits c r.request.mode (carrier_of l)))
    (λ t n. refl) refl
    (λ t l. and_comm (span_fits c (span_of (DialledOut t l))) (loss_fits c r.request.mode (carrier_of l)))
    (λ t. refl) (λ t. refl) (λ t. refl) p

-- what a slot stores is short where every request is that keeps the rules
pub short-slot : (c : Config) → ((r : W.Request) → request_keeps c r ≡ true → Short r) → (s : R.Slot) → slot_keeps c s ≡ true → ShortSlot s
short-slot c short free h = tt
short-slot c short taken h = tt
short-slot c short (pending k r t) h = short r.request h
short-slot c short (busy r g l) h = short r.request h
short-slot c short (held r n t) h = short r.request (both_true (request_keeps c r.request) _ h).0
