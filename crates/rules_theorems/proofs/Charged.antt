-- Every number of a charge fits its four bytes.
use mathlib.Core.Path.{◌≡◌, refl}
use mathlib.Core.Bool.{Bool, true, ◌&&◌}
use mathlib.Core.List.{List, [], ◌∷◌, map}
use mathlib.Core.Option.{none}
use Prim.Native.Nat.{ℕ, ◌≤◌, ◌<◌}
use native.Mathlib.Omega.{arith}
use lib.Dec.{leb, ltb}
use borrow.Author.Tests.{leb-true, ltb-true, lt-ltb}
use Rattle.sequence.specs.Identity.{is_ship}
use Rattle.rules.specs.Rules.Places.{all, Each}
use Rattle.rules.specs.Rules.Words.{Request, Config, Event}
use Rattle.rules.specs.Rules.Station.{Stage, Dealing, Slot, call_number_in, Station}
use Rattle.rules.specs.Rules.Sound.{request_keeps, slot_keeps, limit}
use Rattle.rules.specs.Rules.Calls.{act}
use Rattle.rules.specs.Rules.Verdict.{verdict}
use Rattle.rules.specs.ListAlone.Book.{Stop, Call, quiet, called, dialled, talking}
use Rattle.rules.specs.ListAlone.Reading.{stops_in, falling, moment, stop_of}
use Rattle.rules.specs.Statement.{owed, InOrder, NumbersFit, ChargesFit, FourBytes, EndsAt}
use Rattle.sequence.proofs.Tests.{both_true}
use Rattle.rules.proofs.Base.{by-kind, by-stage, line_of, call_in, view, seen, Calling, no_call, a-caller, a_call, calling}
use Rattle.rules.proofs.Accepted.{accepted, sounds}
use Rattle.rules.proofs.Run.{note_of, stops-are}
use Rattle.rules_theorems.proofs.Stopped.{each-stop}
use Rattle.rules_theorems.proofs.Orderly.{in_order}
use Rattle.rules.proofs.Kept.{stays-sound}

-- ── the ship of a call is a ship, and its call number fits ───────────────────

abbrev known : Call → Bool
known quiet = true
known (called r b) = true
known (dialled r o) = true
known (talking r b) = leb r.request.who.ship 799999999 && ltb r.call_number 4294967296

ship-known : (c : Config) (r : Request) → request_keeps c r ≡ true → leb r.who.ship 799999999 ≡ true
unfolding request_keeps is_ship
ship-known c r k = (both_true (leb 200000000 r.who.ship) _ (both_true (is_ship r.who.ship) _ k).0).1

call_known : (c : Config) (r : Dealing) (g : Stage) → request_keeps c r.request ≡ true → r.call_number < 4294967296 → known (call_in r g) ≡ true
call_known c r g k n = by-stage (λ s. known (call_in r s) ≡ true) (λ d. refl) (λ d. refl) (λ b. rw (ship-known c r.request k, lt-ltb r.call_number 4294967296 n) refl) g

slot-known : (c : Config) (s : Slot) → slot_keeps c s ≡ true → call_number_in s < 4294967296 → known (view s).call ≡ true
slot-known c s k n = go s (view s).call (calling s) k n
  where
    go : (s : Slot) (k : Call) → Calling s k → slot_keeps c s ≡ true → call_number_in s < 4294967296 → known k ≡ true
    go _ _ (no_call s n) h m = refl
    go _ _ (a-caller k r d) h m = by-kind (λ z. known (line_of z r) ≡ true) refl refl refl refl refl refl refl k
    go _ _ (a_call r g l) h m = call_known c r g h m

all_known : (c : Config) (ss : List Slot) → all (slot_keeps c) ss ≡ true → Each (λ s. call_number_in s < 4294967296) ss → all (λ l. known l.call) (map view ss) ≡ true
all_known c [] k n = refl
all_known c (s ∷ ss) k n = let w = both_true (slot_keeps c s) (all (slot_keeps c) ss) k in rw (slot-known c s w.0 n.0) (all_known c ss w.1 n.1)

abbrev Known : Stop → Type 0
Known s = (s.ship ≤ 799999999) × (s.call_number < 4294967296)

one_known : (t i : ℕ) (k : Call) → known k ≡ true → Each Known (stop_of t i k)
one_known t i quiet e = tt
one_known t i (called r b) e = tt
one_known t i (dialled r o) e = tt
one_known t i (talking r b) e = let w = both_true (leb r.request.who.ship 799999999) (ltb r.call_number 4294967296) e in ((leb-true r.request.who.ship 799999999 w.0, ltb-true r.call_number 4294967296 w.1), tt)

stops-known : (c : Config) (st : Station) (e : Event) → verdict c st e ≡ none → NumbersFit st → Each Known (stops_in c (seen st) (note_of e (act c st e).acts))
unfolding stops_in seen
stops-known c st e v n =
    let s = sounds c st (accepted c st e v).is-sound in
    each-stop c (moment (seen st) e) Known known refl (one_known (moment (seen st) e)) (seen st) (all_known c st.slots s.slots-keep n) (falling (seen st) e) e.what

-- ── the five numbers ─────────────────────────────────────────────────────────

owed-fits : (t : ℕ) → t ≤ limit → (ss : List Stop) → Each Known ss → Each (EndsAt t) (map owed ss) → Each FourBytes (map owed ss)
owed-fits t m [] f g = tt
owed-fits t m (s ∷ ss) f g =
    let a = f.0.0 in
    let n = f.0.1 in
    let b = g.0.0 in
    let d = g.0.1 in
    ((omega arith, (omega arith, (omega arith, (omega arith, n)))), owed-fits t m ss f.1 g.1)

pub charges-fit : ChargesFit
unfolding ChargesFit InOrder
charges-fit c st e v n =
    let next = (act c st e).next in
    let m = leb-true next.clock limit (sounds c next (stays-sound c st e v)).in-limit in
    rw (stops-are c st e v) (owed-fits next.clock m (stops_in c (seen st) (note_of e (act c st e).acts)) (stops-known c st e v n) (rw (stops-are c st e v) at (in_order c st e v).1))
