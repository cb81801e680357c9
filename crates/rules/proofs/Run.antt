-- One accepted event, and then the run.
use mathlib.Core.Path.{◌≡◌, refl, ap}
use mathlib.Core.List.{List, [], ◌∷◌, map}
use mathlib.Core.Bool.{true}
use mathlib.Core.Option.{Option, none, some}
use Prim.Native.Nat.{ℕ, zero, suc}
use Rattle.rules.specs.Rules.Places.{drop_at, distinct}
use Rattle.rules.specs.Rules.Words.{is, Config, Ashore, What, ashore_in, Event}
use Rattle.rules.specs.Rules.Heard.{Heard}
use Rattle.rules.specs.Rules.Actions.{Action}
use Rattle.rules.specs.Rules.Station.{Waiting, Station, the_slot, fresh, set_clock, set_queue, called_of}
use Rattle.rules.specs.Rules.Sound.{owners}
use Rattle.rules.specs.Rules.Requests.{Out, slot_of, place_of, standing, rule_a, owns}
use Rattle.rules.specs.Rules.Ashore.{ashore_request, called_from}
use Rattle.rules.specs.Rules.Calls.{act_at, act}
use Rattle.rules.specs.Rules.Verdict.{verdict, step, play, final}
use Rattle.rules.specs.ListAlone.Book.{Note, Stop, Column, Place, at_column, blank_book, Book}
use Rattle.rules.specs.ListAlone.Reading.{hear, reads, set_now, turn, stops_in, Numbered, numbered, stops, falls_at, moment_of, stops_at, first_call_up}
use Rattle.rules.specs.ListAlone.LineWords.{Word}
use Rattle.rules.specs.Statement.{deeds_of, charges_of, notes, charged, owed, owed_for, ChargesAreStops, RefusedLeavesAll, Accepts, events_of, AllPlayed}
use Rattle.rules.proofs.Base.{view, place, seen, is_same, fresh-mapped, next-left, slot-taken}
use Rattle.rules.proofs.Pieces.{GoodBy, Good, good-done, first_read}
use Rattle.rules.proofs.Outcome.{Apart, Outcome}
use Rattle.rules.proofs.OneSlot.{leave_none, outcome-good}
use Rattle.rules.proofs.Asked.{request-good}
use Rattle.rules.proofs.Accepted.{accepted, Sound, sounds, elem-waiting, owner-apart}
use Rattle.rules.proofs.Effect.{Effect, rests, drops, data-asked, call-asked, to-slot, called-ashore, act-effect}

-- ── a slot of a station in which no ship stands twice ─────────────────────────

module _ (st : Station) (once : distinct is (owners st.slots (map (λ w. w.request.who) st.queue)) ≡ true) (i : ℕ) where
  apart : Apart (map place st.queue) (the_slot st i)
  apart k r d e =
      let x = r.request.who in
      let h : owns x (the_slot st i) ≡ true = rw e (is_same x x refl) in
      leave_none x st.queue (elem-waiting x st.queue (owner-apart x _ st.slots (map (λ w. w.request.who) st.queue) i once h refl))

  slot-good : {f : Column → Column} {w : Word → Word} {cs : List Stop} {o : Out} → Outcome i st f w cs (the_slot st i) o → Good st.clock (at_column i f (seen st)) cs o
  slot-good u = outcome-good i st (the_slot st i) refl u apart

drop_at-map : (k : ℕ) (q : List Waiting) → drop_at k (map place q) ≡ map place (drop_at k q)
drop_at-map k [] = refl
drop_at-map zero (w ∷ q) = refl
drop_at-map (suc k) (w ∷ q) = ap (λ z. place w ∷ z) (drop_at-map k q)

-- ── any event ────────────────────────────────────────────────────────────────

effect-good : (cfg : Config) (st : Station) → distinct is (owners st.slots (map (λ w. w.request.who) st.queue)) ≡ true → (q : Option Ashore) (b : Book) (ws : List Word) (cs : List Stop) (m : Heard) (o : Out) → Effect cfg st q b ws cs m o → GoodBy q st.clock b cs o
unfolding rule_a standing seen set_queue reads called_from
effect-good cfg st s _ _ _ _ _ _ (rests m n h) = record { reading = refl; charging = refl }
effect-good cfg st s _ _ _ _ _ _ (drops k) = good-done (set_queue (drop_at k st.queue) st) _ (ap (λ (z : List Place). record { now = st.clock; columns = map view st.slots; places = z; given = st.last_call }) (drop_at-map k st.queue))
effect-good cfg st s _ _ _ _ _ _ (data-asked x n) = record { reading = refl; charging = refl }
effect-good cfg st s _ _ _ _ _ _ (call-asked r) = request-good st r (map (λ w. w.request.who) st.queue) s (slot_of r.who st) (place_of r.who st) refl refl
effect-good cfg st s _ _ _ _ _ _ (to-slot m i u e) = slot-good st s i u
effect-good cfg st s _ _ _ _ _ _ (called-ashore a i h) =
    let r = ashore_request cfg a in
    let k = slot-taken st i h in
    record { reading = first_read i st k.1 k.0 (first_call_up st.clock r) (called_of r st) (rw (next-left st k.0) refl); charging = refl }

pub event-good : (cfg : Config) (st : Station) → Sound cfg st → (t : ℕ) (w : What)
    → GoodBy (ashore_in w) (moment_of t (falls_at (seen st) t w)) (hear cfg (moment_of t (falls_at (seen st) t w)) (falls_at (seen st) t w) w (set_now (moment_of t (falls_at (seen st) t w)) (seen st))) (stops_at cfg (moment_of t (falls_at (seen st) t w)) (seen st) (falls_at (seen st) t w) w) (act_at cfg st t w)
unfolding seen set_clock
event-good cfg st s t w = effect-good cfg (set_clock (moment_of t (falls_at (seen st) t w)) st) s.no-twice _ _ _ _ _ _ (act-effect cfg st t w)

-- ── the run ──────────────────────────────────────────────────────────────────

abbrev pub note_of : Event → List Action → Note
note_of e a = record { event = e; deeds = deeds_of a }

pub turn_is : (cfg : Config) (st : Station) (e : Event) → verdict cfg st e ≡ none → turn cfg (seen st) (note_of e (act cfg st e).acts) ≡ seen (act cfg st e).next
unfolding turn
turn_is cfg st e h = (event-good cfg st (sounds cfg st (accepted cfg st e h).is-sound) e.time e.what).reading

pub stops-are : (cfg : Config) (st : Station) (e : Event) → verdict cfg st e ≡ none → charges_of (act cfg st e).acts ≡ map owed (stops_in cfg (seen st) (note_of e (act cfg st e).acts))
unfolding stops_in
stops-are cfg st e h = (event-good cfg st (sounds cfg st (accepted cfg st e h).is-sound) e.time e.what).charging

pub play-on : (cfg : Config) (e : Event) (es : List Event) (st : Station) → verdict cfg st e ≡ none → play cfg (e ∷ es) st ≡ record { event = e; given = (act cfg st e).acts } ∷ play cfg es (act cfg st e).next
unfolding play
play-on cfg e es st h = rw (h, play)

pub play-past : (cfg : Config) (e : Event) (es : List Event) (st : Station) (n : ℕ) → verdict cfg st e ≡ some n → play cfg (e ∷ es) st ≡ play cfg es st
unfolding play
play-past cfg e es st n h = rw (h, play)

pub final-on : (cfg : Config) (e : Event) (es : List Event) (st : Station) → verdict cfg st e ≡ none → final cfg (e ∷ es) st ≡ final cfg es (act cfg st e).next
unfolding final step
final-on cfg e es st h = rw h refl

pub final-past : (cfg : Config) (e : Event) (es : List Event) (st : Station) (n : ℕ) → verdict cfg st e ≡ some n → final cfg (e ∷ es) st ≡ final cfg es st
unfolding final step
final-past cfg e es st n h = rw h refl

owed-numbered : (k : ℕ) (ss : List Stop) (r : List (Numbered Stop)) → numbered k (map owed ss) (owed_for r) ≡ owed_for (numbered k ss r)
owed-numbered k [] r = refl
owed-numbered k (s ∷ ss) r = ap (λ z. record { entry = k; it = owed s } ∷ z) (owed-numbered k ss r)

run-charges : (cfg : Config) (es : List Event) (k : ℕ) (st : Station) → charged k (play cfg es st) ≡ owed_for (stops cfg k (notes (play cfg es st)) (seen st))
unfolding play charged stops notes
run-charges cfg [] k st = refl
run-charges cfg (e ∷ es) k st = go (verdict cfg st e) refl (λ k s. run-charges cfg es k s)
  where
    go : (o : Option ℕ) → verdict cfg st e ≡ o → ((k : ℕ) (s : Station) → charged k (play cfg es s) ≡ owed_for (stops cfg k (notes (play cfg es s)) (seen s))) → charged k (play cfg (e ∷ es) st) ≡ owed_for (stops cfg k (notes (play cfg (e ∷ es) st)) (seen st))
    go none h ih = rw (play-on cfg e es st h, turn_is cfg st e h, stops-are cfg st e h, ih (suc k) (act cfg st e).next) (owed-numbered k (stops_in cfg (seen st) (note_of e (act cfg st e).acts)) (stops cfg (suc k) (notes (play cfg es (act cfg st e).next)) (seen (act cfg st e).next)))
    go (some n) h ih = rw (play-past cfg e es st n h) (ih k st)

pub fresh-seen : (cfg : Config) → seen (fresh cfg) ≡ blank_book cfg
unfolding seen fresh blank_book
fresh-seen cfg = ap (λ (z : List Column). record { now = 0; columns = z; places = []; given = 0 }) (fresh-mapped cfg view)

-- the charges given are the stops that the list shows, in order, each in its entry
pub charges-are-stops : ChargesAreStops
unfolding ChargesAreStops
charges-are-stops cfg set es = rw (← (fresh-seen cfg)) (run-charges cfg es 0 (fresh cfg))

events-played : (cfg : Config) (es : List Event) (st : Station) → Accepts cfg es st → events_of (play cfg es st) ≡ es
unfolding Accepts play
events-played cfg [] st h = refl
events-played cfg (e ∷ es) st h = rw (play-on cfg e es st h.0) (ap (λ z. e ∷ z) (events-played cfg es (act cfg st e).next h.1))

pub all-played : AllPlayed
unfolding AllPlayed
all-played cfg es st h = events-played cfg es st h

-- a refused event changes nothing, and leaves no entry
pub refused-leaves-all : RefusedLeavesAll
unfolding RefusedLeavesAll
refused-leaves-all cfg st e n v es = (play-past cfg e es st n v, final-past cfg e es st n v)
