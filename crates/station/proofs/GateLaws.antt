-- What the gate asks of an event, by a station's own look, is the station's refusal; and what an accepted event has passed.
use Prim.Native.Nat.{ℕ, ◌≤◌}
use mathlib.Core.Bool.{Bool, true, false, cond, not, ◌&&◌}
use mathlib.Core.List.{List, [], ◌∷◌, ◌++◌}
use mathlib.Core.Option.{Option, none, some}
use mathlib.Core.Path.{◌≡◌, refl, sym, ap, ◌∙◌}
use lib.Dec.{leb}
use lib.ListN.{length}
use borrow.Author.Tests.{leb-true}
use Rattle.sequence.specs.Answers.{answer_number, is_done}
use Rattle.sequence.specs.Refusals.{Row, first_refusal}
use Rattle.std.specs.Prelude.{Result, Ok, Err, IsErrAnd}
use Rattle.rules.specs.Rules.Places.{Each, is_some}
use Rattle.rules.specs.Rules.Words.{Happened, heard, signal, operator, What, on_channel70, on_slot, Ashore, from_ashore, ashore_in, Event}
use Rattle.rules.specs.Rules.Station.{the_slot, fires}
use Rattle.rules.specs.Rules.Sound.{limit, sound}
use Rattle.rules.specs.Rules.Verdict.{unless, room_needed, overtaken, slot_there, read_in, barred, names_ship, names_mode, names_number, names_engaged, slot_to_be_had, refusals, verdict}
use Rattle.gate.specs.declared.Look.{Look}
use Rattle.gate.specs.declared.Refusal.{Refusal}
use Rattle.gate.specs.Asked.{refusal_number, asked_always, asked_now, asked_on_slot}
use Rattle.slots.specs.Views.{signal_view, hand_view}
use Rattle.station.specs.declared.Station.{Station}
use Rattle.station.specs.declared.Plain.{Plain}
use Rattle.station.specs.declared.Plain.TheVariants.{Signal, Hand}
use Rattle.station.specs.Model.{model_of, config_of}
use Rattle.station.specs.Step.{records_keep, refusal}
use Rattle.station.specs.Pieces.{asked_once, Sees, Judged, unread, plain_view, closed_to}

-- soundness, 29, is one test of two parts
both-parts : {A : Type 0} (a b : Bool) (x y : A) → cond (a && b) x y ≡ cond a (cond b x y) y
both-parts true b x y = refl
both-parts false b x y = refl

-- a refusal, or with none the next
abbrev pub or_else : Option ℕ → Option ℕ → Option ℕ
or_else none y = y
or_else (some k) y = some k

-- tests behind tests, where each that fails gives a number
abbrev Numbered : List (Row (Option ℕ)) → Type 0
Numbered rows = Each (λ r. is_some r.refusal ≡ true) rows

in_turn : (rows more : List (Row (Option ℕ))) → Numbered rows → first_refusal (rows ++ more) none ≡ or_else (first_refusal rows none) (first_refusal more none)
in_turn [] more h = refl
in_turn (r ∷ rows) more h = go r.holds r.refusal h.0 (in_turn rows more h.1)
  where
    go : (p : Bool) (x : Option ℕ) → is_some x ≡ true → first_refusal (rows ++ more) none ≡ or_else (first_refusal rows none) (first_refusal more none)
        → cond p (first_refusal (rows ++ more) none) x ≡ or_else (cond p (first_refusal rows none) x) (first_refusal more none)
    go true x e i = i
    go false none e i = cc
    go false (some k) e i = refl

-- of tests one behind the other: those that were passed, and the one that was not
pub none-so-far : {x y z : Option ℕ} → none ≡ x → y ≡ z → y ≡ or_else x z
none-so-far {z = z} h e = e ∙ ap (λ x. or_else x z) h

pub refused-here : {x : Option ℕ} (y : Option ℕ) (k : ℕ) → some k ≡ x → some k ≡ or_else x y
refused-here y k h = ap (λ x. or_else x y) h

pub passed-one : (b : Bool) (r : Refusal) {y z : Option ℕ} → ◌≡◌ {A = Result (Unit {0}) Refusal} (Ok tt) (cond b (Ok tt) (Err r)) → y ≡ z → y ≡ cond b z (some (refusal_number r))
passed-one true r h e = e
passed-one false r h e = absurd (cc)

pub failed-one : (b : Bool) (k r : Refusal) (z : Option ℕ) → ◌≡◌ {A = Result (Unit {0}) Refusal} (Err k) (cond b (Ok tt) (Err r)) → some (refusal_number k) ≡ cond b z (some (refusal_number r))
failed-one true k r z h = absurd (cc)
failed-one false k r z h = let e : k ≡ r = cc in ap (λ x. some (refusal_number x)) e

-- a refusal that is handed on by `?`
pub judged-err : {A : Type 0} (P : A → Type 0) {o : Option ℕ} {Q : Refusal → Type 0} (k : Refusal) (r : Result A Refusal) → IsErrAnd r Q → ((e : Refusal) → Q e → e ≡ k) → some (refusal_number k) ≡ o → Judged o P r
judged-err P k (Ok a) h q e = absurd h
judged-err P k (Err x) h q e = ap (λ z. some (refusal_number z)) (q x h) ∙ e

-- a judgement whose refusal is told otherwise
pub judged-as : {A : Type 0} (P : A → Type 0) {x y : Option ℕ} (r : Result A Refusal) → x ≡ y → Judged x P r → Judged y P r
judged-as P (Ok a) e j = (j.0 ∙ e, j.1)
judged-as P (Err r) e j = j ∙ e

module _ (s : Station) (l : Look) (sees : Sees s l) (n t : ℕ) where
  -- what is asked of a call from ashore behind 33
  abbrev ashore : Option Ashore → List (Row (Option ℕ))
  ashore o =
      unless (names_ship o) 15
      ∷ unless (names_mode o) 17
      ∷ unless (names_number o) 19
      ∷ unless (not (names_engaged (config_of s) (model_of s) o)) 38
      ∷ unless (slot_to_be_had (model_of s) o) 37
      ∷ []

  -- what is asked of an event behind 34, and behind 33
  abbrev afterwards : What → List (Row (Option ℕ))
  afterwards w = unless (is_done (read_in w)) (answer_number (read_in w)) ∷ unless (not (barred (model_of s) w)) 35 ∷ ashore (ashore_in w)

  abbrev besides : What → List (Row (Option ℕ))
  besides w = unless (slot_there (length (model_of s).slots) w) 34 ∷ afterwards w

  -- of an event that no wait overtakes
  pub asked-always : (w : What) → overtaken (model_of s) t w ≡ false → first_refusal (asked_always l n t ++ besides w) none ≡ refusal s (record { time = t; room = n; what = w })
  unfolding refusal refusals
  asked-always w e = rw (sees.soundly, sees.clock, e) (both-parts (records_keep s) (sound (config_of s) (model_of s)) _ _)

  -- of one that a wait due overtakes
  pub asked-now : (w : What) → overtaken (model_of s) t w ≡ is_some (fires t (model_of s)) → first_refusal (asked_now l n t ++ besides w) none ≡ refusal s (record { time = t; room = n; what = w })
  unfolding refusal refusals fires
  asked-now w e = rw (sees.soundly, sees.clock, sees.first, e) (both-parts (records_keep s) (sound (config_of s) (model_of s)) _ _)

  -- and of what happens on a slot
  pub asked-on-slot : (i : ℕ) (h : Happened) → first_refusal (asked_on_slot l n t i ++ afterwards (on_slot i h)) none ≡ refusal s (record { time = t; room = n; what = on_slot i h })
  asked-on-slot i h = rw sees.slots (asked-now (on_slot i h) refl)

  -- what is read on channel 70, and on a slot, behind its refusals
  pub heard-now : (m : List ℕ) → or_else (first_refusal (asked_now l n t) none) (unread m) ≡ refusal s (record { time = t; room = n; what = on_channel70 m })
  heard-now m = sym (in_turn (asked_now l n t) (besides (on_channel70 m)) (refl, (refl, (refl, (refl, (refl, tt)))))) ∙ asked-now (on_channel70 m) refl

  pub heard-there : (i : ℕ) (m : List ℕ) → or_else (first_refusal (asked_on_slot l n t i) none) (unread m) ≡ refusal s (record { time = t; room = n; what = on_slot i (heard m) })
  heard-there i m = sym (in_turn (asked_on_slot l n t i) (afterwards (on_slot i (heard m))) (refl, (refl, (refl, (refl, (refl, (refl, tt))))))) ∙ asked-on-slot i (heard m)

  -- 35, which only a hand can get
  pub asked-plainly : (i : ℕ) (w : Plain) → or_else (first_refusal (asked_on_slot l n t i) none) (asked_once (not (closed_to (the_slot (model_of s) i) w)) 35)
      ≡ refusal s (record { time = t; room = n; what = on_slot i (plain_view w) })
  asked-plainly i (Signal g) = sym (in_turn (asked_on_slot l n t i) (afterwards (on_slot i (signal (signal_view g)))) (refl, (refl, (refl, (refl, (refl, (refl, tt))))))) ∙ asked-on-slot i (signal (signal_view g))
  asked-plainly i (Hand h) = sym (in_turn (asked_on_slot l n t i) (afterwards (on_slot i (operator (hand_view h)))) (refl, (refl, (refl, (refl, (refl, (refl, tt))))))) ∙ asked-on-slot i (operator (hand_view h))

  -- the five tests of a call from ashore
  pub asked-ashore : (x : Ashore) → or_else (first_refusal (asked_now l n t) none) (first_refusal (ashore (some x)) none) ≡ refusal s (record { time = t; room = n; what = from_ashore x })
  asked-ashore x = sym (in_turn (asked_now l n t) (ashore (some x)) (refl, (refl, (refl, (refl, (refl, tt)))))) ∙ asked-now (from_ashore x) refl

-- what an accepted event has passed
pub record Passed (s : Station) (e : Event) : Type 0 where
  pub sounds : sound (config_of s) (model_of s) ≡ true
  pub room : room_needed ≤ e.room
  pub time : e.time ≤ limit
  pub judged : verdict (config_of s) (model_of s) e ≡ none

one : (b : Bool) (n : ℕ) (x : Option ℕ) → none ≡ cond b x (some n) → (b ≡ true) × (none ≡ x)
one true n x h = (refl, h)
one false n x h = let k : ◌≡◌ {A = Option ℕ} none (some n) = h in (cc, cc)

pub passed : (s : Station) (e : Event) → none ≡ refusal s e → Passed s e
unfolding refusal refusals verdict
passed s e h =
    let a = one (records_keep s) 29 _ h in
    let b = one (sound (config_of s) (model_of s)) 29 _ a.1 in
    let c = one (leb room_needed e.room) 30 _ b.1 in
    let d = one (leb e.time limit) 31 _ c.1 in
    record { sounds = b.0; room = leb-true room_needed e.room c.0; time = leb-true e.time limit d.0; judged = sym a.1 }
