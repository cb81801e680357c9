-- The outcome that is decided for a signal or for the operator's hand is what the rules do with it, on the records; and what was heard.
use Prim.Native.Nat.{ℕ, ◌≤◌}
use mathlib.Core.Bool.{cond}
use mathlib.Core.List.{List}
use mathlib.Core.Option.{none, some}
use Rattle.std.specs.Prelude.{Some, None, Ok, Err}
use mathlib.Core.Path.{◌≡◌, refl, ◌∙◌}
use Rattle.units.specs.declared.SlotNumber.{SlotNumber}
use Rattle.units.specs.declared.Tenths.{Tenths}
use Rattle.sequence.specs.declared.Meaning.{Meaning}
use Rattle.sequence.specs.declared.Refusal.{Refusal}
use Rattle.sequence.proofs.AnswerLaws.{refused}
use Rattle.sequence.specs.Answers.{Answer, refusal_number, answer_number, is_done, answered}
use Rattle.sequence.specs.Reading.{answer_of, meaning_of, blank_meaning, meaning_read, reading_of}
use Rattle.rules.specs.Rules.Words as W
use Rattle.rules.specs.Rules.Words.{on_slot}
use Rattle.rules.specs.Rules.Heard.{addressed, meaning}
use Rattle.rules.specs.Rules.Station as R
use Rattle.rules.specs.Rules.Station.{set_clock}
use Rattle.rules.specs.Rules.Sound.{limit}
use Rattle.rules.specs.Rules.Calls.{happened_on, act}
use Rattle.requests.specs.declared.Mode.{Mode}
use Rattle.requests.specs.Views.{mode_of, request_of}
use Rattle.slots.specs.declared.Phase.{Phase}
use Rattle.slots.specs.declared.Slot.{Slot}
use Rattle.slots.specs.Phases.{phase_view}
use Rattle.slots.specs.Views.{dealing_of, slot_view}
use Rattle.hearing.specs.declared.Heard.{Heard}
use Rattle.hearing.specs.Said.{heard_of}
use Rattle.outcomes.specs.declared.Outcome.{Outcome}
use Rattle.outcomes.specs.Does.{out_of, time_of}
use Rattle.deciding.proofs.RuleLaws.{signal-is, hand-is}
use Rattle.station.specs.declared.Station.{Station}
use Rattle.station.specs.declared.Plain.{Plain}
use Rattle.station.specs.declared.Plain.TheVariants.{Signal, Hand}
use Rattle.station.specs.Model.{model_of, config_of}
use Rattle.station.specs.Pieces.{asked_once, unread, slot_of, own_of, out_at, plain_view, by_plain}
use Rattle.station.proofs.PlaceLaws.{slot-view}
use Rattle.station.proofs.StepLaws.{slot-acts}

-- what symbols say that were read
pub heard-is : (s : Station) (m : List ℕ) (h : Heard) → heard_of h ≡ addressed (config_of s) (meaning_read m) → heard_of h ≡ meaning (config_of s) m
unfolding meaning
heard-is s m h k = k

-- what is read, or the refusal that is given
pub read-done : (m : List ℕ) (x : Meaning) → Ok x ≡ reading_of m → (none ≡ unread m) × (x ≡ meaning_read m)
unfolding reading_of meaning_read
read-done m x e = go (answer_of m) e
  where
    go : (a : Answer) → Ok x ≡ answered a (meaning_of m) → (none ≡ asked_once (is_done a) (answer_number a)) × (x ≡ cond (is_done a) (meaning_of m) blank_meaning)
    go None e = (refl, cc)
    go (Some r) e = absurd (cc)

pub read-refused : (m : List ℕ) (r : Refusal) → Err r ≡ reading_of m → some (refusal_number r) ≡ unread m
unfolding reading_of
read-refused m r e = go (answer_of m) e
  where
    go : (a : Answer) → Err r ≡ answered a (meaning_of m) → some (refusal_number r) ≡ asked_once (is_done a) (answer_number a)
    go None e = absurd (cc)
    go (Some q) e = let s : r ≡ q = cc in rw (refused q, s)

plain-is : (c : W.Config) (i : ℕ) (st : R.Station) (r : R.Dealing) (q : W.Request) (m : Mode) → mode_of m ≡ r.request.mode → st.clock ≤ limit → (w : Plain) (p : Phase)
    → out_of i r q (by_plain w (time_of st) m p) st ≡ happened_on c i st (phase_view p r) (plain_view w)
unfolding happened_on
plain-is c i st r q m e h (Signal g) p = signal-is i st r q m e h g p
plain-is c i st r q m e h (Hand d) p = hand-is i st r q d p

-- on a slot, whose record is x
module _ (s : Station) (t : Tenths) (n : ℕ) (i : SlotNumber) (x : Slot) (at : x ≡ slot_of s i.0) (o : Outcome) where
  pub plain-acts : t.0 ≤ limit → (q : W.Request) (w : Plain) → o ≡ by_plain w t x.request.mode x.phase
      → out_at s t i q o ≡ act (config_of s) (model_of s) (record { time = t.0; room = n; what = on_slot i.0 (plain_view w) })
  unfolding out_at own_of request_of set_clock
  plain-acts late q w e =
      let y = slot_of s i.0 in
      rw (e, at)
      (plain-is (config_of s) i.0 (set_clock t.0 (model_of s)) (dealing_of y) q y.request.mode refl late w y.phase
      ∙ slot-acts s t.0 i.0 n (plain_view w) (slot_view y) (slot-view s i.0))
