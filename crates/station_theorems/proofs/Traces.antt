-- A trace is a run of the rules: the same entries, the same station, the same print.
use Prim.Native.Nat.{ℕ, ◌*◌, ◌≤◌}
use mathlib.Core.Path.{◌≡◌, refl, sym, ap, ◌∙◌}
use mathlib.Core.Bool.{true, false}
use mathlib.Core.List.{List, [], ◌∷◌, ◌++◌}
use mathlib.Core.Option.{Option, none, some}
use native.Mathlib.Omega.{arith}
use lib.ListN.{length, drop}
use borrow.Author.Tests.{le-leb, lt-leb}
use Rattle.rules.specs.Rules.Places.{Each}
use Rattle.rules.specs.Rules.Words.{Config, Event}
use Rattle.rules.specs.Rules.Station as R
use Rattle.rules.specs.Rules.Station.{fresh, next_due}
use Rattle.rules.specs.Rules.Sound.{sound}
use Rattle.rules.specs.Rules.Calls.{act}
use Rattle.rules.specs.Rules.Verdict.{verdict, set_up_verdict, step, play, final}
use Rattle.rules.specs.Rules.Bytes.{blocks}
use Rattle.rules.specs.Rules.Printed.{due_shown, lines, printed}
use Rattle.rules.specs.Statement.{ZeroOrOne, AtMostEight, NumbersFit, ChargesFit}
use Rattle.rules.proofs.Run.{play-on, play-past, final-on, final-past}
use Rattle.rules.proofs.Kept.{stays-sound}
use Rattle.rules.proofs.Eight.{at-most-eight}
use Rattle.rules.proofs.Answered.{zero-or-one, sound-not-29}
use Rattle.slots.specs.Images.{Fits}
use Rattle.soundness.proofs.FitLaws.{sound-fits}
use Rattle.std.specs.Prelude.{Ok}
use Rattle.station.specs.declared.Stepped.{Stepped}
use Rattle.station.specs.declared.Station.{Station}
use Rattle.station.specs.Model.{model_of, config_of, image_of}
use Rattle.station.specs.Step.{due_image, refusal, chosen, set_up_for}
use Rattle.station.proofs.ImageLaws.{model-back, config-back}
use Rattle.station_theorems.specs.Rooms.{shown_in}
use Rattle.station_theorems.specs.Steps.{Step, Allowed, SetUpAs, by-set-up, HandsOn, last_of, events_in}
use Rattle.station_theorems.specs.Statement as S
use Rattle.station_theorems.specs.Statement.{entries_in, due_in, shown_by, all_shown}
use Rattle.station_theorems.proofs.ReadBack.{shown-back}
use Rattle.station_theorems.proofs.Laid.{refusal_is}
use Rattle.rules_theorems.proofs.Charged.{charges-fit}
use Rattle.rules_theorems.proofs.Numbers.{Given, next-given, given-fit}
use Rattle.station_theorems.proofs.Steps.{allowed-does, back-for, left-for, blocks-tell}

-- ── what set-up hands back ───────────────────────────────────────────────────

set-up-done : (c : Config) (s : Station) → Ok s ≡ set_up_for c (set_up_verdict c) → (set_up_verdict c ≡ none) × (s ≡ image_of c (fresh c))
set-up-done c s p = go (set_up_verdict c) refl p
  where
    go : (o : Option ℕ) → set_up_verdict c ≡ o → Ok s ≡ set_up_for c o → (set_up_verdict c ≡ none) × (s ≡ image_of c (fresh c))
    go none e p = (e, cc)
    go (some n) e p = absurd (cc)

pub started : (c : Config) (s : Station) → SetUpAs c s → (set_up_verdict c ≡ none) × (s ≡ image_of c (fresh c))
started _ _ (by-set-up κs a r s p begun z) = set-up-done (chosen a.0 a.1.0.now a.1.1.0) begun (sym z ∙ p)

-- ── one step, on a station that was laid out for a sound model ───────────────

module _ (c : Config) (m : R.Station) (good : sound c m ≡ true) (x : Step) (on : x.before ≡ image_of c m) (allowed : Allowed x) where
  fits : Fits c m
  fits = sound-fits c m good

  judged : refusal x.before x.event ≡ verdict c m x.event
  judged = rw on (refusal_is c m fits x.event)

  config-is : config_of x.before ≡ c
  config-is = rw on (config-back c m fits)

  model_is : model_of x.before ≡ m
  model_is = rw on (model-back c m fits)

  module _ (v : verdict c m x.event ≡ none) where
    pub done-back : x.back ≡ record {
      answer = (act c m x.event).answer;
      count = length (act c m x.event).acts;
      due = due_image (next_due (act c m x.event).next);
      station = image_of c (act c m x.event).next;
    }
    done-back = rw (config-is, model_is) at (back-for x (allowed-does x allowed) none (judged ∙ v))

    pub done-left : x.left ≡ blocks c (act c m x.event).acts ++ drop (40 * length (act c m x.event).acts) x.lent
    done-left = rw (config-is, model_is) at (left-for x (allowed-does x allowed) none (judged ∙ v))

  module _ (n : ℕ) (v : verdict c m x.event ≡ some n) where
    pub refused-back : x.back ≡ record { answer = n; count = 0; due = due_image (next_due m); station = image_of c m }
    refused-back = rw (model_is, on) at (back-for x (allowed-does x allowed) (some n) (judged ∙ v))

-- ── what it shows, and what it leaves in the list ────────────────────────────

due-back : (o : Option ℕ) → due_in (due_image o) ≡ due_shown o
due-back none = refl
due-back (some d) = refl

step-on : (c : Config) (m : R.Station) (e : Event) → verdict c m e ≡ none → step c m e ≡ act c m e
unfolding step
step-on c m e v = rw v

step_past : (c : Config) (m : R.Station) (e : Event) (n : ℕ) → verdict c m e ≡ some n → step c m e ≡ record { answer = n; next = m; acts = [] }
unfolding step
step_past c m e n v = rw v

module _ (c : Config) (m : R.Station) (good : sound c m ≡ true) (x : Step) (on : x.before ≡ image_of c m) (allowed : Allowed x) where
  module _ (v : verdict c m x.event ≡ none) where
    next-station : x.back.station ≡ image_of c (act c m x.event).next
    next-station = ap (λ (r : Stepped). r.station) (done-back c m good x on allowed v)

    next-taken : S.accepted x ≡ true
    unfolding ZeroOrOne
    next-taken = rw (done-back c m good x on allowed v) (le-leb (act c m x.event).answer 1 ((zero-or-one c m x.event).0 v))

    next-not-29 : x.back.answer ≡ 29 → ⊥
    unfolding ZeroOrOne
    next-not-29 h = let n : x.back.answer ≤ 1 = rw (done-back c m good x on allowed v) ((zero-or-one c m x.event).0 v) in omega arith

    next-entry : NumbersFit m → S.entry_in x ≡ record { event = x.event; given = (act c m x.event).acts }
    unfolding ChargesFit
    next-entry f =
        rw (done-back c m good x on allowed v, done-left c m good x on allowed v, blocks-tell c m x.event v (charges-fit c m x.event v f) (drop (40 * length (act c m x.event).acts) x.lent)) refl

    next-shown : shown_by x ≡ lines c (step c m x.event)
    unfolding AtMostEight image_of
    next-shown =
        let o = act c m x.event in
        let slim = (at-most-eight c m x.event good).1 in
        rw (done-back c m good x on allowed v, done-left c m good x on allowed v, step-on c m x.event v, due-back (next_due o.next), shown-back c o.acts slim (drop (40 * length o.acts) x.lent)) refl

  module _ (n : ℕ) (v : verdict c m x.event ≡ some n) where
    same-station : x.back.station ≡ image_of c m
    same-station = ap (λ (r : Stepped). r.station) (refused-back c m good x on allowed n v)

    not_taken : S.accepted x ≡ false
    unfolding ZeroOrOne
    not_taken = let k = (zero-or-one c m x.event).1 n v in rw (refused-back c m good x on allowed n v) (lt-leb n 1 (omega arith))

    same-not-29 : x.back.answer ≡ 29 → ⊥
    same-not-29 h = sound-not-29 c m x.event good n v (rw (refused-back c m good x on allowed n v) at h)

    same-shown : shown_by x ≡ lines c (step c m x.event)
    unfolding image_of shown_in
    same-shown = rw (refused-back c m good x on allowed n v, step_past c m x.event n v, due-back (next_due m)) refl

-- ── the trace ────────────────────────────────────────────────────────────────

pub record IsRun (c : Config) (m : R.Station) (xs : List Step) : Type 0 where
  pub entries : entries_in xs ≡ play c (events_in xs) m
  pub last : last_of (image_of c m) xs ≡ image_of c (final c (events_in xs) m)
  pub print : all_shown xs ≡ printed c (events_in xs) m
  pub no-29 : Each (λ x. x.back.answer ≡ 29 → ⊥) xs

pub is-run : (c : Config) (xs : List Step) (m : R.Station) → sound c m ≡ true → Given m → HandsOn (image_of c m) xs → IsRun c m xs
unfolding entries_in play final printed
is-run c [] m good g t = record { entries = refl; last = refl; print = refl; no-29 = tt }
is-run c (x ∷ xs) m good g t = go (verdict c m x.event) refl (λ m good g t. is-run c xs m good g t)
  where
    go : (o : Option ℕ) → verdict c m x.event ≡ o → ((m : R.Station) → sound c m ≡ true → Given m → HandsOn (image_of c m) xs → IsRun c m xs) → IsRun c m (x ∷ xs)
    go none v more =
        let next = (act c m x.event).next in
        let s = next-station c m good x t.0 t.1.0 v in
        let w = more next (stays-sound c m x.event v) (next-given c m x.event v g) (rw s at t.1.1) in
        record {
          entries = rw (next-taken c m good x t.0 t.1.0 v, next-entry c m good x t.0 t.1.0 v (given-fit m g), play-on c x.event (events_in xs) m v, w.entries) refl;
          last = rw (s, final-on c x.event (events_in xs) m v) w.last;
          print = rw (next-shown c m good x t.0 t.1.0 v, step-on c m x.event v, w.print) refl;
          no-29 = (next-not-29 c m good x t.0 t.1.0 v, w.no-29);
        }
    go (some n) v more =
        let s = same-station c m good x t.0 t.1.0 n v in
        let w = more m good g (rw s at t.1.1) in
        record {
          entries = rw (not_taken c m good x t.0 t.1.0 n v, play-past c x.event (events_in xs) m n v) w.entries;
          last = rw (s, final-past c x.event (events_in xs) m n v) w.last;
          print = rw (same-shown c m good x t.0 t.1.0 n v, step_past c m x.event n v, w.print) refl;
          no-29 = (same-not-29 c m good x t.0 t.1.0 n v, w.no-29);
        }
