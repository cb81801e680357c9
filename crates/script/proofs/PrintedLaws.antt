-- A transcript is the decimal text of what the rules print.
use mathlib.Core.Bool.{Bool, true, false, cond}
use mathlib.Core.List.{List, [], ◌∷◌, ◌++◌, map, flat_map, append-nil}
use mathlib.Core.Option.{Option, none, some}
use mathlib.Core.Path.{◌≡◌, refl, sym, ◌∙◌, ap}
use Prim.Native.Nat.{ℕ}
use native.Mathlib.Omega.{arith}
use lib.Dec.{eqb}
use lib.ListN.{length}
use Rattle.sequence.proofs.Tests.{Either, yes!, no!, which}
use Rattle.rules.specs.Rules.Places.{Each}
use Rattle.rules.specs.Rules.Words.{Config, What, Event}
use Rattle.rules.specs.Rules.Station as R
use Rattle.rules.specs.Rules.Station.{fresh, next_due}
use Rattle.rules.specs.Rules.Sound.{config_keeps, sound}
use Rattle.rules.specs.Rules.Requests.{done}
use Rattle.rules.specs.Rules.Calls.{act}
use Rattle.rules.specs.Rules.Verdict.{verdict, set_up_verdict, step, final}
use Rattle.rules.specs.Rules.Printed.{lines, printed}
use Rattle.rules.specs.Statement.{AtMostEight, AlwaysSound}
use Rattle.rules.proofs.Eight.{at-most-eight}
use Rattle.rules.proofs.Kept.{stays-sound, always-sound}
use Rattle.slots.specs.Images.{Fits}
use Rattle.soundness.proofs.FitLaws.{sound-fits}
use Rattle.lines.specs.Lines.{Asked, Said, sets_up, happens}
use Rattle.lines.specs.Readable.{reads_as}
use Rattle.std.specs.Prelude.{Some, None}
use Rattle.station.specs.Model.{model_of, image_of}
use Rattle.station.specs.Step.{due_image, set_up_for}
use Rattle.station.proofs.ImageLaws.{model-back}
use Rattle.station_theorems.specs.Steps.{Step, Allowed}
use Rattle.station_theorems.proofs.Laid.{refusal_is}
use Rattle.station_theorems.proofs.Steps.{allowed-does, left-for, step_for, step-allowed}
use Rattle.station_theorems.proofs.Traces.{done-back, done-left, refused-back}
use Rattle.printing.specs.Replies.{action_texts, reply_text}
use Rattle.printing.specs.Statement.{rows_text}
use Rattle.printing.proofs.PrintedLaws.{first-is, reply-is}
use Rattle.script.specs.declared.Handled.{Handled}
use Rattle.script.specs.Answering.{Desk, unchanged, after_set_up, asked_for, handled_for, shown_for, no_blocks, desk_after, reply_to}
use Rattle.script.specs.Session.{begun}
use Rattle.script.specs.Transcript.{answers_from, transcript}
use Rattle.script.specs.Printed.{said_in, event_of, nothing_but, out_of, printed_on, no_station, printed_from, TranscriptIsPrinted, says_event, RoomNeeded, EventsArePrinted}

-- ── line by line ─────────────────────────────────────────────────────────────

answers : Desk → List (Option Said) → List ℕ
answers d [] = []
answers d (said ∷ more) = reply_to d said ++ answers (desk_after d said) more

answered : (d : Desk) (line script : List ℕ) → answers_from d line script ≡ answers d (said_in line script)
unfolding answers_from said_in answers
answered d [] [] = refl
answered d (b ∷ line) [] = sym (append-nil (reply_to d (reads_as (b ∷ line))))
answered d line (b ∷ script) = go (which (eqb b 10)) (answered (desk_after d (reads_as line)) [] script) (answered d (line ++ (b ∷ [])) script)
  where
    go : Either (eqb b 10) → answers_from (desk_after d (reads_as line)) [] script ≡ answers (desk_after d (reads_as line)) (said_in [] script)
        → answers_from d (line ++ (b ∷ [])) script ≡ answers d (said_in (line ++ (b ∷ [])) script) → answers_from d line (b ∷ script) ≡ answers d (said_in line (b ∷ script))
    go (yes! h) e f = rw (h, e)
    go (no! h) e f = rw h f

-- ── on a station that was laid out for a sound model ─────────────────────────

-- what was said is answered so, and the next station is again such a one
record Comes (c : Config) (m : R.Station) (said : Option Said) : Type 0 where
  reply : reply_to (Some (image_of c m)) said ≡ rows_text (lines c (out_of c m said))
  after : desk_after (Some (image_of c m)) said ≡ Some (image_of c (out_of c m said).next)
  sounds : sound c (out_of c m said).next ≡ true

clock-is : (c : Config) (m : R.Station) → (image_of c m).clock.0 ≡ m.clock
unfolding image_of
clock-is c m = refl

module _ (c : Config) (m : R.Station) (good : sound c m ≡ true) where
  fits : Fits c m
  fits = sound-fits c m good

  -- its clock and next due time are the model's
  shows : (answer count : ℕ) (room : List ℕ)
      → reply_text answer (image_of c m).clock.0 count (due_image (next_due (model_of (image_of c m)))) room ≡ reply_text answer m.clock count (due_image (next_due m)) room
  shows answer count room = rw (model-back c m fits, clock-is c m)

  -- an answer that changes nothing
  only : (answer : ℕ)
      → reply_text answer (image_of c m).clock.0 0 (due_image (next_due (model_of (image_of c m)))) no_blocks ≡ rows_text (lines c (nothing_but answer m))
  only answer = shows answer 0 no_blocks ∙ reply-is c (nothing_but answer m) (omega arith) tt no_blocks

module _ (c : Config) (m : R.Station) (good : sound c m ≡ true) (time : ℕ) (what : What) where
  abbrev this : Event
  this = event_of time what

  -- the rack's own step
  abbrev taken : Step
  taken = step_for (image_of c m) no_blocks time what

  allowed : Allowed taken
  allowed = step-allowed (image_of c m) no_blocks time what

  accepted-comes : verdict c m this ≡ none → Comes c m (some (happens time what))
  unfolding reply_to desk_after AtMostEight
  accepted-comes v =
      let o = act c m this in
      let eight = at-most-eight c m this good in
      let on : step c m this ≡ o = unfold step in rw v in
      let back = done-back c m good taken refl allowed v in
      let left = done-left c m good taken refl allowed v in
      let next = stays-sound c m this v in
      record {
        reply = rw (back, left, on) (shows c o.next next o.answer (length o.acts) _ ∙ reply-is c o eight.0 eight.1 _);
        after = rw (back, on);
        sounds = rw on next;
      }

  refused-comes : (n : ℕ) → verdict c m this ≡ some n → Comes c m (some (happens time what))
  unfolding reply_to desk_after
  refused-comes n v =
      let past : step c m this ≡ nothing_but n m = unfold step in rw v in
      let back = refused-back c m good taken refl allowed n v in
      let left = left-for taken (allowed-does taken allowed) (some n) (refusal_is c m (fits c m good) this ∙ v) in
      record { reply = rw (back, left, past) (only c m good n); after = rw (back, past); sounds = rw past good }

  event-comes : Comes c m (some (happens time what))
  event-comes = go (verdict c m this) refl
    where
      go : (o : Option ℕ) → verdict c m this ≡ o → Comes c m (some (happens time what))
      go none v = accepted-comes v
      go (some n) v = refused-comes n v

comes : (c : Config) (m : R.Station) → sound c m ≡ true → (said : Option Said) → Comes c m said
unfolding reply_to desk_after
comes c m good none = record { reply = only c m good 40; after = refl; sounds = good }
comes c m good (some (sets_up a)) = record { reply = only c m good 41; after = refl; sounds = good }
comes c m good (some (happens time what)) = event-comes c m good time what

on-station : (said : List (Option Said)) (c : Config) (m : R.Station) → sound c m ≡ true → answers (Some (image_of c m)) said ≡ flat_map rows_text (printed_on c m said)
unfolding answers printed_on flat_map
on-station [] c m good = refl
on-station (x ∷ more) c m good =
    let o = comes c m good x in
    rw (o.reply, o.after, on-station more c (out_of c m x).next o.sounds)

-- ── before a set-up that is not refused ──────────────────────────────────────

without : (answer : ℕ) → reply_text answer 0 0 None no_blocks ≡ rows_text (no_station answer)
unfolding reply_text action_texts rows_text flat_map
without answer = rw (first-is answer 0 0 none)

fresh-sound : (c : Config) → set_up_verdict c ≡ none → sound c (fresh c) ≡ true
unfolding AlwaysSound final
fresh-sound c set = always-sound c set []

refused-36 : (c : Config) (n : ℕ) → set_up_verdict c ≡ some n → n ≡ 36
unfolding set_up_verdict
refused-36 c n = go (config_keeps c)
  where
    go : (b : Bool) → cond b none (some 36) ≡ some n → n ≡ 36
    go true e = cc
    go false e = cc

unread : (reply_to None none ≡ rows_text (no_station 40)) × (desk_after None none ≡ None)
unfolding reply_to desk_after
unread = (without 40, refl)

early : (time : ℕ) (what : What)
    → (reply_to None (some (happens time what)) ≡ rows_text (no_station 41)) × (desk_after None (some (happens time what)) ≡ None)
unfolding reply_to desk_after
early time what = (without 41, refl)

module _ (a : Asked) where
  abbrev asked : Config
  asked = asked_for a

  handled : (o : Option ℕ) → set_up_verdict asked ≡ o → handled_for None no_blocks (some (sets_up a)) ≡ after_set_up (set_up_for asked o)
  handled o v = ap (λ (x : Option ℕ). after_set_up (set_up_for asked x)) v

  set-up : set_up_verdict asked ≡ none
      → (reply_to None (some (sets_up a)) ≡ rows_text (lines asked (done (fresh asked))))
      × (desk_after None (some (sets_up a)) ≡ Some (image_of asked (fresh asked)))
  unfolding reply_to desk_after
  set-up v = (
    ap (λ (h : Handled). shown_for h no_blocks) (handled none v) ∙ only asked (fresh asked) (fresh-sound asked v) 0,
    ap (λ (h : Handled). h.desk) (handled none v),
  )

  not-set-up : (n : ℕ) → set_up_verdict asked ≡ some n
      → (reply_to None (some (sets_up a)) ≡ rows_text (no_station n))
      × (desk_after None (some (sets_up a)) ≡ None)
  unfolding reply_to desk_after
  not-set-up n v =
      let same : handled_for None no_blocks (some (sets_up a)) ≡ unchanged None n = handled (some n) v ∙ ap (unchanged None) (sym (refused-36 asked n v)) in
      (ap (λ (h : Handled). shown_for h no_blocks) same ∙ without n, ap (λ (h : Handled). h.desk) same)

from-begin : (said : List (Option Said)) → answers None said ≡ flat_map rows_text (printed_from said)
unfolding answers printed_from flat_map
from-begin [] = refl
from-begin (none ∷ more) = rw (unread.0, unread.1, from-begin more)
from-begin (some (happens time what) ∷ more) = rw ((early time what).0, (early time what).1, from-begin more)
from-begin (some (sets_up a) ∷ more) = go (set_up_verdict (asked_for a)) refl (from-begin more)
  where
    go : (o : Option ℕ) → set_up_verdict (asked_for a) ≡ o → answers None more ≡ flat_map rows_text (printed_from more)
        → answers None (some (sets_up a) ∷ more) ≡ flat_map rows_text (printed_from (some (sets_up a) ∷ more))
    go none v later =
        let c = asked_for a in
        let x = set-up a v in
        rw (v, x.0, x.1, on-station more c (fresh c) (fresh-sound c v))
    go (some n) v later = let x = not-set-up a n v in rw (v, x.0, x.1, later)

-- ── the whole ────────────────────────────────────────────────────────────────

pub transcript-is-printed : TranscriptIsPrinted
unfolding TranscriptIsPrinted transcript begun
transcript-is-printed script = answered begun.desk [] script ∙ from-begin (said_in [] script)

as-printed : (c : Config) (es : List Event) (st : R.Station) → Each RoomNeeded es → printed_on c st (map says_event es) ≡ printed c es st
unfolding printed_on printed
as-printed c [] st h = refl
as-printed c (e ∷ es) st h =
    let same : event_of e.time e.what ≡ e = ap (λ (n : ℕ). record { time = e.time; room = n; what = e.what }) (sym h.0) in
    rw (same, as-printed c es (step c st e).next h.1)

pub events-are-printed : EventsArePrinted
unfolding EventsArePrinted TranscriptIsPrinted printed_from flat_map
events-are-printed script a es h v said =
    let c = asked_for a in
    transcript-is-printed script ∙ (rw (said, v, as-printed c es (fresh c) h))
