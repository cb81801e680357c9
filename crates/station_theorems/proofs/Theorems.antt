-- The statements, proved.
use Prim.Native.Nat.{◌<◌}
use mathlib.Core.Path.{◌≡◌, refl, sym, ap, ◌∙◌}
use mathlib.Core.Logic.{◌⊎◌, inl, inr}
use mathlib.Core.Bool.{true, false}
use mathlib.Core.List.{List, [], ◌∷◌, map, append-nil}
use mathlib.Core.Option.{none}
use native.Mathlib.Omega.{arith}
use lib.ListN.{length, take}
use Rattle.rules.specs.Rules.Places.{lowest, Each}
use Rattle.rules.specs.Rules.Words.{Config}
use Rattle.rules.specs.Rules.Station as R
use Rattle.rules.specs.Rules.Station.{fresh, is_free}
use Rattle.rules.specs.Rules.Sound.{sound}
use Rattle.rules.specs.Rules.Calls.{act}
use Rattle.rules.specs.ListAlone.Book.{Note}
use Rattle.rules.specs.Rules.Bytes.{blocks}
use Rattle.rules.specs.Rules.Verdict.{set_up_verdict, final}
use Rattle.rules.specs.Statement.{notes, OfEveryList, ChargesAreStops, TenthsAgree, AlwaysSound, Literally, WordsAgree, EveryEntry, AnswersRepeat, SecondSendingRepeats, DialsAsked, NoChannelIdle, ChargesDiffer, NumbersCounted, NumbersHeld, ChargesFit, station_after}
use Rattle.rules.specs.Statement.{RingingAsTold, RingingInTurn, CalledNotOffered, CalledAskInVain}
use Rattle.rules.specs.ListAlone.Repeated.{Answers, SendsSame, DialsNamed, DeedByDeed}
use Rattle.rules.specs.ListAlone.LineWords.{InTurn}
use Rattle.rules.specs.ListAlone.BeingCalled.{OffersOthers, AsksInVain}
use Rattle.rules.proofs.Run.{charges-are-stops}
use Rattle.rules.proofs.Tenths.{tenths-agree}
use Rattle.rules.proofs.Kept.{always-sound}
use Rattle.rules_theorems.proofs.Literal.{literally}
use Rattle.rules_theorems.proofs.Repeats.{answers-repeat, second-sending-repeats, dials-asked}
use Rattle.rules_theorems.proofs.Ringing.{ringing-as-told, ringing-in-turn}
use Rattle.rules_theorems.proofs.Offered.{called-not-offered, called-ask-in-vain}
use Rattle.rules_theorems.proofs.Idle.{no-channel-idle}
use Rattle.rules_theorems.proofs.Numbers.{fresh-given, charges-differ, numbers-counted, numbers-held}
use Rattle.rules_theorems.proofs.Charged.{charges-fit}
use Rattle.requests.specs.Views.{viewed}
use Rattle.slots.specs.Views.{slot_view}
use Rattle.slots.specs.Images.{Fits}
use Rattle.station.specs.declared.Station.{Station}
use Rattle.station.specs.Model.{model_of, image_of}
use Rattle.station.proofs.ImageLaws.{model-back, config-back, run_fits}
use Rattle.station_theorems.specs.Steps.{Step, Trace, last_of, events_in}
use Rattle.station_theorems.specs.Statement.{BlocksTell, OfEveryTrace, RackObeys, RackStands, RackShows, RackLiterally, RackAnswersRepeat, RackSecondSendingRepeats, RackDialsAsked, NoneIdle, RackNoChannelIdle, RackChargesDiffer, RackNumbersCounted, RackNumbersHeld, RackAlwaysSound}
use Rattle.station_theorems.specs.Statement.{RackRingingAsTold, RackRingingInTurn, RackCalledNotOffered, RackCalledAskInVain}
use Rattle.station_theorems.proofs.Laid.{records-keep, uncharged-is, none_free}
use Rattle.station_theorems.proofs.Steps as S
use Rattle.station_theorems.proofs.Traces.{started, IsRun, is-run}

pub blocks-tell : BlocksTell
unfolding BlocksTell ChargesFit
blocks-tell c m e v f = rw (append-nil (blocks c (act c m e).acts)) at (S.blocks-tell c m e v (charges-fit c m e v f) [])

-- a trace is a run from the fresh station
module _ (c : Config) (xs : List Step) (t : Trace c xs) where
  set-up : set_up_verdict c ≡ none
  set-up = (started c t.first t.begun).0

  fresh-sound : sound c (fresh c) ≡ true
  unfolding AlwaysSound final
  fresh-sound = always-sound c set-up []

  runs : IsRun c (fresh c) xs
  runs = is-run c xs (fresh c) fresh-sound (fresh-given c) (rw (started c t.first t.begun).1 at t.steps)

  pub last-is : last_of t.first xs ≡ image_of c (station_after c (events_in xs))
  last-is = ap (λ (s : Station). last_of s xs) (started c t.first t.begun).1 ∙ runs.last

  model_is : model_of (last_of t.first xs) ≡ station_after c (events_in xs)
  model_is = rw last-is (model-back c (station_after c (events_in xs)) (run_fits c set-up (events_in xs)))

pub rack-stands : RackStands
unfolding RackStands
rack-stands c xs t =
    let f = run_fits c (set-up c xs t) (events_in xs) in
    (rw (last-is c xs t) (config-back c (station_after c (events_in xs)) f), (model_is c xs t, f))

pub rack-shows : RackShows
unfolding RackShows
rack-shows c xs t = (runs c xs t).print

-- what holds of every run's list holds of every trace's
carried : (P : Config → List Note → Type 0) → OfEveryList P → OfEveryTrace (λ c es s. P c (notes es))
carried P h c xs t = rw (runs c xs t).entries (h c (set-up c xs t) (events_in xs))

pub rack-obeys : RackObeys
unfolding RackObeys ChargesAreStops TenthsAgree
rack-obeys c xs t =
    rw ((runs c xs t).entries, uncharged-is (last_of t.first xs), model_is c xs t)
    (charges-are-stops c (set-up c xs t) (events_in xs), tenths-agree c (set-up c xs t) (events_in xs))

pub rack-literally : RackLiterally
unfolding RackLiterally Literally
rack-literally = carried WordsAgree literally

pub rack-answers-repeat : RackAnswersRepeat
unfolding RackAnswersRepeat AnswersRepeat
rack-answers-repeat = carried (EveryEntry Answers) answers-repeat

pub rack-second-sending-repeats : RackSecondSendingRepeats
unfolding RackSecondSendingRepeats SecondSendingRepeats
rack-second-sending-repeats = carried (EveryEntry (DeedByDeed SendsSame)) second-sending-repeats

pub rack-dials-asked : RackDialsAsked
unfolding RackDialsAsked DialsAsked
rack-dials-asked = carried (EveryEntry (DeedByDeed DialsNamed)) dials-asked

pub rack-ringing-as-told : RackRingingAsTold
unfolding RackRingingAsTold RingingAsTold
rack-ringing-as-told c xs t = rw ((runs c xs t).entries, model_is c xs t) (ringing-as-told c (set-up c xs t) (events_in xs))

pub rack-ringing-in-turn : RackRingingInTurn
unfolding RackRingingInTurn RingingInTurn
rack-ringing-in-turn = carried (EveryEntry InTurn) ringing-in-turn

pub rack-called-not-offered : RackCalledNotOffered
unfolding RackCalledNotOffered CalledNotOffered
rack-called-not-offered = carried (EveryEntry OffersOthers) called-not-offered

pub rack-called-ask-in-vain : RackCalledAskInVain
unfolding RackCalledAskInVain CalledAskInVain
rack-called-ask-in-vain = carried (EveryEntry AsksInVain) called-ask-in-vain

-- a station that was laid out for a model with no free slot while a ship waits
laid-idle : (c : Config) (m : R.Station) → Fits c m → ((w : R.Waiting) (q : List R.Waiting) → m.queue ≡ w ∷ q → (lowest is_free m.slots ≡ none) ⊎ (m.last_call ≡ 4294967295))
    → NoneIdle (image_of c m)
unfolding model_of viewed image_of
laid-idle c m f h = go m.queue refl
  where
    slots-are : map slot_view (take (image_of c m).count (image_of c m).slots) ≡ m.slots
    slots-are = ap (λ (r : R.Station). r.slots) (model-back c m f)

    go : (q : List R.Waiting) → m.queue ≡ q → NoneIdle (image_of c m)
    go [] e k = let z : 0 < length m.queue = k in absurd (omega (arith, ap length e))
    go (w ∷ q) e k = busy-or-last (h w q e)
      where
        busy-or-last : (lowest is_free m.slots ≡ none) ⊎ (m.last_call ≡ 4294967295) → Each (λ x. is_free (slot_view x) ≡ false) (take (image_of c m).count (image_of c m).slots) ⊎ ((image_of c m).last.0 ≡ 4294967295)
        busy-or-last (inl n) = inl (none_free (take (image_of c m).count (image_of c m).slots) (ap (lowest is_free) slots-are ∙ n))
        busy-or-last (inr l) = inr l

pub rack-no-channel-idle : RackNoChannelIdle
unfolding RackNoChannelIdle NoChannelIdle
rack-no-channel-idle c xs t =
    let es = events_in xs in
    rw (last-is c xs t) (laid-idle c (station_after c es) (run_fits c (set-up c xs t) es) (no-channel-idle c (set-up c xs t) es))

-- 02, no. 4
pub rack-charges-differ : RackChargesDiffer
unfolding RackChargesDiffer ChargesDiffer
rack-charges-differ c xs t = rw (runs c xs t).entries (charges-differ c (set-up c xs t) (events_in xs))

pub rack-numbers-counted : RackNumbersCounted
unfolding RackNumbersCounted NumbersCounted model_of
rack-numbers-counted c xs t = rw (runs c xs t).entries (numbers-counted c (set-up c xs t) (events_in xs) ∙ sym (ap (λ (m : R.Station). m.last_call) (model_is c xs t)))

pub rack-numbers-held : RackNumbersHeld
unfolding RackNumbersHeld NumbersHeld
rack-numbers-held c xs t = rw ((runs c xs t).entries, model_is c xs t) (numbers-held c (set-up c xs t) (events_in xs))

pub rack-always-sound : RackAlwaysSound
unfolding RackAlwaysSound AlwaysSound
rack-always-sound c xs t =
    let m = station_after c (events_in xs) in
    let f = run_fits c (set-up c xs t) (events_in xs) in
    let good = always-sound c (set-up c xs t) (events_in xs) in
    ((runs c xs t).no-29, rw (last-is c xs t, records-keep c m f, config-back c m f, model-back c m f) good)
