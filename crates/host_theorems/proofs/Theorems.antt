-- What holds of every trace, carried to a host in C.
use Prim.Native.Nat.{ℕ, ◌/◌, ◌%◌}
use mathlib.Core.Path.{◌≡◌, refl, sym, ap, ◌∙◌}
use mathlib.Core.Bool.{Bool, true, false, cond}
use mathlib.Core.List.{List, [], ◌∷◌}
use mathlib.Core.Option.{Option, none, some}
use native.Mathlib.Omega.{arith}
use lib.Dec.{leb}
use Rattle.sequence.proofs.Tests.{Either, yes!, no!, which}
use Rattle.rules.specs.Rules.Places.{Each}
use Rattle.rules.specs.Rules.Words.{Config, Event}
use Rattle.rules.specs.Rules.Sound.{config_keeps}
use Rattle.rules.specs.Statement.{notes, WordsAgree, EveryEntry, RingingBy, HeldAsCounted}
use Rattle.rules.specs.ListAlone.Repeated.{Answers, SendsSame, DialsNamed, DeedByDeed}
use Rattle.rules.specs.ListAlone.LineWords.{InTurn}
use Rattle.rules.specs.ListAlone.BeingCalled.{OffersOthers, AsksInVain}
use Rattle.rules.specs.Rules.Verdict.{set_up_verdict, Entry}
use Rattle.rules.specs.Rules.Station.{fresh}
use Rattle.std.specs.Prelude.{Ok}
use Rattle.station.specs.declared.Station.{Station}
use Rattle.station.specs.declared.Stepped.{Stepped}
use Rattle.station.specs.Model.{model_of, image_of}
use Rattle.station.specs.Step.{given, refusal, stepped_by, room_after, set_up_of}
use Rattle.lent_layout.specs.Stations.{sized, station_bytes, station_from}
use Rattle.lent_layout.specs.Statement.{FoundAgain}
use Rattle.lent_layout.proofs.FoundAgain.{handed-out-is-found-again}
use Rattle.coast.specs.Events.{room_left, set_up_answer, set_up_returned, clock_returned}
use Rattle.coast.proofs.Theorems.{refusal-leaves-all, accepted-leaves-its-station, left_is, set-up}
use Rattle.station_theorems.specs.Rooms.{actions_in}
use Rattle.station_theorems.specs.Steps.{Step, step_of, Allowed, SetUpAs, Trace}
use Rattle.station_theorems.specs.Steps as Rack
use Rattle.station_theorems.specs.Statement as Said
use Rattle.station_theorems.specs.Statement.{OfEveryTrace, Obeys, RackObeys, RackLiterally, RackAnswersRepeat, RackSecondSendingRepeats, RackDialsAsked, NoneIdle, RackNoChannelIdle, NumbersDiffer, RackChargesDiffer, CountedTo, RackNumbersCounted, RackNumbersHeld, RackNumbersGoOn, RackUsedUpTold, RackUsedUpStays, is_sound, RackAlwaysSound}
use Rattle.station_theorems.specs.Statement.{RackRingingAsTold, RackRingingInTurn, RackCalledNotOffered, RackCalledAskInVain, RackDroppedReleased, RackCalledIgnored}
use Rattle.station_theorems.proofs.Steps.{step-allowed, rack-dropped-released, rack-called-ignored, rack-numbers-go-on, rack-used-up-told, rack-used-up-stays}
use Rattle.station_theorems.proofs.Scripted.{beginning}
use Rattle.station_theorems.proofs.Theorems.{rack-obeys, rack-literally, rack-answers-repeat, rack-second-sending-repeats, rack-dials-asked, rack-no-channel-idle, rack-charges-differ, rack-numbers-counted, rack-numbers-held, rack-always-sound}
use Rattle.station_theorems.proofs.Theorems.{rack-ringing-as-told, rack-ringing-in-turn, rack-called-not-offered, rack-called-ask-in-vain}
use Rattle.host_theorems.specs.Calls as Host
use Rattle.host_theorems.specs.Calls.{Call, Entered, HandsOn, last_of, SetUpIn, HostRun}
use Rattle.host_theorems.specs.Statement.{answer_in, entries_in, OfEveryHost, HostObeys, HostLiterally, HostAnswersRepeat, HostSecondSendingRepeats, HostDialsAsked, HostNoChannelIdle, HostChargesDiffer, HostNumbersCounted, HostNumbersHeld, HostNumbersGoOn, HostUsedUpTold, HostUsedUpStays, HostAlwaysSound, HostTellsItsClock}
use Rattle.host_theorems.specs.Statement.{HostRingingAsTold, HostRingingInTurn, HostCalledNotOffered, HostCalledAskInVain, HostDroppedReleased, HostCalledIgnored}
use Rattle.host_theorems.proofs.Calls.{called, answer-is, count-is}

-- ── a list of calls as a list of steps ───────────────────────────────────────

record Steps (s : Station) (xs : List Call) : Type 0 where
  steps : List Step
  hands : Rack.HandsOn s steps
  entries : Said.entries_in steps ≡ entries_in xs
  last : station_from (last_of (station_bytes s) xs) ≡ Rack.last_of s steps
  no-29 : Each (λ x. x.back.answer ≡ 29 → ⊥) steps → Each (λ x. answer_in x ≡ 29 → ⊥) xs

-- the entry of a call is that of its step
same-entry : (e : Event) (number : ℕ) (left room : List ℕ) (r : Stepped) (more these : List Entry)
    → number % 256 ≡ r.answer → number / 256 % 256 ≡ r.count → left ≡ room → more ≡ these
    → cond (leb r.answer 1) (record { event = e; given = actions_in r.count room } ∷ more) more
    ≡ cond (leb (number % 256) 1) (record { event = e; given = actions_in (number / 256 % 256) left } ∷ these) these
same-entry e number left room r more these p q l m = rw (p, q, l, m)

walk : (s : Station) → FoundAgain s → (xs : List Call) → HandsOn (station_bytes s) xs → Steps s xs
unfolding entries_in Said.entries_in room_left
walk s f [] h = record { steps = []; hands = tt; entries = refl; last = f.1; no-29 = λ h. tt }
walk s f (x ∷ xs) h =
    let k = called x h.1.0 in
    let e = x.event in
    let from : station_from x.station ≡ s = ap station_from h.0 ∙ f.1 in
    let answer : x.number % 256 ≡ (stepped_by s e).answer = rw from at (answer-is x h.1.0) in
    let count : x.number / 256 % 256 ≡ (stepped_by s e).count = rw from at (count-is x h.1.0) in
    let left : x.left ≡ room_after s x.lent e = k.left_is ∙ (rw from) in
    let next = left_is s f e (refusal s e) refl in
    let kept : x.kept ≡ station_bytes (stepped_by s e).station = k.kept-is ∙ (rw h.0 next.0) in
    let step = step_of e s x.lent (stepped_by s e) (room_after s x.lent e) in
    let allowed : Allowed step = rw k.event-is (step-allowed s x.lent k.time k.what) in
    let more = walk (stepped_by s e).station next.1 xs (rw kept at h.1.1) in
    record {
      steps = step ∷ more.steps;
      hands = (refl, (allowed, more.hands));
      entries = same-entry e x.number x.left (room_after s x.lent e) (stepped_by s e) _ _ answer count left more.entries;
      last = ap (λ b. station_from (last_of b xs)) kept ∙ more.last;
      no-29 = λ h. (λ z. h.0 (sym answer ∙ z), more.no-29 h.1);
    }

-- ── set-up ───────────────────────────────────────────────────────────────────

begun-well : (c : Config) (b : List ℕ) → set_up_returned c b ≡ 0 → (sized b ≡ true) × (set_up_verdict c ≡ none)
unfolding set_up_returned set_up_verdict
begun-well c b h = go (which (sized b))
  where
    judged : (t : Bool) → config_keeps c ≡ t → set_up_answer (set_up_of c) ≡ 0 → set_up_verdict c ≡ none
    judged true e z = rw e
    judged false e z = let q : ◌≡◌ {A = ℕ} 36 0 = rw e at z in absurd (omega (arith, q))

    go : Either (sized b) → (sized b ≡ true) × (set_up_verdict c ≡ none)
    go (yes! p) = (p, judged (config_keeps c) refl (rw p at h))
    go (no! p) = let q : ◌≡◌ {A = ℕ} 23 0 = rw p at h in absurd (omega (arith, q))

pub record Begun (c : Config) (b : List ℕ) : Type 0 where
  pub station : Station
  pub found : FoundAgain station
  pub begins : SetUpAs c station
  pub bytes : b ≡ station_bytes station

pub begun : (c : Config) (b : List ℕ) → SetUpIn c b → Begun c b
begun _ _ (Host.by-set-up κs a r s p z) =
    let c = given a.0 a.1.0.now in
    let w = begun-well c a.1.1.0.now (sym p.0 ∙ z) in
    let out : set_up_of c ≡ Ok (image_of c (fresh c)) = rw w.1 in
    record {
      station = image_of c (fresh c);
      found = handed-out-is-found-again.0 c (image_of c (fresh c)) out;
      begins = beginning c w.1;
      bytes = p.1 ∙ set-up c (image_of c (fresh c)) a.1.1.0.now out w.0;
    }

-- ── what holds of traces holds of hosts ──────────────────────────────────────

module _ (c : Config) (xs : List Call) (t : HostRun c xs) where
  begins : Begun c t.first
  begins = begun c t.first t.begun

  walked : Steps begins.station xs
  walked = walk begins.station begins.found xs (rw begins.bytes at t.calls)

  abbrev trace : Trace c walked.steps
  trace = record { first = begins.station; begun = begins.begins; steps = walked.hands }

  last-is : station_from (last_of t.first xs) ≡ Rack.last_of begins.station walked.steps
  last-is = ap (λ b. station_from (last_of b xs)) begins.bytes ∙ walked.last

carried : (P : Config → List Entry → Station → Type 0) → OfEveryTrace P → OfEveryHost P
carried P h c xs t = rw (← (walked c xs t).entries, last-is c xs t) (h c (walked c xs t).steps (trace c xs t))

pub host-obeys : HostObeys
unfolding HostObeys RackObeys
host-obeys = carried Obeys rack-obeys

pub host-literally : HostLiterally
unfolding HostLiterally RackLiterally
host-literally = carried (λ c es s. WordsAgree c (notes es)) rack-literally

pub host-answers-repeat : HostAnswersRepeat
unfolding HostAnswersRepeat RackAnswersRepeat
host-answers-repeat = carried (λ c es s. EveryEntry Answers c (notes es)) rack-answers-repeat

pub host-second-sending-repeats : HostSecondSendingRepeats
unfolding HostSecondSendingRepeats RackSecondSendingRepeats
host-second-sending-repeats = carried (λ c es s. EveryEntry (DeedByDeed SendsSame) c (notes es)) rack-second-sending-repeats

pub host-dials-asked : HostDialsAsked
unfolding HostDialsAsked RackDialsAsked
host-dials-asked = carried (λ c es s. EveryEntry (DeedByDeed DialsNamed) c (notes es)) rack-dials-asked

pub host-ringing-as-told : HostRingingAsTold
unfolding HostRingingAsTold RackRingingAsTold
host-ringing-as-told = carried (λ c es s. RingingBy (notes es) (model_of s)) rack-ringing-as-told

pub host-ringing-in-turn : HostRingingInTurn
unfolding HostRingingInTurn RackRingingInTurn
host-ringing-in-turn = carried (λ c es s. EveryEntry InTurn c (notes es)) rack-ringing-in-turn

pub host-called-not-offered : HostCalledNotOffered
unfolding HostCalledNotOffered RackCalledNotOffered
host-called-not-offered = carried (λ c es s. EveryEntry OffersOthers c (notes es)) rack-called-not-offered

pub host-called-ask-in-vain : HostCalledAskInVain
unfolding HostCalledAskInVain RackCalledAskInVain
host-called-ask-in-vain = carried (λ c es s. EveryEntry AsksInVain c (notes es)) rack-called-ask-in-vain

pub host-no-channel-idle : HostNoChannelIdle
unfolding HostNoChannelIdle RackNoChannelIdle
host-no-channel-idle = carried (λ c es s. NoneIdle s) rack-no-channel-idle

pub host-charges-differ : HostChargesDiffer
unfolding HostChargesDiffer RackChargesDiffer
host-charges-differ = carried (λ c es s. NumbersDiffer es) rack-charges-differ

pub host-numbers-counted : HostNumbersCounted
unfolding HostNumbersCounted RackNumbersCounted
host-numbers-counted = carried (λ c es s. CountedTo c es s.last.0) rack-numbers-counted

pub host-numbers-held : HostNumbersHeld
unfolding HostNumbersHeld RackNumbersHeld
host-numbers-held = carried (λ c es s. HeldAsCounted c (notes es) (model_of s)) rack-numbers-held

pub host-always-sound : HostAlwaysSound
unfolding HostAlwaysSound RackAlwaysSound
host-always-sound c xs t =
    let r = rack-always-sound c (walked c xs t).steps (trace c xs t) in
    ((walked c xs t).no-29 r.0, ap is_sound (last-is c xs t) ∙ r.1)

pub host-tells-its-clock : HostTellsItsClock
unfolding HostTellsItsClock HostAlwaysSound clock_returned
host-tells-its-clock c xs t κs a r s p e = p ∙ ap (λ b. clock_returned (station_from b)) e ∙ (rw (host-always-sound c xs t).1)

-- ── any call, on any bytes ───────────────────────────────────────────────────

-- the bytes left stand for the station of its step
kept-station : (x : Call) → Entered x → station_from x.kept ≡ (stepped_by (station_from x.station) x.event).station
unfolding stepped_by
kept-station x a = go (refusal (station_from x.station) x.event) refl
  where
    go : (o : Option ℕ) → refusal (station_from x.station) x.event ≡ o → station_from x.kept ≡ (stepped_by (station_from x.station) x.event).station
    go none v = let l = accepted-leaves-its-station x.station x.event v in ap station_from ((called x a).kept-is ∙ l.0) ∙ l.1.1
    go (some n) v = ap station_from ((called x a).kept-is ∙ (refusal-leaves-all x.station x.lent x.event n v).0) ∙ (rw v)

-- its step, and that the contracts allow it
abbrev step_in : Call → Step
step_in x =
    let s = station_from x.station in
    step_of x.event s x.lent (stepped_by s x.event) (room_after s x.lent x.event)

allowed-in : (x : Call) → Entered x → Allowed (step_in x)
allowed-in x a = let k = called x a in rw k.event-is (step-allowed (station_from x.station) x.lent k.time k.what)

pub host-dropped-released : HostDroppedReleased
unfolding HostDroppedReleased RackDroppedReleased room_left
host-dropped-released x a = rw (kept-station x a, count-is x a, (called x a).left_is) (rack-dropped-released (step_in x) (allowed-in x a))

pub host-called-ignored : HostCalledIgnored
unfolding HostCalledIgnored RackCalledIgnored room_left
host-called-ignored x a t = rw (answer-is x a, kept-station x a, count-is x a, (called x a).left_is) (rack-called-ignored (step_in x) (allowed-in x a) (rw (answer-is x a) at t))

-- 02, no. 4
pub host-numbers-go-on : HostNumbersGoOn
unfolding HostNumbersGoOn RackNumbersGoOn
host-numbers-go-on x a = rw (kept-station x a) (rack-numbers-go-on (step_in x) (allowed-in x a))

pub host-used-up-told : HostUsedUpTold
unfolding HostUsedUpTold RackUsedUpTold room_left
host-used-up-told x a t = rw (answer-is x a, kept-station x a, count-is x a, (called x a).left_is) (rack-used-up-told (step_in x) (allowed-in x a) (rw (answer-is x a) at t))

pub host-used-up-stays : HostUsedUpStays
unfolding HostUsedUpStays RackUsedUpStays
host-used-up-stays x a t l = rw (kept-station x a) (rack-used-up-stays (step_in x) (allowed-in x a) (rw (answer-is x a) at t) l)
