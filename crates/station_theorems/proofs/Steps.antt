-- What a step hands back, from its contract: the refusal, or what the rules say; and that there is one for every event.
use Prim.Native.Nat.{ℕ, ◌*◌, ◌≤◌}
use mathlib.Core.Path.{◌≡◌, refl, sym, ap, ◌∙◌}
use mathlib.Core.List.{List, [], ◌∷◌, ◌++◌}
use mathlib.Core.Bool.{Bool, true, false, cond}
use mathlib.Core.Option.{Option, none, some}
use native.Mathlib.Omega.{arith}
use lib.Dec.{leb}
use lib.ListN.{length, drop}
use borrow.Author.Tests.{leb-true, leb-false}
use Rattle.sequence.specs.Refusals.{first_refusal}
use Rattle.rules.specs.Rules.Words.{Request, Config, ashore_in, Event, Signal, line_dialled_out, line_lifted, line_hung, carrier_heard, carrier_lost, Hand, hand_takes, hand_gives, Happened, heard, signal, operator, What, tick, on_channel70, on_slot, from_ashore}
use Rattle.rules.specs.Rules.Places.{Each}
use Rattle.rules.specs.Rules.Station as R
use Rattle.rules.specs.Rules.Station.{set_clock}
use Rattle.rules.specs.Rules.Requests.{ignored}
use Rattle.rules.specs.Rules.Calls.{act}
use Rattle.rules.specs.Rules.Verdict.{refusals, verdict}
use Rattle.rules.specs.Rules.Bytes.{blocks}
use Rattle.rules.specs.Statement.{deeds_of, charges_of, FourBytes, NumbersGoOn, ToldWhenUsedUp, Told107, UsedUpTold, UsedUpStays, ZeroOrOne, AtMostEight, ReleasedWhenDropped, DroppedReleased, IgnoredWhenCalled, CalledIgnored}
use Rattle.rules.proofs.Accepted.{accepted}
use Rattle.rules.proofs.Eight.{at-most-eight}
use Rattle.rules.proofs.Answered.{zero-or-one}
use Rattle.rules_theorems.proofs.Numbers.{numbers-go-on, used-up-told, used-up-stays}
use Rattle.rules.proofs.Kept.{stays-sound}
use Rattle.rules_theorems.proofs.Released.{dropped-released, none_dropped}
use Rattle.rules_theorems.proofs.Offered.{called-ignored}
use Rattle.soundness.proofs.FitLaws.{sound-fits}
use Rattle.station.proofs.ImageLaws.{model-back}
use Rattle.actions.proofs.Handed.{act-says}
use Rattle.station.specs.declared.Stepped.{Stepped}
use Rattle.station.specs.declared.Station.{Station}
use Rattle.station.specs.Model.{model_of, config_of}
use Rattle.station.specs.Step.{records_keep, event_at, refusal, stepped_for, stepped_by, room_for, room_after}
use Rattle.station.proofs.GateLaws.{passed}
use Rattle.station.proofs.StepLaws.{reads}
use Rattle.station_theorems.specs.Rooms.{actions_in, shown_in}
use Rattle.station_theorems.specs.Steps.{Step, Allowed, by-heard-on-channel-70, by-heard-on-slot, by-dialling-ended, by-off-hook, by-on-hook, by-carrier-up, by-carrier-down, by-take-slot, by-give-back, by-call-from-ashore, by-tick, step_of}
use Rattle.station_theorems.specs.Statement.{out_in, laid_out, RefusalsLeaveAll, RoomsStay, RackDroppedReleased, RackCalledIgnored, RackNumbersGoOn, RackUsedUpTold, RackUsedUpStays}
use Rattle.station_theorems.proofs.ReadBack.{actions-back, deeds-back, shown-back, laid-back}
use contract.Lifetimes.{Lfts}
use denote.Ref.{Bor}
use denote.MutBor.{MutBor}
use Rattle.units.specs.declared.Tenths.{Tenths}
use Rattle.units.specs.declared.SlotNumber.{SlotNumber}

-- ── the contracts ────────────────────────────────────────────────────────────

pub record Does (x : Step) : Type 0 where
  pub back_is : x.back ≡ stepped_by x.before x.event
  pub left_is : x.left ≡ room_after x.before x.lent x.event

pub allowed-does : (x : Step) → Allowed x → Does x
allowed-does _ (by-heard-on-channel-70 κs a r s p) = record { back_is = p.0; left_is = p.1 }
allowed-does _ (by-heard-on-slot κs a r s p) = record { back_is = p.0; left_is = p.1 }
allowed-does _ (by-dialling-ended κs a r s p) = record { back_is = p.0; left_is = p.1 }
allowed-does _ (by-off-hook κs a r s p) = record { back_is = p.0; left_is = p.1 }
allowed-does _ (by-on-hook κs a r s p) = record { back_is = p.0; left_is = p.1 }
allowed-does _ (by-carrier-up κs a r s p) = record { back_is = p.0; left_is = p.1 }
allowed-does _ (by-carrier-down κs a r s p) = record { back_is = p.0; left_is = p.1 }
allowed-does _ (by-take-slot κs a r s p) = record { back_is = p.0; left_is = p.1 }
allowed-does _ (by-give-back κs a r s p) = record { back_is = p.0; left_is = p.1 }
allowed-does _ (by-call-from-ashore κs a r s p) = record { back_is = p.0; left_is = p.1 }
allowed-does _ (by-tick κs a r s p) = record { back_is = p.0; left_is = p.1 }

-- lifetimes, and a slice lent for one
pub life : Lfts 1
life = ([], tt)

pub lives : Lfts 2
lives = ([], life)

abbrev pub lent : {A : Type 0} → List A → Bor (List A)
lent l = record { ref_ptr = (0, 0); now = l }

-- and one that may be written through
abbrev pub lent_mut : List ℕ → MutBor (List ℕ)
lent_mut l = record { ref_ptr = (0, 0); ghost_name = 0; now = l }

-- and one for every event on every station
module _ (s : Station) (room : List ℕ) (time : ℕ) where
  abbrev timed : Tenths
  timed = record { 0 = time }

  -- the parameters of an event on a slot
  abbrev onto : ℕ → List ℕ → Station × (Tenths × (SlotNumber × (MutBor (List ℕ) × Unit {0})))
  onto i l = (s, (timed, (record { 0 = i }, (lent_mut l, tt))))

  abbrev pub step_for : What → Step
  step_for w = step_of (event_at time w room) s room (stepped_by s (event_at time w room)) (room_after s room (event_at time w room))

  on-slot : (i : ℕ) (h : Happened) → Allowed (step_for (on_slot i h))
  on-slot i (signal line_dialled_out) = by-dialling-ended life (onto i room) _ (onto i _) (refl, refl)
  on-slot i (signal line_lifted) = by-off-hook life (onto i room) _ (onto i _) (refl, refl)
  on-slot i (signal line_hung) = by-on-hook life (onto i room) _ (onto i _) (refl, refl)
  on-slot i (signal carrier_heard) = by-carrier-up life (onto i room) _ (onto i _) (refl, refl)
  on-slot i (signal carrier_lost) = by-carrier-down life (onto i room) _ (onto i _) (refl, refl)
  on-slot i (operator hand_takes) = by-take-slot life (onto i room) _ (onto i _) (refl, refl)
  on-slot i (operator hand_gives) = by-give-back life (onto i room) _ (onto i _) (refl, refl)
  on-slot i (heard m) = by-heard-on-slot lives (s, (timed, (record { 0 = i }, (lent m, (lent_mut room, tt))))) _ (s, (timed, (record { 0 = i }, (lent m, (lent_mut _, tt))))) (refl, refl)

  pub step-allowed : (w : What) → Allowed (step_for w)
  step-allowed tick = by-tick life (s, (timed, (lent_mut room, tt))) _ (s, (timed, (lent_mut _, tt))) (refl, refl)
  step-allowed (on_channel70 m) = by-heard-on-channel-70 lives (s, (timed, (lent m, (lent_mut room, tt)))) _ (s, (timed, (lent m, (lent_mut _, tt)))) (refl, refl)
  step-allowed (on_slot i h) = on-slot i h
  step-allowed (from_ashore a) = by-call-from-ashore lives (s, (timed, (a.ship, (a.mode, (lent a.digits, (lent_mut room, tt)))))) _ (s, (timed, (a.ship, (a.mode, (lent a.digits, (lent_mut _, tt)))))) (refl, refl)

-- every signal and either hand: what holds of each
abbrev pub signals : List Signal
signals = line_dialled_out ∷ line_lifted ∷ line_hung ∷ carrier_heard ∷ carrier_lost ∷ []

pub every-signal : (P : Signal → Type 0) → Each P signals → (g : Signal) → P g
every-signal P h line_dialled_out = h.0
every-signal P h line_lifted = h.1.0
every-signal P h line_hung = h.1.1.0
every-signal P h carrier_heard = h.1.1.1.0
every-signal P h carrier_lost = h.1.1.1.1.0

abbrev pub hands : List Hand
hands = hand_takes ∷ hand_gives ∷ []

pub every-hand : (P : Hand → Type 0) → Each P hands → (n : Hand) → P n
every-hand P h hand_takes = h.0
every-hand P h hand_gives = h.1.0

-- a refusal given or none, by what the step then is
module _ (x : Step) (d : Does x) (o : Option ℕ) (e : refusal x.before x.event ≡ o) where
  pub back-for : x.back ≡ stepped_for x.before (act (config_of x.before) (model_of x.before) x.event) o
  unfolding stepped_by
  back-for = rw (← e) d.back_is

  pub left-for : x.left ≡ room_for (config_of x.before) x.lent (act (config_of x.before) (model_of x.before) x.event) o
  unfolding room_after
  left-for = rw (← e) d.left_is

-- ── the actions of an accepted event ─────────────────────────────────────────

pub blocks-tell : (c : Config) (m : R.Station) (e : Event) → verdict c m e ≡ none → Each FourBytes (charges_of (act c m e).acts) → (rest : List ℕ)
    → actions_in (length (act c m e).acts) (blocks c (act c m e).acts ++ rest) ≡ (act c m e).acts
unfolding AtMostEight
blocks-tell c m e v f rest =
    let a = accepted c m e v in
    actions-back c (act c m e).acts (act-says reads c m e v) (at-most-eight c m e a.is-sound).1 f rest

-- the deeds, whatever numbers the station holds
deeds-tell : (c : Config) (m : R.Station) (e : Event) → verdict c m e ≡ none → (rest : List ℕ)
    → deeds_of (actions_in (length (act c m e).acts) (blocks c (act c m e).acts ++ rest)) ≡ deeds_of (act c m e).acts
unfolding AtMostEight
deeds-tell c m e v rest =
    let a = accepted c m e v in
    deeds-back c (act c m e).acts (act-says reads c m e v) (at-most-eight c m e a.is-sound).1 rest

pub answer-told : (c : Config) (m : R.Station) (e : Event) → verdict c m e ≡ none → (act c m e).answer ≤ 1
unfolding ZeroOrOne
answer-told c m e v = (zero-or-one c m e).0 v

-- ── every step, in a trace or not ────────────────────────────────────────────

-- "leaves lent bytes untouched, and hands back the station unchanged, clock included"
pub refusals-leave-all : RefusalsLeaveAll
unfolding RefusalsLeaveAll
refusals-leave-all x a f = go (refusal x.before x.event) refl
  where
    go : (o : Option ℕ) → refusal x.before x.event ≡ o → (x.back.station ≡ x.before) × ((x.left ≡ x.lent) × (x.back.count ≡ 0))
    go none e =
        let b = back-for x (allowed-does x a) none e in
        let n = answer-told (config_of x.before) (model_of x.before) x.event (passed x.before x.event (sym e)).judged in
        let k : x.back.answer ≤ 1 = rw b n in
        absurd (omega (arith, leb-false x.back.answer 1 f))
    go (some n) e =
        let b = back-for x (allowed-does x a) (some n) e in
        (ap (λ (r : Stepped). r.station) b, (left-for x (allowed-does x a) (some n) e, ap (λ (r : Stepped). r.count) b))

pub rooms-stay : RoomsStay
unfolding RoomsStay AtMostEight shown_in
rooms-stay x a = go (refusal x.before x.event) refl
  where
    go : (o : Option ℕ) → refusal x.before x.event ≡ o → x.left ≡ laid_out (shown_in x.back.count x.left) ++ drop (40 * x.back.count) x.lent
    go none e =
        let c = config_of x.before in
        let o = act (config_of x.before) (model_of x.before) x.event in
        let slim = (at-most-eight c (model_of x.before) x.event (passed x.before x.event (sym e)).sounds).1 in
        let l = left-for x (allowed-does x a) none e in
        let n : x.back.count ≡ length o.acts = ap (λ (r : Stepped). r.count) (back-for x (allowed-does x a) none e) in
        rw (n, l, shown-back c o.acts slim (drop (40 * length o.acts) x.lent), laid-back c o.acts) refl
    go (some k) e =
        let l = left-for x (allowed-does x a) (some k) e in
        let n : x.back.count ≡ 0 = ap (λ (r : Stepped). r.count) (back-for x (allowed-does x a) (some k) e) in
        rw (n, l) refl

-- what an accepted step hands back is what the rules say, its deeds too
record AsRuled (x : Step) : Type 0 where
  answer : x.back.answer ≡ (act (config_of x.before) (model_of x.before) x.event).answer
  next : model_of x.back.station ≡ (act (config_of x.before) (model_of x.before) x.event).next
  count : x.back.count ≡ length (act (config_of x.before) (model_of x.before) x.event).acts
  deeds : deeds_of (actions_in x.back.count x.left) ≡ deeds_of (act (config_of x.before) (model_of x.before) x.event).acts
  acts : Each FourBytes (charges_of (act (config_of x.before) (model_of x.before) x.event).acts) → actions_in x.back.count x.left ≡ (act (config_of x.before) (model_of x.before) x.event).acts

as-ruled : (x : Step) → Allowed x → refusal x.before x.event ≡ none → AsRuled x
as-ruled x a e =
    let c = config_of x.before in
    let m = model_of x.before in
    let o = act (config_of x.before) (model_of x.before) x.event in
    let v = (passed x.before x.event (sym e)).judged in
    let b = back-for x (allowed-does x a) none e in
    let n : x.back.count ≡ length o.acts = ap (λ (r : Stepped). r.count) b in
    record {
      answer = ap (λ (r : Stepped). r.answer) b;
      next = ap (λ (r : Stepped). model_of r.station) b ∙ model-back c o.next (sound-fits c o.next (stays-sound c m x.event v));
      count = n;
      deeds = rw (n, left-for x (allowed-does x a) none e) (deeds-tell c m x.event v (drop (40 * length o.acts) x.lent));
      acts = λ f. rw (n, left-for x (allowed-does x a) none e) (blocks-tell c m x.event v f (drop (40 * length o.acts) x.lent));
    }

pub rack-dropped-released : RackDroppedReleased
unfolding RackDroppedReleased DroppedReleased actions_in
rack-dropped-released x a = go (refusal x.before x.event) refl
  where
    go : (o : Option ℕ) → refusal x.before x.event ≡ o → ReleasedWhenDropped (model_of x.before) (model_of x.back.station) (actions_in x.back.count x.left)
    go none e = let r = as-ruled x a e in rw (r.next, r.deeds) (dropped-released (config_of x.before) (model_of x.before) x.event (passed x.before x.event (sym e)).judged)
    go (some n) e =
        let b = back-for x (allowed-does x a) (some n) e in
        let station : x.back.station ≡ x.before = ap (λ (r : Stepped). r.station) b in
        let count : x.back.count ≡ 0 = ap (λ (r : Stepped). r.count) b in
        rw (station, count) (none_dropped (model_of x.before))

-- a refusal's number is neither 0 nor 1
refused-number : (s : Station) (e : Event) (n : ℕ) → refusal s e ≡ some n → 11 ≤ n
unfolding refusal verdict ZeroOrOne
refused-number s e n h = go (records_keep s) h
  where
    go : (b : Bool) → cond b (first_refusal (refusals (config_of s) (model_of s) e) none) (some 29) ≡ some n → 11 ≤ n
    go true h = (zero-or-one (config_of s) (model_of s) e).1 n h
    go false h = let y : 29 ≡ n = cc in omega arith

pub rack-called-ignored : RackCalledIgnored
unfolding RackCalledIgnored CalledIgnored
rack-called-ignored x a t = go (refusal x.before x.event) refl
  where
    go : (o : Option ℕ) → refusal x.before x.event ≡ o → IgnoredWhenCalled (config_of x.before) (model_of x.before) x.event (out_in x)
    go none e = λ i k r d p q z.
        let s = as-ruled x a e in
        let o = act (config_of x.before) (model_of x.before) x.event in
        let h : o ≡ ignored (set_clock x.event.time (model_of x.before)) = called-ignored (config_of x.before) (model_of x.before) x.event (passed x.before x.event (sym e)).judged i k r d p q z in
        rw (s.answer, s.next, s.acts (rw h tt), h) refl
    go (some n) e =
        let b : x.back.answer ≡ n = ap (λ (r : Stepped). r.answer) (back-for x (allowed-does x a) (some n) e) in
        let k : x.back.answer ≤ 1 = leb-true x.back.answer 1 t in
        absurd (omega (arith, refused-number x.before x.event n e))

pub rack-numbers-go-on : RackNumbersGoOn
unfolding RackNumbersGoOn NumbersGoOn model_of
rack-numbers-go-on x a = go (refusal x.before x.event) refl
  where
    go : (o : Option ℕ) → refusal x.before x.event ≡ o → x.before.last.0 ≤ x.back.station.last.0
    go none e = rw (← (as-ruled x a e).next) at (numbers-go-on (config_of x.before) (model_of x.before) x.event (passed x.before x.event (sym e)).judged)
    go (some n) e = let b : x.back.station ≡ x.before = ap (λ (r : Stepped). r.station) (back-for x (allowed-does x a) (some n) e) in rw b (omega arith)

-- an answer of an accepted step is no refusal's
not-refused : (x : Step) → Allowed x → leb x.back.answer 1 ≡ true → (n : ℕ) → refusal x.before x.event ≡ some n → ⊥
not-refused x a t n e =
    let b : x.back.answer ≡ n = ap (λ (r : Stepped). r.answer) (back-for x (allowed-does x a) (some n) e) in
    let k = leb-true x.back.answer 1 t in
    let m = refused-number x.before x.event n e in
    omega (arith, b, k, m)

pub rack-used-up-told : RackUsedUpTold
unfolding RackUsedUpTold UsedUpTold
rack-used-up-told x a t = go (refusal x.before x.event) refl
  where
    go : (o : Option ℕ) → refusal x.before x.event ≡ o → ToldWhenUsedUp (config_of x.before) (model_of x.before) x.event (out_in x)
    go none e = λ r l h.
        let told = used-up-told (config_of x.before) (model_of x.before) x.event (passed x.before x.event (sym e)).judged r l h in
        (λ n. as-told r (told.0 n), λ i k p d n y z q. as-told r (told.1 i k p d n y z q))
      where
        as-told : (r : Request) → Told107 (model_of x.before) x.event.time r (act (config_of x.before) (model_of x.before) x.event) → Told107 (model_of x.before) x.event.time r (out_in x)
        as-told r w = let s = as-ruled x a e in rw (s.answer, s.next, s.acts (rw w tt), w) refl
    go (some n) e = absurd (not-refused x a t n e)

pub rack-used-up-stays : RackUsedUpStays
unfolding RackUsedUpStays UsedUpStays model_of
rack-used-up-stays x a t l = go (refusal x.before x.event) refl
  where
    go : (o : Option ℕ) → refusal x.before x.event ≡ o → (x.back.station.last.0 ≡ 4294967295) × (ashore_in x.event.what ≡ none)
    go none e =
        let s = used-up-stays (config_of x.before) (model_of x.before) x.event (passed x.before x.event (sym e)).judged l in
        (ap (λ (m : R.Station). m.last_call) (as-ruled x a e).next ∙ s.0, s.1)
    go (some n) e = absurd (not-refused x a t n e)
