-- What an event leaves in lent bytes; and a host that hands on what it was left runs the station itself.
use Prim.Native.Nat.{ℕ, ◌≤◌, ◌<◌, ◌+◌, ◌*◌, ◌/◌, ◌%◌}
use mathlib.Core.Path.{◌≡◌, refl, sym, ap, ◌∙◌}
use mathlib.Core.Bool.{Bool, true, false, cond}
use mathlib.Core.List.{List, [], ◌∷◌}
use mathlib.Core.Option.{Option, none, some}
use native.Mathlib.Omega.{arith}
use lib.Dec.{ltb}
use borrow.Author.Tests.{le-leb, lt-leb, ltb-true}
use Rattle.std.specs.Prelude.{Option as Optional, Some, None, Ok}
use Rattle.units.specs.declared.Tenths.{Tenths}
use Rattle.sequence.specs.Identity.{is_coast}
use Rattle.sequence.proofs.Tests.{Either, yes!, no!, which, both_true}
use Rattle.rules.specs.Rules.Places.{all}
use Rattle.rules.specs.Rules.Words.{Config, Event}
use Rattle.rules.specs.Rules.Calls.{act}
use Rattle.rules.specs.Rules.Bytes.{padded}
use Rattle.rules.specs.Rules.Station.{fresh}
use Rattle.rules.specs.Rules.Sound.{identity_keeps, config_keeps, sound}
use Rattle.rules.specs.Statement.{ZeroOrOne}
use Rattle.rules.specs.Rules.Verdict.{verdict}
use Rattle.rules.proofs.Answered as Rules
use Rattle.rules.proofs.Answered.{other_numbers, zero-or-one}
use Rattle.requests.specs.Views.{viewed}
use Rattle.station.specs.declared.Station.{Station}
use Rattle.station.specs.Model.{config_of, model_of, image_of}
use Rattle.station.specs.Step.{records_keep, refusal, stepped_by, room_after, blank_station, set_up_of}
use Rattle.station.proofs.GateLaws.{passed}
use Rattle.lent_layout.specs.Stations.{sized, current, station_bytes, station_from, station_laid}
use Rattle.lent_layout.specs.Statement.{FoundAgain}
use Rattle.lent_layout.proofs.FoundAgain.{handed-out-is-found-again, other-layout-is-not-sound}
use Rattle.coast.specs.Events.{packed, kept, returned, station_after, room_left, station_set_up, due_number, due_returned, clock_returned}
use Rattle.coast.specs.Statement.{RefusalLeavesAll, AcceptedLeavesItsStation, OtherLayoutTellsNothing, TakenApart, waits, due_time, returned_by, left_by, packed_by, handed_by, HostHandsOn}

-- ── any call, on any bytes ───────────────────────────────────────────────────

laid-whole : (s : Station) (b : List ℕ) → sized b ≡ true → station_laid s b ≡ station_bytes s
unfolding station_laid
laid-whole s b w = rw w

-- a test that every number of a refusal passes
pub refused-such : (p : ℕ → Bool) → all p other_numbers ≡ true → p 29 ≡ true → (s : Station) (e : Event) (n : ℕ) → refusal s e ≡ some n → p n ≡ true
unfolding refusal verdict
refused-such p others unsound s e n h = go (records_keep s) h
  where
    go : (t : Bool) → cond t (verdict (config_of s) (model_of s) e) (some 29) ≡ some n → p n ≡ true
    go true v = Rules.refused-such p others (config_of s) (model_of s) e (λ f. unsound) n v
    go false v = let q : 29 ≡ n = cc in rw (← q) unsound

pub refusal-leaves-all : RefusalLeavesAll
unfolding station_after kept stepped_by room_left room_after
refusal-leaves-all b room e n h = (rw (h, lt-leb n 1 (ltb-true 1 n (refused-such (ltb 1) refl refl (station_from b) e n h))), rw h)

-- an event is accepted on bytes of the right size alone
right-size : (b : List ℕ) (e : Event) → refusal (station_from b) e ≡ none → sized b ≡ true
unfolding current
right-size b e h = go (which (current b))
  where
    go : Either (current b) → sized b ≡ true
    go (yes! p) = (both_true (sized b) _ p).0
    go (no! p) =
        let v = other-layout-is-not-sound b p e in
        let q : ◌≡◌ {A = ℕ} 0 1 = cc in
        absurd (omega (arith, q))

accepted-laid : (b : List ℕ) (e : Event) → refusal (station_from b) e ≡ none → station_after b e ≡ station_bytes (stepped_by (station_from b) e).station
unfolding station_after kept stepped_by ZeroOrOne
accepted-laid b e h =
    let s = station_from b in
    let few : (act (config_of s) (model_of s) e).answer ≤ 1 = (zero-or-one (config_of s) (model_of s) e).0 (passed s e (sym h)).judged in
    rw (h, le-leb _ _ few) (laid-whole _ b (right-size b e h))

pub accepted-leaves-its-station : AcceptedLeavesItsStation
accepted-leaves-its-station b e h = (accepted-laid b e h, handed-out-is-found-again.1 (station_from b) e h)

pub other-layout-tells-nothing : OtherLayoutTellsNothing
unfolding due_returned clock_returned station_from blank_station records_keep viewed image_of model_of config_of sound config_keeps identity_keeps is_coast fresh padded
other-layout-tells-nothing b h = (rw h refl, rw h refl)

apart : (a n : ℕ) (d : Optional Tenths) → a < 256 → n < 256
    → ((a + 256 * n + due_number d) % 256 ≡ a) × ((a + 256 * n + due_number d) / 256 % 256 ≡ n) × ((a + 256 * n + due_number d) / 65536 % 2 ≡ waits d) × ((a + 256 * n + due_number d) / 4294967296 ≡ due_time d)
apart a n None h k = (omega arith, omega arith, omega arith, omega arith)
apart a n (Some t) h k = (omega arith, omega arith, omega arith, omega arith)

pub taken-apart : TakenApart
unfolding packed
taken-apart r h k = apart r.answer r.count r.due h k

-- ── a host that hands on what it was left ────────────────────────────────────

module _ (s : Station) (f : FoundAgain s) (e : Event) where
  returned-is : returned (station_bytes s) e ≡ packed (stepped_by s e)
  unfolding returned
  returned-is = rw f.1

  pub left_is : (o : Option ℕ) → refusal s e ≡ o → (station_after (station_bytes s) e ≡ station_bytes (stepped_by s e).station) × FoundAgain (stepped_by s e).station
  left_is none h = rw f.1 at (accepted-leaves-its-station (station_bytes s) e (rw f.1 h))
  left_is (some n) h =
      let same : (stepped_by s e).station ≡ s = unfold stepped_by in rw h in
      let stays = (refusal-leaves-all (station_bytes s) [] e n (rw f.1 h)).0 in
      (stays ∙ ap station_bytes (sym same), rw same f)

along : (s : Station) → FoundAgain s → (es : List Event)
    → (returned_by (station_bytes s) es ≡ packed_by s es)
    × (left_by (station_bytes s) es ≡ station_bytes (handed_by s es))
    × ((e : Event) (room : List ℕ) → room_left (left_by (station_bytes s) es) room e ≡ room_after (handed_by s es) room e)
unfolding room_left
along s f [] = (refl, refl, λ e room. rw f.1)
along s f (e ∷ es) =
    let l = left_is s f e (refusal s e) refl in
    let more = along (stepped_by s e).station l.1 es in
    (rw (returned-is s f e, l.0, more.0), rw l.0 more.1, rw l.0 more.2)

pub set-up : (c : Config) (begun : Station) (lent : List ℕ) → set_up_of c ≡ Ok begun → sized lent ≡ true → station_set_up c lent ≡ station_bytes begun
unfolding station_set_up
set-up c begun lent h w = rw h (laid-whole begun lent w)

pub host-hands-on : HostHandsOn
host-hands-on c begun lent h w es = rw (set-up c begun lent h w) (along begun (handed-out-is-found-again.0 c begun h) es)
