-- Document 01's sample script: what the contracts force, and that no useless version meets them.
use Prim.Native.Nat.{ℕ, ◌*◌, ◌<◌}
use mathlib.Core.Path.{◌≡◌, refl, sym, ap, ◌∙◌}
use mathlib.Core.List.{List, [], ◌∷◌, ◌++◌}
use native.Mathlib.Omega.{arith}
use lib.ListN.{get_or, drop}
use borrow.Author.Tests.{leb-false, lt-leb}
use Rattle.rules.specs.Rules.Bytes.{padded, block}
use Rattle.rules.specs.Rules.Station.{fresh}
use Rattle.rules.specs.Tables.Runs.{station}
use Rattle.rules.specs.Tables.Cases.{sample_shows}
use Rattle.rules.proofs.Computed.{sample-computed}
use Rattle.station.specs.declared.Station.{Station}
use Rattle.station.specs.Model.{image_of}
use Rattle.station_theorems.specs.Rooms.{shown_in}
use Rattle.station_theorems.specs.Steps.{Step, Allowed}
use Rattle.station_theorems.specs.Statement.{RefusalsLeaveAll, RackShows, RoomsStay, all_shown, laid_out}
use Rattle.station_theorems.specs.Sample.{Sampled, Forced, SampleForced, refuses-everything, has-one-fixed-reply, does-nothing, only-says-done-after-the-first, invents-the-count, moves-the-clock-at-a-refusal, writes-a-byte-at-a-refusal, NoneUseless}
use Rattle.station_theorems.proofs.Steps.{refusals-leave-all, rooms-stay}
use Rattle.station_theorems.proofs.Traces.{started}
use Rattle.station_theorems.proofs.Theorems.{rack-shows}

-- the k-th number that the i-th step prints first, and what it shows of its room
abbrev said : ℕ → ℕ → List (List (List ℕ)) → ℕ
said i k l = get_or (get_or (get_or l i []) 0 []) k 0

abbrev told : ℕ → List (List (List ℕ)) → List (List ℕ)
told i l = drop 1 (get_or l i [])

module _ (q h u t : Step) (s : Sampled q h u t) where
  shows : all_shown (q ∷ h ∷ u ∷ t ∷ []) ≡ sample_shows
  unfolding RackShows
  shows = rack-shows (station 1) (q ∷ h ∷ u ∷ t ∷ []) s.trace ∙ (rw s.script sample-computed)

  -- set-up's station is at clock 0
  clock-0 : s.trace.first.clock.0 ≡ 0
  unfolding image_of fresh
  clock-0 = rw (started (station 1) s.trace.first s.trace.begun).1 refl

  -- a room that holds what is shown
  laid : (x : Step) → Allowed x → (n : ℕ) (l : List (List ℕ)) → x.back.count ≡ n → shown_in x.back.count x.left ≡ l → x.left ≡ laid_out l ++ drop (40 * n) x.lent
  unfolding RoomsStay
  laid x a n l e f = rw (← e, ← f) (rooms-stay x a)

  refused : (x : Step) → Allowed x → (n : ℕ) → 1 < n → x.back.answer ≡ n → (x.back.station ≡ x.before) × (x.left ≡ x.lent)
  unfolding RefusalsLeaveAll
  refused x a n m e = let r = refusals-leave-all x a (rw e (lt-leb n 1 m)) in (r.0, r.1.0)

  forced : Forced q h u t
  unfolding block padded
  forced =
      let a = s.trace.steps.1 in
      let b = a.1 in
      let c = b.1.1 in
      let d = c.1.1 in
      let on-h = refused h b.1.0 32 (omega arith) (ap (said 1 0) shows) in
      let on-u = refused u c.1.0 33 (omega arith) (ap (said 2 0) shows) in
      record {
        shown = shows;
        q_room = laid q a.0 2 _ (ap (said 0 2) shows) (ap (told 0) shows);
        h-room = on-h.1;
        h-station = on-h.0;
        u-room = on-u.1;
        u-station = on-u.0;
        t-room = laid t d.1.0 1 _ (ap (said 3 2) shows) (ap (told 3) shows);
      }

pub sample-forced : SampleForced
unfolding SampleForced
sample-forced q h u t s = forced q h u t s

pub none-useless : NoneUseless
unfolding NoneUseless
none-useless q h u t s (refuses-everything e) =
    let a = ap (said 0 0) (shows q h u t s) in
    omega (arith, a, leb-false q.back.answer 1 e)
none-useless q h u t s (has-one-fixed-reply e) =
    let a = ap (said 0 0) (shows q h u t s) in
    let b = ap (said 1 0) (shows q h u t s) in
    omega (arith, a, b, e)
none-useless q h u t s (does-nothing e) =
    let a = ap (said 0 1) (shows q h u t s) in
    let b : q.before.clock.0 ≡ 0 = rw s.trace.steps.0 (clock-0 q h u t s) in
    let c : q.back.station.clock.0 ≡ q.before.clock.0 = ap (λ (z : Station). z.clock.0) e in
    omega (arith, a, b, c)
none-useless q h u t s (only-says-done-after-the-first e) =
    let b = ap (said 1 0) (shows q h u t s) in
    omega (arith, b, e)
none-useless q h u t s (invents-the-count n f e) = f (sym e ∙ ap (said 0 2) (shows q h u t s))
none-useless q h u t s (moves-the-clock-at-a-refusal f) = f (ap (λ (z : Station). z.clock) (forced q h u t s).h-station)
none-useless q h u t s (writes-a-byte-at-a-refusal f) = f (forced q h u t s).u-room
