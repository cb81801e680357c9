-- What the contract of a call's entry says, the answer and the count in the number that it returns; that every event has its call, and
-- that the rules accept none that C cannot hand in.
use Prim.Native.Nat.{ℕ, ◌≤◌, ◌<◌, ◌/◌, ◌%◌}
use mathlib.Core.Path.{◌≡◌, refl, ap, ◌∙◌}
use mathlib.Core.Bool.{Bool, true, false, ◌||◌}
use mathlib.Core.List.{List, [], ◌∷◌}
use native.Mathlib.Omega.{arith}
use lib.Dec.{leb, eqb}
use lib.ListN.{length}
use borrow.Author.Tests.{le-leb, leb-true, ltb-true, eqb-true}
use contract.Lifetimes.{Lfts}
use denote.MutBor.{MutBor}
use Rattle.sequence.specs.Symbols.{within, all_at_most}
use Rattle.sequence.specs.Identity.{is_ship}
use Rattle.sequence.specs.Answers.{is_done}
use Rattle.reading.proofs.Passed.{passed}
use Rattle.rules.specs.Rules.Words.{Happened, heard, signal, operator, line_dialled_out, line_lifted, line_hung, carrier_heard, carrier_lost, hand_takes, hand_gives, dialling_ended, off_hook, on_hook, carrier_up, carrier_down, takes, gives_back, What, tick, on_channel70, on_slot, from_ashore, Config, Event}
use Rattle.rules.specs.Rules.Ashore.{is_mode}
use Rattle.rules.specs.Rules.Station.{Station}
use Rattle.rules.specs.Rules.Sound.{limit, number_keeps}
use Rattle.rules.specs.Rules.Verdict.{reader_says, read_on}
use Rattle.sequence.proofs.Tests.{both_true}
use Rattle.rules.proofs.Accepted.{Accepted, accepted}
use Rattle.soundness.proofs.FitLaws.{sound-fits}
use Rattle.station.specs.declared.Stepped.{Stepped}
use Rattle.station.specs.Step.{event_at, ashore_of, stepped_by}
use Rattle.lent_layout.specs.Stations.{station_from}
use Rattle.coast.specs.Events.{packed, returned, station_after, room_left}
use Rattle.coast.proofs.Theorems.{taken-apart}
use Rattle.station_theorems.proofs.Steps.{lives, lent, lent_mut}
use Rattle.host_theorems.specs.Calls.{Call, call_of, WhatInC, HappenedInC, Entered, by-tick, by-heard-on-channel-70, by-heard-on-slot, by-carrier-up, by-carrier-down, by-dialling-ended, by-off-hook, by-on-hook, by-take-slot, by-give-back, by-call-from-ashore}
use Rattle.host_theorems.specs.Sequences.{InBytes}
use Rattle.host_theorems.specs.Scripts.{AcceptedIsInC}
use Rattle.host_theorems.specs.Statement.{answer_in, count_in}
use Rattle.host_theorems.proofs.Small.{stepped-in-byte}

pub record Called (x : Call) : Type 0 where
  pub time : ℕ
  pub what : What
  pub event-is : x.event ≡ event_at time what x.lent
  pub number_is : x.number ≡ returned x.station x.event
  pub kept-is : x.kept ≡ station_after x.station x.event
  pub left_is : x.left ≡ room_left x.station x.lent x.event

pub called : (x : Call) → Entered x → Called x
called _ (by-tick κs a r s p) = record { time = a.1.0; what = tick; event-is = refl; number_is = p.0; kept-is = p.1.0; left_is = p.1.1 }
called _ (by-heard-on-channel-70 κs a r s p) = record { time = a.1.0; what = on_channel70 a.1.1.0.now; event-is = refl; number_is = p.0; kept-is = p.1.0; left_is = p.1.1 }
called _ (by-heard-on-slot κs a r s p) = record { time = a.1.0; what = on_slot a.1.1.0 (heard a.1.1.1.0.now); event-is = refl; number_is = p.0; kept-is = p.1.0; left_is = p.1.1 }
called _ (by-carrier-up κs a r s p) = record { time = a.1.0; what = on_slot a.1.1.0 carrier_up; event-is = refl; number_is = p.0; kept-is = p.1.0; left_is = p.1.1 }
called _ (by-carrier-down κs a r s p) = record { time = a.1.0; what = on_slot a.1.1.0 carrier_down; event-is = refl; number_is = p.0; kept-is = p.1.0; left_is = p.1.1 }
called _ (by-dialling-ended κs a r s p) = record { time = a.1.0; what = on_slot a.1.1.0 dialling_ended; event-is = refl; number_is = p.0; kept-is = p.1.0; left_is = p.1.1 }
called _ (by-off-hook κs a r s p) = record { time = a.1.0; what = on_slot a.1.1.0 off_hook; event-is = refl; number_is = p.0; kept-is = p.1.0; left_is = p.1.1 }
called _ (by-on-hook κs a r s p) = record { time = a.1.0; what = on_slot a.1.1.0 on_hook; event-is = refl; number_is = p.0; kept-is = p.1.0; left_is = p.1.1 }
called _ (by-take-slot κs a r s p) = record { time = a.1.0; what = on_slot a.1.1.0 takes; event-is = refl; number_is = p.0; kept-is = p.1.0; left_is = p.1.1 }
called _ (by-give-back κs a r s p) = record { time = a.1.0; what = on_slot a.1.1.0 gives_back; event-is = refl; number_is = p.0; kept-is = p.1.0; left_is = p.1.1 }
called _ (by-call-from-ashore κs a r s p) = record { time = a.1.0; what = ashore_of a.1.1.0 a.1.1.1.0 a.1.1.1.1.0.now; event-is = refl; number_is = p.0; kept-is = p.1.0; left_is = p.1.1 }

-- the answer and the count in the number are those of the step
module _ (x : Call) (a : Entered x) where
  abbrev stepped : Stepped
  stepped = stepped_by (station_from x.station) x.event

  number_is : x.number ≡ packed stepped
  unfolding returned
  number_is = (called x a).number_is

  small : (stepped.answer < 256) × (stepped.count < 256)
  small = stepped-in-byte (station_from x.station) x.event

  pub answer-is : answer_in x ≡ stepped.answer
  answer-is = ap (λ n. n % 256) number_is ∙ (taken-apart stepped small.0 small.1).0

  pub count-is : count_in x ≡ stepped.count
  count-is = ap (λ n. n / 256 % 256) number_is ∙ (taken-apart stepped small.0 small.1).1

-- ── a call for every event on any bytes ─────────────────────────────────────

more-lives : Lfts 3
more-lives = ([], lives)

module _ (b room : List ℕ) (time : ℕ) where
  abbrev pub call_for : What → Call
  call_for w = call_of (event_at time w room) b room (returned b (event_at time w room)) (station_after b (event_at time w room)) (room_left b room (event_at time w room))

  -- the parameters of an event on a slot
  abbrev onto : ℕ → List ℕ → List ℕ → MutBor (List ℕ) × (ℕ × (ℕ × (MutBor (List ℕ) × Unit {0})))
  onto i bytes l = (lent_mut bytes, (time, (i, (lent_mut l, tt))))

  on-slot : (i : ℕ) (h : Happened) → Entered (call_for (on_slot i h))
  on-slot i (signal line_dialled_out) = by-dialling-ended lives (onto i b room) _ (onto i _ _) (refl, (refl, refl))
  on-slot i (signal line_lifted) = by-off-hook lives (onto i b room) _ (onto i _ _) (refl, (refl, refl))
  on-slot i (signal line_hung) = by-on-hook lives (onto i b room) _ (onto i _ _) (refl, (refl, refl))
  on-slot i (signal carrier_heard) = by-carrier-up lives (onto i b room) _ (onto i _ _) (refl, (refl, refl))
  on-slot i (signal carrier_lost) = by-carrier-down lives (onto i b room) _ (onto i _ _) (refl, (refl, refl))
  on-slot i (operator hand_takes) = by-take-slot lives (onto i b room) _ (onto i _ _) (refl, (refl, refl))
  on-slot i (operator hand_gives) = by-give-back lives (onto i b room) _ (onto i _ _) (refl, (refl, refl))
  on-slot i (heard m) = by-heard-on-slot more-lives (lent_mut b, (time, (i, (lent m, (lent_mut room, tt))))) _ (lent_mut _, (time, (i, (lent m, (lent_mut _, tt))))) (refl, (refl, refl))

  pub call-entered : (w : What) → Entered (call_for w)
  call-entered tick = by-tick lives (lent_mut b, (time, (lent_mut room, tt))) _ (lent_mut _, (time, (lent_mut _, tt))) (refl, (refl, refl))
  call-entered (on_channel70 m) = by-heard-on-channel-70 more-lives (lent_mut b, (time, (lent m, (lent_mut room, tt)))) _ (lent_mut _, (time, (lent m, (lent_mut _, tt)))) (refl, (refl, refl))
  call-entered (on_slot i h) = on-slot i h
  call-entered (from_ashore a) = by-call-from-ashore more-lives (lent_mut b, (time, (a.ship, (a.mode, (lent a.digits, (lent_mut room, tt)))))) _ (lent_mut _, (time, (a.ship, (a.mode, (lent a.digits, (lent_mut _, tt)))))) (refl, (refl, refl))

-- ── what the rules accept C can hand in ──────────────────────────────────────

in_bytes : (most : ℕ) → most ≤ 255 → (l : List ℕ) → all_at_most most l ≡ true → InBytes l
in_bytes most few [] h = refl
in_bytes most few (a ∷ l) h =
    let w = both_true (leb a most) (all_at_most most l) h in
    rw (le-leb a 255 (omega (arith, leb-true a most w.0))) (in_bytes most few l w.1)

read-in-bytes : (m : List ℕ) → is_done (reader_says m) ≡ true → InBytes m
read-in-bytes m h = in_bytes 127 (omega arith) m (passed m h).symbols

happened-in-c : (h : Happened) → is_done (read_on h) ≡ true → HappenedInC h
happened-in-c (heard m) r = read-in-bytes m r
happened-in-c (signal g) r = tt
happened-in-c (operator n) r = tt

ship-in-c : (n : ℕ) → is_ship n ≡ true → n < 4294967296
unfolding is_ship
ship-in-c n h = omega (arith, leb-true n 799999999 (both_true (leb 200000000 n) (leb n 799999999) h).1)

mode-in-c : (n : ℕ) → is_mode n ≡ true → n < 4294967296
mode-in-c n h = go (eqb n 100) refl h
  where
    go : (b : Bool) → eqb n 100 ≡ b → (b || eqb n 101) ≡ true → n < 4294967296
    go true e k = omega (arith, eqb-true n 100 e)
    go false e k = omega (arith, eqb-true n 101 k)

digits-in-c : (l : List ℕ) → number_keeps l ≡ true → InBytes l
unfolding number_keeps
digits-in-c l h = in_bytes 9 (omega arith) l (both_true (within 1 16 (length l)) (all_at_most 9 l) h).1

module _ (c : Config) (st : Station) (e : Event) (a : Accepted c st e) (few : length st.slots ≤ 16) where
  what-in-c : (w : What) → e.what ≡ w → WhatInC w
  what-in-c tick k = tt
  what-in-c (on_channel70 m) k = read-in-bytes m (rw k at a.readable)
  what-in-c (on_slot i h) k = let n = ltb-true i (length st.slots) (rw k at a.there) in (omega arith, happened-in-c h (rw k at a.readable))
  what-in-c (from_ashore x) k = (ship-in-c x.ship (rw k at a.ship), (mode-in-c x.mode (rw k at a.mode), digits-in-c x.digits (rw k at a.number)))

pub accepted-is-in-c : AcceptedIsInC
unfolding AcceptedIsInC
accepted-is-in-c c st e v =
    let a = accepted c st e v in
    let time : e.time ≤ limit = leb-true e.time limit a.in-limit in
    (omega arith, what-in-c c st e a (sound-fits c st a.is-sound).few e.what refl)
