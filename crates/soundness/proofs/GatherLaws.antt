-- Numbers gathered from a station's records, and what it says of the records that none of them stands twice.
use Prim.Native.Nat.{ℕ, ◌+◌, ◌<◌, ◌≤◌, min}
use mathlib.Core.Bool.{Bool, true, false, cond, ◌&&◌, ◌||◌}
use mathlib.Core.List.{List, [], ◌∷◌, ◌++◌, map, append_assoc, append-nil}
use mathlib.Core.Path.{◌≡◌, refl, sym, ap, ◌∙◌}
use native.Mathlib.Omega.{arith}
use lib.Dec.{eqb, leb}
use Rattle.std.proofs.Math.Bool as B
use Rattle.std.specs.List.{list_all}
use Rattle.std.proofs.lemmas.List.{take-map}
use lib.ListN.{length, take, get_or, set, length-append}
use borrow.Author.Tests.{eqb-true, eq-eqb, le-leb, lt-leb, leb-true, leb-false}
use Rattle.units.specs.declared.Channel.{Channel}
use Rattle.sequence.specs.Identity.{is_ship}
use Rattle.rules.specs.Rules.Words.{is, Party, Request, Config, ours}
use Rattle.rules.specs.Rules.Places.{all, elem, distinct}
use Rattle.rules.specs.Rules.Heard.{same_channel}
use Rattle.rules.specs.Rules.Station.{Dealing}
use Rattle.sequence.specs.Field.{channel_ok}
use Rattle.rules.specs.Rules.Sound.{channels_keep, request_keeps, duration_keeps, slot_keeps, waiting_keeps, owner, owners}
use Rattle.sequence.proofs.Tests.{both_true}
use Rattle.rules.specs.Rules.Bytes.{padded}
use Rattle.requests.specs.Views.{viewed, itself, request_of}
use Rattle.requests.proofs.ArrayLaws.{padded-front, padded-snoc, viewed-more, viewed-min, viewed-length}
use Rattle.slots.specs.declared.Phase.{Phase}
use Rattle.slots.specs.declared.Slot.{Slot}
use Rattle.slots.specs.declared.Waiting.{Waiting}
use Rattle.slots.specs.Views.{dealing_of, slot_view, waiting_view, channel_of, no_slot, no_waiting}
use Rattle.slots.specs.Phases.{phase_view, owned, lasted_in}
use Rattle.slots.proofs.PhaseLaws.{owner-view, keeps-view, owned-stored}
use Rattle.soundness.specs.Soundly.{number_of, ships_of, ship_at}

abbrev channel_number : Channel → ℕ
channel_number c = c.0

abbrev ship : Party → ℕ
ship x = x.ship

-- ── a room that is filled from its front ──

-- the first c of the room's numbers are the list, and the rest is 0
pub record Filled (l : List ℕ) (room : List ℕ) (c : ℕ) : Type 0 where
  pub holds : room ≡ padded 0 48 l
  pub count : c ≡ length l

pub filled_more : (l room : List ℕ) (c x : ℕ) → length l < 48 → Filled l room c → Filled (l ++ (x ∷ [])) (set room c x) (c + 1)
filled_more l room c x h f =
    record {
      holds = rw (f.holds, f.count) (padded-snoc 0 48 l x h);
      count = let e : length (l ++ (x ∷ [])) ≡ length l + 1 = simp length-append in omega (arith, e, f.count);
    }

filled-front : (l room : List ℕ) (c : ℕ) → length l ≤ 48 → Filled l room c → take c room ≡ l
filled-front l room c h f = rw (f.holds, f.count) (padded-front 0 48 l h)

-- ── the ships of the slots ──

ships-snoc : (l : List Slot) (s : Slot) → ships_of (l ++ (s ∷ [])) ≡ ships_of l ++ cond (owned s.phase) (s.request.ship ∷ []) []
ships-snoc [] s = refl
ships-snoc (t ∷ l) s = go (owned t.phase) (ships-snoc l s)
  where
    go : (b : Bool) → ships_of (l ++ (s ∷ [])) ≡ ships_of l ++ cond (owned s.phase) (s.request.ship ∷ []) [] → cond b (t.request.ship ∷ ships_of (l ++ (s ∷ []))) (ships_of (l ++ (s ∷ []))) ≡ cond b (t.request.ship ∷ ships_of l) (ships_of l) ++ cond (owned s.phase) (s.request.ship ∷ []) []
    go true e = ap (λ r. t.request.ship ∷ r) e
    go false e = e

module _ (i : ℕ) (a : List Slot) (h : i < length a) where
  pub ship-more : owned (get_or a i no_slot).phase ≡ true → ships_of (viewed itself (i + 1) a) ≡ ships_of (viewed itself i a) ++ ((get_or a i no_slot).request.ship ∷ [])
  ship-more e = rw (viewed-more itself i a no_slot h, ships-snoc (viewed itself i a) (get_or a i no_slot), e)

  pub ship-none : owned (get_or a i no_slot).phase ≡ false → ships_of (viewed itself (i + 1) a) ≡ ships_of (viewed itself i a)
  ship-none e = rw (viewed-more itself i a no_slot h, ships-snoc (viewed itself i a) (get_or a i no_slot), e) (append-nil (ships_of (viewed itself i a)))

pub ship-waits : (l : List ℕ) (k : ℕ) (b : List Waiting) → k < length b → l ++ viewed ship_at (k + 1) b ≡ (l ++ viewed ship_at k b) ++ ((get_or b k no_waiting).request.ship ∷ [])
ship-waits l k b h = rw (viewed-more ship_at k b no_waiting h) (sym (append_assoc l (viewed ship_at k b) ((get_or b k no_waiting).request.ship ∷ [])))

pub ships-front : (n j : ℕ) (a : List Slot) (m k : ℕ) (b : List Waiting) (room : List ℕ) (c : ℕ) → j ≡ min n (length a) → k ≡ min m (length b) → c ≤ 48 → Filled (ships_of (viewed itself j a) ++ viewed ship_at k b) room c → take c room ≡ ships_of (viewed itself n a) ++ viewed ship_at m b
ships-front n j a m k b room c e d h f =
    filled-front (ships_of (viewed itself j a) ++ viewed ship_at k b) room c (rw (← f.count) h) f
    ∙ ap (λ l. ships_of l ++ viewed ship_at k b) (rw (← e) at (viewed-min itself n a))
    ∙ ap (λ l. ships_of (viewed itself n a) ++ l) (rw (← d) at (viewed-min ship_at m b))

-- ── the channels of the slots ──

pub channels-front : (n i : ℕ) (a : List Slot) (room : List ℕ) → i ≡ min n (length a) → i ≤ 16 → room ≡ padded 0 16 (viewed number_of i a) → take i room ≡ viewed number_of n a
channels-front n i a room e h k =
    let l = viewed number_of i a in
    let c : length l ≡ i = omega (arith, viewed-length number_of i a) in
    rw k (ap (λ j. take j (padded 0 16 l)) (sym c) ∙ padded-front 0 16 l (omega arith) ∙ (rw (← e) at (viewed-min number_of n a)))

-- ── none stands twice ──

channel-among : (x : Channel) (l : List Channel) → elem same_channel x l ≡ elem eqb x.0 (map channel_number l)
channel-among x [] = refl
channel-among x (y ∷ l) = ap (λ e. eqb x.0 y.0 || e) (channel-among x l)

channels-once : (l : List Channel) → distinct same_channel l ≡ distinct eqb (map channel_number l)
channels-once [] = refl
channels-once (x ∷ l) = rw (channel-among x l, channels-once l)

pub channels-apart : (n : ℕ) (a : List Slot) → distinct eqb (viewed number_of n a) ≡ distinct same_channel (viewed channel_of n a)
unfolding viewed
channels-apart n a = sym (channels-once (map channel_of (take n a)) ∙ ap (distinct eqb) (numbers (take n a)))
  where
    numbers : (l : List Slot) → map channel_number (map channel_of l) ≡ map number_of l
    numbers [] = refl
    numbers (s ∷ l) = ap (λ r. s.channel.0 ∷ r) (numbers l)

all-listed : {A B : Type 0} (v : A → B) (f : B → Bool) (l : List A) → list_all (λ x. f (v x)) l ≡ all f (map v l)
all-listed v f [] = refl
all-listed v f (x ∷ l) = ap (λ b. f (v x) && b) (all-listed v f l)

least_one : (n k : ℕ) → k ≡ min n 16 → leb 1 k ≡ leb 1 n
least_one n k e = go (leb 1 n) refl
  where
    go : (b : Bool) → leb 1 n ≡ b → leb 1 k ≡ b
    go true p = le-leb 1 k (omega (arith, leb-true 1 n p))
    go false p = lt-leb 1 k (omega (arith, leb-false 1 n p))

-- "1 to 16 distinct channels of the kind above", of the first n slots of the array
pub channel_parts : (n : ℕ) (a : List Slot) → length a ≡ 16 → channels_keep (viewed channel_of n a) ≡ (leb 1 n && (list_all (λ s. channel_ok (channel_of s)) (take (min n 16) a) && distinct eqb (take (min n 16) (map number_of a))))
unfolding channels_keep viewed
channel_parts n a e =
    let l = viewed channel_of n a in
    let k : length l ≡ min n 16 = omega (arith, viewed-length channel_of n a) in
    let few = le-leb (length l) 16 (omega (arith, k)) in
    let one = least_one n (length l) k in
    let good : list_all (λ s. channel_ok (channel_of s)) (take (min n 16) a) ≡ all channel_ok l = all-listed channel_of channel_ok (take (min n 16) a) ∙ ap (all channel_ok) (first channel_of) in
    let apart : distinct eqb (take (min n 16) (map number_of a)) ≡ distinct same_channel l = ap (distinct eqb) (take-map number_of (min n 16) a ∙ first number_of) ∙ channels-apart n a in
    rw (few, one, good, apart, B.and-true (leb 1 n))
  where
    first : {B : Type 0} (v : Slot → B) → map v (take (min n 16) a) ≡ viewed v n a
    first v = rw e at (viewed-min v n a)

-- ships that call one station are told apart by their own numbers
module _ (c : Config) where
  abbrev here : Party → Bool
  here x = ours c x.station

  ship-among : (x : Party) (l : List Party) → here x ≡ true → all here l ≡ true → elem is x l ≡ elem eqb x.ship (map ship l)
  unfolding is
  ship-among x [] k h = refl
  ship-among x (y ∷ l) k h =
      let a = both_true (here y) (all here l) h in
      let e : eqb x.station y.station ≡ true = eq-eqb x.station y.station (eqb-true x.station _ k ∙ sym (eqb-true y.station _ a.0)) in
      rw (e, ship-among x l k a.1) (ap (λ b. b || elem eqb x.ship (map ship l)) (B.and-true (eqb x.ship y.ship)))

  ships-once : (l : List Party) → all here l ≡ true → distinct is l ≡ distinct eqb (map ship l)
  ships-once [] h = refl
  ships-once (x ∷ l) h = let a = both_true (here x) (all here l) h in rw (ship-among x l a.0 a.1, ships-once l a.1)

  request-here : (r : Request) → request_keeps c r ≡ true → here r.who ≡ true
  unfolding request_keeps
  request-here r h = (both_true (here r.who) _ (both_true (is_ship r.who.ship) _ h).1).0

  owner_here : (p : Phase) (r : Dealing) (l : List Party) → slot_keeps c (phase_view p r) ≡ true → all here l ≡ true → all here (owner (phase_view p r) l) ≡ true
  owner_here p r l k h = rw (owner-view p r l) (go (owned p) refl)
    where
      go : (b : Bool) → owned p ≡ b → all here (cond b (r.request.who ∷ l) l) ≡ true
      go true e =
          let keeps : (duration_keeps (lasted_in p) && request_keeps c r.request) ≡ true = rw (owned-stored p e) at (sym (keeps-view c p r) ∙ k) in
          rw (request-here r.request (both_true (duration_keeps (lasted_in p)) _ keeps).1, h)
      go false e = h

  owners-here : (ss : List Slot) (l : List Party) → all (slot_keeps c) (map slot_view ss) ≡ true → all here l ≡ true → all here (owners (map slot_view ss) l) ≡ true
  owners-here [] l k h = h
  owners-here (s ∷ ss) l k h = let a = both_true (slot_keeps c (slot_view s)) _ k in owner_here s.phase (dealing_of s) (owners (map slot_view ss) l) a.0 (owners-here ss l a.1 h)

  queue-here : (q : List Waiting) → all (waiting_keeps c) (map waiting_view q) ≡ true → all here (map (λ w. w.request.who) (map waiting_view q)) ≡ true
  queue-here [] h = refl
  queue-here (w ∷ q) h = let a = both_true (request_keeps c (request_of w.request)) _ h in rw (request-here (request_of w.request) a.0, queue-here q a.1)

-- whose the slots are, and who waits
owners-ships : (l : List Slot) (q : List Waiting) → map ship (owners (map slot_view l) (map (λ w. w.request.who) (map waiting_view q))) ≡ ships_of (map itself l) ++ map ship_at q
unfolding request_of
owners-ships [] [] = refl
owners-ships [] (w ∷ q) = ap (λ r. w.request.ship ∷ r) (owners-ships [] q)
owners-ships (s ∷ l) q = rw (owner-view s.phase (dealing_of s) (owners (map slot_view l) (map (λ w. w.request.who) (map waiting_view q)))) (go (owned s.phase) (owners-ships l q))
  where
    go : (b : Bool) → map ship (owners (map slot_view l) (map (λ w. w.request.who) (map waiting_view q))) ≡ ships_of (map itself l) ++ map ship_at q → map ship (cond b ((request_of s.request).who ∷ owners (map slot_view l) (map (λ w. w.request.who) (map waiting_view q))) (owners (map slot_view l) (map (λ w. w.request.who) (map waiting_view q)))) ≡ cond b (s.request.ship ∷ ships_of (map itself l)) (ships_of (map itself l)) ++ map ship_at q
    go true e = ap (λ r. s.request.ship ∷ r) e
    go false e = e

-- the law: where every stored request is to this station, no number stands twice exactly if no ship does
pub ships-apart : (c : Config) (n : ℕ) (a : List Slot) (m : ℕ) (b : List Waiting) → all (slot_keeps c) (viewed slot_view n a) ≡ true → all (waiting_keeps c) (viewed waiting_view m b) ≡ true → distinct eqb (ships_of (viewed itself n a) ++ viewed ship_at m b) ≡ distinct is (owners (viewed slot_view n a) (map (λ w. w.request.who) (viewed waiting_view m b)))
unfolding viewed
ships-apart c n a m b k h =
    let q = map (λ w. w.request.who) (map waiting_view (take m b)) in
    sym (ships-once c (owners (map slot_view (take n a)) q) (owners-here c (take n a) q k (queue-here c (take m b) h)) ∙ ap (distinct eqb) (owners-ships (take n a) (take m b)))
