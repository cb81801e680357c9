-- What is seen record by record is what document 01 says of the station.
use Prim.Native.Nat.{ℕ, min}
use mathlib.Core.Bool.{Bool, true, false, ◌&&◌}
use mathlib.Core.List.{List, [], ◌∷◌, ◌++◌, map}
use mathlib.Core.Path.{◌≡◌, refl, sym, ap, ◌∙◌}
use native.Mathlib.Omega.{arith}
use lib.Dec.{leb, eqb}
use lib.ListN.{length, take}
use borrow.Author.Tests.{leb-true, le-leb, eq-eqb}
use Rattle.units.specs.declared.Tenths.{Tenths}
use Rattle.sequence.specs.Symbols.{within}
use Rattle.sequence.specs.Field.{channel_ok}
use Rattle.rules.specs.Rules.Places.{all, distinct}
use Rattle.rules.specs.Rules.Heard.{same_channel}
use Rattle.rules.specs.Rules.Station as R
use Rattle.rules.specs.Rules.Sound.{identity_keeps, channels_keep, config_keeps, one_slot_each, slot_keeps, waiting_keeps, slot_fits, place_fits, limit, sound}
use Rattle.sequence.proofs.Tests.{both_true}
use Rattle.rules.proofs.Accepted.{sounds, is-sound}
use Rattle.requests.specs.Views.{viewed, itself}
use Rattle.requests.proofs.ArrayLaws.{viewed-length}
use Rattle.slots.specs.declared.Slot.{Slot}
use Rattle.slots.specs.declared.Waiting.{Waiting}
use Rattle.slots.specs.declared.mast.Mast.{Mast}
use Rattle.slots.specs.Views.{named, slot_view, waiting_view, channel_of, config_for}
use Rattle.sound_records.specs.Kept.{slot_exact, waiting_exact, slot_sound, waiting_sound}
use Rattle.sound_records.proofs.KeepLaws.{slots-alike, queue-alike}
use Rattle.soundness.specs.Soundly.{head_sound, number_of, ships_of, ship_at}
use Rattle.soundness.proofs.GatherLaws.{channels-apart, ships-apart}

-- ── a test of several parts over a list ──

swap : (a b c d : Bool) → ((a && b) && (c && d)) ≡ ((a && c) && (b && d))
swap false b c d = refl
swap true b true d = refl
swap true true false d = refl
swap true false false d = refl

all-and : {A : Type 0} (f g : A → Bool) (l : List A) → all (λ x. f x && g x) l ≡ (all f l && all g l)
all-and f g [] = refl
all-and f g (x ∷ l) = rw (all-and f g l) (swap (f x) (g x) (all f l) (all g l))

all-viewed : {A B : Type 0} (v : A → B) (f : B → Bool) (n : ℕ) (a : List A) → all (λ x. f (v x)) (viewed itself n a) ≡ all f (viewed v n a)
unfolding viewed
all-viewed {A = A} v f n a = go (take n a)
  where
    go : (l : List A) → all (λ x. f (v x)) (map itself l) ≡ all f (map v l)
    go [] = refl
    go (x ∷ l) = ap (λ b. f (v x) && b) (go l)

same_truth : (a b : Bool) → (a ≡ true → b ≡ true) → (b ≡ true → a ≡ true) → a ≡ b
same_truth true b f g = sym (f refl)
same_truth false true f g = g refl
same_truth false false f g = refl

module _ (mast : Mast) (clock : Tenths) where
  slots-parts : (n : ℕ) (a : List Slot) → all (slot_sound mast clock) (viewed itself n a) ≡ (all channel_ok (viewed channel_of n a) && (all (slot_fits clock.0) (viewed slot_view n a) && (all (slot_keeps (named mast)) (viewed slot_view n a) && all slot_exact (viewed itself n a))))
  unfolding slot_sound
  slots-parts n a =
      let l = viewed itself n a in
      let keeps : Slot → Bool = λ s. slot_keeps (named mast) (slot_view s) in
      let fits : Slot → Bool = λ s. slot_fits clock.0 (slot_view s) in
      all-and (λ s. channel_ok (channel_of s)) (λ s. fits s && (keeps s && slot_exact s)) l
      ∙ rw (all-and fits (λ s. keeps s && slot_exact s) l, all-and keeps slot_exact l, all-viewed channel_of channel_ok n a, all-viewed slot_view (slot_fits clock.0) n a, all-viewed slot_view (slot_keeps (named mast)) n a) refl

  queue-parts : (m : ℕ) (b : List Waiting) → all (waiting_sound mast clock) (viewed itself m b) ≡ (all (place_fits clock.0) (viewed waiting_view m b) && (all (waiting_keeps (named mast)) (viewed waiting_view m b) && all waiting_exact (viewed itself m b)))
  unfolding waiting_sound
  queue-parts m b =
      let l = viewed itself m b in
      let keeps : Waiting → Bool = λ w. waiting_keeps (named mast) (waiting_view w) in
      let fits : Waiting → Bool = λ w. place_fits clock.0 (waiting_view w) in
      all-and fits (λ w. keeps w && waiting_exact w) l
      ∙ rw (all-and keeps waiting_exact l, all-viewed waiting_view (place_fits clock.0) m b, all-viewed waiting_view (waiting_keeps (named mast)) m b) refl

  module _ (n : ℕ) (a : List Slot) (m : ℕ) (b : List Waiting) (last : ℕ) (ea : length a ≡ 16) (eb : length b ≡ 32) where
    abbrev pub station : R.Station
    station = record { clock = clock.0; slots = viewed slot_view n a; queue = viewed waiting_view m b; last_call = last }

    abbrev pub seen : Bool
    seen =
        distinct eqb (ships_of (viewed itself n a) ++ viewed ship_at m b)
        && (distinct eqb (viewed number_of n a)
        && (all (waiting_sound mast clock) (viewed itself m b)
        && (all (slot_sound mast clock) (viewed itself n a)
        && head_sound mast clock n m)))

    abbrev pub held : Bool
    held =
        (leb n 16 && (leb m 32 && (all slot_exact (viewed itself n a) && all waiting_exact (viewed itself m b))))
        && sound (config_for mast n a) station

    ahead : seen ≡ true → held ≡ true
    unfolding head_sound config_keeps identity_keeps channels_keep one_slot_each
    ahead h =
        let l = viewed channel_of n a in
        let k : length l ≡ min n 16 = viewed-length channel_of n a ∙ ap (min n) ea in
        let ships = both_true (distinct eqb (ships_of (viewed itself n a) ++ viewed ship_at m b)) _ h in
        let numbers = both_true (distinct eqb (viewed number_of n a)) _ ships.1 in
        let queue = both_true (all (waiting_sound mast clock) (viewed itself m b)) _ numbers.1 in
        let slots = both_true (all (slot_sound mast clock) (viewed itself n a)) _ queue.1 in
        let counts = both_true (leb n 16) _ slots.1 in
        let places = both_true (leb m 32) _ counts.1 in
        let one = both_true (leb 1 n) _ places.1 in
        let coast = both_true (identity_keeps (named mast)) (leb clock.0 limit) one.1 in
        let channel = both_true (all channel_ok l) _ (sym (slots-parts n a) ∙ slots.0) in
        let fit = both_true (all (slot_fits clock.0) (viewed slot_view n a)) _ channel.1 in
        let keep = both_true (all (slot_keeps (named mast)) (viewed slot_view n a)) (all slot_exact (viewed itself n a)) fit.1 in
        let fits = both_true (all (place_fits clock.0) (viewed waiting_view m b)) _ (sym (queue-parts m b) ∙ queue.0) in
        let keeps = both_true (all (waiting_keeps (named mast)) (viewed waiting_view m b)) (all waiting_exact (viewed itself m b)) fits.1 in
        let least = le-leb 1 (length l) (omega (arith, k, leb-true 1 n one.0)) in
        let most = le-leb (length l) 16 (omega (arith, k)) in
        let good = is-sound (config_for mast n a) station (record {
          config = rw (coast.0, least, most, channel.0, sym (channels-apart n a) ∙ numbers.0);
          one_each = eq-eqb (length (viewed slot_view n a)) (length l) (viewed-length slot_view n a ∙ sym (viewed-length channel_of n a));
          slots-keep = slots-alike mast l [] n a ∙ keep.0;
          queue-keeps = queue-alike mast l [] m b ∙ keeps.0;
          in-limit = coast.1;
          room = le-leb (length (viewed waiting_view m b)) 32 (omega (arith, viewed-length waiting_view m b, eb));
          no-twice = sym (ships-apart (named mast) n a m b keep.0 keeps.0) ∙ ships.0;
          slots-fit = fit.0;
          places-fit = fits.0;
        }) in
        rw (counts.0, places.0, keep.1, keeps.1, good)

    back : held ≡ true → seen ≡ true
    unfolding head_sound config_keeps identity_keeps channels_keep
    back h =
        let l = viewed channel_of n a in
        let parts = both_true (leb n 16 && (leb m 32 && (all slot_exact (viewed itself n a) && all waiting_exact (viewed itself m b)))) _ h in
        let counts = both_true (leb n 16) _ parts.0 in
        let places = both_true (leb m 32) _ counts.1 in
        let exact = both_true (all slot_exact (viewed itself n a)) (all waiting_exact (viewed itself m b)) places.1 in
        let good = sounds (config_for mast n a) station parts.1 in
        let coast = both_true (identity_keeps (named mast)) _ good.config in
        let count = both_true (within 1 16 (length l)) _ coast.1 in
        let channel = both_true (all channel_ok l) (distinct same_channel l) count.1 in
        let least = leb-true 1 (length l) (both_true (leb 1 (length l)) _ count.0).0 in
        let one = le-leb 1 n (omega (arith, least, viewed-length channel_of n a)) in
        let keep = sym (slots-alike mast l [] n a) ∙ good.slots-keep in
        let keeps = sym (queue-alike mast l [] m b) ∙ good.queue-keeps in
        rw (ships-apart (named mast) n a m b keep keeps ∙ good.no-twice, channels-apart n a ∙ channel.1, queue-parts m b, good.places-fit, keeps, exact.1, slots-parts n a, channel.0, good.slots-fit, keep, exact.0, counts.0, places.0, one, coast.0, good.in-limit)

    pub seen-is : seen ≡ held
    seen-is = same_truth seen held ahead back
