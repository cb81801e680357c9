-- A sound station stays sound: no event of a run is answered with 29.
use mathlib.Core.Path.{◌≡◌, refl, ap}
use mathlib.Core.List.{List, [], ◌∷◌}
use mathlib.Core.Bool.{true, not}
use mathlib.Core.Option.{Option, none, some}
use Prim.Native.Nat.{ℕ, ◌≤◌}
use native.Mathlib.Omega.{arith}
use lib.Dec.{leb}
use lib.ListN.{length}
use borrow.Author.Tests.{leb-true, le-leb, eq-eqb, eqb-true}
use Rattle.sequence.specs.Symbols.{within}
use Rattle.rules.specs.Rules.Places.{all, distinct, is_some}
use Rattle.rules.specs.Rules.Words.{is, Config, Event, Party}
use Rattle.rules.specs.Rules.Station.{Station, fresh, set_clock, Slot, ship_of}
use Rattle.rules.specs.Rules.Sound.{identity_keeps, channels_keep, config_keeps, one_slot_each, slot_keeps, limit, queue_room, owners, slot_fits, sound, listed}
use Rattle.rules.specs.Rules.Calls.{act}
use Rattle.rules.specs.Rules.Verdict.{unless, verdict, set_up_verdict, final}
use Rattle.rules.specs.ListAlone.Reading.{moment}
use Rattle.rules.specs.Statement.{AlwaysSound, AlwaysFits}
use Rattle.sequence.proofs.Tests.{both_true}
use Rattle.rules.proofs.Base.{seen, fresh-all, fresh-length}
use Rattle.rules.proofs.Accepted.{none-held, accepted, Sound, sounds, is-sound}
use Rattle.rules.proofs.Run.{final-on, final-past}
use Rattle.rules.proofs.Tenths.{clock-is}
use Rattle.rules.proofs.Once.{once-distinct}
use Rattle.rules.proofs.Walk.{act-kept}
use Rattle.rules.proofs.Whole.{Whole, whole, whole-closed}
use Rattle.rules.proofs.WholeLater.{later-whole}
use Rattle.rules.proofs.Stored.{Stored, clock-stored, stored-closed}
use Rattle.rules.proofs.Moments.{moment-on, moment-by, moment-least}

-- ── the clock moved to the moment of an accepted event ───────────────────────

-- whatever the event, no wait is due before its moment
moment-whole : (cfg : Config) (st : Station) (e : Event) → verdict cfg st e ≡ none → Whole (set_clock (moment (seen st) e) st)
moment-whole cfg st e v = later-whole st (moment (seen st) e) (whole cfg st (sounds cfg st (accepted cfg st e v).is-sound)) (moment-on cfg st e v) (moment-least cfg st e v)

-- ── the next station ─────────────────────────────────────────────────────────

pub stored : (cfg : Config) (st : Station) → Sound cfg st → Stored cfg st
unfolding one_slot_each
stored cfg st s = record { slots-keep = s.slots-keep; queue-keeps = s.queue-keeps; many = eqb-true (length st.slots) (length cfg.channels) s.one_each }

within-limit : (a b c : ℕ) → a ≡ b → b ≤ c → leb c limit ≡ true → leb a limit ≡ true
within-limit a b c e h k = let m = leb-true c limit k in le-leb a limit (omega arith)

-- whatever stands in a sound station's next one is what soundness asks
next-sound : (cfg : Config) (st : Station) (e : Event) → verdict cfg st e ≡ none → Sound cfg (act cfg st e).next
unfolding one_slot_each
next-sound cfg st e v =
    let a = accepted cfg st e v in
    let s = sounds cfg st a.is-sound in
    let w = act-kept cfg Whole (whole-closed cfg) st e v (moment-whole cfg st e v) in
    let k = act-kept cfg (Stored cfg) (stored-closed cfg) st e v (clock-stored cfg (moment (seen st) e) st (stored cfg st s)) in
    record {
      config = s.config;
      one_each = eq-eqb (length (act cfg st e).next.slots) (length cfg.channels) k.many;
      slots-keep = k.slots-keep;
      queue-keeps = k.queue-keeps;
      in-limit = within-limit (act cfg st e).next.clock (moment (seen st) e) e.time (clock-is cfg st e v) (moment-by cfg st e v) a.in-limit;
      room = le-leb (length (act cfg st e).next.queue) queue_room w.room;
      no-twice = once-distinct (act cfg st e).next w.once;
      slots-fit = w.fit;
      places-fit = w.placed;
    }

pub stays-sound : (cfg : Config) (st : Station) (e : Event) → verdict cfg st e ≡ none → sound cfg (act cfg st e).next ≡ true
stays-sound cfg st e v = is-sound cfg (act cfg st e).next (next-sound cfg st e v)

-- ── a run ────────────────────────────────────────────────────────────────────

no-owners : (ss : List Slot) → all (λ s. not (is_some (ship_of s))) ss ≡ true → owners ss [] ≡ []
no-owners [] h = refl
no-owners (s ∷ ss) h = let w = both_true (not (is_some (ship_of s))) _ h in go (ship_of s) w.0 (no-owners ss w.1)
  where
    go : (o : Option Party) → not (is_some o) ≡ true → owners ss [] ≡ [] → listed o (owners ss []) ≡ []
    go none n h = h
    go (some x) n h = cc

fresh-sound : (cfg : Config) → set_up_verdict cfg ≡ none → sound cfg (fresh cfg) ≡ true
unfolding set_up_verdict fresh one_slot_each
fresh-sound cfg set = is-sound cfg (fresh cfg) (record {
  config = (both_true (config_keeps cfg) _ (none-held (unless (config_keeps cfg) 36 ∷ []) refl set)).0;
  one_each = eq-eqb (length (fresh cfg).slots) (length cfg.channels) (fresh-length cfg);
  slots-keep = fresh-all cfg (slot_keeps cfg) refl;
  queue-keeps = refl;
  in-limit = refl;
  room = refl;
  no-twice = ap (distinct is) (no-owners (fresh cfg).slots (fresh-all cfg (λ s. not (is_some (ship_of s))) refl));
  slots-fit = fresh-all cfg (slot_fits 0) refl;
  places-fit = refl;
})

final-sound : (cfg : Config) (es : List Event) (st : Station) → sound cfg st ≡ true → sound cfg (final cfg es st) ≡ true
unfolding final
final-sound cfg [] st h = h
final-sound cfg (e ∷ es) st h = go (verdict cfg st e) refl (λ s. final-sound cfg es s)
  where
    go : (o : Option ℕ) → verdict cfg st e ≡ o → ((s : Station) → sound cfg s ≡ true → sound cfg (final cfg es s) ≡ true) → sound cfg (final cfg (e ∷ es) st) ≡ true
    go none v ih = rw (final-on cfg e es st v) (ih (act cfg st e).next (stays-sound cfg st e v))
    go (some n) v ih = rw (final-past cfg e es st n v) (ih st h)

-- whatever events have come, the station of a run is sound
pub always-sound : AlwaysSound
unfolding AlwaysSound
always-sound cfg set es = final-sound cfg es (fresh cfg) (fresh-sound cfg set)

-- and fits 16 slots and 32 waiting ships
pub always-fits : AlwaysFits
unfolding AlwaysFits AlwaysSound config_keeps channels_keep one_slot_each
always-fits cfg set es =
    let s = sounds cfg (final cfg es (fresh cfg)) (always-sound cfg set es) in
    let c = (both_true (within 1 16 (length cfg.channels)) _ (both_true (identity_keeps cfg) _ s.config).1).0 in
    let m = leb-true (length cfg.channels) 16 (both_true (leb 1 (length cfg.channels)) _ c).1 in
    let n = eqb-true (length (final cfg es (fresh cfg)).slots) (length cfg.channels) s.one_each in
    (omega arith, leb-true (length (final cfg es (fresh cfg)).queue) 32 s.room)
