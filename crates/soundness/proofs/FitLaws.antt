-- A sound station fits its arrays.
use Prim.Native.Nat.{◌≤◌}
use mathlib.Core.Bool.{Bool, true}
use mathlib.Core.List.{List, [], ◌∷◌}
use mathlib.Core.Path.{◌≡◌, sym}
use native.Mathlib.Omega.{arith}
use lib.Dec.{leb}
use lib.ListN.{length}
use borrow.Author.Tests.{leb-true, eqb-true}
use Rattle.sequence.specs.Identity.{is_ship}
use Rattle.sequence.specs.Symbols.{within}
use Rattle.rules.specs.Rules.Words.{Config, Request, ours}
use Rattle.rules.specs.Rules.Places.{all, Each}
use Rattle.rules.specs.Rules.Station as R
use Rattle.rules.specs.Rules.Sound.{identity_keeps, channels_keep, config_keeps, one_slot_each, number_keeps, request_keeps, slot_keeps, waiting_keeps, sound}
use Rattle.sequence.proofs.Tests.{both_true}
use Rattle.rules.proofs.Accepted.{sounds}
use Rattle.slots.specs.Images.{Short, ShortSlot, Fits}
use Rattle.slots.proofs.PhaseLaws.{short-slot}

each_of : {A : Type 0} (f : A → Bool) (P : A → Type 0) → ((x : A) → f x ≡ true → P x) → (l : List A) → all f l ≡ true → Each P l
each_of f P g [] h = tt
each_of f P g (x ∷ l) h = let a = both_true (f x) (all f l) h in (g x a.0, each_of f P g l a.1)

module _ (c : Config) where
  short : (r : Request) → request_keeps c r ≡ true → Short r
  unfolding request_keeps number_keeps
  short r h =
      let a = both_true (is_ship r.who.ship) _ h in
      let b = both_true (ours c r.who.station) _ a.1 in
      let d = both_true (within 100 126 r.second) _ b.1 in
      let e = both_true (within 1 16 (length r.number)) _ d.1 in
      let f = both_true (leb 1 (length r.number)) _ e.0 in
      leb-true (length r.number) 16 f.1

  few-channels : config_keeps c ≡ true → length c.channels ≤ 16
  unfolding config_keeps channels_keep
  few-channels h =
      let a = both_true (identity_keeps c) _ h in
      let b = both_true (within 1 16 (length c.channels)) _ a.1 in
      let d = both_true (leb 1 (length c.channels)) _ b.0 in
      leb-true (length c.channels) 16 d.1

  one_each : (m : R.Station) → one_slot_each c m ≡ true → length m.slots ≡ length c.channels
  unfolding one_slot_each
  one_each m h = eqb-true (length m.slots) (length c.channels) h

  pub sound-fits : (m : R.Station) → sound c m ≡ true → Fits c m
  sound-fits m h =
      let s = sounds c m h in
      let e = one_each m s.one_each in
      record {
        beside = sym e;
        few = omega (arith, few-channels s.config);
        few_wait = leb-true (length m.queue) 32 s.room;
        short_slots = each_of (slot_keeps c) ShortSlot (short-slot c short) m.slots s.slots-keep;
        short_queue = each_of (waiting_keeps c) (λ w. Short w.request) (λ w k. short w.request k) m.queue s.queue-keeps;
      }
