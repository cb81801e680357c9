-- What the rack sends is what the rules say, wherever the meaning is valid; and it is for a request that keeps the rules.
use Prim.Native.Nat.{ℕ, zero, suc, ◌<◌, ◌≤◌, min}
use mathlib.Core.Path.{◌≡◌, refl, ap, ◌∙◌}
use mathlib.Core.Bool.{Bool, true}
use mathlib.Core.List.{List, [], ◌∷◌, map}
use native.Mathlib.Nat.{le_of_suc-le-suc, not-suc-le-zero}
use native.Mathlib.Omega.{arith}
use lib.Dec.{leb}
use lib.ListN.{length, get_or}
use borrow.Author.Tests.{leb-true, eqb-true}
use Rattle.units.specs.declared.Duration.{Duration}
use Rattle.std.specs.Prelude.{Option as Optional}
use Rattle.sequence.specs.Symbols.{within}
use Rattle.sequence.specs.Identity.{is_ship, is_coast}
use Rattle.sequence.specs.Field.{unable_second, channel_ok}
use Rattle.sequence.specs.Layout.{end_ok}
use Rattle.sequence.proofs.Tests.{both_true}
use Rattle.rules.specs.Rules.Places.{all, Each}
use Rattle.rules.specs.Rules.Words.{Request, Config, carrier_on, carrier_off, acknowledge, call_ship, unable, dial, release_line, ringing_on, ringing_off, busy_tone, ours, Ours}
use Rattle.rules.specs.Rules.Actions.{Ender, Action, does, over, charge}
use Rattle.rules.specs.Rules.Bytes.{channel_at, kind_number, slot_number, payload_of, block, block_of, blocks}
use Rattle.rules.specs.Rules.Sound.{identity_keeps, channels_keep, config_keeps, number_keeps, request_keeps, duration_keeps}
use Rattle.rules.proofs.SentLaws.{able-valid, unable-valid, over-valid}
use Rattle.actions.specs.Blocks.{in_bytes, joined}
use Rattle.actions.specs.Sent.{sent, sent_payload, sent_on, sent_block, speaks}

-- ── blocks ───────────────────────────────────────────────────────────────────

-- what is sent is a sequence, and the slot is a byte
abbrev pub Speaks : Config → Action → Type 0
Speaks c a = (speaks c a ≡ true) × (slot_number a ≤ 255)

block-bytes : (kind slot : ℕ) (p : List ℕ) → slot ≤ 255 → in_bytes (block kind slot p) ≡ block kind slot p
unfolding block
block-bytes kind slot p h = let e : min slot 255 ≡ slot = omega arith in rw e

sent-block : (c : Config) (a : Action) → speaks c a ≡ true → sent_block c a ≡ block_of c a
unfolding sent_block sent_on sent_payload block_of payload_of sent
sent-block c (does (carrier_on i)) h = refl
sent-block c (does (carrier_off i)) h = refl
sent-block c (does (acknowledge i r)) h = rw h
sent-block c (does (call_ship i r)) h = rw h
sent-block c (does (unable n x digits)) h = rw h
sent-block c (does (dial i digits)) h = refl
sent-block c (does (release_line i)) h = refl
sent-block c (does (ringing_on i)) h = refl
sent-block c (does (ringing_off i)) h = refl
sent-block c (does (busy_tone i)) h = refl
sent-block c (over i e x digits n) h = rw h
sent-block c (charge h) t = refl

sent-bytes : (c : Config) (a : Action) → Speaks c a → in_bytes (sent_block c a) ≡ block_of c a
unfolding block_of
sent-bytes c a h = ap in_bytes (sent-block c a h.0) ∙ block-bytes (kind_number a) (slot_number a) (payload_of c a) h.1

pub sent-blocks : (c : Config) (l : List Action) → Each (Speaks c) l → joined (map (sent_block c) l) ≡ blocks c l
sent-blocks c [] t = refl
sent-blocks c (a ∷ l) t = rw (sent-bytes c a t.0, sent-blocks c l t.1)

-- ── a request that keeps the rules, at a station that keeps them ─────────────

all_in : {A : Type 0} (p : A → Bool) (l : List A) (i : ℕ) (d : A) → i < length l → all p l ≡ true → p (get_or l i d) ≡ true
all_in p [] i d h e = absurd (not-suc-le-zero h)
all_in p (x ∷ l) zero d h e = (both_true (p x) (all p l) e).0
all_in p (x ∷ l) (suc i) d h e = all_in p l i d (le_of_suc-le-suc h) (both_true (p x) (all p l) e).1

module _ (c : Config) (keeps : config_keeps c ≡ true) where
  pub coast : (n : ℕ) → Ours c n → is_coast n ≡ true
  unfolding config_keeps identity_keeps
  coast n e = rw e (both_true _ (channels_keep c.channels) keeps).0

  pub channel-good : (i : ℕ) → i < length c.channels → channel_ok (channel_at c i) ≡ true
  unfolding config_keeps channels_keep
  channel-good i h =
      let a = (both_true (identity_keeps c) _ keeps).1 in
      let b = (both_true (within 1 16 (length c.channels)) _ a).1 in
      all_in channel_ok c.channels i (record { 0 = 0 }) h (both_true (all channel_ok c.channels) _ b).0

  -- a slot of the station is a byte
  pub small : (i : ℕ) → i < length c.channels → i ≤ 255
  unfolding config_keeps channels_keep
  small i h =
      let a = (both_true (identity_keeps c) _ keeps).1 in
      let b = (both_true (within 1 16 (length c.channels)) _ a).0 in
      let d = leb-true (length c.channels) 16 (both_true (leb 1 (length c.channels)) (leb (length c.channels) 16) b).1 in
      omega arith

  module _ (r : Request) (kept : request_keeps c r ≡ true) where
    pub acknowledge-speaks : (i : ℕ) → i < length c.channels → Speaks c (does (acknowledge i r))
    unfolding end_ok
    acknowledge-speaks i h = (able-valid c coast r kept (channel_at c i) (channel-good i h) 122 refl, small i h)

    pub call_ship-speaks : (i : ℕ) → i < length c.channels → Speaks c (does (call_ship i r))
    unfolding end_ok
    call_ship-speaks i h = (able-valid c coast r kept (channel_at c i) (channel-good i h) 117 refl, small i h)

    pub unable-speaks : (second : ℕ) → unable_second second ≡ true → Speaks c (does (unable second r.who r.number))
    unfolding request_keeps
    unable-speaks second u =
        let a = both_true (is_ship r.who.ship) _ kept in
        let b = both_true (ours c r.who.station) _ a.1 in
        let d = both_true (within 100 126 r.second) (number_keeps r.number) b.1 in
        (unable-valid second r.who r.number a.0 (coast r.who.station (eqb-true _ _ b.0)) u d.1, omega arith)

    pub over-speaks : (i : ℕ) → i < length c.channels → (e : Ender) (n : Optional Duration) → duration_keeps n ≡ true → Speaks c (over i e r.who r.number n)
    over-speaks i l e n h = (over-valid c coast r kept e n h, small i l)
