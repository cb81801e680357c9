-- What is laid out in blocks is read back from them.
use Prim.Native.Nat.{ℕ, ◌+◌, ◌*◌, ◌/◌, ◌%◌, ◌≤◌, ◌<◌}
use mathlib.Core.Path.{◌≡◌, refl, sym, ap, ◌∙◌}
use mathlib.Core.Bool.{true, false}
use mathlib.Core.List.{List, [], ◌∷◌, ◌++◌, map, append_assoc}
use native.Mathlib.Omega.{arith}
use lib.Dec.{eqb}
use lib.ListN.{length, take, drop}
use lib.Seq.{take_at, drop_at}
use Rattle.units.specs.declared.Channel.{Channel as ChannelNumber}
use Rattle.units.specs.declared.Duration.{Duration}
use Rattle.std.specs.Prelude.{Option as Optional, Some, None}
use Rattle.sequence.specs.declared.Meaning.{Meaning}
use Rattle.sequence.specs.Layout.{valid, layout}
use Rattle.sequence.specs.Reading.{meaning_read}
use Rattle.writing.proofs.Valid.{parts}
use Rattle.writing.proofs.EvenedLaws.{fit}
use Rattle.sequence_theorems.proofs.RoundTrip.{reads-back}
use Rattle.rules.specs.Rules.Places.{Each}
use Rattle.rules.specs.Rules.Words.{Party, Mode, simplex, duplex, mode_number, Request, Config, carrier_on, carrier_off, acknowledge, call_ship, unable, dial, release_line, ringing_on, ringing_off, busy_tone}
use Rattle.rules.specs.Rules.Actions.{Charge, Ender, the_ship, the_coast, Action, does, over, charge, charge_numbers}
use Rattle.rules.specs.Rules.Bytes.{padded, number_of, answer_to, able_said, unable_said, lasted_field, end_symbol, over_said, block, channel_at, kind_number, slot_number, payload_of, block_of, blocks, fours}
use Rattle.rules.specs.Rules.Printed.{shown}
use Rattle.rules.specs.Statement.{deeds_of, charges_of, FourBytes}
use Rattle.rules.proofs.Payloads.{block-length, Slim}
use Rattle.requests.proofs.ArrayLaws.{padded-front}
use Rattle.actions.specs.Sent.{speaks}
use Rattle.actions.proofs.Speaking.{Speaks}
use Rattle.station.proofs.EventLaws.{read-done}
use Rattle.station_theorems.specs.Rooms.{mode_in, request_in, answer_in, ender_in, lasted_in, over_in, four_at, charge_in, payload_in, action_as, action_in, actions_in, shown_in}
use Rattle.station_theorems.specs.Statement.{laid_out}

-- ── a sequence that was sent ─────────────────────────────────────────────────

meaning-back : (m : Meaning) → valid m ≡ true → meaning_read (layout m) ≡ m
meaning-back m v = sym (read-done (layout m) m (sym (reads-back m v))).1

-- the digits of a number that was laid out in sixteen places
digits-back : (m : Meaning) (l : List ℕ) → valid m ≡ true → m.number ≡ number_of l → take (length l) (padded 0 16 l) ≡ l
digits-back m l v e = padded-front 0 16 l (rw e at (fit m.number (parts m v).number).most)

mode-back : (w : Mode) → mode_in (mode_number w) ≡ w
mode-back simplex = refl
mode-back duplex = refl

no-104 : (w : Mode) → eqb (mode_number w) 104 ≡ false
no-104 simplex = refl
no-104 duplex = refl

acknowledge-back : (i : ℕ) (n : ChannelNumber) (r : Request) → valid (able_said n 122 r) ≡ true → answer_in i (able_said n 122 r) ≡ acknowledge i r
unfolding answer_in request_in able_said answer_to
acknowledge-back i n r v = rw (no-104 r.mode, mode-back r.mode, digits-back (able_said n 122 r) r.number v refl)

call_ship-back : (i : ℕ) (n : ChannelNumber) (r : Request) → valid (able_said n 117 r) ≡ true → answer_in i (able_said n 117 r) ≡ call_ship i r
unfolding answer_in request_in able_said answer_to
call_ship-back i n r v = rw (no-104 r.mode, mode-back r.mode, digits-back (able_said n 117 r) r.number v refl)

unable-back : (i n : ℕ) (x : Party) (l : List ℕ) → valid (unable_said n x l) ≡ true → answer_in i (unable_said n x l) ≡ unable n x l
unfolding answer_in unable_said answer_to
unable-back i n x l v = rw (digits-back (unable_said n x l) l v refl)

ender-back : (e : Ender) → ender_in (end_symbol e) ≡ e
ender-back the_ship = refl
ender-back the_coast = refl

lasted-back : (n : Optional Duration) → lasted_in (lasted_field n) ≡ n
lasted-back None = refl
lasted-back (Some d) = refl

over-back : (i : ℕ) (e : Ender) (x : Party) (l : List ℕ) (n : Optional Duration) → valid (over_said e x l n) ≡ true → over_in i (over_said e x l n) ≡ over i e x l n
unfolding over_in over_said answer_to
over-back i e x l n v = rw (ender-back e, lasted-back n, digits-back (over_said e x l n) l v refl)

-- ── a charge ─────────────────────────────────────────────────────────────────

sum : (n a b c d q r : ℕ) → n ≡ q * 256 + a → q ≡ r * 256 + b → r ≡ d * 256 + c → a + b * 256 + c * 65536 + d * 16777216 ≡ n
sum n a b c d q r e f g = omega arith

low-split : (n : ℕ) → n ≡ n / 256 * 256 + n % 256
low-split n = omega arith

next-split : (n : ℕ) → n / 256 ≡ n / 65536 * 256 + n / 256 % 256
next-split n = omega arith

high-split : (n : ℕ) → n < 4294967296 → n / 65536 ≡ n / 16777216 % 256 * 256 + n / 65536 % 256
high-split n h = omega arith

four-back : (n : ℕ) → n < 4294967296 → n % 256 + n / 256 % 256 * 256 + n / 65536 % 256 * 65536 + n / 16777216 % 256 * 16777216 ≡ n
four-back n h = sum n _ _ _ _ (n / 256) (n / 65536) (low-split n) (next-split n) (high-split n h)

charge-back : (h : Charge) → FourBytes h → charge_in h.slot (fours (charge_numbers h)) ≡ h
unfolding charge_in four_at
charge-back h f =
    let a = four-back _ f.0 in
    let b = four-back _ f.1.0 in
    let c = four-back _ f.1.1.0 in
    let d = four-back _ f.1.1.1.0 in
    let e = four-back _ f.1.1.1.1 in
    rw (a, b, c, d, e)

-- ── a block ──────────────────────────────────────────────────────────────────

payload-back : (k s : ℕ) (p : List ℕ) → length p ≤ 36 → payload_in (block k s p) ≡ p
unfolding block
payload-back k s p h = padded-front 0 36 p h

block_back : (c : Config) (a : Action) → Slim c a → action_in (block_of c a) ≡ action_as (kind_number a) (slot_number a) (payload_of c a)
unfolding block_of block
block_back c a h = ap (action_as (kind_number a) (slot_number a)) (payload-back (kind_number a) (slot_number a) (payload_of c a) h)

-- what a charge asks, of any action
abbrev Fitting : Action → Type 0
Fitting (does d) = Unit {0}
Fitting (over i e x digits n) = Unit {0}
Fitting (charge h) = FourBytes h

action-back : (c : Config) (a : Action) → speaks c a ≡ true → Fitting a → action_as (kind_number a) (slot_number a) (payload_of c a) ≡ a ∷ []
unfolding action_as payload_of
action-back c (does (carrier_on i)) v f = refl
action-back c (does (carrier_off i)) v f = refl
action-back c (does (acknowledge i r)) v f = rw (meaning-back (able_said (channel_at c i) 122 r) v, acknowledge-back i (channel_at c i) r v)
action-back c (does (call_ship i r)) v f = rw (meaning-back (able_said (channel_at c i) 117 r) v, call_ship-back i (channel_at c i) r v)
action-back c (does (unable n x l)) v f = rw (meaning-back (unable_said n x l) v, unable-back 255 n x l v)
action-back c (does (dial i l)) v f = refl
action-back c (does (release_line i)) v f = refl
action-back c (does (ringing_on i)) v f = refl
action-back c (does (ringing_off i)) v f = refl
action-back c (does (busy_tone i)) v f = refl
action-back c (over i e x l n) v f = rw (meaning-back (over_said e x l n) v, over-back i e x l n v)
action-back c (charge h) v f = rw (charge-back h f)

as-charge : (slot : ℕ) (p : List ℕ) → action_as 7 slot p ≡ charge (charge_in slot p) ∷ []
unfolding action_as
as-charge slot p = refl

-- ── the blocks of a room ─────────────────────────────────────────────────────

-- the first block, and what stands behind it
module _ (c : Config) (a : Action) (more : List Action) (rest : List ℕ) where
  pub first_block : take 40 ((block_of c a ++ blocks c more) ++ rest) ≡ block_of c a
  first_block = rw (append_assoc (block_of c a) (blocks c more) rest) (take_at (block_of c a) (blocks c more ++ rest) 40 (block-length c a))

  pub behind-block : drop 40 ((block_of c a ++ blocks c more) ++ rest) ≡ blocks c more ++ rest
  behind-block = rw (append_assoc (block_of c a) (blocks c more) rest) (drop_at (block_of c a) (blocks c more ++ rest) 40 (block-length c a))

split : (a : Action) (l : List Action) → Each FourBytes (charges_of (a ∷ l)) → Fitting a × Each FourBytes (charges_of l)
split (does d) l f = (tt, f)
split (over i e x digits n) l f = (tt, f)
split (charge h) l f = f

pub actions-back : (c : Config) (l : List Action) → Each (Speaks c) l → Each (Slim c) l → Each FourBytes (charges_of l) → (rest : List ℕ)
    → actions_in (length l) (blocks c l ++ rest) ≡ l
unfolding actions_in
actions-back c [] v s f rest = refl
actions-back c (a ∷ l) v s f rest =
    let g = split a l f in
    let one : action_in (block_of c a) ≡ a ∷ [] = block_back c a s.0 ∙ action-back c a v.0.0 g.0 in
    rw (first_block c a l rest, behind-block c a l rest, one, actions-back c l v.1 s.1 g.1 rest)

-- the deeds among them, of any charges
one-deed : (c : Config) (a : Action) (l : List Action) → speaks c a ≡ true → deeds_of (action_as (kind_number a) (slot_number a) (payload_of c a) ++ l) ≡ deeds_of (a ∷ l)
one-deed c (does d) l v = ap (λ z. deeds_of (z ++ l)) (action-back c (does d) v tt)
one-deed c (over i e x digits n) l v = ap (λ z. deeds_of (z ++ l)) (action-back c (over i e x digits n) v tt)
one-deed c (charge h) l v = charge-deeds h l
  where
    charge-deeds : (h : Charge) (l : List Action) → deeds_of (action_as 7 h.slot (payload_of c (charge h)) ++ l) ≡ deeds_of l
    charge-deeds h l = ap (λ z. deeds_of (z ++ l)) (as-charge h.slot (payload_of c (charge h)))

pub deeds-back : (c : Config) (l : List Action) → Each (Speaks c) l → Each (Slim c) l → (rest : List ℕ)
    → deeds_of (actions_in (length l) (blocks c l ++ rest)) ≡ deeds_of l
unfolding actions_in
deeds-back c [] v s rest = refl
deeds-back c (a ∷ l) v s rest =
    rw (first_block c a l rest, behind-block c a l rest, block_back c a s.0)
    (one-deed c a (actions_in (length l) (blocks c l ++ rest)) v.0.0 ∙ deeds-behind a (actions_in (length l) (blocks c l ++ rest)) l (deeds-back c l v.1 s.1 rest))
  where
    deeds-behind : (a : Action) (k l : List Action) → deeds_of k ≡ deeds_of l → deeds_of (a ∷ k) ≡ deeds_of (a ∷ l)
    deeds-behind (does d) k l h = ap (λ z. d ∷ z) h
    deeds-behind (over i e x digits n) k l h = h
    deeds-behind (charge c) k l h = h

pub shown-back : (c : Config) (l : List Action) → Each (Slim c) l → (rest : List ℕ) → shown_in (length l) (blocks c l ++ rest) ≡ map (shown c) l
unfolding shown_in block_of block
shown-back c [] s rest = refl
shown-back c (a ∷ l) s rest =
    let p = payload-back (kind_number a) (slot_number a) (payload_of c a) s.0 in
    rw (first_block c a l rest, behind-block c a l rest, p, shown-back c l s.1 rest)

pub laid-back : (c : Config) (l : List Action) → laid_out (map (shown c) l) ≡ blocks c l
unfolding block_of
laid-back c [] = refl
laid-back c (a ∷ l) = ap (λ r. block_of c a ++ r) (laid-back c l)
