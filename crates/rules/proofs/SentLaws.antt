-- What is sent is valid: an answer to a request that keeps the rules, of a station that keeps them.
use mathlib.Core.Path.{◌≡◌, refl}
use mathlib.Core.List.{List, [], ◌∷◌}
use mathlib.Core.Bool.{true}
use Prim.Native.Nat.{ℕ, zero, suc}
use lib.Dec.{leb, leb-zero}
use lib.ListN.{length, drop}
use borrow.Author.Tests.{eqb-true}
use Rattle.units.specs.declared.Channel.{Channel as ChannelNumber}
use Rattle.units.specs.declared.Duration.{Duration}
use Rattle.std.specs.Prelude.{Option as Optional, Some, None}
use Rattle.sequence.specs.declared.Field.{Field}
use Rattle.sequence.specs.declared.Field.TheVariants.{Blank, Channel}
use Rattle.sequence.specs.Symbols.{within, all_at_most}
use Rattle.sequence.specs.Identity.{is_ship, is_coast, identities_ok}
use Rattle.sequence.specs.Field.{is_call, unable_second, telecommands_ok, channel_ok, field_ok}
use Rattle.sequence.specs.Number.{number_ok}
use Rattle.sequence.specs.Layout.{end_ok, valid}
use Rattle.rules.specs.Rules.Words.{Party, Mode, simplex, duplex, mode_number, Request, Config, ours, Ours}
use Rattle.rules.specs.Rules.Actions.{Ender, the_ship, the_coast}
use Rattle.rules.specs.Rules.Sound.{number_keeps, request_keeps, duration_keeps}
use Rattle.rules.specs.Rules.Bytes.{padded, number_of, answer_to, able_said, unable_said, lasted_field, end_symbol, over_said}
use Rattle.sequence.proofs.Tests.{both_true}
use Rattle.rules.proofs.Payloads.{padded-length}

-- ── the number ───────────────────────────────────────────────────────────────

padded-small : (k n : ℕ) (l : List ℕ) → all_at_most k l ≡ true → all_at_most k (padded 0 n l) ≡ true
unfolding padded
padded-small k zero l h = refl
padded-small k (suc n) [] h = rw (leb-zero k) (padded-small k n [] refl)
padded-small k (suc n) (x ∷ l) h = let a = both_true (leb x k) (all_at_most k l) h in rw a.0 (padded-small k n l a.1)

rest-zero : (n : ℕ) (l : List ℕ) → all_at_most 0 (drop (length l) (padded 0 n l)) ≡ true
unfolding padded
rest-zero n [] = padded-small 0 n [] refl
rest-zero zero (x ∷ l) = refl
rest-zero (suc n) (x ∷ l) = rest-zero n l

number-sent : (l : List ℕ) → number_keeps l ≡ true → number_ok (number_of l) ≡ true
unfolding number_keeps number_ok
number-sent l h =
    let a = both_true (within 1 16 (length l)) (all_at_most 9 l) h in
    rw (a.0, padded-length 0 16 l, padded-small 9 16 l a.1, rest-zero 16 l) refl

-- ── an answer ────────────────────────────────────────────────────────────────

-- to a ship, from a coast station
answer-valid : (x : Party) (first second : ℕ) (field : Field) (digits : List ℕ) (end : ℕ) → is_ship x.ship ≡ true → is_coast x.station ≡ true
    → telecommands_ok first second ≡ true → field_ok first field ≡ true → number_keeps digits ≡ true → end_ok end ≡ true → valid (answer_to x first second field digits end) ≡ true
unfolding valid answer_to identities_ok
answer-valid x first second field digits end s c t f n e = rw (s, c, t, f, number-sent digits n, e) refl

mode-second : (w : Mode) (second : ℕ) → within 100 126 second ≡ true → telecommands_ok (mode_number w) second ≡ true
unfolding telecommands_ok is_call
mode-second simplex second h = h
mode-second duplex second h = h

mode-field : (w : Mode) (n : ChannelNumber) → channel_ok n ≡ true → field_ok (mode_number w) (Channel n) ≡ true
unfolding field_ok is_call
mode-field simplex n h = h
mode-field duplex n h = h

over-telecommands : telecommands_ok 105 126 ≡ true
unfolding telecommands_ok is_call
over-telecommands = refl

lasted-fits : (n : Optional Duration) → duration_keeps n ≡ true → field_ok 105 (lasted_field n) ≡ true
unfolding duration_keeps field_ok
lasted-fits None h = refl
lasted-fits (Some d) h = h

ender-ok : (a : Ender) → end_ok (end_symbol a) ≡ true
unfolding end_ok
ender-ok the_ship = refl
ender-ok the_coast = refl

-- the 104 answers
pub unable-valid : (second : ℕ) (x : Party) (digits : List ℕ) → is_ship x.ship ≡ true → is_coast x.station ≡ true → unable_second second ≡ true → number_keeps digits ≡ true → valid (unable_said second x digits) ≡ true
unfolding unable_said telecommands_ok is_call field_ok end_ok
unable-valid second x digits s c u n = answer-valid x 104 second Blank digits 122 s c u refl n refl

record Parts (r : Request) : Type 0 where
  ship : is_ship r.who.ship ≡ true
  station : is_coast r.who.station ≡ true
  second : within 100 126 r.second ≡ true
  number : number_keeps r.number ≡ true

module _ (cfg : Config) (coast : (n : ℕ) → Ours cfg n → is_coast n ≡ true) (r : Request) (keeps : request_keeps cfg r ≡ true) where
  parts : Parts r
  unfolding request_keeps
  parts =
      let a = both_true (is_ship r.who.ship) _ keeps in
      let b = both_true (ours cfg r.who.station) _ a.1 in
      let c = both_true (within 100 126 r.second) _ b.1 in
      record { ship = a.0; station = coast r.who.station (eqb-true _ _ b.0); second = c.0; number = c.1 }

  -- the acknowledgement, and the ring-back
  pub able-valid : (n : ChannelNumber) → channel_ok n ≡ true → (end : ℕ) → end_ok end ≡ true → valid (able_said n end r) ≡ true
  unfolding able_said
  able-valid n h end e = answer-valid r.who (mode_number r.mode) r.second (Channel n) r.number end parts.ship parts.station (mode-second r.mode r.second parts.second) (mode-field r.mode n h) parts.number e

  -- the end of a call
  pub over-valid : (a : Ender) (n : Optional Duration) → duration_keeps n ≡ true → valid (over_said a r.who r.number n) ≡ true
  unfolding over_said
  over-valid a n h = answer-valid r.who 105 126 (lasted_field n) r.number (end_symbol a) parts.ship parts.station over-telecommands (lasted-fits n h) parts.number (ender-ok a)
