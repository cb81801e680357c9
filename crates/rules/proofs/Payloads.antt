-- Every sequence that is sent has at most 28 symbols, so that every payload but a number dialled is within 36 bytes whatever it is made of.
use mathlib.Core.Path.{◌≡◌, refl, ap}
use mathlib.Core.Option.{Option, none, some}
use mathlib.Core.List.{List, [], ◌∷◌}
use mathlib.Core.Bool.{Bool, true, false, cond}
use Prim.Native.Nat.{ℕ, zero, suc, ◌*◌, ◌/◌, ◌%◌, ◌≤◌}
use native.Mathlib.Omega.{arith}
use lib.Dec.{eqb, leb}
use borrow.Author.Tests.{leb-true}
use Rattle.units.specs.declared.Duration.{Duration}
use Rattle.std.specs.Prelude.{Option as Optional}
use Rattle.sequence.specs.Symbols.{within}
use Rattle.sequence.specs.Identity.{is_ship}
use lib.ListN.{length, take, length-append, length-take}
use Rattle.sequence.specs.declared.Meaning.{Meaning}
use Rattle.sequence.specs.Number.{evened, pairs_of}
use Rattle.sequence.specs.Layout.{front, body, layout}
use Rattle.rules.specs.Rules.Places.{Each}
use Rattle.rules.specs.Rules.Words.{Party, Request, Config, carrier_on, carrier_off, acknowledge, call_ship, unable, dial, release_line, ringing_on, ringing_off, busy_tone, ours}
use Rattle.rules.specs.Rules.Actions.{Ender, Action, does, over}
use Rattle.rules.specs.Rules.Sound.{number_keeps, request_keeps}
use Rattle.rules.specs.Rules.Station.{Dealing}
use Rattle.rules.specs.Rules.Requests.{bill}
use Rattle.rules.specs.Rules.Bytes.{padded, number_of, answer_to, able_said, unable_said, over_said, block, channel_at, payload_of, block_of, blocks, block_size}
use Rattle.sequence.proofs.Tests.{both_true}

pub padded-length : {A : Type 0} (b : A) (n : ℕ) (l : List A) → length (padded b n l) ≡ n
unfolding padded
padded-length b zero l = refl
padded-length b (suc n) [] = ap suc (padded-length b n [])
padded-length b (suc n) (x ∷ l) = ap suc (padded-length b n l)

pairs-length : (l : List ℕ) → length (pairs_of l) ≡ length l / 2
pairs-length [] = refl
pairs-length (a ∷ []) = refl
pairs-length (a ∷ b ∷ l) = let h = pairs-length l in omega arith

evened-length : (l : List ℕ) → length (evened (number_of l)) ≤ 17
unfolding evened
evened-length l = go (eqb (length l % 2) 1)
  where
    few : length (take (length l) (padded 0 16 l)) ≤ 16
    few = let e = padded-length 0 16 l in simp length-take (omega arith)

    go : (b : Bool) → length (cond b (0 ∷ take (length l) (padded 0 16 l)) (take (length l) (padded 0 16 l))) ≤ 17
    go true = omega (arith, few)
    go false = omega (arith, few)

-- "21 to 28 symbols", whatever the digits
pub sent-length : (m : Meaning) (l : List ℕ) → m.number ≡ number_of l → length (layout m) ≤ 36
unfolding layout body front
sent-length m l e =
    let h : length (evened m.number) ≤ 17 = rw e (evened-length l) in
    let p = pairs-length (evened m.number) in
    simp length-append (omega arith)

-- every block has one size, whatever the action
pub block-length : (cfg : Config) (a : Action) → length (block_of cfg a) ≡ block_size
unfolding block_of block
block-length cfg a = let h = padded-length 0 36 (payload_of cfg a) in omega arith

pub blocks-length : (cfg : Config) (l : List Action) → length (blocks cfg l) ≡ block_size * length l
blocks-length cfg [] = refl
blocks-length cfg (a ∷ l) = simp (length-append, block-length, blocks-length cfg l) (omega arith)

-- ── a deed at a time ─────────────────────────────────────────────────────────

abbrev pub Slim : Config → Action → Type 0
Slim cfg a = length (payload_of cfg a) ≤ 36

module _ (cfg : Config) where
  pub on-slim : (i : ℕ) → Slim cfg (does (carrier_on i))
  unfolding payload_of
  on-slim i = omega arith

  pub off-slim : (i : ℕ) → Slim cfg (does (carrier_off i))
  unfolding payload_of
  off-slim i = omega arith

  pub release-slim : (i : ℕ) → Slim cfg (does (release_line i))
  unfolding payload_of
  release-slim i = omega arith

  pub ringing-slim : (i : ℕ) → Slim cfg (does (ringing_on i))
  unfolding payload_of
  ringing-slim i = omega arith

  pub silenced-slim : (i : ℕ) → Slim cfg (does (ringing_off i))
  unfolding payload_of
  silenced-slim i = omega arith

  pub tone-slim : (i : ℕ) → Slim cfg (does (busy_tone i))
  unfolding payload_of
  tone-slim i = omega arith

  pub acknowledge-slim : (i : ℕ) (r : Request) → Slim cfg (does (acknowledge i r))
  unfolding payload_of able_said answer_to
  acknowledge-slim i r = sent-length (able_said (channel_at cfg i) 122 r) r.number refl

  pub call_ship-slim : (i : ℕ) (r : Request) → Slim cfg (does (call_ship i r))
  unfolding payload_of able_said answer_to
  call_ship-slim i r = sent-length (able_said (channel_at cfg i) 117 r) r.number refl

  pub unable-slim : (n : ℕ) (x : Party) (digits : List ℕ) → Slim cfg (does (unable n x digits))
  unfolding payload_of unable_said answer_to
  unable-slim n x digits = sent-length (unable_said n x digits) digits refl

  pub over-slim : (i : ℕ) (a : Ender) (x : Party) (digits : List ℕ) (n : Optional Duration) → Slim cfg (over i a x digits n)
  unfolding payload_of over_said answer_to
  over-slim i a x digits n = sent-length (over_said a x digits n) digits refl

  pub bill-slim : (i : ℕ) (x : Dealing) (g : Option ℕ) (t : ℕ) → Each (Slim cfg) (bill i x g t)
  unfolding payload_of
  bill-slim i x none t = tt
  bill-slim i x (some b) t = (omega arith, tt)

  pub dial-slim : (i : ℕ) (r : Request) → request_keeps cfg r ≡ true → Slim cfg (does (dial i r.number))
  unfolding payload_of request_keeps number_keeps
  dial-slim i r k =
      let a = both_true (is_ship r.who.ship) _ k in
      let b = both_true (ours cfg r.who.station) _ a.1 in
      let c = both_true (within 100 126 r.second) _ b.1 in
      let n = both_true (within 1 16 (length r.number)) _ c.1 in
      let l = leb-true (length r.number) 16 (both_true (leb 1 (length r.number)) _ n.0).1 in
      omega arith
