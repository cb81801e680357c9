-- At most 8 actions a step, every payload within 36 bytes, and the answer 0 or 1: of every station whose stored numbers keep the rules, and every event.
use mathlib.Core.Path.{◌≡◌, refl}
use mathlib.Core.List.{List, [], ◌∷◌}
use mathlib.Core.Bool.{Bool, true, false, cond}
use mathlib.Core.Option.{Option, none, some}
use Prim.Native.Nat.{ℕ, ◌+◌, ◌≤◌}
use native.Mathlib.Omega.{arith}
use lib.Dec.{ltb}
use lib.ListN.{length, length-append}
use Rattle.rules.specs.Rules.Places.{lowest, all, Each}
use Rattle.rules.specs.Rules.Words.{Request, Config, Ashore, What, Event, carrier_on}
use Rattle.rules.specs.Rules.Heard.{Heard}
use Rattle.rules.specs.Rules.Actions.{Ender, the_ship, the_coast, Action, does}
use Rattle.rules.specs.Rules.Station.{Slot, Waiting, Station, the_slot, set_clock, answered_at, is_free, rings, Dealing, used_up}
use Rattle.rules.specs.Rules.Sound.{slot_keeps, sound}
use Rattle.rules.specs.Rules.Requests.{Out, also, rung_back, freed_for, freed, bill, lasted, end_acts, coast_end, Standing, nowhere, holds, waits, place_of, standing, rule_a, repeated, afresh, rule_d, offer, rule_f, rule_g, e_to_g, newcomer, d_to_g, redial, requested, to_ring_back, no_number, waiting_or_new}
use Rattle.rules.specs.Rules.Ashore.{ashore_request, called_from}
use Rattle.rules.specs.Rules.Calls.{drop_acts, act_at, act}
use Rattle.rules.specs.ListAlone.Book.{Stop, Column, Book}
use Rattle.rules.specs.ListAlone.LineWords.{Word}
use Rattle.rules.specs.Statement.{AtMostEight}
use Rattle.rules.proofs.PlaceLaws.{each_append}
use Rattle.rules.proofs.Outcome.{Next, stays, becomes, frees, Move, to-dial, to-agree, to-ring, to_drop, to-call, to-rings, to-answer, to-let-go, to-stage, to-lose, to-regain, to-hold, to_end, to-repeat, to-run-out, to_take, to-give, played, Outcome, passed, moved}
use Rattle.rules.proofs.Ruling.{Ruling, passes, repeats, renews, runs-out, redials, b_or_c-ruling}
use Rattle.rules.proofs.Accepted.{sounds}
use Rattle.rules.proofs.Payloads.{Slim, on-slim, off-slim, release-slim, ringing-slim, silenced-slim, tone-slim, acknowledge-slim, call_ship-slim, unable-slim, over-slim, bill-slim, dial-slim}
use Rattle.rules.proofs.Effect.{Effect, rests, drops, data-asked, call-asked, to-slot, called-ashore, act-effect}
use Rattle.rules.proofs.Base.{slot-all}

record Few (cfg : Config) (n : ℕ) (o : Out) : Type 0 where
  many : length o.acts ≤ n
  slim : Each (Slim cfg) o.acts
  told : o.answer ≤ 1

-- ── the pieces ───────────────────────────────────────────────────────────────

module _ (cfg : Config) where
  few-if : (n : ℕ) (b : Bool) (x y : Out) → Few cfg n x → Few cfg n y → Few cfg n (cond b x y)
  few-if n true x y p q = p
  few-if n false x y p q = q

  zero-few : (n : ℕ) (st : Station) → Few cfg n (record { answer = 0; next = st; acts = [] })
  zero-few n st = record { many = omega arith; slim = tt; told = omega arith }

  none-few : (n : ℕ) (st : Station) → Few cfg n (record { answer = 1; next = st; acts = [] })
  none-few n st = record { many = omega arith; slim = tt; told = omega arith }

  one-few : (n : ℕ) (st : Station) (a : Action) → Slim cfg a → 1 ≤ n → Few cfg n (record { answer = 0; next = st; acts = a ∷ [] })
  one-few n st a s h = record { many = h; slim = (s, tt); told = omega arith }

  up_to : (n m : ℕ) → n ≤ m → (o : Out) → Few cfg n o → Few cfg m o
  up_to n m h o p = let k = p.many in record { many = omega arith; slim = p.slim; told = p.told }

  also-few : (k n : ℕ) (a : List Action) (o : Out) → length a ≤ k → Each (Slim cfg) a → Few cfg n o → Few cfg (k + n) (also a o)
  also-few k n a o h s p = let m = p.many in record { many = rw (length-append a o.acts) (add (length a) (length o.acts) k n h m); slim = each_append (Slim cfg) a o.acts s p.slim; told = p.told }
    where
      add : (a b k n : ℕ) → a ≤ k → b ≤ n → a + b ≤ k + n
      add a b k n p q = omega arith

  freed_for-few : (i : ℕ) (st : Station) (q : List Waiting) → Few cfg 2 (freed_for i st q)
  unfolding freed_for rung_back
  freed_for-few i st [] = zero-few 2 _
  freed_for-few i st (w ∷ q) = record { many = omega arith; slim = (on-slim cfg i, (call_ship-slim cfg i w.request, tt)); told = omega arith }

  freed-few : (i : ℕ) (st : Station) → Few cfg 2 (freed i st)
  unfolding freed
  freed-few i st = freed_for-few i st (to_ring_back st)

  end-slim : (i : ℕ) (a : Ender) (r : Dealing) (g : Option ℕ) (t : ℕ) → Each (Slim cfg) (end_acts i a r g t)
  end-slim i a r g t = each_append (Slim cfg) (bill i r g t) _ (bill-slim cfg i r g t) (release-slim cfg i, (over-slim cfg i a r.request.who r.request.number (lasted g t), (off-slim cfg i, tt)))

  end-few : (i : ℕ) (a : Ender) (r : Dealing) (g : Option ℕ) (t : ℕ) → length (end_acts i a r g t) ≤ 4
  end-few i a r none t = omega arith
  end-few i a r (some b) t = omega arith

  coast_end-few : (i : ℕ) (r : Dealing) (g : Option ℕ) (st : Station) → Few cfg 6 (coast_end i r g st)
  unfolding coast_end
  coast_end-few i r g st = also-few 4 2 (end_acts i the_coast r g st.clock) (freed i st) (end-few i the_coast r g st.clock) (end-slim i the_coast r g st.clock) (freed-few i st)

  -- ── a request ──────────────────────────────────────────────────────────────

  afresh-few : (n i : ℕ) (st : Station) (r : Request) → 1 ≤ n → Few cfg n (afresh i st r)
  unfolding afresh
  afresh-few n i st r h = one-few n _ _ (acknowledge-slim cfg i r) h

  e_to_g-few : (st : Station) (r : Request) (o : Option ℕ) → Few cfg 2 (e_to_g st r o)
  unfolding e_to_g offer rule_f rule_g
  e_to_g-few st r (some i) = also-few 1 1 (does (carrier_on i) ∷ []) (afresh i st r) (omega arith) (on-slim cfg i, tt) (afresh-few 1 i st r (omega arith))
  e_to_g-few st r none = few-if 2 (ltb (length st.queue) 32) (rule_f st r) (rule_g st r) (one-few 2 _ _ (unable-slim cfg 103 r.who r.number) (omega arith)) (one-few 2 _ _ (unable-slim cfg 102 r.who r.number) (omega arith))

  newcomer-few : (st : Station) (r : Request) → Few cfg 2 (newcomer st r)
  unfolding newcomer
  newcomer-few st r = e_to_g-few st r (lowest is_free st.slots)

  rule_d-few : (k : ℕ) (st : Station) (r : Request) → Few cfg 2 (rule_d k st r)
  unfolding rule_d
  rule_d-few k st r = one-few 2 _ _ (unable-slim cfg 103 r.who r.number) (omega arith)

  waiting_or_new-few : (st : Station) (r : Request) (k : Option ℕ) → Few cfg 2 (waiting_or_new st r k)
  unfolding waiting_or_new
  waiting_or_new-few st r none = newcomer-few st r
  waiting_or_new-few st r (some k) = rule_d-few k st r

  no_number-few : (n : ℕ) (st : Station) (r : Request) → 1 ≤ n → Few cfg n (no_number st r)
  unfolding no_number
  no_number-few n st r h = one-few n _ _ (unable-slim cfg 107 r.who r.number) h

  d_to_g-few : (st : Station) (r : Request) (k : Option ℕ) → Few cfg 2 (d_to_g st r k)
  unfolding d_to_g
  d_to_g-few st r k = few-if 2 (used_up st) (no_number st r) (waiting_or_new st r k) (no_number-few 2 st r (omega arith)) (waiting_or_new-few st r k)

  redial-few : (i : ℕ) (o : Dealing) (g : Option ℕ) (st : Station) (r : Request) → Few cfg 8 (redial i o g st r)
  unfolding redial
  redial-few i o g st r = let w = coast_end-few i o g st in also-few 6 2 (coast_end i o g st).acts (d_to_g (coast_end i o g st).next r (place_of r.who (coast_end i o g st).next)) w.many w.slim (d_to_g-few (coast_end i o g st).next r (place_of r.who (coast_end i o g st).next))

  ruling-few : (i : ℕ) (st : Station) (r : Request) (cs : List Stop) (p : Slot) (o : Out) → Ruling i st r cs p o → Few cfg 8 o
  unfolding repeated
  ruling-few i st r cs _ _ (passes p a) = none-few 8 st
  ruling-few i st r cs _ _ (repeats k o d a b) = one-few 8 st _ (acknowledge-slim cfg i r) (omega arith)
  ruling-few i st r cs _ _ (renews k o d z u a b) = afresh-few 8 i st r (omega arith)
  ruling-few i st r cs _ _ (runs-out k o d z u a b) = no_number-few 8 st r (omega arith)
  ruling-few i st r cs _ _ (redials o g c a) = redial-few i o (answered_at g) st r

  request-few : (st : Station) (r : Request) (o : Standing) → Few cfg 8 (requested st r o)
  unfolding requested
  request-few st r nowhere = up_to 2 8 (omega arith) (d_to_g st r none) (d_to_g-few st r none)
  request-few st r (waits k) = up_to 2 8 (omega arith) (d_to_g st r (some k)) (d_to_g-few st r (some k))
  request-few st r (holds i) = ruling-few i st r _ (the_slot st i) _ (b_or_c-ruling i st r (the_slot st i))

  -- ── on a slot ──────────────────────────────────────────────────────────────

  drop-slim : (i : ℕ) (rung tone : Bool) → (length (drop_acts i rung tone) ≤ 4) × Each (Slim cfg) (drop_acts i rung tone)
  drop-slim i false false = (omega arith, (off-slim cfg i, (release-slim cfg i, tt)))
  drop-slim i false true = (omega arith, (off-slim cfg i, (tone-slim cfg i, (release-slim cfg i, tt))))
  drop-slim i true false = (omega arith, (silenced-slim cfg i, (off-slim cfg i, (release-slim cfg i, tt))))
  drop-slim i true true = (omega arith, (silenced-slim cfg i, (off-slim cfg i, (tone-slim cfg i, (release-slim cfg i, tt)))))

  move-slim : (i t : ℕ) (p : Slot) (n : Next) (acts : List Action) → Move i t p n acts → slot_keeps cfg p ≡ true → (length acts ≤ 4) × Each (Slim cfg) acts
  move-slim i t _ _ _ (to-dial k r d z) h = (omega arith, (dial-slim cfg i r.request h, tt))
  move-slim i t _ _ _ (to-agree k r d z) h = (omega arith, tt)
  move-slim i t _ _ _ (to-ring r d) h = (omega arith, (call_ship-slim cfg i r.request, tt))
  move-slim i t _ _ _ (to_drop k r d z) h = (omega arith, (off-slim cfg i, tt))
  move-slim i t _ _ _ (to-call r d) h = (omega arith, (call_ship-slim cfg i r.request, tt))
  move-slim i t _ _ _ (to-rings k r d z) h = (omega arith, (ringing-slim cfg i, tt))
  move-slim i t _ _ _ (to-answer r d) h = (omega arith, (silenced-slim cfg i, tt))
  move-slim i t _ _ _ (to-let-go k r d tone) h = drop-slim i (rings k) tone
  move-slim i t _ _ _ (to-stage r n q c z) h = (omega arith, tt)
  move-slim i t _ _ _ (to-lose r g c) h = (omega arith, tt)
  move-slim i t _ _ _ (to-regain r g c) h = (omega arith, tt)
  move-slim i t _ _ _ (to-hold r g c) h = (end-few i the_ship r (answered_at g) t, end-slim i the_ship r (answered_at g) t)
  move-slim i t _ _ _ (to_end r g c) h = (end-few i the_coast r (answered_at g) t, end-slim i the_coast r (answered_at g) t)
  move-slim i t _ _ _ (to-repeat r n d) h = (omega arith, (on-slim cfg i, (over-slim cfg i the_ship r.request.who r.request.number n, (off-slim cfg i, tt))))
  move-slim i t _ _ _ (to-run-out r n d) h = (omega arith, tt)
  move-slim i t _ _ _ to_take h = (omega arith, tt)
  move-slim i t _ _ _ to-give h = (omega arith, tt)

  played-few : (i : ℕ) (st : Station) (n : Next) (acts : List Action) → (length acts ≤ 4) × Each (Slim cfg) acts → Few cfg 8 (played i st n acts)
  played-few i st stays acts h = let k = h.0 in record { many = omega arith; slim = h.1; told = omega arith }
  played-few i st (becomes q) acts h = let k = h.0 in record { many = omega arith; slim = h.1; told = omega arith }
  played-few i st frees acts h = up_to 6 8 (omega arith) (also acts (freed i st)) (also-few 4 2 acts (freed i st) h.0 h.1 (freed-few i st))

  outcome-few : (i : ℕ) (st : Station) {f : Column → Column} {w : Word → Word} {cs : List Stop} (p : Slot) {o : Out} → Outcome i st f w cs p o → slot_keeps cfg p ≡ true → Few cfg 8 o
  outcome-few i st p (passed a b c) h = none-few 8 st
  outcome-few i st p (moved {n} {acts} u a b c) h = played-few i st n acts (move-slim i st.clock p n acts u h)

  -- ── an event, of a station whose stored requests keep the rules ────────────

  effect-few : (st : Station) → all (slot_keeps cfg) st.slots ≡ true → (q : Option Ashore) (b : Book) (ws : List Word) (cs : List Stop) (m : Heard) (o : Out) → Effect cfg st q b ws cs m o → Few cfg 8 o
  unfolding rule_a called_from
  effect-few st k _ _ _ _ _ _ (rests m n h) = record { many = omega arith; slim = tt; told = h }
  effect-few st k _ _ _ _ _ _ (drops j) = zero-few 8 _
  effect-few st k _ _ _ _ _ _ (data-asked x n) = one-few 8 st _ (unable-slim cfg 109 x n) (omega arith)
  effect-few st k _ _ _ _ _ _ (call-asked r) = request-few st r (standing st r.who)
  effect-few st k _ _ _ _ _ _ (called-ashore a i h) = record { many = omega arith; slim = (on-slim cfg i, (call_ship-slim cfg i (ashore_request cfg a), tt)); told = omega arith }
  effect-few st k _ _ _ _ _ _ (to-slot m i u e) = outcome-few i st (the_slot st i) u (slot-all st (slot_keeps cfg) refl i k)

  act-few : (st : Station) → all (slot_keeps cfg) st.slots ≡ true → (t : ℕ) (w : What) → Few cfg 8 (act_at cfg st t w)
  unfolding set_clock
  act-few st k t w = effect-few _ k _ _ _ _ _ _ (act-effect cfg st t w)

pub answers-few : (cfg : Config) (st : Station) (e : Event) → sound cfg st ≡ true → (act cfg st e).answer ≤ 1
answers-few cfg st e s = (act-few cfg st (sounds cfg st s).slots-keep e.time e.what).told

pub at-most-eight : AtMostEight
unfolding AtMostEight
at-most-eight cfg st e s = let f = act-few cfg st (sounds cfg st s).slots-keep e.time e.what in (f.many, f.slim)
