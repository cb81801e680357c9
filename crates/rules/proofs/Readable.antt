-- A call request that is heard, of symbols that the reader accepts, keeps the rules of a stored request.
use mathlib.Core.Path.{◌≡◌, refl, sym, ◌∙◌}
use mathlib.Core.List.{List, [], ◌∷◌, ◌++◌}
use mathlib.Core.Bool.{Bool, true, false, cond, ◌&&◌}
use Prim.Native.Nat.{ℕ, zero, suc, ◌-◌, ◌*◌, ◌/◌, ◌%◌, ◌≤◌}
use native.Mathlib.Omega.{arith}
use lib.Dec.{eqb, leb}
use lib.ListN.{length, take, drop, get_or, replicate, length-take, length-drop}
use lib.Seq.{take-append-le, take-length, take-take}
use borrow.Author.Tests.{le-leb, leb-true, eq-eqb}
use Rattle.sequence.specs.Answers.{is_done}
use Rattle.sequence.specs.Symbols.{within, all_at_most}
use Rattle.sequence.specs.Identity.{is_ship, is_coast, identities_ok}
use Rattle.sequence.specs.Field.{is_call, telecommands_ok}
use Rattle.sequence.specs.Reading as S
use Rattle.sequence.proofs.RefusalLaws.{done_held}
use Rattle.rules.specs.Rules.Words.{Mode, simplex, duplex, mode_number, Request, Config, Ours}
use Rattle.rules.specs.Rules.Heard.{Heard, call_request, digits_in, request_in, addressed, meaning}
use Rattle.rules.specs.Rules.Kinds.{Plain, Means, as_call_request, as_data_request, as_working_call, as_end_of_call, as_bq, as_declined, as_nothing, OnlyThese}
use Rattle.rules.specs.Rules.Sound.{identity_keeps, config_keeps, number_keeps, request_keeps}
use Rattle.sequence.proofs.Tests.{both_true}
use Rattle.rules.proofs.KindLaws.{only-these}

-- ── what it says that the reader refuses nothing ─────────────────────────────

record Passed (s : List ℕ) : Type 0 where
  sized : S.length_in s ≡ true
  named : S.identities_in s ≡ true
  ordered : S.telecommands_in s ≡ true
  numbered : S.number_in s ≡ true
  meant : (S.meaning_read s) ≡ S.meaning_of s

passed : (s : List ℕ) → is_done (S.answer_of s) ≡ true → Passed s
unfolding S.meaning_read S.answer_of S.refusals
passed s h =
    let r = done_held (S.refusals s) refl h in
    let a = both_true (S.length_in s) _ r in
    let b = both_true (all_at_most 127 s) _ a.1 in
    let c = both_true (S.check_in s) _ b.1 in
    let d = both_true (S.format_in s) _ c.1 in
    let e = both_true (S.identities_in s) _ d.1 in
    let f = both_true (S.category_in s) _ e.1 in
    let g = both_true (S.telecommands_in s) _ f.1 in
    let i = both_true (S.field_in s) _ g.1 in
    let j = both_true (S.number_in s) _ i.1 in
    record { sized = a.0; named = e.0; ordered = g.0; numbered = j.0; meant = rw h refl }

-- ── the number ───────────────────────────────────────────────────────────────

digits-length : (ps : List ℕ) → length (S.digits_of ps) ≡ 2 * length ps
digits-length [] = refl
digits-length (p ∷ ps) = let h = digits-length ps in omega arith

digits-small : (ps : List ℕ) → all_at_most 99 ps ≡ true → all_at_most 9 (S.digits_of ps) ≡ true
digits-small [] h = refl
digits-small (p ∷ ps) h =
    let a = both_true (leb p 99) (all_at_most 99 ps) h in
    let k = leb-true p 99 a.0 in
    rw (le-leb (p / 10) 9 (omega arith), le-leb (p % 10) 9 (omega arith)) (digits-small ps a.1)

drop-small : (k n : ℕ) (l : List ℕ) → all_at_most k l ≡ true → all_at_most k (drop n l) ≡ true
drop-small k zero l h = h
drop-small k (suc n) [] h = refl
drop-small k (suc n) (x ∷ l) h = drop-small k n l (both_true (leb x k) (all_at_most k l) h).1

-- the digits in use of sixteen places
used : (l : List ℕ) (n : ℕ) → n ≡ length l → length l ≤ 16 → take n (S.sixteen l) ≡ l
unfolding S.sixteen
used l n e h = rw e (take-take (length l) 16 (l ++ replicate 16 0) h ∙ take-append-le (length l) l (replicate 16 0) (omega arith) ∙ take-length l)

zero-or-one : (p : ℕ) → S.zero_before p ≤ 1
unfolding S.zero_before
zero-or-one p = go (eqb p 105)
  where
    go : (b : Bool) → cond b 1 0 ≤ 1
    go true = omega arith
    go false = omega arith

number-keeps : (p : ℕ) (ps : List ℕ) → 1 ≤ length ps → length ps ≤ 8 → all_at_most 99 ps ≡ true → number_keeps (digits_in (S.number_of p ps)) ≡ true
unfolding S.number_of number_keeps
number-keeps p ps one eight h =
    let z = zero-or-one p in
    let n = digits-length ps in
    let l : length (drop (S.zero_before p) (S.digits_of ps)) ≡ 2 * length ps - S.zero_before p = simp length-drop (omega arith) in
    rw (used (drop (S.zero_before p) (S.digits_of ps)) (2 * length ps - S.zero_before p) (sym l) (omega arith), l, le-leb 1 (2 * length ps - S.zero_before p) (omega arith), le-leb (2 * length ps - S.zero_before p) 16 (omega arith))
    (drop-small 9 (S.zero_before p) (S.digits_of ps) (digits-small ps h))

pairs-length : (s : List ℕ) → S.length_in s ≡ true → length (S.pairs_in s) ≡ length s - 20
unfolding S.pairs_in S.length_in
pairs-length s h =
    let a = both_true (leb 21 (length s)) (leb (length s) 28) h in
    let l = leb-true 21 (length s) a.0 in
    simp (length-take, length-drop) (omega arith)

pairs-few : (s : List ℕ) → S.length_in s ≡ true → (1 ≤ length (S.pairs_in s)) × (length (S.pairs_in s) ≤ 8)
unfolding S.length_in
pairs-few s h =
    let a = both_true (leb 21 (length s)) (leb (length s) 28) h in
    let l = leb-true 21 (length s) a.0 in
    let m = leb-true (length s) 28 a.1 in
    let n = pairs-length s h in
    (omega arith, omega arith)

-- ── ship and second telecommand ──────────────────────────────────────────────

coast-no-ship : (n : ℕ) → is_coast n ≡ true → is_ship n ≡ false
unfolding is_coast is_ship
coast-no-ship n h = go (leb 200000000 n) refl
  where
    go : (b : Bool) → leb 200000000 n ≡ b → (b && leb n 799999999) ≡ false
    go true e = let a = leb-true n 7999999 (both_true (leb 2000000 n) (leb n 7999999) h).1 in let k = leb-true 200000000 n e in absurd (omega arith)
    go false e = refl

pub from-ship : (to from : ℕ) → is_coast to ≡ true → identities_ok to from ≡ true → is_ship from ≡ true
unfolding identities_ok
from-ship to from c h = (both_true (is_coast to) (is_ship from) (rw (coast-no-ship to c) at h)).1

second-in : (w : Mode) (second : ℕ) → telecommands_ok (mode_number w) second ≡ true → within 100 126 second ≡ true
unfolding telecommands_ok is_call
second-in simplex second h = h
second-in duplex second h = h

-- ── the request ──────────────────────────────────────────────────────────────

module _ (cfg : Config) (keeps : config_keeps cfg ≡ true) (s : List ℕ) (done : is_done (S.answer_of s) ≡ true) where
  kept : (w : Mode) → Plain cfg 117 (mode_number w) (S.meaning_read s) → request_keeps cfg (request_in w (S.meaning_read s)) ≡ true
  unfolding request_keeps config_keeps identity_keeps S.identities_in S.telecommands_in S.number_in S.pairs_ok S.meaning_of
  kept w plain =
      let p = passed s done in
      let to : Ours cfg (S.identity_at s 1) = rw p.meant at plain.to-this in
      let first : get_or s 12 0 ≡ mode_number w = rw p.meant at plain.begins in
      let coast = (both_true _ _ keeps).0 in
      let ids = (both_true (S.identity_pairs_at s 7) _ (both_true (S.identity_pairs_at s 1) _ p.named).1).1 in
      let ship : is_ship (S.identity_at s 7) ≡ true = from-ship (S.identity_at s 1) (S.identity_at s 7) (rw to coast) ids in
      let second : within 100 126 (get_or s 13 0) ≡ true = second-in w (get_or s 13 0) (rw first at p.ordered) in
      let few = pairs-few s p.sized in
      let small = (both_true (S.parity_ok (get_or s 17 0) (get_or (S.pairs_in s) 0 0)) (all_at_most 99 (S.pairs_in s)) p.numbered).1 in
      rw (p.meant, ship, eq-eqb _ _ to, second) (number-keeps (get_or s 17 0) (S.pairs_in s) few.0 few.1 small)

  pub heard-keeps : (r : Request) → meaning cfg s ≡ call_request r → request_keeps cfg r ≡ true
  unfolding meaning OnlyThese
  heard-keeps r e = go (addressed cfg (S.meaning_read s)) (only-these cfg (S.meaning_read s)) e
    where
      go : (h : Heard) → Means cfg (S.meaning_read s) h → h ≡ call_request r → request_keeps cfg r ≡ true
      go _ (as_call_request w p) e = let y : request_in w (S.meaning_read s) ≡ r = cc in rw (← y) (kept w p)
      go _ (as_data_request p) e = cc
      go _ (as_working_call w p) e = cc
      go _ (as_end_of_call p) e = cc
      go _ (as_bq w n i a b c d f) e = cc
      go _ (as_declined p) e = cc
      go _ as_nothing e = cc
