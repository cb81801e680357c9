-- What is known of a valid meaning: its parts, and the lengths of what is laid.
use Prim.Native.Nat.{ℕ, ◌+◌, ◌/◌, ◌≤◌}
use mathlib.Core.Path.{◌≡◌, refl, ap}
use mathlib.Core.Bool.{Bool, true, false, cond, ◌&&◌}
use mathlib.Core.List.{◌∷◌}
use native.Mathlib.Omega.{arith}
use lib.Dec.{leb}
use lib.ListN.{length, length-append}
use borrow.Author.Tests.{leb-true}
use Rattle.std.specs.Prelude.{Some}
use Rattle.sequence.specs.declared.Refusal.TheVariants.{ShortRoom}
use Rattle.sequence.specs.declared.Meaning.{Meaning}
use Rattle.sequence.specs.Refusals.{row, first_refusal}
use Rattle.sequence.specs.Answers.{done, is_done}
use Rattle.sequence.specs.Identity.{is_ship, is_coast, identities_ok}
use Rattle.sequence.specs.Field.{telecommands_ok, field_ok}
use Rattle.sequence.specs.Number.{number_ok, evened, pairs_of}
use Rattle.sequence.specs.Layout.{end_ok, valid, front, body, layout}
use Rattle.sequence.specs.Writing.{meaning_refusals, writing_answer}
use Rattle.sequence.proofs.Tests.{both_true}
use Rattle.sequence.proofs.RefusalLaws.{all_held, done_held}
use Rattle.writing.proofs.EvenedLaws.{pairs-count}

pub record Parts (m : Meaning) : Type 0 where
  pub identities : identities_ok m.address m.sender ≡ true
  pub telecommands : telecommands_ok m.first m.second ≡ true
  pub field : field_ok m.first m.field ≡ true
  pub number : number_ok m.number ≡ true
  pub end : end_ok m.end ≡ true

pub parts : (m : Meaning) → valid m ≡ true → Parts m
unfolding valid
parts m e =
    let a = both_true (identities_ok m.address m.sender) _ e in
    let b = both_true (telecommands_ok m.first m.second) _ a.1 in
    let c = both_true (field_ok m.first m.field) _ b.1 in
    let d = both_true (number_ok m.number) (end_ok m.end) c.1 in
    record { identities = a.0; telecommands = b.0; field = c.0; number = d.0; end = d.1 }

pub whole : (m : Meaning) → Parts m → valid m ≡ true
unfolding valid
whole m p = rw (p.identities, p.telecommands, p.field, p.number) p.end

-- the writer's answer to a meaning with room enough is done exactly where the meaning is valid
pub valid-done : (m : Meaning) → valid m ≡ true → first_refusal (meaning_refusals m) done ≡ done
unfolding meaning_refusals
valid-done m e =
    let p = parts m e in
    all_held (meaning_refusals m) done (rw (p.identities, p.telecommands, p.field, p.number, p.end))

pub done-valid : (m : Meaning) → is_done (first_refusal (meaning_refusals m) done) ≡ true → valid m ≡ true
unfolding meaning_refusals
done-valid m e =
    let a = both_true (identities_ok m.address m.sender) _ (done_held (meaning_refusals m) refl e) in
    let b = both_true (telecommands_ok m.first m.second) _ a.1 in
    let c = both_true (field_ok m.first m.field) _ b.1 in
    let d = both_true (number_ok m.number) _ c.1 in
    let f = both_true (end_ok m.end) true d.1 in
    whole m (record { identities = a.0; telecommands = b.0; field = c.0; number = d.0; end = f.0 })

pub written : (m : Meaning) (room : ℕ) → is_done (writing_answer m room) ≡ true → (valid m ≡ true) × (28 ≤ room)
unfolding writing_answer meaning_refusals
written m room e =
    let h = both_true (leb 28 room) _ (done_held (row (leb 28 room) (Some ShortRoom) ∷ meaning_refusals m) refl e) in
    (done-valid m (rw (all_held (meaning_refusals m) done h.1) refl), leb-true _ _ h.0)

pub accepted : (m : Meaning) (room : ℕ) → writing_answer m room ≡ done → (valid m ≡ true) × (28 ≤ room)
accepted m room e = written m room (ap is_done e)

-- no identity has more than nine digits
ship-le : (n : ℕ) → is_ship n ≡ true → n ≤ 799999999
unfolding is_ship
ship-le n e = leb-true _ _ (both_true (leb 200000000 n) (leb n 799999999) e).1

coast-le : (n : ℕ) → is_coast n ≡ true → n ≤ 799999999
unfolding is_coast
coast-le n e = omega (arith, leb-true n 7999999 (both_true (leb 2000000 n) (leb n 7999999) e).1)

pub identities-le : (a b : ℕ) → identities_ok a b ≡ true → (a ≤ 799999999) × (b ≤ 799999999)
unfolding identities_ok
identities-le a b e = go (is_ship a) refl e
  where
    go : (t : Bool) → is_ship a ≡ t → cond t (is_coast b) (is_coast a && is_ship b) ≡ true → (a ≤ 799999999) × (b ≤ 799999999)
    go true s f = (ship-le a s, coast-le b f)
    go false s f =
        let h = both_true (is_coast a) (is_ship b) f in
        (coast-le a h.0, ship-le b h.1)

-- lengths
pub front_length : (m : Meaning) → length (front m) ≡ 18
unfolding front
front_length m = refl

module _ (m : Meaning) (ok : valid m ≡ true) where
  pub count-pairs : length (pairs_of (evened m.number)) ≡ (m.number.count + 1) / 2
  count-pairs = pairs-count m.number (parts m ok).number

  pub body-length : length (body m) ≡ 19 + (m.number.count + 1) / 2
  unfolding body
  body-length =
      let h = count-pairs in
      let k = front_length m in
      simp length-append (omega arith)

  pub layout-length : length (layout m) ≡ 20 + (m.number.count + 1) / 2
  unfolding layout
  layout-length = let h = body-length in simp length-append (omega arith)
