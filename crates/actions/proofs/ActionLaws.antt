-- An action as it is laid out shows the block of its payload; what the writer leaves in a payload of zeros.
use Prim.Native.Nat.{ℕ, zero, suc, ◌+◌, ◌≤◌, min}
use mathlib.Core.Path.{◌≡◌, refl, ap, ◌∙◌}
use mathlib.Core.Bool.{Bool, true, false, cond}
use mathlib.Core.List.{List, [], ◌∷◌, ◌++◌}
use native.Mathlib.Omega.{arith}
use native.Mathlib.Nat.{le_of_suc-le-suc, not-suc-le-zero}
use denote.Enum.Declared.{tag_of}
use lib.ListN.{length, take, drop, replicate}
use Rattle.sequence.specs.declared.Meaning.{Meaning}
use Rattle.sequence.specs.declared.Number.{Number}
use Rattle.std.specs.Prelude.{Some, None}
use Rattle.std.specs.Result.{result_unwrap_or}
use Rattle.sequence.specs.Answers.{Answer, done, is_done, answered}
use Rattle.sequence.specs.Layout.{valid, layout}
use Rattle.sequence.specs.Writing.{writing_answer, written_of, room_after}
use Rattle.sequence.proofs.AnswerLaws.{refused}
use Rattle.sequence.proofs.Tests.{Either, yes!, no!, which}
use Rattle.writing.proofs.Valid.{parts, valid-done, accepted, layout-length}
use Rattle.writing.proofs.EvenedLaws.{fit}
use Rattle.rules.specs.Rules.Bytes.{padded, block}
use Rattle.requests.specs.Views.{itself, digits_of}
use Rattle.requests.proofs.ArrayLaws.{padded-front, viewed-length}
use Rattle.requests.proofs.NumberLaws.{digits-front}
use Rattle.actions.specs.contracts.Kind.{the_type}
use Rattle.actions.specs.declared.Kind.{Kind}
use Rattle.actions.specs.declared.Kind.TheVariants.{CarrierOn, CarrierOff, SendOnChannel70, SendOnWorking, Dial, ReleaseLine, Charge}
use Rattle.actions.specs.declared.Kind.TheVariants.{RingingOn, RingingOff, BusyTone}
use Rattle.actions.specs.declared.Action.{Action}
use Rattle.actions.specs.Blocks.{number_of_kind, action_of, action_block}
use Rattle.actions.specs.Sent.{sent}

-- the byte of a kind
pub kind-number : (k : Kind) → tag_of the_type k + 1 ≡ number_of_kind k
kind-number CarrierOn = refl
kind-number CarrierOff = refl
kind-number SendOnChannel70 = refl
kind-number SendOnWorking = refl
kind-number Dial = refl
kind-number ReleaseLine = refl
kind-number Charge = refl
kind-number RingingOn = refl
kind-number RingingOff = refl
kind-number BusyTone = refl

pub shown : (kind slot : ℕ) (p : List ℕ) → length p ≤ 36 → action_block (action_of kind slot p) ≡ block kind slot p
unfolding action_of action_block
shown kind slot p h = ap (block kind slot) (padded-front 0 36 p h)

-- the two clauses of an action: what it is, and the block that it shows
pub both : (kind slot : ℕ) (p : List ℕ) (a : Action) → length p ≤ 36 → a ≡ action_of kind slot p → (a ≡ action_of kind slot p) × (action_block a ≡ block kind slot p)
both kind slot p a h e = (e, ap action_block e ∙ shown kind slot p h)

pub made : (kind slot n : ℕ) (p payload : List ℕ) → n ≡ length p → payload ≡ padded 0 36 p
    → ◌≡◌ {A = Action} (record { kind = kind; slot = record { 0 = slot }; length = n; payload = payload }) (action_of kind slot p)
unfolding action_of
made kind slot n p payload e f = rw (e, f)

-- the zeros behind a list are those that pad it
pub padded-over : (n : ℕ) (l : List ℕ) → length l ≤ n → l ++ drop (length l) (replicate n 0) ≡ padded 0 n l
unfolding padded
padded-over zero [] h = refl
padded-over (suc n) [] h = ap (λ r. 0 ∷ r) (padded-over n [] (omega arith))
padded-over zero (x ∷ l) h = absurd (not-suc-le-zero h)
padded-over (suc n) (x ∷ l) h = ap (λ r. x ∷ r) (padded-over n l (le_of_suc-le-suc h))

-- ── sequences ────────────────────────────────────────────────────────────────

pub layout-short : (m : Meaning) → valid m ≡ true → length (layout m) ≤ 28
layout-short m ok = omega (arith, layout-length m ok, (fit m.number (parts m ok).number).most)

pub sent-short : (m : Meaning) → length (sent m) ≤ 28
unfolding sent
sent-short m = go (valid m) refl
  where
    go : (t : Bool) → valid m ≡ t → length (cond t (layout m) []) ≤ 28
    go true ok = layout-short m ok
    go false ill = omega arith

written-valid : (m : Meaning) → valid m ≡ true → writing_answer m 36 ≡ done
unfolding writing_answer
written-valid m v = valid-done m v

-- the writer lays what is sent, at the front of a payload of zeros
pub laid : (m : Meaning) → (result_unwrap_or (written_of m 36) 0 ≡ length (sent m)) × (room_after m (replicate 36 0) ≡ padded 0 36 (sent m))
unfolding sent written_of room_after
laid m = go (which (valid m)) (writing_answer m 36) refl
  where
    go : Either (valid m) → (a : Answer) → writing_answer m 36 ≡ a
        → (result_unwrap_or (answered (writing_answer m 36) (length (layout m))) 0 ≡ length (cond (valid m) (layout m) []))
        × (cond (is_done (writing_answer m 36)) (layout m ++ drop (length (layout m)) (replicate 36 0)) (replicate 36 0) ≡ padded 0 36 (cond (valid m) (layout m) []))
    go (yes! v) None e = rw (v, e) (refl, padded-over 36 (layout m) (omega (arith, layout-short m v)))
    go (yes! v) (Some r) e = let d = written-valid m v in (cc, cc)
    go (no! v) None e = let d = (accepted m 36 e).0 in (cc, cc)
    go (no! v) (Some r) e = rw (v, e, refused r) (refl, padded-over 36 [] (omega arith))

-- ── numbers ──────────────────────────────────────────────────────────────────

pub digits-few : (n : Number) → length n.digits ≡ 16 → (length (digits_of n) ≡ min n.count 16)
unfolding digits_of
digits-few n w = omega (arith, viewed-length itself n.count n.digits)

-- copied to the front of zeros
pub fronted : (k : ℕ) (n : Number) → length n.digits ≡ 16 → 16 ≤ k
    → take (min n.count 16) n.digits ++ drop (min n.count 16) (replicate k 0) ≡ padded 0 k (digits_of n)
fronted k n w h =
    let l = digits-few n w in
    rw (digits-front n w, ← l) (padded-over k (digits_of n) (omega arith))
