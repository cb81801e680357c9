-- A reply, text behind text.
use mathlib.Core.List.{List, [], ◌∷◌, ◌++◌}
use mathlib.Core.Path.{◌≡◌, ◌∙◌}
use Prim.Native.Nat.{ℕ, zero, suc, ◌+◌, ◌-◌, ◌*◌, ◌<◌, ◌≤◌, min}
use native.Mathlib.Omega.{arith}
use native.Mathlib.Nat.{zero-add}
use native.Mathlib.Numerals.{add-one}
use lib.ListN.{length, get_or, take, drop, length-append, length-take}
use borrow.Author.Tests.{le-leb, lt-leb}
use Rattle.std.specs.Prelude.{Option as Optional, Some, None}
use Rattle.units.specs.declared.Tenths.{Tenths}
use Rattle.printing.specs.Texts.{decimal, numbers_text, Put}
use Rattle.printing.specs.Replies.{due_text, head_text, payload_in, action_text, action_texts, block_at, reply_text, put_text, put_length}
use Rattle.printing.proofs.PutLaws.{then, decimal-length, numbers-length}

pub due-length : (due : Optional Tenths) → length (due_text due) ≤ 11
due-length None = omega arith
due-length (Some t) = omega (arith, decimal-length t.0)

-- how long the parts of a reply are at most
pub ruleset lengths = (decimal-length, numbers-length, due-length)

-- ── the first line ───────────────────────────────────────────────────────────

module _ (answer clock count : ℕ) (due : Optional Tenths) where
  -- the first two, three and four of its texts
  two : length (decimal answer ++ (32 ∷ decimal clock)) ≤ 21
  two = omega (arith, decimal-length answer, decimal-length clock, length-append (decimal answer) (32 ∷ decimal clock))

  three : length (decimal answer ++ (32 ∷ decimal clock) ++ (32 ∷ decimal count)) ≤ 32
  three = omega (arith, two, decimal-length count, length-append (decimal answer ++ (32 ∷ decimal clock)) (32 ∷ decimal count))

  four : length (decimal answer ++ (32 ∷ decimal clock) ++ (32 ∷ decimal count) ++ due_text due) ≤ 43
  four = omega (arith, three, due-length due, length-append (decimal answer ++ (32 ∷ decimal clock) ++ (32 ∷ decimal count)) (due_text due))

  pub head-length : length (head_text answer clock count due) ≤ 44
  unfolding head_text
  head-length = omega (arith, four, length-append (decimal answer ++ (32 ∷ decimal clock) ++ (32 ∷ decimal count) ++ due_text due) (10 ∷ []))

  pub head-put : {l m₁ m₂ m₃ m₄ m₅ : List ℕ} {a b c d e : ℕ} → 44 ≤ length l → Put l m₁ 0 a (decimal answer) → Put m₁ m₂ a b (32 ∷ decimal clock)
      → Put m₂ m₃ b c (32 ∷ decimal count) → Put m₃ m₄ c d (due_text due) → Put m₄ m₅ d e (10 ∷ []) → Put l m₅ 0 e (head_text answer clock count due)
  unfolding head_text
  head-put h p q r s t =
      then (omega (arith, four))
      (then (omega (arith, three, due-length due))
      (then (omega (arith, two, decimal-length count))
      (then (omega (arith, decimal-length answer, decimal-length clock)) p q) r) s) t

-- ── an action ────────────────────────────────────────────────────────────────

module _ (block : List ℕ) where
  kind_slot : length (decimal (get_or block 0 0) ++ (32 ∷ decimal (get_or block 1 0))) ≤ 21
  kind_slot = omega (arith, decimal-length (get_or block 0 0), decimal-length (get_or block 1 0), length-append (decimal (get_or block 0 0)) (32 ∷ decimal (get_or block 1 0)))

  short : length (numbers_text (payload_in block)) ≤ 396
  short = omega (arith, numbers-length (payload_in block), length-take (min (get_or block 2 0) 36) (drop 4 block))

  whole : length (decimal (get_or block 0 0) ++ (32 ∷ decimal (get_or block 1 0)) ++ numbers_text (payload_in block)) ≤ 417
  whole = omega (arith, kind_slot, short, length-append (decimal (get_or block 0 0) ++ (32 ∷ decimal (get_or block 1 0))) (numbers_text (payload_in block)))

  pub action-length : length (action_text block) ≤ 418
  unfolding action_text
  action-length = omega (arith, whole, length-append (decimal (get_or block 0 0) ++ (32 ∷ decimal (get_or block 1 0)) ++ numbers_text (payload_in block)) (10 ∷ []))

  pub action-put : {l m₁ m₂ m₃ m₄ : List ℕ} {at a b c d : ℕ} (n : ℕ) → n ≡ min (get_or block 2 0) 36 → at + 418 ≤ length l → Put l m₁ at a (decimal (get_or block 0 0))
      → Put m₁ m₂ a b (32 ∷ decimal (get_or block 1 0)) → Put m₂ m₃ b c (numbers_text (take (4 + n - 4) (drop 4 block))) → Put m₃ m₄ c d (10 ∷ [])
      → Put l m₄ at d (action_text block)
  unfolding action_text
  action-put n e h p q r s =
      let k : 4 + n - 4 ≡ min (get_or block 2 0) 36 = omega (arith, e) in
      then (omega (arith, whole))
      (then (omega (arith, kind_slot, short))
      (then (omega (arith, decimal-length (get_or block 0 0), decimal-length (get_or block 1 0))) p q) (rw k at r)) s

-- ── the actions ──────────────────────────────────────────────────────────────

pub actions-length : (k : ℕ) (room : List ℕ) → length (action_texts k room) ≤ 418 * k
unfolding action_texts
actions-length zero room = omega arith
actions-length (suc k) room =
    omega (arith, actions-length k room, action-length (block_at k room), length-append (action_texts k room) (action_text (block_at k room)))

pub actions-more : (i : ℕ) (room : List ℕ) → action_texts (i + 1) room ≡ action_texts i room ++ action_text (take (40 * i + 40 - 40 * i) (drop (40 * i) room))
unfolding action_texts
actions-more i room = let e : 40 * i + 40 - 40 * i ≡ 40 = omega arith in rw (add-one i, e)

-- ── the whole ────────────────────────────────────────────────────────────────

module _ (answer clock count : ℕ) (due : Optional Tenths) (room l : List ℕ) where
  pub too_short : length l < 4096 → (0 ≡ put_length l (reply_text answer clock count due room)) × (l ≡ put_text l (reply_text answer clock count due room))
  unfolding put_length put_text
  too_short h = (rw (lt-leb 4096 (length l) h), rw (lt-leb 4096 (length l) h))

  pub reply-put : {m₁ m₂ : List ℕ} {a b : ℕ} (k : ℕ) → k ≡ min count 8 → 4096 ≤ length l → Put l m₁ 0 a (head_text answer clock count due) → Put m₁ m₂ a b (action_texts k room)
      → (b ≡ put_length l (reply_text answer clock count due room)) × (m₂ ≡ put_text l (reply_text answer clock count due room))
  unfolding put_length put_text reply_text
  reply-put k e h p q =
      let w = then (omega (arith, e, head-length answer clock count due, actions-length k room)) p q in
      (rw (le-leb 4096 (length l) h, ← e) (w.behind ∙ zero-add _), rw (le-leb 4096 (length l) h, ← e) w.laid)

-- no reply is longer than the room
pub reply-length : (answer clock count : ℕ) (due : Optional Tenths) (room : List ℕ) → length (reply_text answer clock count due room) ≤ 4096
unfolding reply_text
reply-length answer clock count due room =
    omega (arith, head-length answer clock count due, actions-length (min count 8) room, length-append (head_text answer clock count due) (action_texts (min count 8) room))
