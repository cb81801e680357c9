-- A reply is the decimal text of what the rules print of an event.
use mathlib.Core.Bool.{true}
use mathlib.Core.List.{List, [], ◌∷◌, ◌++◌, map, flat_map, append_assoc, append-nil}
use mathlib.Core.Option.{Option, none, some}
use mathlib.Core.Path.{◌≡◌, refl, sym}
use Prim.Native.Nat.{ℕ, zero, suc, ◌+◌, ◌*◌, ◌≤◌, min}
use native.Mathlib.Omega.{arith}
use lib.ListN.{length, take, drop}
use lib.Seq.{take_at, drop_at, drop-drop}
use Rattle.rules.specs.Rules.Places.{Each}
use Rattle.rules.specs.Rules.Words.{Config, Event}
use Rattle.rules.specs.Rules.Actions.{Action}
use Rattle.rules.specs.Rules.Station.{next_due}
use Rattle.rules.specs.Rules.Requests.{Out}
use Rattle.rules.specs.Rules.Calls.{act}
use Rattle.rules.specs.Rules.Verdict.{verdict, step}
use Rattle.rules.specs.Rules.Bytes.{payload_of, block, block_of, blocks}
use Rattle.rules.specs.Rules.Printed.{due_shown, shown, lines}
use Rattle.rules.specs.Statement.{AtMostEight}
use Rattle.rules.proofs.Accepted.{accepted}
use Rattle.rules.proofs.Eight.{at-most-eight}
use Rattle.rules.proofs.Payloads.{Slim, block-length}
use Rattle.requests.proofs.ArrayLaws.{padded-front}
use Rattle.station.specs.declared.Station.{Station}
use Rattle.station.specs.Model.{config_of, model_of, image_of}
use Rattle.station.specs.Step.{due_image, records_keep, refusal, stepped_by, room_after}
use Rattle.printing.specs.Texts.{numbers_text}
use Rattle.printing.specs.Replies.{head_text, action_text, action_texts, reply_text}
use Rattle.printing.specs.Statement.{row_text, first_text, rows_text, reply_of, ReplyIsPrinted}

-- ── the first row ────────────────────────────────────────────────────────────

pub first-is : (answer clock count : ℕ) (o : Option ℕ) → head_text answer clock count (due_image o) ≡ first_text (answer ∷ clock ∷ count ∷ due_shown o)
unfolding head_text numbers_text
first-is answer clock count none = simp (append_assoc, append-nil)
first-is answer clock count (some t) = simp (append_assoc, append-nil)

-- ── the actions ──────────────────────────────────────────────────────────────

action-is : (c : Config) (a : Action) → Slim c a → action_text (block_of c a) ≡ row_text (shown c a)
unfolding action_text block_of block numbers_text
action-is c a h =
    let n : min (length (payload_of c a)) 36 ≡ length (payload_of c a) = omega arith in
    rw (n, padded-front 0 36 (payload_of c a) h) (simp append_assoc)

-- the first block, and those behind it
first-behind : (k : ℕ) (room : List ℕ) → action_texts (suc k) room ≡ action_text (take 40 room) ++ action_texts k (drop 40 room)
unfolding action_texts
first-behind zero room = sym (append-nil (action_text (take 40 room)))
first-behind (suc k) room =
    let place : 40 * suc k ≡ 40 + 40 * k = omega arith in
    rw (first-behind k room, place, ← drop-drop (40 * k) 40 room) (append_assoc (action_text (take 40 room)) (action_texts k (drop 40 room)) _)

actions-are : (c : Config) (l : List Action) → Each (Slim c) l → (rest : List ℕ) → action_texts (length l) (blocks c l ++ rest) ≡ flat_map row_text (map (shown c) l)
unfolding flat_map
actions-are c [] h rest = unfold action_texts in refl
actions-are c (a ∷ l) h rest =
    let one = block-length c a in
    rw (
      first-behind (length l) ((block_of c a ++ blocks c l) ++ rest),
      append_assoc (block_of c a) (blocks c l) rest,
      take_at (block_of c a) (blocks c l ++ rest) 40 one,
      drop_at (block_of c a) (blocks c l ++ rest) 40 one,
      action-is c a h.0,
      actions-are c l h.1 rest,
    )

-- ── the reply ────────────────────────────────────────────────────────────────

-- to what the rules give, with blocks at the front of the room
pub reply-is : (c : Config) (o : Out) → length o.acts ≤ 8 → Each (Slim c) o.acts → (rest : List ℕ)
    → reply_text o.answer o.next.clock (length o.acts) (due_image (next_due o.next)) (blocks c o.acts ++ rest) ≡ rows_text (lines c o)
unfolding reply_text rows_text
reply-is c o few slim rest =
    let n : min (length o.acts) 8 ≡ length o.acts = omega arith in
    rw (n, first-is o.answer o.next.clock (length o.acts) (next_due o.next), actions-are c o.acts slim rest)

module _ (s : Station) (e : Event) (room : List ℕ) (keep : records_keep s ≡ true) where
  judged : refusal s e ≡ verdict (config_of s) (model_of s) e
  unfolding refusal verdict
  judged = rw keep

  printed : (o : Option ℕ) → verdict (config_of s) (model_of s) e ≡ o
      → reply_of (stepped_by s e) (room_after s room e) ≡ rows_text (lines (config_of s) (step (config_of s) (model_of s) e))
  unfolding stepped_by room_after step AtMostEight image_of
  printed none v =
      let c = config_of s in
      let o = act (config_of s) (model_of s) e in
      let eight = at-most-eight c (model_of s) e (accepted c (model_of s) e v).is-sound in
      rw (judged, v) (reply-is c o eight.0 eight.1 (drop (40 * length o.acts) room))
  printed (some n) v =
      rw (judged, v) (unfold model_of in reply-is (config_of s) (record { answer = n; next = model_of s; acts = [] }) (omega arith) tt room)

pub reply-is-printed : ReplyIsPrinted
unfolding ReplyIsPrinted
reply-is-printed s e room keep = printed s e room keep (verdict (config_of s) (model_of s) e) refl
