-- "It prints answer, clock, action count, next due time (`-` if none), then each action as kind, slot, payload bytes in decimal."
use Rattle.std.specs.Prelude.{Option as Optional, Some, None}
use Rattle.std.specs.Prelude.{cond, List, [], ◌∷◌, ◌++◌, ℕ, zero, suc, ◌*◌, min, leb, length, get_or, take, drop}
use Rattle.rules.specs.Rules.Bytes.{most_actions, block_size, payload_room}
use Rattle.units.specs.declared.Tenths.{Tenths}
use Rattle.printing.specs.Texts.{decimal, numbers_text, put_at}

abbrev pub line_feed : List ℕ
line_feed = 10 ∷ []

abbrev pub due_text : Optional Tenths → List ℕ
due_text None = 32 ∷ 45 ∷ []
due_text (Some t) = 32 ∷ decimal t.0

unfoldable pub head_text : ℕ → ℕ → ℕ → Optional Tenths → List ℕ
head_text answer clock count due = decimal answer ++ (32 ∷ decimal clock) ++ (32 ∷ decimal count) ++ due_text due ++ line_feed

-- "kind, slot, payload length, 0, payload, zeros"
abbrev pub payload_in : List ℕ → List ℕ
payload_in block = take (min (get_or block 2 0) payload_room) (drop 4 block)

unfoldable pub action_text : List ℕ → List ℕ
action_text block = decimal (get_or block 0 0) ++ (32 ∷ decimal (get_or block 1 0)) ++ numbers_text (payload_in block) ++ line_feed

abbrev pub block_at : ℕ → List ℕ → List ℕ
block_at i room = take block_size (drop (block_size * i) room)

-- of the first actions
unfoldable pub action_texts : ℕ → List ℕ → List ℕ
action_texts zero room = []
action_texts (suc k) room = action_texts k room ++ action_text (block_at k room)

-- "At most 8 a step"
unfoldable pub reply_text : ℕ → ℕ → ℕ → Optional Tenths → List ℕ → List ℕ
reply_text answer clock count due room = head_text answer clock count due ++ action_texts (min count most_actions) room

-- the longest answer fits in it
abbrev pub answer_room : ℕ
answer_room = 4096

-- no reply is longer than 4,096 bytes, and a room that is shorter is left as it is
unfoldable pub put_text : List ℕ → List ℕ → List ℕ
put_text room text = cond (leb answer_room (length room)) (put_at room 0 text) room

unfoldable pub put_length : List ℕ → List ℕ → ℕ
put_length room text = cond (leb answer_room (length room)) (length text) 0
