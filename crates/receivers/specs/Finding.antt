-- "return, not as a copy, the stretch holding the first valid sequence": what two receivers' bytes hold.
use Rattle.std.specs.Prelude.{ℕ, zero, suc, ◌+◌, ◌-◌, Bool, cond, ◌&&◌, Option as Optional, Some, None, List, [], ◌∷◌, leb, length, take, drop}
use Rattle.sequence.specs.Figures.{shortest, longest}
use Rattle.sequence.specs.Answers.{is_done}
use Rattle.sequence.specs.Reading.{answer_of}
use Rattle.receivers.specs.declared.Stretch.{Stretch}
use Rattle.receivers.specs.declared.Receiver.{Receiver}
use Rattle.receivers.specs.declared.Receiver.TheVariants.{First, Second}
use Rattle.receivers.specs.declared.Found.{Found}

-- ── in one receiver's bytes ──────────────────────────────────────────────────

-- "valid": the reader does not refuse it
unfoldable pub is_valid : List ℕ → Bool
is_valid s = is_done (answer_of s)

-- the first so many of these bytes are a valid sequence
unfoldable pub begins_with : ℕ → List ℕ → Bool
begins_with n b = leb n (length b) && is_valid (take n b)

-- "at one place the shortest": of so many lengths, from one on; none where none is a valid sequence's
abbrev pub shortest_of : ℕ → ℕ → List ℕ → Optional ℕ
shortest_of zero n b = None
shortest_of (suc more) n b = cond (begins_with n b) (Some n) (shortest_of more (n + 1) b)

unfoldable pub length_at : List ℕ → Optional ℕ
length_at b = shortest_of (longest + 1 - shortest) shortest b

-- a sequence of this length at this place, or what is found later
abbrev pub here_or_later : ℕ → Optional ℕ → Optional Stretch → Optional Stretch
here_or_later place (Some n) later = Some (record { place = place; count = n })
here_or_later place None later = later

-- "the earliest starting place": in these bytes, the first of which stands at a place
abbrev pub first_from : ℕ → List ℕ → Optional Stretch
first_from place [] = None
first_from place (x ∷ b) = here_or_later place (length_at (x ∷ b)) (first_from (place + 1) b)

-- the same of the bytes from a place on, and of all
abbrev pub found_from : ℕ → List ℕ → Optional Stretch
found_from place b = first_from place (drop place b)

unfoldable pub first_in : List ℕ → Optional Stretch
first_in b = found_from 0 b

-- ── in the two receivers' ────────────────────────────────────────────────────

-- "found in the first receiver's bytes or, failing that, in the second's"
abbrev pub first_or_second : Optional Stretch → Optional Stretch → Optional Found
first_or_second (Some w) second = Some (record { receiver = First; stretch = w })
first_or_second None (Some w) = Some (record { receiver = Second; stretch = w })
first_or_second None None = None

unfoldable pub found_in : List ℕ → List ℕ → Optional Found
found_in first second = first_or_second (first_in first) (first_in second)

unfoldable pub bytes_of : Stretch → List ℕ → List ℕ
bytes_of w b = take w.count (drop w.place b)

-- what is the receiver's own: its bytes, or where these stand
abbrev pub heard_by : {A : Type 0} → Receiver → A → A → A
heard_by First first second = first
heard_by Second first second = second

-- "54, handed back as the empty stretch", where neither holds one: the second receiver's first zero bytes
abbrev pub handed : Optional Found → Found
handed (Some f) = f
handed None = record { receiver = Second; stretch = record { place = 0; count = 0 } }

unfoldable pub stretch_found : List ℕ → List ℕ → List ℕ
stretch_found first second =
    bytes_of (handed (found_in first second)).stretch (heard_by (handed (found_in first second)).receiver first second)

-- "not as a copy": it stands in its receiver's own bytes, at its place. Where bytes stand is told by a block of memory and a place in it
unfoldable pub placed_at : Stretch → ℕ × ℕ → ℕ × ℕ
placed_at w p = (p.0, w.place + p.1)

unfoldable pub place_found : Optional Found → ℕ × ℕ → ℕ × ℕ → ℕ × ℕ
place_found f first second = placed_at (handed f).stretch (heard_by (handed f).receiver first second)
