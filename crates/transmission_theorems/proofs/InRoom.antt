-- What is written and read in room enough, and what the answer done says of the room of a reading.
use Prim.Native.Nat.{ℕ, ◌*◌, ◌≤◌}
use mathlib.Core.Path.{◌≡◌, refl, sym, ap, ◌∙◌}
use mathlib.Core.List.{List, ◌++◌}
use native.Mathlib.Omega.{arith}
use lib.Dec.{leb}
use lib.ListN.{length, drop}
use lib.Seq.{length-take-le}
use borrow.Author.Tests.{le-leb, leb-true}
use Rattle.std.specs.Prelude.{Ok}
use Rattle.sequence.specs.Figures.{longest}
use Rattle.sequence.proofs.Tests.{both_true}
use Rattle.sequence.proofs.RefusalLaws.{kind-held}
use Rattle.transmission.specs.Answers.{done, is_done}
use Rattle.transmission.specs.Layout.{transmission, bytes_of}
use Rattle.transmission.specs.Writing.{transmission_written, transmission_laid, room_after_writing}
use Rattle.transmission.specs.Phasing.{characters_of, heard}
use Rattle.transmission.specs.Copies.{symbols_from}
use Rattle.transmission.specs.Reading.{start_in, count_in, symbols_in, reading_refusals, reading_answer, transmission_read, room_after_reading}
use Rattle.transmission.proofs.LayoutLaws.{bytes-length}
use Rattle.transmission.proofs.WritingLaws.{Writable, writable-done}
use Rattle.transmission.proofs.SymbolLaws.{symbols-length, count_most}

-- ── writing ──────────────────────────────────────────────────────────────────

module _ (s room : List ℕ) where
  pub written-in-room : Writable s room
      → (transmission_written s (length room) ≡ Ok (length (transmission s)))
      × (room_after_writing s room ≡ bytes_of (transmission s) ++ drop (2 * length (transmission s)) room)
  unfolding transmission_written transmission_laid room_after_writing
  written-in-room w = (rw (writable-done s room w), rw (writable-done s room w, bytes-length (transmission s)))

-- ── reading ──────────────────────────────────────────────────────────────────

module _ (t : List ℕ) where
  count-within : count_in t ≤ longest
  unfolding count_in
  count-within = count_most (symbols_from t (start_in t))

  symbols-counted : length (symbols_in t) ≡ count_in t
  unfolding symbols_in
  symbols-counted =
      length-take-le (count_in t) (symbols_from t (start_in t)) (omega (arith, count-within, symbols-length t (start_in t)))

  pub symbols-at-most : length (symbols_in t) ≤ longest
  symbols-at-most = rw symbols-counted count-within

module _ (bytes room : List ℕ) where
  abbrev t : List ℕ
  t = heard (characters_of bytes)

  -- a room of 28 or more plays no part
  pub answer-in-room : longest ≤ length room → reading_answer t (length room) ≡ reading_answer t longest
  unfolding reading_answer reading_refusals
  answer-in-room h = rw (le-leb longest (length room) h)

  has_room : reading_answer t (length room) ≡ done → longest ≤ length room
  unfolding reading_answer reading_refusals
  has_room e =
      leb-true _ _
      (both_true (leb longest (length room)) _ (kind-held is_done (reading_refusals t (length room)) done refl (ap is_done e))).0

  pub done-in-longest : reading_answer t (length room) ≡ done → reading_answer t longest ≡ done
  done-in-longest e = sym (answer-in-room (has_room e)) ∙ e

  pub read-in-room : reading_answer t (length room) ≡ done
      → (transmission_read bytes (length room) ≡ Ok (length (symbols_in t)))
      × (room_after_reading bytes room ≡ symbols_in t ++ drop (length (symbols_in t)) room)
  unfolding transmission_read room_after_reading
  read-in-room e = (rw (e, symbols-counted t), rw (e, symbols-counted t))
