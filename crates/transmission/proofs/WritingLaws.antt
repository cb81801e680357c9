-- What the answer done says of the symbols and the room that a transmission is written from and to.
use Prim.Native.Nat.{ℕ, ◌*◌, ◌≤◌}
use mathlib.Core.Path.{◌≡◌, refl}
use mathlib.Core.Bool.{true}
use mathlib.Core.List.{List}
use lib.Dec.{leb}
use lib.ListN.{length}
use borrow.Author.Tests.{le-leb, leb-true}
use Rattle.sequence.specs.Figures.{last_symbol}
use Rattle.sequence.specs.Symbols.{all_at_most}
use Rattle.sequence.specs.Reading.{length_in}
use Rattle.sequence.proofs.Tests.{both_true}
use Rattle.sequence.proofs.RefusalLaws.{all_held, kind-held}
use Rattle.transmission.specs.Answers.{done, is_done}
use Rattle.transmission.specs.Writing.{longest_transmission, writing_refusals, writing_answer}

pub record Writable (s room : List ℕ) : Type 0 where
  pub size : length_in s ≡ true
  pub small : all_at_most last_symbol s ≡ true
  pub wide : 2 * longest_transmission ≤ length room

module _ (s room : List ℕ) where
  pub done-writable : is_done (writing_answer s (length room)) ≡ true → Writable s room
  unfolding writing_answer writing_refusals
  done-writable e =
      let a = both_true (leb (2 * longest_transmission) (length room)) _ (kind-held is_done (writing_refusals s (length room)) done refl e) in
      let b = both_true (length_in s) _ a.1 in
      let c = both_true (all_at_most last_symbol s) true b.1 in
      record { size = b.0; small = c.0; wide = leb-true _ _ a.0 }

  pub writable-done : Writable s room → writing_answer s (length room) ≡ done
  unfolding writing_answer writing_refusals
  writable-done w =
      all_held (writing_refusals s (length room)) done (rw (le-leb (2 * longest_transmission) (length room) w.wide, w.size, w.small))
