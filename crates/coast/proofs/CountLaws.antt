-- How much is written of a transmission, and read.
use Prim.Native.Nat.{ℕ, ◌<◌, ◌≤◌}
use mathlib.Core.Path.{◌≡◌, refl}
use mathlib.Core.List.{List}
use native.Mathlib.Omega.{arith}
use lib.ListN.{length, replicate, length-replicate}
use Rattle.std.specs.Prelude.{Result, Ok, Err, IfOk, Some, None}
use Rattle.sequence.specs.Figures.{longest}
use Rattle.transmission.specs.declared.Refusal.{Refusal}
use Rattle.transmission.specs.Answers.{Answer, done, answered}
use Rattle.transmission.specs.Layout.{transmission}
use Rattle.transmission.specs.Copies.{symbols_from}
use Rattle.transmission.specs.Phasing.{heard, characters_of}
use Rattle.transmission.specs.Writing.{longest_transmission, writing_answer, transmission_written}
use Rattle.transmission.specs.Reading.{start_in, count_in, transmission_read}
use Rattle.transmission.proofs.LayoutLaws.{transmission-length}
use Rattle.transmission.proofs.SymbolLaws.{count_most}
use Rattle.sending.proofs.Done.{done-fit}

within : (most : ℕ) (a : Answer) (n : ℕ) → (a ≡ done → n ≤ most) → IfOk (answered a n) (λ count. count ≤ most)
within most None n h = h refl
within most (Some r) n h = tt

-- so few that the count is a byte
byte : (most : ℕ) (told : Result ℕ Refusal) → most < 256 → IfOk told (λ count. count ≤ most) → IfOk told (λ count. count < 256)
byte most (Ok count) m h = omega (arith, m, h)
byte most (Err r) m h = tt

-- no more than 74 characters
pub characters-at-most : (s : List ℕ) (room : ℕ) → IfOk (transmission_written s room) (λ count. count ≤ longest_transmission)
unfolding transmission_written
characters-at-most s room = within longest_transmission (writing_answer s room) (length (transmission s)) (λ e.
    let fit = done-fit s (replicate room 0) (rw (length-replicate {A = ℕ} room 0) e) in
    rw (transmission-length s) (omega (arith, fit.most)))

pub characters-few : (s : List ℕ) (room : ℕ) → IfOk (transmission_written s room) (λ count. count < 256)
characters-few s room = byte longest_transmission (transmission_written s room) (omega arith) (characters-at-most s room)

-- no more than 28 symbols
pub symbols-at-most : (bytes : List ℕ) (room : ℕ) → IfOk (transmission_read bytes room) (λ count. count ≤ longest)
unfolding transmission_read count_in
symbols-at-most bytes room = within longest _ (count_in (heard (characters_of bytes))) (λ e. count_most (symbols_from (heard (characters_of bytes)) (start_in (heard (characters_of bytes)))))

pub symbols-few : (bytes : List ℕ) (room : ℕ) → IfOk (transmission_read bytes room) (λ count. count < 256)
symbols-few bytes room = byte longest (transmission_read bytes room) (omega arith) (symbols-at-most bytes room)
