-- What is found within reach fits one number.
use Prim.Native.Nat.{ℕ, ◌<◌, ◌≤◌}
use mathlib.Core.Path.{◌≡◌, sym}
use mathlib.Core.List.{List}
use mathlib.Core.Logic.{◌⊎◌, inl, inr}
use native.Mathlib.Omega.{arith}
use lib.ListN.{length, length-take}
use lib.Seq.{take_all}
use Rattle.std.specs.Prelude.{Some}
use Rattle.sequence.specs.Figures.{longest}
use Rattle.receivers.specs.declared.Stretch.{Stretch}
use Rattle.receivers.specs.declared.Receiver.{Receiver}
use Rattle.receivers.specs.declared.Receiver.TheVariants.{First, Second}
use Rattle.receivers.specs.declared.Found.{Found}
use Rattle.receivers.specs.Finding.{found_in, handed, heard_by}
use Rattle.receivers.proofs.FoundLaws.{found-inside, found-sized}
use Rattle.coast.specs.Finding.{reach, in_reach, receiver_number, found_returned}
use Rattle.coast.specs.Statement.{FoundTakenApart}

pub all-in-reach : (b : List ℕ) → length b ≤ reach → in_reach b ≡ b
unfolding in_reach
all-in-reach b h = take_all reach b h

within-reach : (b : List ℕ) → length (in_reach b) ≤ 281474976710656
unfolding in_reach reach
within-reach b = omega (arith, length-take 281474976710656 b)

either-within : (r : Receiver) (first second : List ℕ) → length (heard_by r (in_reach first) (in_reach second)) ≤ 281474976710656
either-within First first second = within-reach first
either-within Second first second = within-reach second

pub found-fits : (first second : List ℕ) (f : Found) → Some f ≡ found_in (in_reach first) (in_reach second)
    → (f.stretch.count ≤ longest) × (f.stretch.place < reach)
unfolding reach
found-fits first second f e =
    let i = found-inside (in_reach first) (in_reach second) f (sym e) in
    (i.most, omega (arith, i.least, i.within, either-within f.receiver first second))

pub one_bit : (r : Receiver) → receiver_number r ≤ 1
one_bit First = omega arith
one_bit Second = omega arith

pub found-taken-apart : FoundTakenApart
unfolding found_returned
found-taken-apart first second =
    let f = handed (found_in first second) in
    let bit = one_bit f.receiver in
    let few = few_bytes (found-sized first second) in
    (omega (arith, few, bit), omega (arith, few, bit), omega (arith, few, bit))
  where
    few_bytes : {w : Stretch} → (w ≡ record { place = 0; count = 0 }) ⊎ ((21 ≤ w.count) × (w.count ≤ 28)) → w.count ≤ 28
    few_bytes (inl e) = rw e (omega arith)
    few_bytes (inr h) = h.1
