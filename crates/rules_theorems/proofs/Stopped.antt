-- What is claimed of every stop of an entry, from what is claimed of the calls before it.
use mathlib.Core.Path.{◌≡◌}
use mathlib.Core.List.{List, [], ◌∷◌}
use mathlib.Core.Bool.{Bool, true, false, cond}
use mathlib.Core.Option.{Option}
use Prim.Native.Nat.{ℕ, zero, suc}
use lib.ListN.{get_or}
use Rattle.rules.specs.Rules.Places.{all, Each}
use Rattle.rules.specs.Rules.Words.{Party, Config, What}
use Rattle.rules.specs.Rules.Waits.{Due}
use Rattle.rules.specs.ListAlone.Book.{Stop, Call, quiet, Column, Book, blank, column}
use Rattle.rules.specs.ListAlone.Reading.{stop_of, call_of, asked_again, stops_again, stops_at}
use Rattle.rules.proofs.Hears.{Hears, says_nothing, says-begun, says-answered, says-over, says-end, Hearing, no-column, one-column, all-columns, event-hearing}
use Rattle.sequence.proofs.Tests.{both_true}
use Rattle.rules.proofs.PlaceLaws.{each_append}

-- of a stop that a call gives where it passes a test
module _ (cfg : Config) (t : ℕ) (P : Stop → Type 0) (fine : Call → Bool) (still : fine quiet ≡ true) (one : (i : ℕ) (k : Call) → fine k ≡ true → Each P (stop_of t i k)) where
  stop-if : (b : Bool) (ss : List Stop) → Each P ss → Each P (cond b ss [])
  stop-if true ss g = g
  stop-if false ss g = tt

  again-stops : (x : Party) (i : ℕ) (ls : List Column) → all (λ l. fine l.call) ls ≡ true → Each P (stops_again t x i ls)
  again-stops x i [] e = tt
  again-stops x i (l ∷ ls) e = let w = both_true (fine l.call) (all (λ l. fine l.call) ls) e in each_append P (cond (asked_again x l.call l.gone) (stop_of t i l.call) []) (stops_again t x (suc i) ls) (stop-if (asked_again x l.call l.gone) (stop_of t i l.call) (one i l.call w.0)) (again-stops x (suc i) ls w.1)

  at-column : (i : ℕ) (ls : List Column) → all (λ l. fine l.call) ls ≡ true → fine (get_or ls i blank).call ≡ true
  at-column i [] e = still
  at-column zero (l ∷ ls) e = (both_true (fine l.call) (all (λ l. fine l.call) ls) e).0
  at-column (suc i) (l ∷ ls) e = at-column i ls (both_true (fine l.call) (all (λ l. fine l.call) ls) e).1

  hears-stops : (i : ℕ) (e : What) (f : Column → Column) (s : Call → List Stop) → Hears t i e f s → (k : Call) → fine k ≡ true → Each P (s k)
  hears-stops i e _ _ (says_nothing f h) k g = tt
  hears-stops i e _ _ (says-begun h) k g = tt
  hears-stops i e _ _ (says-answered h) k g = tt
  hears-stops i e _ _ says-over k g = one i k g
  hears-stops i e _ _ (says-end x) k g = stop-if (call_of x k) (stop_of t i k) (one i k g)

  hearing-stops : (b : Book) → all (λ l. fine l.call) b.columns ≡ true → (e : What) (k : Book) (ss : List Stop) → Hearing t e b k ss → Each P ss
  hearing-stops b a e _ _ (no-column ps) = tt
  hearing-stops b a e _ _ (one-column i f s h) = hears-stops i e f s h (column b i).call (at-column i b.columns a)
  hearing-stops b a e _ _ (all-columns x) = again-stops x 0 b.columns a

  pub each-stop : (b : Book) → all (λ l. fine l.call) b.columns ≡ true → (o : Option Due) (w : What) → Each P (stops_at cfg t b o w)
  each-stop b e o w = hearing-stops b e w _ _ (event-hearing cfg t b o w)
