-- The line so far, byte by byte, and what it says.
use mathlib.Core.Bool.{Bool, true, false, cond, not}
use mathlib.Core.List.{List, [], ◌∷◌}
use mathlib.Core.Option.{Option, none, some}
use mathlib.Core.Path.{◌≡◌, refl, ◌∙◌, ap}
use Prim.Native.Nat.{ℕ, suc, ◌+◌, min}
use native.Mathlib.Omega.{arith}
use lib.Dec.{leb, ltb, eqb}
use lib.ListN.{length, take}
use lib.Seq.{take_all}
use borrow.Author.Tests.{leb-true, leb-false}
use Rattle.std.specs.List.{position_or_len}
use Rattle.std.specs.Option.{unwrap_or}
use Rattle.std.specs.Prelude.{Option as Optional, Some, None}
use Rattle.std.proofs.lemmas.List.Sums.{prefix_len-le-length}
use Rattle.printing.proofs.PutLaws.{or-all}
use Rattle.sequence.proofs.Tests.{Either, yes!, no!, which}
use Rattle.lines.specs.Lines.{Said}
use Rattle.lines.specs.Readable.{reads_as}
use Rattle.lines.proofs.Exactly.{reads-exactly}
use Rattle.script.specs.declared.Text.{Text}
use Rattle.script.specs.Session.{says_text, before_feed}
use Rattle.script.proofs.LineLaws.{in_range_of}

-- before a line feed, as the place that is looked for
first-feed : (l : List ℕ) → before_feed l ≡ position_or_len (λ b. eqb b 10) l
first-feed [] = refl
first-feed (b ∷ l) = go (eqb b 10) (first-feed l)
  where
    p : ℕ
    p = position_or_len (λ b. eqb b 10) l

    go : (x : Bool) → before_feed l ≡ p → cond x 0 (suc (before_feed l)) ≡ cond (not x) (1 + p) 0
    go true e = refl
    go false e = omega (arith, e)

pub before-feed : (l : List ℕ) (r : Optional ℕ) (n : ℕ)
    → r ≡ cond (ltb (position_or_len (λ b. eqb b 10) l) (length l)) (Some (position_or_len (λ b. eqb b 10) l)) None
    → n ≡ unwrap_or r (length l) → n ≡ before_feed l
before-feed l r n e f =
    let p = position_or_len (λ b. eqb b 10) l in
    rw first-feed (f ∙ ap (λ o. unwrap_or o (length l)) e ∙ or-all p (length l) (prefix_len-le-length (λ b. not (eqb b 10)) l))

-- a text that says it is longer than its bytes has no more of them
pub kept-says : (t : Text) (n : ℕ) → length t.bytes ≡ 201 → n ≡ min t.length 201 → reads_as (take n t.bytes) ≡ says_text t
unfolding says_text
kept-says t n w e = go (which (leb t.length 201))
  where
    go : Either (leb t.length 201) → reads_as (take n t.bytes) ≡ reads_as (take t.length t.bytes)
    go (yes! h) =
        let q : n ≡ t.length = omega (arith, leb-true t.length 201 h) in
        rw q
    go (no! h) =
        let k = leb-false t.length 201 h in
        rw (take_all n t.bytes (omega arith), take_all t.length t.bytes (omega arith))

reads-in-range : (text : List ℕ) → in_range_of (reads_as text) ≡ true
reads-in-range text = go (reads_as text) refl
  where
    go : (o : Option Said) → reads_as text ≡ o → in_range_of o ≡ true
    go none e = refl
    go (some said) e = ((reads-exactly text said).0 e).2

pub says-in-range : (t : Text) → in_range_of (says_text t) ≡ true
unfolding says_text
says-in-range t = reads-in-range (take t.length t.bytes)
