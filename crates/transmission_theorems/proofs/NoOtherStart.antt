-- What is heard of an accepted sequence's transmission has no start but its own.
use Prim.Native.Nat.{ℕ, ◌+◌, ◌≤◌, ◌<◌}
use mathlib.Core.Path.{◌≡◌, refl, sym, ◌∙◌, ap}
use mathlib.Core.Logic.{inl, inr}
use mathlib.Core.Bool.{true}
use mathlib.Core.List.{List}
use native.Mathlib.Nat.{add_assoc}
use native.Mathlib.Omega.{arith}
use lib.Dec.{ltb}
use lib.ListN.{length, get_or, drop, length-append, get_or-eq_default}
use lib.Seq.{get_or-drop}
use borrow.Author.Tests.{ltb-true, ltb-false}
use Rattle.sequence.specs.declared.Meaning.{Meaning}
use Rattle.sequence.specs.Symbols.{exclusive_or}
use Rattle.sequence.specs.Number.{evened, pairs_of}
use Rattle.sequence.specs.Layout.{valid, body, layout}
use Rattle.sequence.specs.Answers.{is_done}
use Rattle.sequence.specs.Reading.{meaning_of}
use Rattle.sequence.proofs.Tests.{Either, yes!, no!, which}
use Rattle.writing.proofs.EvenedLaws.{fit}
use Rattle.writing.proofs.Valid.{parts, count-pairs, layout-length}
use Rattle.sequence_theorems.proofs.RoundTrip.{lays_back, reads-valid}
use Rattle.characters.specs.Code.{none}
use Rattle.transmission.specs.Phasing.{most_lost, heard_at, phasing_at}
use Rattle.transmission.proofs.LayoutLaws.{sent-length}
use Rattle.transmission_theorems.specs.Statement.{Accepted}
use Rattle.transmission_theorems.proofs.Shown.{sent_behind, ShownAt, Shown}
use Rattle.transmission_theorems.proofs.InPlaceLaws.{of_phasing, not_none, at_most}
use Rattle.transmission_theorems.proofs.EnoughPhasing.{no_start, nothing-heard}
use Rattle.transmission_theorems.proofs.PossibleStarts.{may_be, kind_of, kinds, may_begin, none-else}
use Rattle.transmission_theorems.proofs.Fits.{Fits, plain, at-fit, fits-so, sent-fit}
use Rattle.transmission_theorems.proofs.SequenceFits.{layout-fits}

module _ (m : Meaning) (ok : valid m ≡ true) (t : List ℕ) (lost : ℕ) (shown : Shown (layout m) lost t) where
  kinds_of : List ℕ
  kinds_of = kinds (kind_of m.second) (kind_of (exclusive_or 0 (body m))) (length (pairs_of (evened m.number)))

  possible-there : (start q symbol : ℕ) → of_phasing symbol ≡ true → heard_at t (start + q) ≡ symbol
      → may_be (heard_at (drop (lost + start) (sent_behind kinds_of)) q) symbol ≡ true
  unfolding kinds_of
  possible-there start q symbol l e =
      rw (get_or-drop (lost + start) (sent_behind kinds_of) q none, add_assoc lost start q) (go (shown (start + q)))
    where
      there : Fits (get_or (sent_behind kinds_of) (lost + (start + q)) none) (get_or (sent_behind (layout m)) (lost + (start + q)) none)
      there = at-fit none none (plain refl) (sent-fit kinds_of (layout m) (layout-fits m ok)) (lost + (start + q))

      go : ShownAt (layout m) lost t (start + q) → may_be (get_or (sent_behind kinds_of) (lost + (start + q)) none) symbol ≡ true
      go (inl n) = absurd (not_none symbol l (sym n ∙ e))
      go (inr n) = fits-so (rw (sym n ∙ e) at there) l

  near : (start : ℕ) → lost + start < 85 → (lost + start ≡ most_lost → ⊥) → phasing_at t start ≡ 0
  unfolding may_begin kinds_of
  near start h other =
      let a = fit m.number (parts m ok).number in
      let c = count-pairs m ok in
      let b = at_most t start (λ q v. may_be (heard_at (drop (lost + start) (sent_behind kinds_of)) q) v) (possible-there start) in
      let some : 1 ≤ length (pairs_of (evened m.number)) = omega (arith, a.some) in
      let most : length (pairs_of (evened m.number)) ≤ 8 = omega (arith, a.most) in
      no_start t start _ _ (none-else m.second (exclusive_or 0 (body m)) _ (lost + start) some most h other) b.0 b.1

  -- the longest transmission has 74 characters
  sent-most : length (sent_behind (layout m)) ≤ 85
  sent-most =
      let a = fit m.number (parts m ok).number in
      let l = layout-length m ok in
      let n = sent-length (layout m) in
      simp length-append (omega (arith, a.most))

  far : (start : ℕ) → 85 ≤ lost + start → phasing_at t start ≡ 0
  far start h = nothing-heard t start (λ q. go q (shown (start + q)))
    where
      go : (q : ℕ) → ShownAt (layout m) lost t (start + q) → heard_at t (start + q) ≡ none
      go q (inl n) = n
      go q (inr n) =
          let l = sent-most in
          n ∙ get_or-eq_default (sent_behind (layout m)) none {n = lost + (start + q)} (omega arith)

  other-start : (start : ℕ) → (lost + start ≡ most_lost → ⊥) → phasing_at t start ≡ 0
  other-start start other = go (which (ltb (lost + start) 85))
    where
      go : Either (ltb (lost + start) 85) → phasing_at t start ≡ 0
      go (yes! p) = near start (ltb-true _ _ p) other
      go (no! p) = far start (ltb-false _ _ p)

pub no-other-start : (s t : List ℕ) (lost : ℕ) → Accepted s → Shown s lost t
    → (start : ℕ) → (lost + start ≡ most_lost → ⊥) → phasing_at t start ≡ 0
no-other-start s t lost e shown =
    other-start (meaning_of s) (reads-valid s (ap is_done e)) t lost (rw (lays_back s (ap is_done e)) shown)
