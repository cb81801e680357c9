-- What is heard of a transmission of which places in a row were spoiled, or the beginning lost; and of one amid other characters.
use Prim.Native.Nat.{ℕ, zero, suc, ◌+◌, ◌-◌, ◌≤◌}
use mathlib.Core.Path.{◌≡◌, refl, sym, ap, ◌∙◌}
use mathlib.Core.Logic.{inl, inr}
use mathlib.Core.Bool.{true}
use mathlib.Core.List.{List, ◌++◌}
use native.Mathlib.Omega.{arith}
use lib.ListN.{length, get_or, drop, length-append, get_or-append, get_or-eq_default}
use lib.Seq.{get_or-drop, get_or-append-add}
use Rattle.sequence.specs.Symbols.{all_at_most}
use Rattle.characters.specs.Code.{none, no_character, symbol_of}
use Rattle.characters.proofs.CodeLaws.{over-is-none}
use Rattle.transmission.specs.Layout.{transmission}
use Rattle.transmission.specs.Phasing.{most_lost, heard, heard_at}
use Rattle.transmission.proofs.HeardLaws.{heard-lost, heard-there}
use Rattle.transmission_theorems.specs.Statement.{AllNone, no_more, one_more, replaced}
use Rattle.transmission_theorems.proofs.Shown.{Shown, Outside, Inside, KeptBut}
use Rattle.transmission_theorems.proofs.ShownLaws.{all_shown, none-or-sent}
use Rattle.transmission_theorems.proofs.ReplacedLaws.{replaced-inside, replaced-outside}
use Rattle.transmission_theorems.proofs.SentLaws.{heard-as-sent}

-- ── spoiled ──────────────────────────────────────────────────────────────────

spoiled-none : {cs : List ℕ} → AllNone cs → (i : ℕ) → symbol_of (get_or cs i no_character) ≡ none
spoiled-none no_more i = sym (over-is-none no_character (omega arith))
spoiled-none (one_more e n) zero = e
spoiled-none (one_more e n) (suc i) = spoiled-none n i

module _ (s : List ℕ) (small : all_at_most 127 s ≡ true) where
  module _ (place : ℕ) (spoiled : List ℕ) (nones : AllNone spoiled) (fits : place + length spoiled ≤ length (transmission s)) where
    pub spoiled-kept : KeptBut s (heard (replaced (transmission s) place spoiled)) most_lost place (length spoiled)
    spoiled-kept p h =
        heard-there (replaced (transmission s) place spoiled) p
        ∙ ap symbol_of (replaced-outside (transmission s) place spoiled fits p no_character h)
        ∙ heard-as-sent s small p

    pub spoiled-inside : (p : ℕ) → Inside place (length spoiled) p
        → heard_at (heard (replaced (transmission s) place spoiled)) (most_lost + p) ≡ none
    spoiled-inside p i =
        let e : p ≡ place + (p - place) = omega arith in
        heard-there (replaced (transmission s) place spoiled) p
        ∙ ap symbol_of
        (ap (λ (n : ℕ). get_or (replaced (transmission s) place spoiled) n no_character) e
        ∙ replaced-inside (transmission s) place spoiled fits (p - place) no_character (omega arith))
        ∙ spoiled-none nones (p - place)

    pub spoiled-shown : Shown s 0 (heard (replaced (transmission s) place spoiled))
    spoiled-shown =
        all_shown s (heard (replaced (transmission s) place spoiled)) 0 most_lost refl (heard-lost (replaced (transmission s) place spoiled))
        (none-or-sent s (heard (replaced (transmission s) place spoiled)) most_lost place (length spoiled) spoiled-kept spoiled-inside)

  -- ── lost ───────────────────────────────────────────────────────────────────

  module _ (lost : ℕ) (most : lost ≤ most_lost) where
    pub cut-kept : KeptBut s (heard (drop lost (transmission s))) (most_lost - lost) 0 lost
    cut-kept p (inl h) = absurd (omega arith)
    cut-kept p (inr h) =
        let e : most_lost - lost + p ≡ most_lost + (p - lost) = omega arith in
        let f : lost + (p - lost) ≡ p = omega arith in
        rw e
        (heard-there (drop lost (transmission s)) (p - lost)
        ∙ ap symbol_of (get_or-drop lost (transmission s) (p - lost) no_character)
        ∙ (rw f (heard-as-sent s small p)))

    pub cut-shown : Shown s lost (heard (drop lost (transmission s)))
    cut-shown =
        all_shown s (heard (drop lost (transmission s))) lost (most_lost - lost) (omega arith)
        (λ q h. heard-lost (drop lost (transmission s)) q (omega arith))
        (none-or-sent s (heard (drop lost (transmission s))) (most_lost - lost) 0 lost cut-kept
        (λ p i. heard-lost (drop lost (transmission s)) (most_lost - lost + p) (omega arith)))

  -- ── amid others ────────────────────────────────────────────────────────────

  module _ (before after : List ℕ) where
    -- all but the places of those behind it
    pub amid-kept : KeptBut s (heard (before ++ (transmission s ++ after)))
        (most_lost + length before) (length (transmission s)) (length after)
    amid-kept p o =
        let e : most_lost + length before + p ≡ most_lost + (length before + p) = omega arith in
        rw e
        (heard-there (before ++ (transmission s ++ after)) (length before + p)
        ∙ ap symbol_of (get_or-append-add before (transmission s ++ after) p no_character ∙ go o)
        ∙ heard-as-sent s small p)
      where
        go : Outside (length (transmission s)) (length after) p
            → get_or (transmission s ++ after) p no_character ≡ get_or (transmission s) p no_character
        go (inl h) = get_or-append (transmission s) after no_character p h
        go (inr h) =
            get_or-eq_default (transmission s ++ after) no_character (omega (arith, length-append (transmission s) after))
            ∙ sym (get_or-eq_default (transmission s) no_character (omega arith))
