-- The character at a place, by the bytes handed in; and phasing by characters is phasing by symbols.
use Prim.Native.Nat.{ℕ, zero, suc, ◌+◌, ◌-◌, ◌*◌, ◌/◌, ◌≤◌, ◌<◌}
use mathlib.Core.Path.{◌≡◌, refl, sym, ◌∙◌}
use mathlib.Core.Bool.{true, false, cond, true≢false}
use mathlib.Core.List.{List, [], ◌∷◌, map}
use native.Mathlib.Omega.{arith}
use lib.Count.{ones, ones_in}
use lib.Dec.{leb, ltb, eqb}
use lib.ListN.{length, get_or, drop, replicate, get_or-replicate, get_or-append, get_or-eq_default}
use lib.Seq.{get_or-append-add}
use borrow.Author.Tests.{leb-true, ltb-true, ltb-false, eq-eqb, ne_eqb}
use Rattle.std.specs.Prelude.{Some, None}
use Rattle.sequence.specs.Symbols.{all_at_most}
use Rattle.sequence.proofs.Tests.{both_true, Either, yes!, no!, which}
use Rattle.sequence.proofs.Rest.{rest}
use Rattle.characters.specs.Code.{zeros, ten_units, no_character, character_of, symbol_of}
use Rattle.characters.proofs.CodeLaws.{over-is-none, reads_as}
use Rattle.transmission.specs.Layout.{dx_phasing, rx_phasing}
use Rattle.transmission.specs.Phasing.{characters_of, most_lost, heard, heard_at, in_place, dx_good, rx_good, is_phasing, phasing_at, start_at}
use Rattle.transmission.specs.Phasing.{found_start}
use Rattle.transmission.proofs.HeardLaws.{length-characters, character-there, heard-lost, heard-there}
use Rattle.transmission.proofs.PhasingLaws.{one_at_most, no-rx}
use Rattle.phasing.specs.Characters.{character_at, dx_characters, rx_characters, standing}

-- ── a character ──────────────────────────────────────────────────────────────

module _ (bytes : List ℕ) where
  pub before-first : (place : ℕ) → place < most_lost → character_at bytes place ≡ no_character
  unfolding character_at
  before-first place h =
      get_or-append (replicate most_lost no_character) (characters_of bytes) no_character place h
      ∙ get_or-replicate most_lost place no_character no_character h

  from_first : (i : ℕ) → character_at bytes (most_lost + i) ≡ get_or (characters_of bytes) i no_character
  unfolding character_at
  from_first i = get_or-append-add (replicate most_lost no_character) (characters_of bytes) i no_character

  counted : (place : ℕ) → most_lost ≤ place → character_at bytes place ≡ get_or (characters_of bytes) (place - most_lost) no_character
  counted place h =
      let e : most_lost + (place - most_lost) ≡ place = omega arith in
      rw e at (from_first (place - most_lost))

  pub handed-in : (place : ℕ) → most_lost ≤ place → place - most_lost < length bytes / 2
      → character_at bytes place ≡ get_or bytes (2 * (place - most_lost)) 0 + 256 * get_or bytes (2 * (place - most_lost) + 1) 0
  handed-in place h k = counted place h ∙ character-there bytes (place - most_lost) no_character k

  pub past-last : (place : ℕ) → most_lost ≤ place → length bytes / 2 ≤ place - most_lost → character_at bytes place ≡ no_character
  past-last place h k =
      counted place h ∙ get_or-eq_default (characters_of bytes) no_character (omega (arith, length-characters bytes))

  -- what was heard is its symbol
  pub heard-is : (place : ℕ) → heard_at (heard (characters_of bytes)) place ≡ symbol_of (character_at bytes place)
  heard-is place = go (which (ltb place most_lost))
    where
      go : Either (ltb place most_lost) → heard_at (heard (characters_of bytes)) place ≡ symbol_of (character_at bytes place)
      go (yes! l) =
          let h = ltb-true place most_lost l in
          rw (before-first place h) (heard-lost (characters_of bytes) place h ∙ over-is-none no_character (omega arith))
      go (no! l) =
          let h = ltb-false place most_lost l in
          let e : most_lost + (place - most_lost) ≡ place = omega arith in
          rw (counted place h) (rw e at (heard-there (characters_of bytes) (place - most_lost)))

-- ── characters in their places ───────────────────────────────────────────────

module _ (bytes wanted : List ℕ) (place : ℕ) where
  standing-turn : (i : ℕ) → i < length wanted
      → standing bytes (drop i wanted) (place + 2 * i)
      ≡ cond (eqb (character_at bytes (place + 2 * i)) (get_or wanted i 0)) 1 0 + standing bytes (drop (i + 1) wanted) (place + 2 * (i + 1))
  standing-turn i h =
      let e : place + 2 * (i + 1) ≡ place + 2 * i + 2 = omega arith in
      rw (rest wanted i h, e)

  -- the next one stands in its place, or does not
  pub one_more : (i count : ℕ) → i < length wanted → character_at bytes (place + 2 * i) ≡ get_or wanted i 0
      → count + standing bytes (drop i wanted) (place + 2 * i) ≡ standing bytes wanted place
      → count + 1 + standing bytes (drop (i + 1) wanted) (place + 2 * (i + 1)) ≡ standing bytes wanted place
  one_more i count h e total = omega (arith, total, rw (eq-eqb _ _ e) at (standing-turn i h))

  pub no_more : (i count : ℕ) → i < length wanted → (character_at bytes (place + 2 * i) ≡ get_or wanted i 0 → ⊥)
      → count + standing bytes (drop i wanted) (place + 2 * i) ≡ standing bytes wanted place
      → count + standing bytes (drop (i + 1) wanted) (place + 2 * (i + 1)) ≡ standing bytes wanted place
  no_more i count h e total = omega (arith, total, rw (ne_eqb _ _ e) at (standing-turn i h))

pub standing-most : (bytes wanted : List ℕ) (place : ℕ) → standing bytes wanted place ≤ length wanted
standing-most bytes [] place = omega arith
standing-most bytes (character ∷ wanted) place =
    omega (arith, one_at_most (eqb (character_at bytes place) character), standing-most bytes wanted (place + 2))

-- by the characters of symbols they are as many as by the symbols
standing-is : (bytes wanted : List ℕ) (place : ℕ) → all_at_most 127 wanted ≡ true
    → standing bytes (map character_of wanted) place ≡ in_place (heard (characters_of bytes)) wanted place
standing-is bytes [] place h = refl
standing-is bytes (symbol ∷ wanted) place h =
    let a = both_true (leb symbol 127) (all_at_most 127 wanted) h in
    rw (heard-is bytes place, reads_as (character_at bytes place) symbol (leb-true _ _ a.0), standing-is bytes wanted (place + 2) a.1)

-- phasing has an RX character
rx_some : (dx rx : ℕ) → is_phasing dx rx ≡ true → 1 ≤ rx
rx_some dx zero e = absurd (true≢false (sym e ∙ no-rx dx))
rx_some dx (suc rx) e = omega arith

module _ (bytes : List ℕ) (start : ℕ) where
  dx-standing : standing bytes dx_characters start ≡ dx_good (heard (characters_of bytes)) start
  unfolding dx_good dx_phasing character_of ten_units zeros ones ones_in
  dx-standing = standing-is bytes dx_phasing start refl

  rx-standing : standing bytes rx_characters (start + 1) ≡ rx_good (heard (characters_of bytes)) start
  unfolding rx_good rx_phasing character_of ten_units zeros ones ones_in
  rx-standing = standing-is bytes rx_phasing (start + 1) refl

  module _ (dx rx : ℕ) (d : dx ≡ standing bytes dx_characters start) (r : rx ≡ standing bytes rx_characters (start + 1)) where
    phasing-there : is_phasing dx rx ≡ true → dx + rx ≡ phasing_at (heard (characters_of bytes)) start
    unfolding phasing_at
    phasing-there e = rw (← dx-standing, ← rx-standing, ← d, ← r, e)

    pub start-there : is_phasing dx rx ≡ true
        → Some (record { place = start; phasing = dx + rx }) ≡ found_start (start_at (heard (characters_of bytes)) start)
    start-there e =
        let some = rx_some dx rx e in
        rw (← phasing-there e, ne_eqb (dx + rx) 0 (λ z. omega (arith, z, some)))

    phasing-missing : is_phasing dx rx ≡ false → 0 ≡ phasing_at (heard (characters_of bytes)) start
    unfolding phasing_at
    phasing-missing e = rw (← dx-standing, ← rx-standing, ← d, ← r, e)

    pub no_start : is_phasing dx rx ≡ false → None ≡ found_start (start_at (heard (characters_of bytes)) start)
    no_start e = rw (← phasing-missing e)
