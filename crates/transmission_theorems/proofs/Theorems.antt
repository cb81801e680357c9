-- The statements on a transmission, proved; those on one character stand in Characters.
use Prim.Native.Nat.{ℕ, ◌+◌, ◌-◌, ◌*◌, ◌/◌, ◌%◌}
use mathlib.Core.Path.{◌≡◌, refl, ap}
use mathlib.Core.Logic.{◌⊎◌, inl, inr}
use mathlib.Core.Bool.{true}
use mathlib.Core.List.{List, [], ◌∷◌, append-nil}
use native.Mathlib.Omega.{arith}
use lib.ListN.{length}
use Rattle.sequence.specs.Symbols.{all_at_most}
use Rattle.sequence.specs.Answers.{is_done}
use Rattle.sequence.specs.Reading.{length_in}
use Rattle.reading.proofs.Passed.{passed, long}
use Rattle.transmission.specs.Layout.{transmission, bytes_of}
use Rattle.transmission.specs.Phasing.{characters_of, most_lost, heard}
use Rattle.transmission.specs.Copies.{count_of}
use Rattle.transmission.proofs.HeardLaws.{heard-lost}
use Rattle.transmission_theorems.specs.Statement.{BytesReadBack, Accepted, ReadAs, ReadsBack, SequencesReadBack}
use Rattle.transmission_theorems.specs.Statement.{FiveMadeGood, ElevenLost, EarlierWhole, WholePhasingFound, WholeRead, NothingElse}
use Rattle.transmission_theorems.proofs.AcceptedEnds.{accepted-ends}
use Rattle.transmission_theorems.proofs.HeardRest.{spoiled-kept, spoiled-inside, spoiled-shown, cut-kept, cut-shown, amid-kept}
use Rattle.transmission_theorems.proofs.Starts.{found-spoiled, found-cut, whole-found, begins-whole}
use Rattle.transmission_theorems.proofs.ReadBack.{read-ends}
use Rattle.transmission_theorems.proofs.MadeGood.{found-read, whole-there}
use Rattle.transmission_theorems.proofs.NothingElse.{only-what-stood}

-- ── what was written ─────────────────────────────────────────────────────────

-- a low byte and a high byte give their character back
characters-back : (cs : List ℕ) → characters_of (bytes_of cs) ≡ cs
characters-back [] = refl
characters-back (c ∷ cs) =
    let e : c % 256 + 256 * (c / 256) ≡ c = omega arith in
    rw (e, characters-back cs)

pub bytes-read-back : BytesReadBack
bytes-read-back s = characters-back (transmission s)

-- amid any other characters
pub whole-read : WholeRead
whole-read s size small ends before after = whole-there s size small ends _ _ _ (amid-kept s small before after)

-- with nothing before it no other is found
pub reads-back : ReadsBack
reads-back s size small = (λ h. read-ends s (heard (transmission s)) (long s size).0 h.1, there)
  where
    go : ReadAs (transmission s) s ⊎ EarlierWhole (transmission s) most_lost → ReadAs (transmission s) s
    go (inl h) = h
    go (inr h) = absurd (begins-whole _ _ h.1 (heard-lost (transmission s) _ h.0))

    there : count_of s ≡ length s → ReadAs (transmission s) s
    there ends = go (rw (append-nil (transmission s)) at (whole-read s size small ends [] []))

-- a sequence that the reader accepts
module _ (s : List ℕ) (ok : Accepted s) where
  size : length_in s ≡ true
  size = (passed s (ap is_done ok)).long

  small : all_at_most 127 s ≡ true
  small = (passed s (ap is_done ok)).symbols

  ends : count_of s ≡ length s
  ends = accepted-ends s (ap is_done ok)

pub sequences-read-back : SequencesReadBack
sequences-read-back s ok = (reads-back s (size s ok) (small s ok)).1 (ends s ok)

-- ── what was spoiled, or lost ────────────────────────────────────────────────

pub five-made-good : FiveMadeGood
five-made-good s ok place spoiled nones most fits =
    let shown = spoiled-shown s (small s ok) place spoiled nones fits in
    let kept = spoiled-kept s (small s ok) place spoiled nones fits in
    found-read s (size s ok) (small s ok) (ends s ok) _ most_lost place (length spoiled) kept
    (λ p h k i. (spoiled-inside s (small s ok) place spoiled nones fits p i, omega arith))
    (found-spoiled s _ ok shown place (length spoiled) most kept)

pub eleven-lost : ElevenLost
eleven-lost s ok lost most =
    let shown = cut-shown s (small s ok) lost most in
    let kept = cut-kept s (small s ok) lost most in
    found-read s (size s ok) (small s ok) (ends s ok) _ (most_lost - lost) 0 lost kept (λ p h k i. absurd (omega arith))
    (found-cut s _ ok lost most shown kept)

-- ── whatever was handed in ───────────────────────────────────────────────────

pub whole-phasing-found : WholePhasingFound
whole-phasing-found characters start whole = whole-found (heard characters) start whole

pub nothing-else : NothingElse
nothing-else = only-what-stood
