-- The bytes of a valid meaning stand for that meaning again, so what was read can be handed to the writer as it stands; and no
-- other bytes stand for it.
use Prim.Native.Nat.{ℕ, ◌≤◌}
use mathlib.Core.Path.{◌≡◌, refl, ap, ◌∙◌}
use mathlib.Core.Bool.{true, false}
use mathlib.Core.List.{List, [], ◌++◌}
use native.Mathlib.Omega.{arith}
use lib.Dec.{leb}
use lib.ListN.{length, get_or, take, length-append}
use borrow.Author.Tests.{le-leb, leb-true}
use Rattle.sequence.specs.declared.Meaning.{Meaning}
use Rattle.sequence.specs.Identity.{is_ship, is_coast, identities_ok}
use Rattle.sequence.specs.Layout.{valid}
use Rattle.sequence.specs.Reading.{blank_meaning}
use Rattle.sequence.proofs.Tests.{Either, yes!, no!, which}
use Rattle.writing.proofs.EvenedLaws.{all-at, fit}
use Rattle.writing.proofs.Valid.{parts}
use Rattle.layouts.specs.Fields.{encode, decode}
use Rattle.layouts.proofs.FieldLaws.{there_and_back, back-and-there}
use Rattle.channel_fields.proofs.Back.{field_back, field-again}
use Rattle.lent_layout.specs.Meanings.{meaning_fields, meaning_size, meaning_numbers, meaning_bytes, meaning_in, meaning_from}
use Rattle.lent_layout.specs.Statement.{MeaningIsFoundAgain, MeaningIsLaidAgain}
use Rattle.lent_layout.proofs.LayLaws.{sixteen}

numbers-back : (m : Meaning) → valid m ≡ true → meaning_in (meaning_numbers m) ≡ m
unfolding meaning_in meaning_numbers
numbers-back m v = rw (field_back m.first m.field (parts m v).field, sixteen m.number.digits (fit m.number (parts m v).number).wide)

decoded : (m : Meaning) (rest : List ℕ) → decode meaning_fields (meaning_bytes m ++ rest) 0 ≡ meaning_numbers m
unfolding meaning_bytes meaning_numbers
decoded m rest = there_and_back meaning_fields (meaning_numbers m) [] rest 0 0 refl refl refl

meaning-size : (m : Meaning) → length (meaning_bytes m) ≡ meaning_size
unfolding meaning_bytes meaning_numbers
meaning-size m = refl

pub meaning-is-found-again : MeaningIsFoundAgain
unfolding meaning_from
meaning-is-found-again m rest =
    let long : meaning_size ≤ length (meaning_bytes m ++ rest) = rw (length-append (meaning_bytes m) rest, meaning-size m) (omega arith) in
    (meaning-size m, λ v. rw (le-leb _ _ long, decoded m rest) (numbers-back m v))

-- ── bytes that tell a valid meaning ──────────────────────────────────────────

numbers-again : (b : List ℕ) → ((j : ℕ) → get_or b j 0 ≤ 255) → valid (meaning_in (decode meaning_fields b 0)) ≡ true
    → meaning_numbers (meaning_in (decode meaning_fields b 0)) ≡ decode meaning_fields b 0
unfolding meaning_in meaning_numbers
numbers-again b small v =
    rw (field-again (get_or b 8 0) (record { kind = get_or b 10 0; first = get_or b 11 0; second = get_or b 12 0; third = get_or b 13 0 }) (small 11) (parts (meaning_in (decode meaning_fields b 0)) v).field)

laid-again : (b : List ℕ) → meaning_size ≤ length b → ((j : ℕ) → get_or b j 0 ≤ 255) → valid (meaning_in (decode meaning_fields b 0)) ≡ true
    → meaning_bytes (meaning_in (decode meaning_fields b 0)) ≡ take meaning_size b
unfolding meaning_bytes
laid-again b long small v =
    ap (encode meaning_fields) (numbers-again b small v) ∙ back-and-there meaning_fields b 0 0 small long

blank-is-none : valid blank_meaning ≡ false
unfolding valid blank_meaning identities_ok is_ship is_coast
blank-is-none = refl

pub meaning-is-laid-again : MeaningIsLaidAgain
unfolding meaning_from
meaning-is-laid-again b bytes = go (which (leb meaning_size (length b)))
  where
    go : Either (leb meaning_size (length b)) → valid (meaning_from b) ≡ true → (meaning_size ≤ length b) × (meaning_bytes (meaning_from b) ≡ take meaning_size b)
    go (yes! h) v =
        let long = leb-true meaning_size (length b) h in
        (long, rw h (laid-again b long (λ j. all-at 255 b j bytes) (rw h at v)))
    go (no! h) v =
        let f : valid blank_meaning ≡ true = rw h at v in
        let g = blank-is-none in
        let z : ◌≡◌ {A = ℕ} 0 1 = cc in
        absurd (omega (arith, z))
