-- Reading a valid meaning's layout gives the meaning back, and laying out what was read gives the symbols back.
use Prim.Native.Nat.{ℕ, ◌+◌, ◌-◌, ◌*◌, ◌/◌, ◌%◌, ◌<◌, ◌≤◌}
use mathlib.Core.Path.{◌≡◌, refl, sym, ap, ◌∙◌}
use mathlib.Core.Bool.{true}
use mathlib.Core.List.{List, [], ◌∷◌, ◌++◌, append_assoc}
use native.Mathlib.Omega.{arith}
use lib.Bits.{bit_xor, xor_lt}
use lib.Dec.{leb}
use lib.ListN.{length, take, drop, get_or, length-append, length-take, length-drop, drop_of_length-le, take-append-drop}
use lib.Seq.{take_at, drop_at, get_or-append_seam, get_or-drop, drop-drop}
use borrow.Author.Tests.{le-leb, eq-eqb, leb-true, eqb-true}
use Rattle.std.specs.Prelude.{Ok}
use Rattle.sequence.specs.declared.Meaning.{Meaning}
use Rattle.sequence.specs.Answers.{is_done}
use Rattle.sequence.specs.Symbols.{all_at_most, exclusive_or}
use Rattle.sequence.specs.Identity.{identities_ok}
use Rattle.sequence.specs.Field.{field_first, field_second, field_third}
use Rattle.sequence.specs.Number.{pairs_of, evened, parity}
use Rattle.sequence.specs.Layout.{valid, front, body, layout}
use Rattle.sequence.specs.Reading.{length_in, identity_at, identity_pairs_at, pairs_in, check_in, format_in, identities_in, category_in, telecommands_in, field_in, number_in, end_in, answer_of, meaning_of, reading_of}
use Rattle.sequence.proofs.Rest.{rest}
use Rattle.sequence.proofs.Tests.{both_true}
use Rattle.reading.proofs.Passed.{Passed, passed, done, long}
use Rattle.writing.proofs.EvenedLaws.{fit, evened-all}
use Rattle.writing.proofs.Bounds.{telecommands-le, field-le, end-le, parity-le}
use Rattle.writing.proofs.Valid.{parts, whole as all-parts, identities-le, front_length, count-pairs, body-length, layout-length}
use Rattle.sequence_theorems.proofs.IdentityLaws.{identity-value, identity-pairs, identity-back}
use Rattle.sequence_theorems.proofs.FieldLaws.{kept, Back, back}
use Rattle.sequence_theorems.proofs.NumberLaws.{pairs-all, number_same, number-reads, Again, again}

-- bounds over appended lists, and of an exclusive-or
pub all_append : (m : ℕ) (k l : List ℕ) → all_at_most m k ≡ true → all_at_most m l ≡ true → all_at_most m (k ++ l) ≡ true
all_append m [] l e f = f
all_append m (a ∷ k) l e f =
    let h = both_true (leb a m) (all_at_most m k) e in
    rw h.0 (all_append m k l h.1 f)

all_up : (m n : ℕ) (l : List ℕ) → m ≤ n → all_at_most m l ≡ true → all_at_most n l ≡ true
all_up m n [] h e = refl
all_up m n (a ∷ l) h e =
    let k = both_true (leb a m) (all_at_most m l) e in
    rw (le-leb a n (omega (arith, leb-true a m k.0))) (all_up m n l h k.1)

xor-small : (x : ℕ) (l : List ℕ) → x < 128 → all_at_most 127 l ≡ true → exclusive_or x l < 128
xor-small x [] h e = h
xor-small x (a ∷ l) h e =
    let k = both_true (leb a 127) (all_at_most 127 l) e in
    xor-small (bit_xor x a) l (xor_lt 7 x a h (omega (arith, leb-true a 127 k.0))) k.1

-- ---- a valid meaning, and its layout
module _ (m : Meaning) (ok : valid m ≡ true) where
  size : length_in (layout m) ≡ true
  unfolding length_in
  size =
      let l = layout-length m ok in
      let a = fit m.number (parts m ok).number in
      rw (le-leb 21 (length (layout m)) (omega (arith, a.some)), le-leb (length (layout m)) 28 (omega (arith, a.most)))

  front-small : all_at_most 127 (front m) ≡ true
  unfolding front
  front-small =
      let i = identities-le m.address m.sender (parts m ok).identities in
      let t = telecommands-le m.first m.second (parts m ok).telecommands in
      let f = field-le m.first m.field (parts m ok).field in
      rw (
        le-leb (m.address / 10000000) 127 (omega arith),
        le-leb (m.address / 100000 % 100) 127 (omega arith),
        le-leb (m.address / 1000 % 100) 127 (omega arith),
        le-leb (m.address / 10 % 100) 127 (omega arith),
        le-leb (m.address % 10 * 10) 127 (omega arith),
        le-leb (m.sender / 10000000) 127 (omega arith),
        le-leb (m.sender / 100000 % 100) 127 (omega arith),
        le-leb (m.sender / 1000 % 100) 127 (omega arith),
        le-leb (m.sender / 10 % 100) 127 (omega arith),
        le-leb (m.sender % 10 * 10) 127 (omega arith),
        le-leb m.first 127 t.0,
        le-leb m.second 127 t.1,
        le-leb (field_first m.field) 127 f.first,
        le-leb (field_second m.field) 127 f.second,
        le-leb (field_third m.field) 127 f.third,
        le-leb (parity m.number.count) 127 (parity-le m.number.count),
      )

  body-small : all_at_most 127 (body m) ≡ true
  unfolding body
  body-small =
      all_append 127 (front m) _ front-small
      (all_append 127 (pairs_of (evened m.number)) (m.end ∷ [])
      (all_up 99 127 (pairs_of (evened m.number)) (omega arith) (pairs-all (evened m.number) (evened-all m.number (parts m ok).number)))
      (rw (le-leb m.end 127 (end-le m.end (parts m ok).end))))

  small : all_at_most 127 (layout m) ≡ true
  unfolding layout
  small =
      all_append 127 (body m) _ body-small
      (rw (le-leb (exclusive_or 0 (body m)) 127 (omega (arith, xor-small 0 (body m) (omega arith) body-small))))

  checks : check_in (layout m) ≡ true
  unfolding check_in layout
  checks =
      let b = body-length m ok in
      let l : length (body m ++ (exclusive_or 0 (body m) ∷ [])) - 1 ≡ length (body m) = simp length-append (omega arith) in
      let g : 1 ≤ length (body m ++ (exclusive_or 0 (body m) ∷ [])) = simp length-append (omega arith) in
      rw (
        le-leb 1 (length (body m ++ (exclusive_or 0 (body m) ∷ []))) g,
        l,
        take_at (body m) (exclusive_or 0 (body m) ∷ []) (length (body m)) refl,
        get_or-append_seam (body m) (exclusive_or 0 (body m)) [] 0,
      )
      (eq-eqb (exclusive_or 0 (body m)) (exclusive_or 0 (body m)) refl)

  ids-same : (identity_at (layout m) 1 ≡ m.address) × (identity_at (layout m) 7 ≡ m.sender)
  unfolding identity_at layout body front
  ids-same = (identity-value m.address, identity-value m.sender)

  ids : identities_in (layout m) ≡ true
  unfolding identities_in
  ids =
      let i = identities-le m.address m.sender (parts m ok).identities in
      let a : identity_pairs_at (layout m) 1 ≡ true = unfold identity_pairs_at layout body front in identity-pairs m.address (omega arith) in
      let b : identity_pairs_at (layout m) 7 ≡ true = unfold identity_pairs_at layout body front in identity-pairs m.sender (omega arith) in
      rw (a, b, ids-same.0, ids-same.1) (parts m ok).identities

  -- the pairs stand between the first eighteen symbols and the last two
  tail : drop 18 (layout m) ≡ pairs_of (evened m.number) ++ (m.end ∷ exclusive_or 0 (body m) ∷ [])
  unfolding layout body
  tail =
      rw (
        append_assoc (front m) (pairs_of (evened m.number) ++ (m.end ∷ [])) (exclusive_or 0 (front m ++ (pairs_of (evened m.number) ++ (m.end ∷ []))) ∷ []),
        drop_at (front m) _ 18 (front_length m),
      )
      (append_assoc (pairs_of (evened m.number)) (m.end ∷ []) _)

  pairs-same : pairs_in (layout m) ≡ pairs_of (evened m.number)
  unfolding pairs_in
  pairs-same =
      let l = layout-length m ok in
      let c = count-pairs m ok in
      rw tail (take_at (pairs_of (evened m.number)) _ (length (layout m) - 20) (omega arith))

  end_same : get_or (layout m) (length (layout m) - 2) 0 ≡ m.end
  end_same =
      let l = layout-length m ok in
      let c = count-pairs m ok in
      let e : 18 + length (pairs_of (evened m.number)) ≡ length (layout m) - 2 = omega arith in
      rw (← e, ← get_or-drop 18 (layout m) (length (pairs_of (evened m.number))) 0, tail)
      (get_or-append_seam (pairs_of (evened m.number)) m.end (exclusive_or 0 (body m) ∷ []) 0)

  pub all-passed : Passed (layout m)
  unfolding format_in category_in telecommands_in field_in number_in end_in
  all-passed =
      record {
        long = size;
        symbols = small;
        check = checks;
        format = unfold layout body front in refl;
        identities = ids;
        category = unfold layout body front in refl;
        telecommands = unfold layout body front in (parts m ok).telecommands;
        field = unfold layout body front in (kept m.first m.field (parts m ok).field).reads;
        number = rw pairs-same (unfold layout body front in number-reads m.number (parts m ok).number);
        end = rw end_same (parts m ok).end;
      }

  same : meaning_of (layout m) ≡ m
  unfolding meaning_of
  same =
      rw (ids-same.0, ids-same.1, pairs-same, end_same)
      (unfold layout body front in rw ((kept m.first m.field (parts m ok).field).same, number_same m.number (parts m ok).number))

  -- reading the layout gives the meaning back
  pub reads-back : reading_of (layout m) ≡ Ok m
  unfolding reading_of
  reads-back = rw (done (layout m) all-passed, same)

-- ---- symbols that are read, and their meaning

-- the first eighteen symbols, one by one
abbrev firsts : List ℕ → List ℕ → List ℕ
firsts s l = get_or s 0 0 ∷ get_or s 1 0 ∷ get_or s 2 0 ∷ get_or s 3 0 ∷ get_or s 4 0 ∷ get_or s 5 0 ∷ get_or s 6 0 ∷ get_or s 7 0 ∷ get_or s 8 0 ∷ get_or s 9 0 ∷ get_or s 10 0 ∷ get_or s 11 0 ∷ get_or s 12 0 ∷ get_or s 13 0 ∷ get_or s 14 0 ∷ get_or s 15 0 ∷ get_or s 16 0 ∷ get_or s 17 0 ∷ l

firsts-rest : (s : List ℕ) → 18 ≤ length s → s ≡ firsts s (drop 18 s)
firsts-rest s h =
    rw (← rest s 17 (omega arith), ← rest s 16 (omega arith), ← rest s 15 (omega arith), ← rest s 14 (omega arith), ← rest s 13 (omega arith), ← rest s 12 (omega arith), ← rest s 11 (omega arith), ← rest s 10 (omega arith), ← rest s 9 (omega arith), ← rest s 8 (omega arith), ← rest s 7 (omega arith), ← rest s 6 (omega arith), ← rest s 5 (omega arith), ← rest s 4 (omega arith), ← rest s 3 (omega arith), ← rest s 2 (omega arith), ← rest s 1 (omega arith), ← rest s 0 (omega arith))

module _ (s : List ℕ) (ok : is_done (answer_of s) ≡ true) where
  sizes : (21 ≤ length s) × (length s ≤ 28)
  sizes = long s (passed s ok).long

  pub pairs-count : length (pairs_in s) ≡ length s - 20
  unfolding pairs_in
  pairs-count = let h = sizes in simp (length-take, length-drop) (omega arith)

  -- the last two symbols
  pub last-two : drop 18 s ≡ pairs_in s ++ (get_or s (length s - 2) 0 ∷ get_or s (length s - 1) 0 ∷ [])
  unfolding pairs_in
  last-two =
      let h = sizes in
      let a : 18 + (length s - 20) ≡ length s - 2 = omega arith in
      let b : length s - 2 + 1 ≡ length s - 1 = omega arith in
      let e : drop (length s - 2) s ≡ get_or s (length s - 2) 0 ∷ drop (length s - 2 + 1) s = rest s (length s - 2) (omega arith) in
      let f : drop (length s - 1) s ≡ get_or s (length s - 1) 0 ∷ drop (length s - 1 + 1) s = rest s (length s - 1) (omega arith) in
      let g : drop (length s - 1 + 1) s ≡ [] = drop_of_length-le s {i = length s - 1 + 1} (omega arith) in
      let k : drop (length s - 20) (drop 18 s) ≡ get_or s (length s - 2) 0 ∷ get_or s (length s - 1) 0 ∷ [] =
      rw (drop-drop (length s - 20) 18 s, a, e, b, f, g) in
      sym (take-append-drop (length s - 20) (drop 18 s)) ∙ rw k

  again-number : Again (get_or s 17 0) (pairs_in s)
  unfolding number_in
  again-number =
      let h = sizes in
      let c = pairs-count in
      again (get_or s 17 0) (pairs_in s) (passed s ok).number (omega arith) (omega arith)

  again-field : Back (get_or s 12 0) (get_or s 14 0) (get_or s 15 0) (get_or s 16 0)
  unfolding field_in
  again-field = back (get_or s 12 0) (get_or s 14 0) (get_or s 15 0) (get_or s 16 0) (passed s ok).field

  id-parts : (identity_pairs_at s 1 ≡ true) × (identity_pairs_at s 7 ≡ true) × (identities_ok (identity_at s 1) (identity_at s 7) ≡ true)
  unfolding identities_in
  id-parts =
      let a = both_true (identity_pairs_at s 1) _ (passed s ok).identities in
      let b = both_true (identity_pairs_at s 7) _ a.1 in
      (a.0, b.0, b.1)

  body_in : List ℕ
  body_in = firsts s (pairs_in s ++ (get_or s (length s - 2) 0 ∷ []))

  body_same : body (meaning_of s) ≡ body_in
  unfolding body front meaning_of body_in identity_at identity_pairs_at format_in category_in
  body_same =
      let f = eqb-true (get_or s 0 0) 123 (passed s ok).format in
      let c = eqb-true (get_or s 6 0) 100 (passed s ok).category in
      rw (
        again-number.marker,
        again-number.same,
        again-field.same_x,
        again-field.same_y,
        again-field.same_z,
        identity-back (get_or s 1 0) (get_or s 2 0) (get_or s 3 0) (get_or s 4 0) (get_or s 5 0) _ id-parts.0,
        identity-back (get_or s 7 0) (get_or s 8 0) (get_or s 9 0) (get_or s 10 0) (get_or s 11 0) _ id-parts.1,
        f,
        c,
      )

  whole : s ≡ body_in ++ (get_or s (length s - 1) 0 ∷ [])
  unfolding body_in
  whole =
      let h = sizes in
      rw (append_assoc (pairs_in s) (get_or s (length s - 2) 0 ∷ []) (get_or s (length s - 1) 0 ∷ []), ← last-two) (firsts-rest s (omega arith))

  body-count : length body_in ≡ length s - 1
  unfolding body_in
  body-count =
      let h = sizes in
      let c = pairs-count in
      simp length-append (omega arith)

  check-same : exclusive_or 0 body_in ≡ get_or s (length s - 1) 0
  unfolding check_in
  check-same =
      let e = eqb-true _ _ (both_true (leb 1 (length s)) _ (passed s ok).check).1 in
      let t : take (length s - 1) s ≡ body_in = ap (take (length s - 1)) whole ∙ take_at body_in (get_or s (length s - 1) 0 ∷ []) (length s - 1) body-count in
      ap (exclusive_or 0) (sym t) ∙ e

  -- laying out what was read gives the symbols back
  pub lays_back : layout (meaning_of s) ≡ s
  unfolding layout
  lays_back = rw (body_same, check-same) (sym whole)

  -- and the meaning that was read is valid
  pub reads-valid : valid (meaning_of s) ≡ true
  unfolding meaning_of telecommands_in end_in
  reads-valid =
      all-parts (meaning_of s)
      (record {
        identities = id-parts.2;
        telecommands = (passed s ok).telecommands;
        field = again-field.writes;
        number = again-number.writes;
        end = (passed s ok).end;
      })
