-- From the record of a line to what the line says.
use mathlib.Core.Bool.{Bool, true}
use mathlib.Core.List.{List, [], ◌∷◌, map}
use mathlib.Core.Option.{Option, none, some}
use mathlib.Core.Path.{◌≡◌, refl, ◌∙◌, ap}
use Prim.Native.Nat.{ℕ, zero, suc, ◌-◌, ◌≤◌, min}
use native.Mathlib.Omega.{arith}
use lib.ListN.{length, drop, get_or, length-map}
use borrow.Author.Tests.{leb-true}
use Rattle.units.specs.declared.Channel.{Channel}
use Rattle.sequence.proofs.Tests.{both_true}
use Rattle.rules.specs.Rules.Places.{all}
use Rattle.rules.specs.Rules.Bytes.{padded}
use Rattle.requests.proofs.ArrayLaws.{padded-front}
use Rattle.lines.specs.declared.Form.{Form}
use Rattle.lines.specs.declared.Form.TheVariants.{Symbols, SlotSymbols, Signalled, Operated, Called, Alone}
use Rattle.lines.specs.Lines.{Said, sets_up, happens, form_what, command_of, numbers_of, set_up_said, is_symbol, is_number, in_range}
use Rattle.std.specs.Prelude.{Option as Optional, Some, None}
use Rattle.lines.specs.declared.line.Line.{Line}
use Rattle.lines.specs.declared.Command.TheVariants.{SetUp as SetsUp, Happens}
use Rattle.lines.specs.Readable.{HoldsSaid, ReadAs}
use Rattle.lines.proofs.SaidLaws.{names-form, by_form}
use Rattle.station.specs.Step.{given, chosen, sixteen_of, set_up_of, set_up_by}
use Rattle.station.proofs.SetLaws.{set-up-numbers}
use Rattle.script.specs.Lining.{byte_of, part, what_of, line_said}

-- ── the list behind the first numbers ────────────────────────────────────────

behind-first : (x : ℕ) (l : List ℕ) → length l ≤ 98 → part 1 (length (x ∷ l)) (padded 0 100 (x ∷ l)) ≡ l
unfolding padded
behind-first x l h =
    let e : min 1 (suc (length l)) ≡ 1 = omega arith in
    let f : suc (length l) - 1 ≡ length l = omega arith in
    rw (e, f) (padded-front 0 99 l (omega arith))

behind-second : (x y : ℕ) (l : List ℕ) → length l ≤ 97 → part 2 (length (x ∷ y ∷ l)) (padded 0 100 (x ∷ y ∷ l)) ≡ l
unfolding padded
behind-second x y l h =
    let e : min 2 (suc (suc (length l))) ≡ 2 = omega arith in
    let f : suc (suc (length l)) - 2 ≡ length l = omega arith in
    rw (e, f) (padded-front 0 98 l (omega arith))

behind-third : (x y z : ℕ) (l : List ℕ) → length l ≤ 96 → part 3 (length (x ∷ y ∷ z ∷ l)) (padded 0 100 (x ∷ y ∷ z ∷ l)) ≡ l
unfolding padded
behind-third x y z l h =
    let e : min 3 (suc (suc (suc (length l)))) ≡ 3 = omega arith in
    let f : suc (suc (suc (length l))) - 3 ≡ length l = omega arith in
    rw (e, f) (padded-front 0 97 l (omega arith))

-- ── symbols as bytes ─────────────────────────────────────────────────────────

narrowed : (n : ℕ) (l : List ℕ) → map byte_of (padded 0 n l) ≡ padded 0 n (map byte_of l)
unfolding padded
narrowed zero l = refl
narrowed (suc n) [] = ap (λ r. 0 ∷ r) (narrowed n [])
narrowed (suc n) (x ∷ l) = ap (λ r. byte_of x ∷ r) (narrowed n l)

same_bytes : (l : List ℕ) → all is_symbol l ≡ true → map byte_of l ≡ l
same_bytes [] e = refl
same_bytes (x ∷ l) e =
    let h = both_true (is_symbol x) (all is_symbol l) e in
    let q : byte_of x ≡ x = omega (arith, leb-true x 255 h.0) in
    rw (q, same_bytes l h.1)

symbols-first : (x : ℕ) (l : List ℕ) → length l ≤ 98 → all is_symbol l ≡ true → part 1 (length (x ∷ l)) (map byte_of (padded 0 100 (x ∷ l))) ≡ l
symbols-first x l h e =
    rw (narrowed 100 (x ∷ l), ← length-map (x ∷ l) byte_of) (behind-first (byte_of x) (map byte_of l) (omega (arith, length-map l byte_of)) ∙ same_bytes l e)

symbols-second : (x y : ℕ) (l : List ℕ) → length l ≤ 97 → all is_symbol l ≡ true → part 2 (length (x ∷ y ∷ l)) (map byte_of (padded 0 100 (x ∷ y ∷ l))) ≡ l
symbols-second x y l h e =
    rw (narrowed 100 (x ∷ y ∷ l), ← length-map (x ∷ y ∷ l) byte_of) (behind-second (byte_of x) (byte_of y) (map byte_of l) (omega (arith, length-map l byte_of)) ∙ same_bytes l e)

-- ── what is said ─────────────────────────────────────────────────────────────

module _ (time : ℕ) where
  what-back : (f : Form) (slot : ℕ) (symbols : List ℕ) → length (numbers_of (happens time (form_what f slot symbols))) ≤ 99
      → in_range (happens time (form_what f slot symbols)) ≡ true
      → what_of f (length (numbers_of (happens time (form_what f slot symbols)))) (padded 0 100 (numbers_of (happens time (form_what f slot symbols)))) ≡ form_what f slot symbols
  unfolding padded in_range
  what-back Symbols slot symbols h e =
      let s = (both_true (is_number time) (all is_symbol symbols) e).1 in
      ap (form_what Symbols slot) (symbols-first time symbols (omega arith) s)
  what-back SlotSymbols slot symbols h e =
      let s = (both_true (is_number slot) (all is_symbol symbols) (both_true (is_number time) _ e).1).1 in
      ap (form_what SlotSymbols slot) (symbols-second time slot symbols (omega arith) s)
  what-back (Signalled g) slot symbols h e = refl
  what-back (Operated o) slot symbols h e = refl
  what-back Called ship numbers h e =
      ap (λ l. form_what Called ship (get_or numbers 0 0 ∷ l)) (behind-third time ship (get_or numbers 0 0) (drop 1 numbers) (omega arith))
  what-back Alone slot symbols h e = refl

  form-back : (line : Line) (f : Form) (slot : ℕ) (symbols : List ℕ) → HoldsSaid line (happens time (form_what f slot symbols))
      → in_range (happens time (form_what f slot symbols)) ≡ true
      → line_said (Some line) ≡ some (happens time (form_what f slot symbols))
  unfolding line_said padded
  form-back line f slot symbols p e =
      let q : Some line.command ≡ Some (Happens f) = p.command ∙ names-form f slot symbols in
      let k : line.command ≡ Happens f = cc in
      rw (k, p.count, p.numbers) (ap (λ w. some (happens time w)) (what-back f slot symbols (omega (arith, p.count, line.few)) e))

set-up-back : (line : Line) (n : ℕ) (l : List ℕ) → HoldsSaid line (set_up_said n l) → line_said (Some line) ≡ some (set_up_said n l)
unfolding line_said command_of padded
set-up-back line n l p =
    let q : Some line.command ≡ Some SetsUp = p.command in
    let k : line.command ≡ SetsUp = cc in
    rw (k, p.count, p.numbers) (ap (λ r. some (set_up_said n r)) (behind-first n l (omega (arith, p.count, line.few))))

-- what an unreadable line says is in range too
abbrev pub in_range_of : Option Said → Bool
in_range_of none = true
in_range_of (some said) = in_range said

pub said-back : (o : Option Said) (l : Optional Line) → ReadAs l o → in_range_of o ≡ true → line_said l ≡ o
unfolding line_said
said-back none None p e = refl
said-back none (Some line) p e = elim p [ ]
said-back (some said) None p e = elim p [ ]
said-back (some (sets_up a)) (Some line) p e = set-up-back line _ _ p
said-back (some (happens time what)) (Some line) p e =
    by_form
    (λ w. HoldsSaid line (happens time w) → in_range (happens time w) ≡ true → line_said (Some line) ≡ some (happens time w))
    (form-back time line)
    what p e

-- ── a set-up ─────────────────────────────────────────────────────────────────

-- the numbers behind the first, as channels
pub channels-as : (first : ℕ) (l : List ℕ) (a : List Channel) → a ≡ sixteen_of l
    → set_up_of (chosen first a (length l)) ≡ set_up_of (given first l)
unfolding set_up_by
channels-as first l a e = rw e (set-up-numbers first l _ refl)
