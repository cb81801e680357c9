-- A line reads as what it says exactly where it is one of that event's lines, within the bounds.
use mathlib.Core.Bool.{true}
use mathlib.Core.List.{List, [], ◌∷◌, map}
use mathlib.Core.Option.{Option, none, some}
use mathlib.Core.Path.{◌≡◌, refl, sym, ◌∙◌, ap}
use Prim.Native.Nat.{ℕ}
use lib.Dec.{leb}
use lib.ListN.{length}
use borrow.Author.Tests.{le-leb, leb-true}
use Rattle.rules.specs.Rules.Places.{all}
use Rattle.sequence.proofs.Tests.{Either, yes!, no!, which}
use Rattle.std.specs.Prelude.{Option as Optional, Some, None}
use Rattle.lines.specs.declared.Command.{Command}
use Rattle.lines.specs.Decimal.{value_of}
use Rattle.lines.specs.Lines.{Said, letter_of, command_of, numbers_of, spaced, LineOf, is_number, in_range}
use Rattle.lines.specs.Readable.{between, scan, says, says_of, line_says, reads_as}
use Rattle.lines.specs.Statement.{Readable, ReadsExactly, UnreadableExactly}
use Rattle.lines.proofs.SaidLaws.{no-some, said-by, its-letter, said_of, numbers-are, in-range}
use Rattle.lines.proofs.FieldLaws.{Fields, fields_read, fields-of}

-- ── what is read is a line of the event ──────────────────────────────────────

module _ (b : ℕ) (t : List ℕ) (said : Said) where
  by-numbers : (k : Command) (ns : List ℕ) → command_of b ≡ Some k → scan between t ≡ some ns → says k ns ≡ some said → LineOf said (b ∷ t) × (in_range said ≡ true)
  by-numbers k ns c s e =
      let f : Fields t ns = fields-of t ns s in (
        record {
          fields = f.fields;
          decimals = f.decimals;
          numbers = f.values ∙ sym (said-by k ns said e).numbers;
          written = rw (← its-letter b k ns said c e, ← f.written);
        },
        in-range k ns said f.small e,
      )

  of_fields : (c : Optional Command) (o : Option (List ℕ)) → command_of b ≡ c → scan between t ≡ o → says_of c o ≡ some said → LineOf said (b ∷ t) × (in_range said ≡ true)
  of_fields None o c s e = absurd (no-some e)
  of_fields (Some k) none c s e = absurd (no-some e)
  of_fields (Some k) (some ns) c s e = by-numbers k ns c s e

of-line : (text : List ℕ) (said : Said) → line_says text ≡ some said → LineOf said text × (in_range said ≡ true)
of-line [] said e = absurd (no-some e)
of-line (b ∷ t) said e = of_fields b t said (command_of b) (scan between t) refl refl e

sound : (text : List ℕ) (said : Said) → reads_as text ≡ some said → Readable said text
unfolding reads_as
sound text said e = go (which (leb (length text) 200))
  where
    go : Either (leb (length text) 200) → Readable said text
    go (yes! h) = let l = of-line text said (rw h at e) in (l.0, leb-true _ _ h, l.1)
    go (no! h) = absurd (no-some (rw h at e))

-- ── and a line of the event is read ──────────────────────────────────────────

complete : (text : List ℕ) (said : Said) → Readable said text → reads_as text ≡ some said
unfolding reads_as
complete text said r =
    let l = r.0 in
    let n : all is_number (map value_of l.fields) ≡ true = rw l.numbers (numbers-are said r.2) in
    let s : scan between (spaced l.fields) ≡ some (numbers_of said) = fields_read l.fields l.decimals n ∙ ap some l.numbers in
    rw (le-leb (length text) 200 r.1) (ap line_says l.written ∙ ap (says_of (command_of (letter_of said))) s ∙ said_of said r.2)

pub reads-exactly : ReadsExactly
reads-exactly text said = (sound text said, complete text said)

pub unreadable-exactly : UnreadableExactly
unreadable-exactly text = ((λ e said r. no-some (sym e ∙ complete text said r)), go (reads_as text) refl)
  where
    go : (o : Option Said) → reads_as text ≡ o → ((said : Said) → Readable said text → ⊥) → reads_as text ≡ none
    go none q h = q
    go (some said) q h = absurd (h said (sound text said q))
