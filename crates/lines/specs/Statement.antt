-- "Unreadable line, one over 200 characters, a symbol over 255 or another number over 4,294,967,295": a line reads as what it says
-- exactly where it is one of that event's lines and keeps these bounds, and else as nothing.
use Rattle.std.specs.Prelude.{true, List, ◌≡◌, ℕ, ◌≤◌, length}
use Rattle.std.proofs.Math.Option.{none, some}
use Rattle.lines.specs.Lines.{Said, LineOf, in_range}
use Rattle.lines.specs.Readable.{longest_line, reads_as}

abbrev pub Readable : Said → List ℕ → Type 0
Readable said text = LineOf said text × (length text ≤ longest_line) × (in_range said ≡ true)

abbrev pub ReadsExactly : Type 0
ReadsExactly =
    (text : List ℕ) (said : Said)
    → (reads_as text ≡ some said → Readable said text) × (Readable said text → reads_as text ≡ some said)

abbrev pub UnreadableExactly : Type 0
UnreadableExactly =
    (text : List ℕ)
    → (reads_as text ≡ none → (said : Said) → Readable said text → ⊥)
    × (((said : Said) → Readable said text → ⊥) → reads_as text ≡ none)
