-- The reader and the writer of sequences, for Rattle and for C: none of the four has a useless version.
use Rattle.std.specs.Prelude.{ℕ, suc, ◌/◌, ◌%◌, ◌≡◌, cond, List, [], ◌∷◌, leb, replicate, Result, Ok, Err}
use contract.Lifetimes.{Lfts}
use Rattle.sequence.specs.declared.Meaning.{Meaning}
use Rattle.sequence.specs.declared.Refusal.{Refusal}
use Rattle.sequence.specs.Answers.{refusal_number}
use Rattle.sequence.specs.Reading.{blank_meaning}
use Rattle.reading.proofs.read.Reads as read
use Rattle.writing.proofs.write.Reads as write
use Rattle.coast.proofs.sequences.coast_read_sequence.Reads as coast_read_sequence
use Rattle.coast.proofs.sequences.coast_write_sequence.Reads as coast_write_sequence
use Rattle.useless_versions.specs.Versions.{Signs, NoUselessVersion, Anything}

-- the answer's number: a refusal's own, and 0 beside a value
abbrev pub number_told : {A : Type 0} → Result A Refusal → ℕ
number_told (Ok a) = 0
number_told (Err r) = refusal_number r

-- ── reading ──────────────────────────────────────────────────────────────────

pub data ReadBy : List ℕ → Result Meaning Refusal → Type 0 where
  by_read : (κs : Lfts 1) (a : _) (r : _) (s : _) → read.Post κs a r s → ReadBy a.0.now r

-- beside a refusal no meaning, a blank one in its place
abbrev pub meaning_told : Result Meaning Refusal → Meaning
meaning_told (Ok m) = m
meaning_told (Err r) = blank_meaning

-- nothing done: the blank meaning handed back; no count is told
abbrev pub reader_signs : Signs (List ℕ) (Result Meaning Refusal)
reader_signs = record { answer = number_told; idle = λ s y. meaning_told y ≡ blank_meaning; miscounted = λ s y. ⊥ }

unfoldable pub NoUselessReader : Type 0
NoUselessReader = NoUselessVersion Anything reader_signs ReadBy

-- ── writing ──────────────────────────────────────────────────────────────────

pub record ToWrite : Type 0 where
  pub meaning : Meaning
  pub room : List ℕ

pub record Wrote : Type 0 where
  pub written : Result ℕ Refusal
  pub left : List ℕ  -- what the room then holds

pub data WrittenBy : ToWrite → Wrote → Type 0 where
  by-write : (κs : Lfts 1) (a : _) (r : _) (s : _) → write.Post κs a r s
      → WrittenBy (record { meaning = a.0; room = a.1.0.now }) (record { written = r; left = s.1.0.now })

-- beside a refusal no count
abbrev pub length_told : Result ℕ Refusal → ℕ
length_told (Ok n) = n
length_told (Err r) = 0

-- the bytes at the front of a room that may be symbols: "Each symbol is one byte, 0 to 127"
abbrev pub symbols_in : List ℕ → ℕ
symbols_in [] = 0
symbols_in (b ∷ l) = cond (leb b 127) (suc (symbols_in l)) 0

-- lent a room of 255s, which are no symbols and no characters, it tells another count than that of what it laid
pub record Miscounted (laid_in : List ℕ → ℕ) (room : List ℕ) (count : ℕ) (left : List ℕ) : Type 0 where
  pub size : ℕ
  pub none : room ≡ replicate size 255
  pub other : count ≡ laid_in left → ⊥

abbrev pub writer_signs : Signs ToWrite Wrote
writer_signs = record {
  answer = λ y. number_told y.written;
  idle = λ x y. y.left ≡ x.room;
  miscounted = λ x y. Miscounted symbols_in x.room (length_told y.written) y.left;
}

unfoldable pub NoUselessWriter : Type 0
NoUselessWriter = NoUselessVersion Anything writer_signs WrittenBy

-- ── from C: what is lent for reading, and what is lent to be filled ──────────

pub record Lent : Type 0 where
  pub given : List ℕ
  pub room : List ℕ

pub record Left : Type 0 where
  pub number : ℕ
  pub left : List ℕ

pub data ReadInC : Lent → Left → Type 0 where
  by-coast-read-sequence : (κs : Lfts 2) (a : _) (r : _) (s : _) → coast_read_sequence.Post κs a r s
      → ReadInC (record { given = a.0.now; room = a.1.0.now }) (record { number = r; left = s.1.0.now })

abbrev pub read_signs : Signs Lent Left
read_signs = record { answer = λ y. y.number; idle = λ x y. y.left ≡ x.room; miscounted = λ x y. ⊥ }

unfoldable pub NoUselessReadInC : Type 0
NoUselessReadInC = NoUselessVersion Anything read_signs ReadInC

pub data WrittenInC : Lent → Left → Type 0 where
  by-coast-write-sequence : (κs : Lfts 2) (a : _) (r : _) (s : _) → coast_write_sequence.Post κs a r s
      → WrittenInC (record { given = a.0.now; room = a.1.0.now }) (record { number = r; left = s.1.0.now })

-- answer and count as the header takes them
abbrev pub write_signs : Signs Lent Left
write_signs = record {
  answer = λ y. y.number % 256;
  idle = λ x y. y.left ≡ x.room;
  miscounted = λ x y. Miscounted symbols_in x.room (y.number / 256) y.left;
}

unfoldable pub NoUselessWriteInC : Type 0
NoUselessWriteInC = NoUselessVersion Anything write_signs WrittenInC
