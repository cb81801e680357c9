-- Records within a layout: the same fields again and again.
use Rattle.std.specs.Prelude.{ℕ, zero, suc, ◌+◌, List, [], ◌∷◌, ◌++◌, take, drop}
use Rattle.layouts.specs.Fields.{Field}

-- so many records
unfoldable pub repeated : ℕ → List Field → List Field
repeated zero fs = []
repeated (suc k) fs = fs ++ repeated k fs

-- what is read from so many records, by the place of each
unfoldable pub records_at : {A : Type 0} → (ℕ → A) → ℕ → ℕ → ℕ → List A
records_at f zero size p = []
records_at f (suc k) size p = f p ∷ records_at f k size (p + size)

-- so many records, each from so many numbers
unfoldable pub records_in : {A : Type 0} → (List ℕ → A) → ℕ → ℕ → List ℕ → List A
records_in f zero n ns = []
records_in f (suc k) n ns = f (take n ns) ∷ records_in f k n (drop n ns)
