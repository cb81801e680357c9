-- A layout in bytes is one list of fields, each behind the one before it: a new row moves all that stand behind it.
use Rattle.std.specs.Prelude.{ℕ, zero, suc, ◌+◌, ◌*◌, ◌/◌, ◌%◌, Bool, true, ◌&&◌, List, [], ◌∷◌, ◌++◌, leb, length, get_or}
use Prim.Native.String.{String}
use Rattle.std.proofs.Math.Seq.{paste}

-- a number in so many bytes
pub record Field : Type 0 where
  pub name : String
  pub width : ℕ

abbrev pub row : String → ℕ → Field
row name width = record { name = name; width = width }

-- the bytes of all fields
abbrev pub size : List Field → ℕ
size [] = 0
size (f ∷ fs) = f.width + size fs

-- where each field stands, the first of them at a place
abbrev pub places : ℕ → List Field → List ℕ
places o [] = []
places o (f ∷ fs) = o ∷ places (o + f.width) fs

-- each field has a byte at least
abbrev pub filled : List Field → Bool
filled [] = true
filled (f ∷ fs) = leb 1 f.width && filled fs

-- low byte first; the last byte has what is left
abbrev pub low_first : ℕ → ℕ → List ℕ
low_first zero n = []
low_first (suc zero) n = n ∷ []
low_first (suc (suc w)) n = n % 256 ∷ low_first (suc w) (n / 256)

-- the number in so many bytes from a place on, 0 for each byte that is not there
abbrev pub number_at : List ℕ → ℕ → ℕ → ℕ
number_at b i zero = 0
number_at b i (suc zero) = get_or b i 0
number_at b i (suc (suc w)) = get_or b i 0 + 256 * number_at b (i + 1) (suc w)

-- a number for each field: the bytes, one field behind the other
abbrev pub encode : List Field → List ℕ → List ℕ
encode [] ns = []
encode (f ∷ fs) [] = []
encode (f ∷ fs) (n ∷ ns) = low_first f.width n ++ encode fs ns

-- the numbers of fields, the first of them so many bytes behind a place
abbrev pub decode_from : List Field → List ℕ → ℕ → ℕ → List ℕ
decode_from [] b p o = []
decode_from (f ∷ fs) b p o = number_at b (p + o) f.width ∷ decode_from fs b p (o + f.width)

-- the numbers of a layout that begins at a place
abbrev pub decode : List Field → List ℕ → ℕ → List ℕ
decode fs b p = decode_from fs b p 0

-- bytes laid over others from a place on
unfoldable pub laid : List ℕ → ℕ → List ℕ → List ℕ
laid room p bytes = paste room p bytes (length bytes)
