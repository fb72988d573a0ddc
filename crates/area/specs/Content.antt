-- What a control area holds: document 01, 'The area we lend'.
use Rattle.std.specs.Prelude.{ℕ, ◌+◌, ◌*◌, List, [], ◌∷◌, ◌++◌, map, length}
use Rattle.fields.specs.Bytes.{part, number}
use Rattle.measures.specs.Judgement.{width_for}
use Rattle.measures.specs.declared.Measures.{Measures}
use Rattle.interval.specs.Reading.{records_in}
use Rattle.index.specs.Meaning.{Entry, Meaning}

-- the index record: interval 0 of the buffer
abbrev pub index_in : Measures → List ℕ → List ℕ
index_in m area = part area 0 m.size

-- data interval k: interval k + 1 of the buffer
abbrev pub data_in : Measures → List ℕ → ℕ → List ℕ
data_in m area k = part area ((k + 1) * m.size) m.size

-- an entry of the index record with the records of its interval
pub record Filled : Type 0 where
  pub sep : List ℕ
  pub num : ℕ
  pub records : List (List ℕ)

-- an area: the header bytes that are kept, the free numbers left to right, the filled entries in key order
pub record Content : Type 0 where
  pub kept : List ℕ
  pub spare : ℕ
  pub free : List ℕ
  pub filled : List Filled

-- all records, in the order of the entries
unfoldable pub records_of : List Filled → List (List ℕ)
records_of [] = []
records_of (f ∷ fs) = f.records ++ records_of fs

-- the entries with what their intervals hold
abbrev pub fill : Measures → List ℕ → List Entry → List Filled
fill m area es = map (λ (e : Entry). record { sep = e.sep; num = e.num; records = records_in (data_in m area e.num) }) es

abbrev pub content_of : Measures → List ℕ → Meaning → Content
content_of m area ix = record { kept = ix.kept; spare = ix.spare; free = ix.free; filled = fill m area ix.entries }

-- the entries of an area without their records, and so the index record's meaning
abbrev pub entries_of : List Filled → List Entry
entries_of fs = map (λ (f : Filled). record { sep = f.sep; num = f.num }) fs

abbrev pub meaning_of : Content → Meaning
meaning_of c = record { kept = c.kept; spare = c.spare; free = c.free; entries = entries_of c.filled }

-- the base RBA
abbrev pub base_of : Content → ℕ
base_of c = number 4 c.kept 0

-- the width of a pointer in an area that holds this: by the intervals that are free or in use
abbrev pub width_in : Content → ℕ
width_in c = width_for (length c.free + length c.filled)
