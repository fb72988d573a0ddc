-- Refusal 1, in unbounded arithmetic: document 01, 'The area we lend'.
use Rattle.std.specs.Prelude.{ℕ, ◌+◌, ◌-◌, ◌*◌, ◌/◌, ◌≤◌, ◌≡◌, Bool, true, Option, Some, None, eqb, leb}
use Rattle.fields.specs.Choice.{pick, both}
use Rattle.measures.specs.Sizes.{permitted_size}
use Rattle.measures.specs.declared.Measures.{Measures}
use Rattle.measures.specs.declared.Numbers.{Numbers}
use Rattle.measures.specs.declared.Judged.{Judged}

-- the most data intervals of one area: document 02, L6
abbrev pub limit : ℕ
limit = 4096

-- the bytes of a pointer and of a free number in the index record of n data intervals: document 01, 'Index record', and document 02, L6
unfoldable pub width_for : ℕ → ℕ
width_for n = pick (leb n 256) 1 2

-- the measures that four numbers make: the shortest record ends with its key
abbrev pub measures : ℕ → ℕ → ℕ → ℕ → Measures
measures size offset key most = record { size = size; offset = offset; key = key; least = offset + key; most = most }

-- the measures that a request asks with
abbrev pub asked : Numbers → Measures
asked k = measures k.size k.offset k.key k.most

-- how many data intervals a buffer of that length has, besides the index record
abbrev pub count_of : ℕ → ℕ → ℕ
count_of size length = length / size - 1

-- size permitted; key length 1 to 255; offset + key ≤ least ≤ most ≤ size - 7; the buffer has exactly (n + 1) × size
-- bytes, n from 1 to the limit
unfoldable pub fine : Measures → ℕ → Bool
fine m length =
    let n : ℕ = count_of m.size length in
    both (permitted_size m.size)
    (both (both (leb 1 m.key) (leb m.key 255))
    (both (both (leb (m.offset + m.key) m.least) (both (leb m.least m.most) (leb (m.most + 7) m.size)))
    (both (eqb ((n + 1) * m.size) length) (both (leb 1 n) (leb n limit)))))

-- The same as a statement of the measures, the number n of data intervals and the buffer's length, for those who cite it.
pub record Fits (m : Measures) (n length : ℕ) : Type 0 where
  pub permitted : permitted_size m.size ≡ true
  pub key-some : 1 ≤ m.key
  pub key-most : m.key ≤ 255
  pub key-inside : m.offset + m.key ≤ m.least
  pub least-inside : m.least ≤ m.most
  pub most-inside : m.most + 7 ≤ m.size
  pub bytes : length ≡ (n + 1) * m.size
  pub some : 1 ≤ n
  pub few : n ≤ limit

-- measures that are fine, with the number of data intervals
abbrev pub passed : Measures → ℕ → Option Judged
passed m n = Some (record { measures = m; count = n })

-- none of refusal 1
unfoldable pub judged_of : Measures → ℕ → Option Judged
judged_of m length = pick (fine m length) (passed m (count_of m.size length)) None
