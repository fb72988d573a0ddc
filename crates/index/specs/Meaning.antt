-- What an index record means, and the naming of intervals: document 01, 'Index record'.
use Rattle.std.specs.Prelude.{ℕ, zero, suc, ◌+◌, Bool, true, List, [], ◌∷◌, ◌++◌, map, eqb, ltb}
use Rattle.fields.specs.Choice.{pick, both}
use Rattle.fields.specs.Lists.{every}

-- An entry: its separator in full, and the number of its data interval.
pub record Entry : Type 0 where
  pub sep : List ℕ
  pub num : ℕ

-- The header bytes that are kept as found (base RBA, horizontal pointer and reserved bytes, 4 to 15; reserved byte 17), the free
-- numbers from left to right, and the entries in their order, the first being the one against the RDF.
pub record Meaning : Type 0 where
  pub kept : List ℕ
  pub spare : ℕ
  pub free : List ℕ
  pub entries : List Entry

-- the numbers of entries
abbrev pub numbers : List Entry → List ℕ
numbers es = map (λ (e : Entry). e.num) es

-- every number that occurs: the free ones, then those of the entries
abbrev pub named : Meaning → List ℕ
named m = m.free ++ numbers m.entries

-- how often a number stands in a list
unfoldable pub count : ℕ → List ℕ → ℕ
count k [] = 0
count k (x ∷ xs) = pick (eqb x k) (count k xs + 1) (count k xs)

-- every number of the list is below n
abbrev pub below : ℕ → List ℕ → Bool
below n xs = every (λ (x : ℕ). ltb x n) xs

-- every number below n stands in the list once
unfoldable pub once : List ℕ → ℕ → Bool
once xs zero = true
once xs (suc k) = both (eqb (count k xs) 1) (once xs k)

-- free numbers and entries together name each of the n intervals a single time, and nothing else
unfoldable pub named_once : ℕ → List ℕ → Bool
named_once n xs = both (below n xs) (once xs n)

-- the entry with this separator and this number
abbrev pub entry : List ℕ → ℕ → Entry
entry s n = record { sep = s; num = n }

-- the separator before the entry that comes after these
unfoldable pub separator_before : List ℕ → List Entry → List ℕ
separator_before ref [] = ref
separator_before ref (e ∷ es) = separator_before e.sep es
