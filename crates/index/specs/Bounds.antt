-- Separators, their bounds, and the separator of a cut: document 01, 'Index record' and 'Dividing an interval'. K is the key's length.
use Rattle.std.specs.Prelude.{ℕ, suc, ◌-◌, ◌<◌, ◌≤◌, Bool, true, false, List, [], ◌∷◌, length, get_or, take, leb, eqb}
use Rattle.fields.specs.Choice.{both, no}
use Rattle.fields.specs.Order.{common}
unfoldable pub use Rattle.interval.specs.Bounds.{bound}

abbrev pub empty : List ℕ → Bool
empty [] = true
empty (x ∷ xs) = false

-- it is no longer than a key, and its last byte is not X'FF'; the empty one has no last byte, and 0 stands for it
unfoldable pub separator : ℕ → List ℕ → Bool
separator K sep = both (leb (length sep) K) (no (eqb (get_or sep (length sep - 1) 0) 255))

-- the separator of a cut: as much of the last key on the left as tells it from the first key on the right
unfoldable pub cut_separator : List ℕ → List ℕ → List ℕ
cut_separator left right = take (suc (common left right)) left

-- A separator of at least one byte and at most K, whose last byte is below X'FF'.
pub record Fine (K : ℕ) (s : List ℕ) : Type 0 where
  pub some : 0 < length s
  pub most : length s ≤ K
  pub last : get_or s (length s - 1) 0 < 255
