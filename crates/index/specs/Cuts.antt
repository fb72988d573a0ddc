-- The separators at the cuts between parts of records: document 01, 'Dividing an interval'.
use Rattle.std.specs.Prelude.{ℕ, ◌-◌, List, [], ◌∷◌, length, get_or}
use Rattle.measures.specs.declared.Measures.{Measures}
use Rattle.interval.specs.Records.{key_of}
use Rattle.index.specs.Bounds.{cut_separator}

-- the last and the first record of a part
abbrev pub last_of : List (List ℕ) → List ℕ
last_of rs = get_or rs (length rs - 1) []

abbrev pub first_of : List (List ℕ) → List ℕ
first_of rs = get_or rs 0 []

-- at each cut the last key left of it, up to and with the first byte in which it differs from the first key right of it
unfoldable pub separators : Measures → List (List (List ℕ)) → List (List ℕ)
separators m [] = []
separators m (p ∷ []) = []
separators m (p ∷ q ∷ ps) = cut_separator (key_of m (last_of p)) (key_of m (first_of q)) ∷ separators m (q ∷ ps)
