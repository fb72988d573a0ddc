-- Which intervals a change wrote: document 02, L9. A change stores whole intervals; these are their buffer numbers, ascending, each once.
use Rattle.std.specs.Prelude.{ℕ, ◌<◌, List, [], ◌∷◌, map, length, get_or, take, eqb, ltb}
use Rattle.fields.specs.Choice.{pick}
use Rattle.change.specs.Stores.{Store}
use Rattle.change.specs.declared.Written.{Written}

-- a number in its place among ascending ones, once
unfoldable pub among : ℕ → List ℕ → List ℕ
among k [] = k ∷ []
among k (x ∷ xs) = pick (ltb k x) (k ∷ x ∷ xs) (pick (eqb k x) (x ∷ xs) (x ∷ among k xs))

-- numbers in ascending order, each once
unfoldable pub in_order : List ℕ → List ℕ
in_order [] = []
in_order (k ∷ ks) = among k (in_order ks)

-- numbers that strictly ascend, so that each stands once
abbrev pub Ascend : List ℕ → Type 0
Ascend [] = Unit {0}
Ascend (k ∷ []) = Unit {0}
Ascend (k ∷ l ∷ ks) = (k < l) × Ascend (l ∷ ks)

-- the buffer numbers of stores
abbrev pub stored_numbers : List Store → List ℕ
stored_numbers ss = in_order (map (λ (s : Store). s.at) ss)

-- numbers as an answer carries them: how many, then up to four, 0 past them
abbrev pub carrying : List ℕ → Written
carrying ks = record { count = length ks; first = get_or ks 0 0; second = get_or ks 1 0; third = get_or ks 2 0; fourth = get_or ks 3 0 }

abbrev pub written_of : List Store → Written
written_of ss = carrying (stored_numbers ss)

-- the numbers that an answer carries
abbrev pub numbers_of : Written → List ℕ
numbers_of w = take w.count (w.first ∷ w.second ∷ w.third ∷ w.fourth ∷ [])
