-- Where a key stands among records: document 01, 'Data interval'. Nothing here says how it is found.
use Rattle.std.specs.Prelude.{ℕ, ◌+◌, ◌≤◌, ◌<◌, Bool, true, false, Option, Some, None, List, [], ◌∷◌, length, get_or, take, eqb}
use Rattle.fields.specs.Choice.{pick, either}
use Rattle.fields.specs.Order.{order_of, less}
use Rattle.fields.specs.Lists.{concat, every}
use Rattle.std.specs.declared.cmp.Ordering.{Ordering}
use Rattle.std.specs.declared.cmp.Ordering.TheVariants.{Less, Equal, Greater}
use Rattle.measures.specs.declared.Measures.{Measures}
use Rattle.interval.specs.Records.{key_of}
use Rattle.interval.specs.declared.Found.{Found}
use Rattle.interval.specs.declared.Found.TheVariants.{At, Gap}

-- two keys are the same
abbrev pub is_same : Ordering → Bool
is_same Less = false
is_same Equal = true
is_same Greater = false

-- how many records have a key below the given one
unfoldable pub lower : Measures → List ℕ → List (List ℕ) → ℕ
lower m key [] = 0
lower m key (r ∷ rs) = pick (less (key_of m r) key) 1 0 + lower m key rs

-- some record has that key
unfoldable pub holds : Measures → List ℕ → List (List ℕ) → Bool
holds m key [] = false
holds m key (r ∷ rs) = either (is_same (order_of (key_of m r) key)) (holds m key rs)

-- where the record of that ordinal, counted from 0, begins
abbrev pub start_of : ℕ → List (List ℕ) → ℕ
start_of i rs = length (concat (take i rs))

-- the record with the key, or the gap where it would stand
unfoldable pub place_of : Measures → List ℕ → List (List ℕ) → Found
place_of m key rs =
    pick (holds m key rs)
    (At (lower m key rs) (start_of (lower m key rs) rs) (length (get_or rs (lower m key rs) [])))
    (Gap (lower m key rs) (start_of (lower m key rs) rs))

-- every key is below the bound
abbrev pub all_below : List ℕ → List (List ℕ) → Bool
all_below high ks = every (λ (k : List ℕ). less k high) ks

-- the place lies within so many records that take so many bytes
abbrev pub Within : ℕ → ℕ → Found → Type 0
Within many bytes (At i start len) = (i < many) × (start + len ≤ bytes)
Within many bytes (Gap i start) = (i ≤ many) × (start ≤ bytes)

-- the records that begin at a place, if the first of all begins at `from`: one or none, as no record is empty
unfoldable pub starting_at : ℕ → ℕ → List (List ℕ) → List (List ℕ)
starting_at place from [] = []
starting_at place from (r ∷ rs) =
    pick (eqb from place) (r ∷ starting_at place (from + length r) rs) (starting_at place (from + length r) rs)

-- the length of the record that begins there, if one does
abbrev pub started_of : List (List ℕ) → Option ℕ
started_of [] = None
started_of (r ∷ rs) = Some (length r)

-- it ends within so many bytes
abbrev pub Ends : ℕ → ℕ → Option ℕ → Type 0
Ends bytes place (Some len) = place + len ≤ bytes
Ends bytes place None = Unit {0}
